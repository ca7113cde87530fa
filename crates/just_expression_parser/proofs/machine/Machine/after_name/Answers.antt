use Rattle.std.proofs.Common.{[], Bor, None, ap, map, sym, ◌∙◌, codes, arith, length}
use Rattle.std.specs.Str.{bytes_eq}
use Rattle.just_syntax.specs.Plain.{Text, Variable}
use Rattle.just_syntax.specs.View.{name_view, token_view, view}
use Rattle.just_expression_parser.proofs.Starts.{assertion_here, call_here, variable_here}
use Rattle.just_expression_parser.proofs.Steps.{goes_on}
use Rattle.just_expression_parser.specs.Machine as machine
use Rattle.just_expression_parser.specs.Parsed.{goes, left, waiting}
use Rattle.just_expression_parser.specs.declared.machine.Machine.{Machine}
use Rattle.just_expression_parser.proofs.machine.Machine.after_name.Goals as goal

-- a variable
pub returns-in-None : goal.returns-in-None
returns-in-None c =
    let old = c.args.self.now in
    let none = c.in-None.ensures.none in
    let name = name_view c.args.name in (
      (
        ap (λ ts. machine.parse ts (machine.Done (Variable name None)) (waiting old)) none.0
            ∙ sym (variable_here name (left old) (waiting old) none.1),
        omega (arith, ap length none.0),
      ),
      tt,
    )

-- an assertion
pub returns-then-eq : goal.returns-then-eq
returns-then-eq c =
    let old = c.args.self.now in
    goes_on _ _ c.wait.result c.wait.new.self (sym (assertion_here (name_view c.args.name) (token_view c.in-Some.field-0) (left old) _ (waiting old)
    (ap (λ (t : Bor Text). bytes_eq t.now (codes "assert")) (sym c.lexeme.ensures) ∙ sym c.eq.ensures ∙ c.if-eq.true) c.in-Some.ensures.some))
    (omega (arith, ap length c.in-Some.ensures.some)) c.wait.ensures

-- a call
pub returns-else-eq : goal.returns-else-eq
returns-else-eq c =
    let old = c.args.self.now in
    let new : Machine = record { alloc = old.alloc; cursor = c.take.new.self; frames = old.frames } in (
      (
        ap (λ es. (goes new (machine.Elements (machine.Call (name_view c.args.name)) (map view es)) []).result) c.new.ensures.items
            ∙ sym (call_here (name_view c.args.name) (token_view c.in-Some.field-0) (left old) (left new) (waiting old)
            (ap (λ (t : Bor Text). bytes_eq t.now (codes "assert")) (sym c.lexeme.ensures) ∙ sym c.eq.ensures ∙ c.if-eq.false) c.in-Some.ensures.some),
        omega (arith, ap length c.in-Some.ensures.some),
      ),
      tt,
    )
