use Rattle.std.proofs.Common.{[], ap, map, sym, ◌∙◌, ◌∷◌, arith, length}
use Rattle.just_syntax.specs.View.{view}
use Rattle.just_expression_parser.proofs.Starts.{element_here, elements_end}
use Rattle.just_expression_parser.proofs.Steps.{goes_on}
use Rattle.just_expression_parser.specs.Machine as machine
use Rattle.just_expression_parser.specs.Parsed.{form_view, goes, left, waiting}
use Rattle.just_expression_parser.specs.declared.machine.Machine.{Machine}
use Rattle.just_expression_parser.proofs.machine.Machine.elements.Goals as goal

-- the end of the elements
pub returns-in-Some : goal.returns-in-Some
returns-in-Some c =
    let old = c.args.self.now in
    let new : Machine = record { alloc = old.alloc; cursor = c.take.new.self; frames = old.frames } in
    let taken = rw c.close.ensures at c.in-Some.ensures.some in (
      (
        ap (λ e. (goes new (machine.Done e) []).result) c.with.ensures
            ∙ sym (elements_end (form_view c.args.form) (map view c.args.elements.items) (left old) (left new) _ (waiting old) taken),
        omega (arith, ap length taken),
      ),
      tt,
    )

-- one more element
pub returns-in-None : goal.returns-in-None
returns-in-None c =
    let old = c.args.self.now in
    let none = c.in-None.ensures.none in
    let form = form_view c.args.form in
    let es = map view c.args.elements.items in
    goes_on _ _ c.wait.result c.wait.new.self (ap (λ ts. machine.parse ts (machine.Expression 0) (machine.Element form es ∷ waiting old)) none.0
    ∙ sym (element_here form es (left old) (waiting old) (rw c.close.ensures at none.1))) (omega (arith, ap length none.0)) c.wait.ensures
