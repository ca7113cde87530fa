use Rattle.std.proofs.Common.{[], ap, false, sym, true, ◌≡◌, ◌∙◌, arith, codes, length}
use Rattle.just_syntax.specs.Plain as plain
use Rattle.just_syntax.specs.View.{view}
use Rattle.just_expression_parser.proofs.Starts.{else_here, no_else_here}
use Rattle.just_expression_parser.proofs.Steps.{state_on, word_taken}
use Rattle.just_expression_parser.specs.Machine as machine
use Rattle.just_expression_parser.specs.Parsed.{goes, left, waiting}
use Rattle.just_expression_parser.specs.declared.machine.Machine.{Machine}
use Rattle.just_expression_parser.proofs.machine.Machine.otherwise.Goals as goal

-- another branch
pub returns-then-take_word : goal.returns-then-take_word
returns-then-take_word c =
    let there : c.take_word.result ≡ true = c.if-take_word.true in
    let is = sym c.take_word.ensures.value ∙ there in
    let less = word_taken (codes "else") (left c.args.self.now) is in
    rw (c.take_word.ensures.taken there) (
      (
        sym (else_here (view c.args.condition) (view c.args.consequence) (left c.args.self.now) (waiting c.args.self.now) is),
        omega (arith, less),
      ),
      tt,
    )

-- no other branch
pub returns-else-take_word : goal.returns-else-take_word
returns-else-take_word c =
    let old = c.args.self.now in
    let new : Machine = record { alloc = old.alloc; cursor = c.take_word.new.self; frames = old.frames } in
    let none : c.take_word.result ≡ false = c.if-take_word.false in
    let e = plain.ConditionalOnly (view c.args.condition) (view c.args.consequence) in
    state_on c.conditional.result new (goes old (machine.Else (view c.args.condition) (view c.args.consequence)) []) e c.conditional.ensures.ok
    c.conditional.ensures.refused (rw (c.take_word.ensures.stays none) (sym (no_else_here (view c.args.condition) (view c.args.consequence) (left old)
    (waiting old) (sym c.take_word.ensures.value ∙ none))))
    (omega (arith, ap length (c.take_word.ensures.stays none)))
