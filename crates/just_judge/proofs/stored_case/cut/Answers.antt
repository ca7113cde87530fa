use Rattle.std.proofs.Common.{◌∙◌, ℕ, List, ap, drop, rules, arith}
use Rattle.std.proofs.lemmas.List.{take_rest}
use Rattle.just_judge.specs.Stored.{SeparatedAt}
use Rattle.just_judge.proofs.Cut.{after_first, separated_within}
use Rattle.just_judge.proofs.stored_case.cut.Goals as goal

-- no status line follows the first separator
pub returns-in_err-status-clause-none : goal.returns-in_err-status-clause-none
returns-in_err-status-clause-none c = λ gone case status answer small before same.
    let file : List ℕ = c.args.file.now in
    let at : ℕ = c.loop-at.at in
    let here : SeparatedAt file at = search rules in
    c.status_line.ensures.none (c.in_err-status.was) status answer small (c.in-Some.ensures.cases.1 ∙ ap (drop 4) (take_rest file at)
    ∙ after_first file case status answer at here c.loop-at.invariant before same)

-- the file has no separator
pub returns-clause-none : goal.returns-clause-none
returns-clause-none c = λ gone case status answer small before same.
    separated_within c.args.file.now case status answer (λ at within. c.loop-at.invariant at (omega (arith, within, c.loop-at-test.false))) same
