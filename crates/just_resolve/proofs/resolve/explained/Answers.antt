use Rattle.std.proofs.Common.{Bor, is_some, ap, map, subst, sym, ⊎_elim}
use Rattle.just_resolve.specs.Prelude.{DependsOnItself, Text, assignment_view, frames_view, functions_view}
use Rattle.just_resolve.proofs.Resolving.{cycle_reader, no_cycle}
use Rattle.just_resolve.proofs.resolve.explained.Goals as goal
use Rattle.just_resolve.proofs.resolve.explained.Goals.{in-UntakenVariable+in_ok-names+in_default-2, in_default}

pub returns-clause-mention : goal.returns-clause-mention
returns-clause-mention c =
    let functions = functions_view c.args.«module».now in
    let all = map assignment_view c.args.«module».now.assignments in
    let outer = frames_view c.args.outer.now in
    let fault = c.args.fault in
    ⊎_elim (λ k. k)
    (λ k. absurd (elim c.match-fault.branch as (λ b. ⊥) [
      | in-UntakenVariable+in_ok-names+in_default-2 w ↦ w.in_ok-names.ensures.none (ap is_some w.in_default-2.is)
          (subst (λ (name : Bor Text). DependsOnItself functions all outer name.now) (sym w.lexeme.ensures)
          (cycle_reader functions all outer fault w.in-UntakenVariable.assignment w.in-UntakenVariable.variable w.in-UntakenVariable.is k))
      | in_default w ↦ no_cycle functions all outer fault w.in_default.not-UntakenVariable k
    ])) c.requires.due
