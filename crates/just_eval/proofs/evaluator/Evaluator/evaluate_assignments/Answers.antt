use Rattle.std.proofs.Common.{[], ◌∷◌, map}
use Rattle.just_eval.specs.Prelude.{frames_view, name_view, run_of}
use Rattle.just_soundness.proofs.Final.{run_is_final}
use Rattle.just_eval.proofs.Module.{run_lexical, run_never_internal}
use Rattle.just_eval.proofs.evaluator.Evaluator.evaluate_assignments.Goals as goal

pub returns-clause-headline : goal.returns-clause-headline
returns-clause-headline g c = λ resolved. run_lexical _ (frames_view c.args.parent.now) _ resolved (rw c.deref.ensures.value at c.run.ensures)

pub returns-clause-never_internal : goal.returns-clause-never_internal
returns-clause-never_internal g c = λ resolved.
    let outer = frames_view c.args.parent.now in
    run_never_internal _ outer _ resolved (run_lexical _ outer _ resolved (rw c.deref.ensures.value at c.run.ensures))

pub returns-clause-never_const : goal.returns-clause-never_const
returns-clause-never_const g c =
    let m = run_of c.args.config c.args.dotenv c.args.«module» c.args.overrides c.args.parent c.args.search c.args.recursion_limit c.args.variable_references in
    run_is_final m ([] ∷ frames_view c.args.parent.now) (map name_view c.deref.result.now) c.run.ensures.path

pub returns-clause-dynamic : goal.returns-clause-dynamic
returns-clause-dynamic g c = rw c.deref.ensures.value at c.run.ensures
