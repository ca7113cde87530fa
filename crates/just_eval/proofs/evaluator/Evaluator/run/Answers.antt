use Rattle.std.proofs.Common.{◌∙◌}
use Rattle.std.proofs.lemmas.List.{drop_all}
use Rattle.just_eval.specs.Prelude.{dynamically, frames_view, module_view, name_view}
use Rattle.just_interaction.proofs.Paths.{runs_gives, runs_stopped}
use Rattle.just_expression.proofs.Exits.{runs_exit}
use Rattle.just_eval.proofs.Module.{run_ends, run_next}
use Rattle.just_eval.proofs.evaluator.Evaluator.run.Goals as goal

pub returns-in_err-scope : goal.returns-in_err-scope
returns-in_err-scope g c = runs_exit _ _ _ c.from_residual.ensures.1 (runs_stopped _)

pub loop-name-init : goal.loop-name-init
loop-name-init g c =
    let made = c.of_assignments-evaluator.ensures in
    record {
      here = made.context;
      lists = made.lists;
      start = made.start;
      rest = λ o new r. rw (made.frames, c.in_ok-scope.ensures) at r;
    }

pub returns-in_err-evaluate_named : goal.returns-in_err-evaluate_named
returns-in_err-evaluate_named g c =
    let m = module_view c.args.context.now c.args.references in
    runs_exit _ _ _ c.from_residual-in_err-evaluate_named.ensures.1 (c.loop-name.invariant.rest _ _
    (run_ends dynamically m (frames_view c.loop-name.evaluator.scope) name_view c.args.names.now c.loop-name.name-index _ c.loop-name-test.true _
    c.in_err-evaluate_named.ensures.ran))

pub loop-name-preserved : goal.loop-name-preserved
loop-name-preserved g c =
    let m = module_view c.args.context.now c.args.references in
    let same = c.in_ok-evaluate_named.ensures.same in
    record {
      here = same.0.context ∙ c.loop-name.invariant.here;
      lists = same.0.lists ∙ c.loop-name.invariant.lists;
      start = same.1;
      rest = λ o new r. c.loop-name.invariant.rest o new
          (run_next dynamically m (frames_view c.loop-name.evaluator.scope) name_view c.args.names.now c.loop-name.name-index _ c.loop-name-test.true
          c.in_ok-evaluate_named.ensures.ran r);
    }

pub returns : goal.returns
returns g c = c.loop-name.invariant.rest _ _ (rw (drop_all c.loop-name.name-index c.args.names.now c.loop-name-test.false) (runs_gives _))
