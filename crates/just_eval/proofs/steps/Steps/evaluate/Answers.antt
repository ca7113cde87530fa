use Rattle.just_eval.specs.Prelude.{frames_of, module_of, name_view}
use Rattle.just_soundness.proofs.Final.{turn_is_final}
use Rattle.just_eval.proofs.Stepwise.{next_never, reached_if_ok, turn_lexical}
use Rattle.just_eval.proofs.steps.Steps.evaluate.Goals as goal

pub returns-clause-headline : goal.returns-clause-headline
returns-clause-headline g c = λ resolved among.
    turn_lexical (module_of c.args.self.now) _ resolved (name_view c.args.name.now) (frames_of c.args.self.now) among c.evaluate_step.ensures.ran

pub returns-clause-reached : goal.returns-clause-reached
returns-clause-reached g c = λ done resolved next.
    reached_if_ok _ _ resolved (name_view c.args.name.now) done next _ c.evaluate_step.result c.evaluate_step.ensures.ran.path

pub returns-clause-never_internal : goal.returns-clause-never_internal
returns-clause-never_internal g c = λ done resolved next. next_never _ _ resolved (name_view c.args.name.now) done next _ c.evaluate_step.ensures.ran.path

pub returns-clause-never_const : goal.returns-clause-never_const
returns-clause-never_const g c =
    turn_is_final (module_of c.args.self.now) (frames_of c.args.self.now) (name_view c.args.name.now) c.evaluate_step.ensures.ran.path
