use Rattle.std.proofs.Common.{map}
use Rattle.just_eval.specs.Prelude.{line_view}
use Rattle.just_eval.proofs.Commands.{commands_made}
use Rattle.just_eval.proofs.Here.{answered, constants, headline, never_const, never_internal, resolved_constants, still}
use Rattle.just_eval.proofs.evaluator.Evaluator.evaluate_lines.Goals as goal

pub returns-clause-headline : goal.returns-clause-headline
returns-clause-headline g c =
    headline c.args.self.now _ _ (commands_made (map line_view c.args.lines.now)) c.evaluate_lines_by_dynamic_scoping.ensures

pub returns-clause-never_internal : goal.returns-clause-never_internal
returns-clause-never_internal g c =
    never_internal c.args.self.now _ _ (commands_made (map line_view c.args.lines.now)) c.evaluate_lines_by_dynamic_scoping.ensures

pub returns-clause-never_const : goal.returns-clause-never_const
returns-clause-never_const g c =
    never_const c.args.self.now _ _ (commands_made (map line_view c.args.lines.now)) c.evaluate_lines_by_dynamic_scoping.ensures

pub returns-clause-answered : goal.returns-clause-answered
returns-clause-answered g c =
    answered c.args.self.now _ _ (commands_made (map line_view c.args.lines.now)) c.evaluate_lines_by_dynamic_scoping.ensures

pub returns-clause-constants : goal.returns-clause-constants
returns-clause-constants g c =
    λ before. constants c.args.self.now _ _ (commands_made (map line_view c.args.lines.now)) before c.evaluate_lines_by_dynamic_scoping.ensures

pub returns-clause-still : goal.returns-clause-still
returns-clause-still g c =
    λ before. still c.args.self.now _ _ (commands_made (map line_view c.args.lines.now)) before c.evaluate_lines_by_dynamic_scoping.ensures

pub returns-clause-resolved_constants : goal.returns-clause-resolved_constants
returns-clause-resolved_constants g c = λ before resolved.
    resolved_constants c.args.self.now _ _ (commands_made (map line_view c.args.lines.now)) before c.evaluate_lines_by_dynamic_scoping.ensures resolved
