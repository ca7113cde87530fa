use Rattle.std.proofs.Common.{◌∙◌, ap, ◌∷◌, [], refl}
use Rattle.just_expression.specs.Prelude.{Gave, fault_view, fixed_view, frames_view, pairs_view, token_view}
use Rattle.just_interaction.proofs.Paths.{runs_stopped}
use Rattle.just_expression.proofs.Exits.{runs_exit}
use Rattle.just_expression.proofs.Commands.{itself, without_memory, written_asked, written_dry}
use Rattle.just_expression.proofs.command.command_value.Goals as goal

pub returns-in_err-text : goal.returns-in_err-text
returns-in_err-text g c = runs_exit _ _ _ c.from_residual.ensures.1 (runs_stopped _)

pub returns-in_err-from_string : goal.returns-in_err-from_string
returns-in_err-from_string g c = runs_exit _ _ _ c.from_residual-in_err-from_string.ensures.1 (runs_stopped _)

pub returns-then-context : goal.returns-then-context
returns-then-context g c = written_dry (fixed_view c.args.context.now) (pairs_view c.args.env.now) (frames_view c.args.scope.now) c.args.contents.now
    (token_view c.args.token.now) _ c.if-context.true (ap Gave (c.in_ok-from_string.ensures ∙ ap (λ text. text ∷ []) c.in_ok-text.ensures.ok))

pub returns-in_err-from_string-in-Ok : goal.returns-in_err-from_string-in-Ok
returns-in_err-from_string-in-Ok g c =
    runs_exit _ _ _ c.from_residual-in_err-from_string-in-Ok.ensures.1 (written_asked (fixed_view c.args.context.now) (pairs_view c.args.env.now)
    (frames_view c.args.scope.now) c.args.contents.now (token_view c.args.token.now) _ _ c.if-context.false c.in-Ok.ensures.asked tt (λ none. refl))

pub returns-in_ok-from_string-in-Ok : goal.returns-in_ok-from_string-in-Ok
returns-in_ok-from_string-in-Ok g c = written_asked (fixed_view c.args.context.now) (pairs_view c.args.env.now) (frames_view c.args.scope.now)
    c.args.contents.now (token_view c.args.token.now) _ _ c.if-context.false c.in-Ok.ensures.asked (ap Gave c.in_ok-from_string-in-Ok.ensures)
    (λ none. absurd (cc))

pub returns-in-Err : goal.returns-in-Err
returns-in-Err g c =
    written_asked (fixed_view c.args.context.now) (pairs_view c.args.env.now) (frames_view c.args.scope.now) c.args.contents.now (token_view c.args.token.now) _
    _ c.if-context.false c.in-Err.ensures.asked (itself _ _ c.backtick_error.ensures)
    (λ none. c.backtick_error.ensures ∙ without_memory (token_view c.args.token.now) (fault_view c.in-Err.fault) none)
