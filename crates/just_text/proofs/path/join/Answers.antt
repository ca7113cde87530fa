use Rattle.std.proofs.Common.{ap, ◌∙◌}
use Rattle.std.specs.Path.{path_join}
use Rattle.just_text.proofs.Slashes.{joined_is, joined_to_nothing}
use Rattle.just_text.proofs.path.join.Goals as goal

pub returns : goal.returns
returns c =
    let path = c.args.path.now in
    c.into_string.ensures
    ∙ c.in_ok-push-2.ensures.ok
    ∙ ap (λ base. path_join base path) (c.in_ok-push.ensures.ok ∙ ap (λ base. path_join base c.args.base.now) c.in_ok-joined.ensures.path
    ∙ joined_to_nothing c.args.base.now)
    ∙ joined_is c.args.base.now path
