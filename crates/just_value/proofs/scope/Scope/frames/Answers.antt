use Rattle.std.proofs.Common.{◌∙◌, ap, map}
use Rattle.just_value.specs.Prelude.{frame_view}
use Rattle.just_value.proofs.Scopes.{frames_viewed}
use Rattle.just_value.proofs.scope.Scope.frames.Goals as goal

pub returns : goal.returns
returns c = ap (map frame_view) c.new.ensures ∙ frames_viewed c.args.self.now
