use Rattle.std.proofs.Common.{◌∙◌, ap}
use Rattle.just_host.specs.Prelude.{value_named}
use Rattle.just_host.proofs.settings.Settings.get.Goals as goal

pub returns : goal.returns
returns c = c.value_named.ensures ∙ ap (value_named c.args.name.now) c.entries.ensures
