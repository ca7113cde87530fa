use Rattle.std.proofs.Common.{map, string_bytes, sym, ap, ◌∙◌, arith}
use Rattle.std.proofs.lemmas.Grind.{common_steps}
use Rattle.just_host.specs.Prelude.{after_changes, frames_view}
use Rattle.just_host.proofs.Changes.{exports_framewise}
use Rattle.just_host.proofs.exports.exports.Goals as goal

pub returns-clause-changes : goal.returns-clause-changes
returns-clause-changes c = rw (sym c.in_ok-outer.ensures) (grind (arith, common_steps))

pub returns-clause-framewise : goal.returns-clause-framewise
returns-clause-framewise c = λ e name. ap (λ cs. after_changes e cs name) (returns-clause-changes c)
    ∙ exports_framewise (map string_bytes c.args.unexports.now) (frames_view c.args.scope.now) e name
