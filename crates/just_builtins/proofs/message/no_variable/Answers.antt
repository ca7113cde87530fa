use Rattle.std.proofs.Common.{◌∙◌, refl}
use Rattle.just_builtins.proofs.Messages.{alone, drained, several}
use Rattle.just_builtins.proofs.message.no_variable.Goals as goal

pub returns-in_ok-format-in-len1 : goal.returns-in_ok-format-in-len1
returns-in_ok-format-in-len1 c =
    c.in_ok-format-in-len1.ensures.ok ∙ alone c.args.keys.now c.key-item.result c.in-len1.len_at_least c.in-len1.len_below c.key-item.is

pub returns-in_ok-format-in_default : goal.returns-in_ok-format-in_default
returns-in_ok-format-in_default c =
    let given = c.in_ok-list-in_default.ensures.items in
    several _ (λ e. refl) _ c.in_ok-list-in_default.list.items.items c.args.keys.now _ c.in_default.len_at_least c.in_ok-list-in_default.ensures.conjunction
    (drained given.0 c.args.keys.now _ given.1.0 given.2) c.in_ok-format-in_default.ensures.ok
