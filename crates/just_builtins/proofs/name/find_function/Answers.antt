use Rattle.std.proofs.Common.{◌≡◌, ◌-◌, ap, sym, ◌∙◌, arith, rules, drop, length, length-drop, map, take}
use Rattle.std.proofs.lemmas.List.{take_all}
use Rattle.std.proofs.lemmas.Fn.{always_returns_same}
use Rattle.just_builtins.specs.Prelude.{begins_below, entry_view, find_in}
use Rattle.just_builtins.proofs.Beginnings.{parted, passed_over}
use Rattle.just_builtins.proofs.name.find_function.Goals as goal

pub returns : goal.returns
returns c =
    let entries = c.args.table.now in
    let name = c.args.name.now in
    let start = c.partition_point-start.result in
    let point = c.partition_point-start.ensures.partitioned (λ entry. begins_below entry.0.now name) (always_returns_same _ _ _ (λ a r f called. search rules))
    (parted entries name c.requires) in
    let rest : take (length entries - start) (drop start entries) ≡ drop start entries = take_all _ _ (omega (arith, length-drop start entries)) in
    c.find_from.ensures ∙ ap (λ es. find_in (map entry_view es) name) rest ∙ sym (passed_over entries name start point.0)
