use Rattle.std.proofs.Common.{◌≡◌, ◌+◌, ◌<◌, ◌++◌, ◌∷◌, [], true, length, map, take, sym, ap, refl, ◌∙◌, arith}
use Rattle.std.proofs.Output.{has_written_styled_append, has_written_styled_of_eq}
use Rattle.std.proofs.lemmas.List.{flat_map_more, map-append, take_more}
use Rattle.std.specs.List.{flat_map}
use Rattle.just_host.specs.Prelude.{line_of, setting_entry_view}
use Rattle.just_host.proofs.setting_value.write_entries.Goals as goal

-- one more line is written after those so far
pub loop-name-preserved : goal.loop-name-preserved
loop-name-preserved g c = λ flush.
    let took = g.W.Write.write_str_gives in
    let entries = c.args.entries.now in
    let i = c.loop-name.name-index in
    let entry = c.loop-name-item.result in
    let before = c.loop-name.invariant flush in
    let now = c.in_ok-write_entry.ensures before.flush (refl {a = true}) in
    let within : i < length entries = omega arith in
    let more : take (i + 1) entries ≡ take i entries ++ entry ∷ [] =
    take_more entries i entry within ∙ ap (λ x. take i entries ++ x ∷ []) (sym c.loop-name-item.is) in
    let views : map setting_entry_view (take (i + 1) entries) ≡ map setting_entry_view (take i entries) ++ setting_entry_view entry ∷ [] =
    ap (map setting_entry_view) more ∙ map-append setting_entry_view (take i entries) (entry ∷ []) in
    let same : flat_map line_of (map setting_entry_view (take i entries)) ++ line_of (setting_entry_view entry)
    ≡ flat_map line_of (map setting_entry_view (take (i + 1) entries)) =
    flat_map_more line_of [] (map setting_entry_view (take i entries)) (setting_entry_view entry) ∙ ap (flat_map line_of) (sym views) in
    has_written_styled_of_eq took _ _ _ _ same (has_written_styled_append took _ _ _ _ _ before now)
