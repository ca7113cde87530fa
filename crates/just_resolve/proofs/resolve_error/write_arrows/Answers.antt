use Rattle.std.proofs.Common.{◌≡◌, ◌+◌, ◌<◌, ◌++◌, ◌∷◌, [], ℕ, List, true, length, map, take, get_or, sym, ap, refl, ◌∙◌}
use Rattle.std.proofs.Output.{has_written_styled_append, has_written_styled_of_eq}
use Rattle.std.proofs.lemmas.List.{flat_map_more, map-append, take_more}
use Rattle.std.specs.List.{flat_map}
use Rattle.just_syntax.specs.declared.name.Name.{Name}
use Rattle.just_resolve.specs.Prelude.{arrow_text, name_view}
use Rattle.just_resolve.proofs.resolve_error.write_arrows.Goals as goal

-- one more name
arrows_more : (names : List Name) (i : ℕ) (d : Name) → i < length names
    → flat_map arrow_text (map name_view (take i names)) ++ arrow_text (name_view (get_or names i d)) ≡ flat_map arrow_text (map name_view (take (i + 1) names))
arrows_more names i d within =
    let name = get_or names i d in
    let views : map name_view (take (i + 1) names) ≡ map name_view (take i names) ++ name_view name ∷ [] =
    ap (map name_view) (take_more names i d within) ∙ map-append name_view (take i names) (name ∷ []) in
    flat_map_more arrow_text [] (map name_view (take i names)) (name_view name) ∙ ap (flat_map arrow_text) (sym views)

pub loop-name-preserved : goal.loop-name-preserved
loop-name-preserved g c = λ flush.
    let took = g.W.Write.write_str_gives in
    let before = c.loop-name.invariant flush in
    let now = c.in_ok-write_unstyled.ensures.styled before.flush (refl {a = true}) in
    has_written_styled_of_eq took _ _ _ _ (arrows_more c.args.names.now c.loop-name.name-index _ c.loop-name-test.true)
    (has_written_styled_append took _ _ _ _ _ before now)
