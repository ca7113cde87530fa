use Rattle.std.proofs.Common.{◌≡◌, ◌+◌, ◌<◌, ◌++◌, ◌∷◌, [], true, length, map, take, string_bytes, codes, sym, ap, refl, ◌∙◌, arith}
use Rattle.std.proofs.Output.{has_written_styled_append, has_written_styled_of_eq}
use Rattle.std.proofs.lemmas.List.{flat_map_more, map-append, take_more}
use Rattle.just_host.specs.Prelude.{Text, spaced}
use Rattle.just_value.specs.Shown.{quoted}
use Rattle.just_host.proofs.printed.write_spaced.Goals as goal

-- one more text is written after those so far
pub loop-text-preserved : goal.loop-text-preserved
loop-text-preserved g c = λ flush.
    let took = g.W.Write.write_str_gives in
    let texts = c.args.texts.now in
    let i = c.loop-text.text-index in
    let text = c.text-item.result in
    let before = c.loop-text.invariant flush in
    let now = c.in_ok-write_about.ensures before.flush (refl {a = true}) in
    let within : i < length texts = omega arith in
    let more : take (i + 1) texts ≡ take i texts ++ text ∷ [] = take_more texts i text within ∙ ap (λ x. take i texts ++ x ∷ []) (sym c.text-item.is) in
    let words : map string_bytes (take (i + 1) texts) ≡ map string_bytes (take i texts) ++ string_bytes text ∷ [] =
    ap (map string_bytes) more ∙ map-append string_bytes (take i texts) (text ∷ []) in
    let same : spaced (map string_bytes (take i texts)) ++ (codes " " ++ quoted c.deref.result.now) ≡ spaced (map string_bytes (take (i + 1) texts)) =
    rw c.deref.ensures (flat_map_more (λ (text : Text). codes " " ++ quoted text) [] (map string_bytes (take i texts)) (string_bytes text)
    ∙ ap spaced (sym words)) in
    has_written_styled_of_eq took _ _ _ _ same (has_written_styled_append took _ _ _ _ _ before now)
