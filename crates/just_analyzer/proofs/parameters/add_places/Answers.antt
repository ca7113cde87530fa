use Rattle.std.proofs.Common.{add-one, ap, arith, drop, drop-cons, get_or, length, map, sym, take, ◌+◌, ◌∷◌, ◌≡◌, ◌∙◌}
use Rattle.std.proofs.lemmas.List.{length-map, length-take-le, map_push, take_more}
use Rattle.just_syntax.specs.View.{recipe_parameter_view}
use Rattle.just_analyzer.proofs.Places.{next_place}
use Rattle.just_analyzer.specs.Parameters.{duplicate}
use Rattle.just_analyzer.specs.View.{place_in}
use Rattle.just_analyzer.proofs.parameters.add_places.Goals as goal

pub loop-index-preserved : goal.loop-index-preserved
loop-index-preserved c =
    let xs = c.args.parameters.now in
    let i = c.loop-index.index in
    let d = c.index-parameters-index.result in
    let x = get_or xs i d in
    let less = c.loop-index-test.true in
    let before = map recipe_parameter_view (take i xs) in
    let rest = map recipe_parameter_view (drop (i + 1) xs) in
    let all = map recipe_parameter_view xs in
    let p = recipe_parameter_view x in
    let more = ap (map recipe_parameter_view) (take_more xs i d less) ∙ map_push recipe_parameter_view (take i xs) x in
    let from = ap (map recipe_parameter_view) (drop-cons xs i d less) ∙ ap (λ j. p ∷ map recipe_parameter_view (drop j xs)) (sym (add-one i)) in
    let size : i ≡ length before = sym (length-map (take i xs) recipe_parameter_view ∙ length-take-le i xs (omega (arith, less))) in
    let next = next_place (place_in c.loop-index.places) (place_in c.add_place.new.places) before rest all p i size c.loop-index.invariant.0
    c.in_ok-add_place.ensures.ok c.in_ok-add_place.ensures.places (sym (ap (duplicate before) from) ∙ c.loop-index.invariant.1) in
    rw more next
