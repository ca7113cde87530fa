use Rattle.std.proofs.Common.{List, ap, map, sym, ◌∙◌, Bor, ℕ}
use Rattle.std.proofs.lemmas.List.{map_push}
use Rattle.just_value.specs.Prelude.{positional, with_word}
use Rattle.just_value.proofs.PositionalLaws.{positional-push}
use Rattle.just_value.proofs.positional.Positional.from_values.Goals as goal

pub loop-value-preserved : goal.loop-value-preserved
loop-value-preserved g c =
    let words = map (λ (w : Bor (List ℕ)). w.now) c.loop-value.yielded in
    c.in_ok-add.ensures
    ∙ (ap (λ p. with_word p c.in-Some.value.now) c.loop-value.invariant
    ∙ (sym (positional-push words c.in-Some.value.now)
    ∙ ap positional (sym (map_push (λ (w : Bor (List ℕ)). w.now) c.loop-value.yielded c.in-Some.value))))
