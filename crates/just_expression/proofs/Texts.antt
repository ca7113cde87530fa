-- Arguments whose values at text positions are texts.
use Rattle.std.proofs.Common.{◌≡◌, ℕ, zero, suc, ◌<◌, Bool, true, List, [], ◌∷◌, ◌++◌, length, arith}
use Rattle.just_expression.specs.Prelude.{Value}
use Rattle.just_builtins.specs.Argument.{argument_at}

-- the values at these positions are texts
abbrev pub AreTexts : (ℕ → Bool) → List Value → Type 0
AreTexts is_text vs = (i : ℕ) → i < length vs → is_text i ≡ true → length (argument_at vs i) ≡ 1

-- one more at the end
pub more_texts : (is_text : ℕ → Bool) (v : Value) (vs : List Value) → AreTexts is_text vs → (is_text (length vs) ≡ true → length v ≡ 1)
    → AreTexts is_text (vs ++ v ∷ [])
more_texts is_text v [] old new zero within text = new text
more_texts is_text v [] old new (suc i) within text = absurd (omega arith)
more_texts is_text v (w ∷ ws) old new zero within text = old zero (omega arith) text
more_texts is_text v (w ∷ ws) old new (suc i) within text =
    more_texts (λ j. is_text (suc j)) v ws (λ j inside is. old (suc j) (omega (arith, inside)) is) new i (omega (arith, within)) text
