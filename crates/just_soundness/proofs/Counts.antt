-- How many values a row has.
use Rattle.std.proofs.Common.{◌≡◌, ℕ, suc, ◌∷◌, length, List, refl, ap}
use Rattle.just_syntax.specs.Plain.{Exprs, Nil, Cons, count}
use Rattle.just_value.specs.Value.{Value}
use Rattle.just_value.specs.Outcome.{Outcome, Gave, Refused, Stopped}
use Rattle.just_host.specs.Interaction.{Tree, done, bind, gives, signature}
use Rattle.just_interaction.proofs.Ends.{AllEnd, ends_any, ends_bind}
use Rattle.just_meaning.specs.Meaning.{Program, Situation, Deeper, eval, eval_row}

-- there are this many values, if any
abbrev pub HasCount : ℕ → Outcome (List Value) → Type 0
HasCount n (Gave vs) = length vs ≡ n
HasCount n (Refused r) = Unit {0}
HasCount n Stopped = Unit {0}

pub row_counts : (c : Program) (d : Deeper) (s : Situation) (i : ℕ) (es : Exprs) (look : ℕ → Value → Tree Value)
    → AllEnd (HasCount (count es)) (eval_row c d s i es look)
row_counts c d s i Nil look = refl
row_counts c d s i (Cons e es) look = ends_bind (λ o. Unit {0}) (HasCount (suc (count es))) (bind (eval c d s e) (look i)) _
    (ends_any (bind (eval c d s e) (look i))) (one (row_counts c d s (suc i) es look))
  where
    more : (v : Value) (o : Outcome (List Value)) → HasCount (count es) o
        → AllEnd {s = signature} (HasCount (suc (count es))) (bind (done o) (λ vs. gives (v ∷ vs)))
    more v (Gave vs) h = ap suc h
    more v (Refused r) h = tt
    more v Stopped h = tt

    one : AllEnd (HasCount (count es)) (eval_row c d s (suc i) es look) → (o : Outcome Value) → Unit {0}
        → AllEnd (HasCount (suc (count es))) (bind (done o) (λ v. bind (eval_row c d s (suc i) es look) (λ vs. gives (v ∷ vs))))
    one rest (Gave v) h = ends_bind (HasCount (count es)) (HasCount (suc (count es))) (eval_row c d s (suc i) es look) _ rest (more v)
    one rest (Refused r) h = tt
    one rest Stopped h = tt
