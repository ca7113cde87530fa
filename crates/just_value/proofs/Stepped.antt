-- One step of an iterator.
use Rattle.std.proofs.Common.{◌≡◌, ℕ, ◌<◌, List, ◌∷◌, length, get_or, Option, Some, None, Bor, MatchOption, ap, sym, ◌∙◌, arith}
use Rattle.std.specs.Iterator.{MakesProgress, at_most}
use Rattle.std.specs.Map.Iter.{TakesFirst, deref}
use Rattle.std.proofs.lemmas.List.{nil_from_length}
use Rattle.std.proofs.lemmas.Option.{slice_get-get_or}
use Rattle.just_value.specs.declared.binding.Binding.{Binding}
use Rattle.just_value.specs.Placed.{before_others, elements_at}

-- the step takes the first of the remaining elements
pub takes_first : {S X : Type 0} (left : S → List X) (s : S) (next : Option (Bor X)) (t : S)
    → MatchOption next ((length (left s) ≡ 0) × (t ≡ s)) (λ x. left s ≡ x.now ∷ left t) → TakesFirst deref (left s) next (left t)
takes_first left s None t h = let none = nil_from_length (left s) h.0 in (none, ap left h.1 ∙ none)
takes_first left s (Some x) t h = h

-- the step from an iterator whose elements are at indices
pub takes_at : {X : Type 0} (xs : List X) (i : ℕ) (x : X) (here there : List ℕ) → here ≡ i ∷ there → i < length xs → x ≡ get_or xs i x
    → elements_at xs here ≡ x ∷ elements_at xs there
takes_at xs i x here there first within is =
    ap (elements_at xs) first ∙ ap (λ o. before_others o (elements_at xs there)) (slice_get-get_or xs i x within ∙ ap Some (sym is))

-- a step that takes the first gets on
pub gets_on : (s : List Binding) (r : Option (Bor Binding)) (t : List Binding) → TakesFirst deref s r t
    → MakesProgress {S = List Binding} {A = Bor Binding} (λ _. Unit {0}) (λ (l : List Binding). at_most (length l)) s r t
gets_on s None t step = record { on = λ finite. tt; keeps = tt; rests = λ finite. tt }
gets_on s (Some x) t step = record { on = λ finite. (tt, tt, omega (arith, ap length step)); keeps = tt; rests = λ finite. tt }
