-- The written prefix of a text.
use Rattle.std.proofs.Common.{◌≡◌, ℕ, ◌-◌, List, ◌++◌, length, take, drop, arith, ap, sym, ◌∙◌, append_assoc, Option}
use Rattle.std.specs.Io.KnownBytes.{Appends}
use Rattle.std.proofs.KnownBytes.{Appends-trans}
use Rattle.std.proofs.lemmas.List.{length-drop, take-append-drop, take_all}

-- the rest after n of its bytes
abbrev pub rest_after : ℕ → List ℕ → List ℕ
rest_after n rest = take (length rest - n) (drop n rest)

-- n bytes of the rest are added to the prefix
pub grows : (text front rest : List ℕ) (n : ℕ) → text ≡ front ++ rest → text ≡ (front ++ take n rest) ++ rest_after n rest
grows text front rest n whole =
    let all : rest_after n rest ≡ drop n rest = take_all (length rest - n) (drop n rest) (omega (arith, length-drop n rest)) in
    rw all (whole ∙ ap (λ t. front ++ t) (sym (take-append-drop n rest)) ∙ sym (append_assoc front (take n rest) (drop n rest)))

-- the prefix added so far, followed by n bytes more
pub more_added : (old mid new : Option (List ℕ)) (text rest : List ℕ) (n : ℕ) → (front : List ℕ) × (text ≡ front ++ rest) × Appends old mid front
    → Appends mid new (take n rest)
    → (front : List ℕ) × (text ≡ front ++ rest_after n rest) × Appends old new front
more_added old mid new text rest n (front, whole, added) more =
    (front ++ take n rest, grows text front rest n whole, Appends-trans old mid new front (take n rest) added more)
