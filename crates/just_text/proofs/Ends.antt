-- Texts that begin or end with a pattern, and the rest without it.
use Rattle.std.proofs.Common.{◌≡◌, ℕ, zero, suc, ◌+◌, ◌-◌, ◌<◌, ◌≤◌, List, [], ◌∷◌, ◌++◌, length, take, drop, Option, Some, None, MatchOption, Bor, true, false}
use Rattle.std.proofs.Common.{eqb, sym, refl, ap, ◌∙◌, inl, inr, arith, unwrap_or}
use Rattle.std.specs.List.{starts_with, ends_with}
use Rattle.std.specs.Str.Pattern.{FindsTextPrefix, FindsTextSuffix, StripsPrefix, StripsSuffix, LacksTextAt, CutsPrefixes, CutsSuffixes, IsFullyTrimmed}
use Rattle.std.specs.Str.Pattern.{IsTrimStartMatches, IsTrimEndMatches}
use Rattle.std.proofs.lemmas.Bool.{cases_Bool, cond-false, both_ways}
use Rattle.std.proofs.lemmas.List.{take_at, take_all, drop_all, length-append, length-drop, length-take}
use Rattle.std.proofs.lemmas.Slice.Eq.{bytes_eq-Decides}
use Rattle.std.proofs.lemmas.Str.Pattern.{starts_text, ends_text}
use Rattle.just_text.specs.Prelude.{LeavesNoneAtEnd, LeavesNoneAtStart, without_ends, without_starts}
use Rattle.just_text.specs.Pattern.{without_start, without_end, times}

-- a text that begins with another, and one that does not
pub starts : (p s rest : List ℕ) → s ≡ p ++ rest → starts_with eqb s p ≡ true
starts p s rest e = (bytes_eq-Decides p (take (length p) s)).1 (sym (rw e (take_at p rest (length p) refl)))

pub starts_not : (p s : List ℕ) → LacksTextAt p s 0 → starts_with eqb s p ≡ false
starts_not p s lacks = sym (starts_text false p s lacks)

-- a pattern that is found is removed
start_taken : (p m r : List ℕ) (n : ℕ) → FindsTextPrefix p m (Some n) → r ≡ drop n m → (without_start p m ≡ r) × (length r + length p ≡ length m)
start_taken p m r n found cut =
    let whole : m ≡ p ++ r = found.1 ∙ ap (λ t. p ++ t) (sym cut) in
    (rw (starts p m r whole) (sym (rw (← found.0) cut)), omega (arith, ap length whole, length-append p r))

end_taken : (p m r : List ℕ) (n : ℕ) → FindsTextSuffix p m (Some n) → r ≡ take (length m - n) m → (without_end p m ≡ r) × (length r + length p ≡ length m)
end_taken p m r n found cut =
    let sizes : length r + length p ≡ length m = sym (ap length found.1 ∙ length-append (take (length m - n) m) p ∙ ap (λ t. length t + length p) (sym cut)) in
    let there = ends_text true p m (n, found, omega (arith, found.0, sizes), rw found.0 found.2) in
    (rw (← there) (sym (rw (← found.0) cut)), sizes)

-- a pattern that is not found removes nothing
start_kept : (p s : List ℕ) → LacksTextAt p s 0 → without_start p s ≡ s
start_kept p s lacks = rw (starts_not p s lacks)

end_kept : (p s : List ℕ) → FindsTextSuffix p s None → without_end p s ≡ s
end_kept p s lacks = rw (← ends_text false p s lacks)

-- nor does an empty pattern
end_nothing : (s : List ℕ) → without_end [] s ≡ s
end_nothing s = rw (drop_all (length s - 0) s (omega arith)) (take_all (length s - 0) s (omega arith))

-- the result of `strip_prefix` and `strip_suffix`, or else the text
pub start_stripped : (p s : List ℕ) (r : Option (Bor (List ℕ))) (whole : Bor (List ℕ)) → whole.now ≡ s
    → MatchOption r (FindsTextPrefix p s None) (λ x. StripsPrefix (FindsTextPrefix p) s x.now) → (unwrap_or r whole).now ≡ without_start p s
start_stripped p s None whole e lacks = e ∙ sym (start_kept p s lacks)
start_stripped p s (Some x) whole e (n, found, cut, sizes) = sym (start_taken p s x.now n found cut).0

pub end_stripped : (p s : List ℕ) (r : Option (Bor (List ℕ))) (whole : Bor (List ℕ)) → whole.now ≡ s
    → MatchOption r (FindsTextSuffix p s None) (λ x. StripsSuffix (FindsTextSuffix p) s x.now) → (unwrap_or r whole).now ≡ without_end p s
end_stripped p s None whole e lacks = e ∙ sym (end_kept p s lacks)
end_stripped p s (Some x) whole e (n, found, cut, sizes) = sym (end_taken p s x.now n found cut).0

-- a function that changes nothing once changes nothing when repeated
times_same : (n : ℕ) (f : List ℕ → List ℕ) (s : List ℕ) → f s ≡ s → times n f s ≡ s
times_same zero f s e = refl
times_same (suc n) f s e = rw e (times_same n f s e)

-- the last application can be done first
times_last : (n : ℕ) (f : List ℕ → List ℕ) (s : List ℕ) → f (times n f s) ≡ times n f (f s)
times_last zero f s = refl
times_last (suc n) f s = times_last n f (f s)

-- if k applications reach a fixed point, n ≥ k applications reach it too
times_more : (k n : ℕ) (f : List ℕ → List ℕ) (s r : List ℕ) → k ≤ n → times k f s ≡ r → f r ≡ r → times n f s ≡ r
times_more zero n f s r fits e same = rw e (times_same n f r same)
times_more (suc k) zero f s r fits e same = absurd (omega arith)
times_more (suc k) (suc n) f s r fits e same = times_more k n f (f s) r (omega arith) e same

-- a pattern removed one more time
taken_once_more : (f : List ℕ → List ℕ) (p s m r ns : List ℕ) → 0 < length p → (times (length ns) f s ≡ m) × (length ns + length m ≤ length s)
    → (f m ≡ r) × (length r + length p ≡ length m)
    → (times (suc (length ns)) f s ≡ r) × (suc (length ns) + length r ≤ length s)
taken_once_more f p s m r ns some known taken = (sym (times_last (length ns) f s) ∙ (ap f known.0 ∙ taken.0), omega (arith, known.1, taken.1))

-- patterns removed repeatedly
start_cuts : (p s ns r : List ℕ) → 0 < length p → CutsPrefixes (FindsTextPrefix p) s ns r → (times (length ns) (without_start p) s ≡ r)
    × (length ns + length r ≤ length s)
start_cuts p s [] r some e = (sym e, omega (arith, ap length e))
start_cuts p s (n ∷ ns) r some (m, before, found, cut) =
    taken_once_more (without_start p) p s m r ns some (start_cuts p s ns m some before) (start_taken p m r n found cut)

end_cuts : (p s ns r : List ℕ) → 0 < length p → CutsSuffixes (FindsTextSuffix p) s ns r → (times (length ns) (without_end p) s ≡ r)
    × (length ns + length r ≤ length s)
end_cuts p s [] r some e = (sym e, omega (arith, ap length e))
end_cuts p s (n ∷ ns) r some (m, before, found, cut) =
    taken_once_more (without_end p) p s m r ns some (end_cuts p s ns m some before) (end_taken p m r n found cut)

-- empty patterns removed
start_cuts_nothing : (s ns r : List ℕ) → CutsPrefixes (FindsTextPrefix []) s ns r → r ≡ s
start_cuts_nothing s [] r e = e
start_cuts_nothing s (n ∷ ns) r (m, before, found, cut) = cut ∙ (ap (λ k. drop k m) found.0 ∙ start_cuts_nothing s ns m before)

end_cuts_nothing : (s ns r : List ℕ) → CutsSuffixes (FindsTextSuffix []) s ns r → r ≡ s
end_cuts_nothing s [] r e = e
end_cuts_nothing s (n ∷ ns) r (m, before, found, cut) =
    cut ∙ (ap (λ k. take (length m - k) m) found.0 ∙ (take_all (length m - 0) m (omega arith) ∙ end_cuts_nothing s ns m before))

-- no pattern remains
start_done : (p r : List ℕ) → 0 < length p → IsFullyTrimmed (FindsTextPrefix p) r → without_start p r ≡ r
start_done p r some (None, lacks, nothing) = start_kept p r lacks
start_done p r some (Some n, found, nothing) = absurd (omega (arith, found.0, nothing))

end_done : (p r : List ℕ) → 0 < length p → IsFullyTrimmed (FindsTextSuffix p) r → without_end p r ≡ r
end_done p r some (None, lacks, nothing) = end_kept p r lacks
end_done p r some (Some n, found, nothing) = absurd (omega (arith, found.0, nothing))

-- the results of `trim_start_matches` and `trim_end_matches`
pub starts_trimmed : (p s r : List ℕ) → IsTrimStartMatches (FindsTextPrefix p) s r → r ≡ without_starts p s
unfolding without_starts
starts_trimmed [] s r ((ns, cuts), done) = start_cuts_nothing s ns r cuts ∙ sym (times_same (length s) (without_start []) s refl)
starts_trimmed (b ∷ bs) s r ((ns, cuts), done) =
    let known = start_cuts (b ∷ bs) s ns r (omega arith) cuts in
    sym (times_more (length ns) (length s) (without_start (b ∷ bs)) s r (omega (arith, known.1)) known.0 (start_done (b ∷ bs) r (omega arith) done))

pub ends_trimmed : (p s r : List ℕ) → IsTrimEndMatches (FindsTextSuffix p) s r → r ≡ without_ends p s
unfolding without_ends
ends_trimmed [] s r ((ns, cuts), done) = end_cuts_nothing s ns r cuts ∙ sym (times_same (length s) (without_end []) s (end_nothing s))
ends_trimmed (b ∷ bs) s r ((ns, cuts), done) =
    let known = end_cuts (b ∷ bs) s ns r (omega arith) cuts in
    sym (times_more (length ns) (length s) (without_end (b ∷ bs)) s r (omega (arith, known.1)) known.0 (end_done (b ∷ bs) r (omega arith) done))

-- no pattern remains after as many removals as the text has bytes
start_shorter : (p s : List ℕ) → 0 < length p → starts_with eqb s p ≡ true → length (without_start p s) < length s
start_shorter p [] some e = absurd (nothing_begins p some e)
  where
    nothing_begins : (q : List ℕ) → 0 < length q → starts_with eqb [] q ≡ true → ⊥
    nothing_begins [] more f = omega arith
    nothing_begins (c ∷ cs) more f = cc
start_shorter p (b ∷ bs) some e = rw e (omega (arith, length-drop (length p) (b ∷ bs)))

starts_gone : (p : List ℕ) → 0 < length p → (n : ℕ) (s : List ℕ) → length s ≤ n → starts_with eqb (times n (without_start p) s) p ≡ false
starts_gone [] some n s fits = absurd (omega arith)
starts_gone (c ∷ cs) some zero [] fits = refl
starts_gone (c ∷ cs) some zero (b ∷ bs) fits = absurd (omega arith)
starts_gone (c ∷ cs) some (suc n) s fits =
    elim (cases_Bool (starts_with eqb s (c ∷ cs))) [
      | inl e ↦ starts_gone (c ∷ cs) some n (without_start (c ∷ cs) s) (omega (arith, start_shorter (c ∷ cs) s some e))
      | inr e ↦ rw (
        cond-false (starts_with eqb s (c ∷ cs)) (drop (length (c ∷ cs)) s) s e,
        times_same n (without_start (c ∷ cs)) s (cond-false (starts_with eqb s (c ∷ cs)) (drop (length (c ∷ cs)) s) s e),
      ) e
    ]

pub starts_left : LeavesNoneAtStart
unfolding without_starts
starts_left pattern text some = starts_gone pattern some (length text) text (omega arith)

end_shorter : (p s : List ℕ) → 0 < length p → ends_with eqb s p ≡ true → length (without_end p s) < length s
end_shorter p [] some e = absurd (nothing_ends p some e)
  where
    nothing_ends : (q : List ℕ) → 0 < length q → ends_with eqb [] q ≡ true → ⊥
    nothing_ends [] more f = omega arith
    nothing_ends (c ∷ cs) more f = both_ways (ends_with eqb [] (c ∷ cs)) (rw (drop_all {X = ℕ} (0 - length (c ∷ cs)) [] (omega arith)) refl) f
end_shorter p (b ∷ bs) some e = rw e (omega (arith, length-take (length (b ∷ bs) - length p) (b ∷ bs)))

ends_gone : (p : List ℕ) → 0 < length p → (n : ℕ) (s : List ℕ) → length s ≤ n → ends_with eqb (times n (without_end p) s) p ≡ false
ends_gone [] some n s fits = absurd (omega arith)
ends_gone (c ∷ cs) some zero [] fits = rw (drop_all {X = ℕ} (0 - length (c ∷ cs)) [] (omega arith)) refl
ends_gone (c ∷ cs) some zero (b ∷ bs) fits = absurd (omega arith)
ends_gone (c ∷ cs) some (suc n) s fits =
    elim (cases_Bool (ends_with eqb s (c ∷ cs))) [
      | inl e ↦ ends_gone (c ∷ cs) some n (without_end (c ∷ cs) s) (omega (arith, end_shorter (c ∷ cs) s some e))
      | inr e ↦ rw (
        cond-false (ends_with eqb s (c ∷ cs)) (take (length s - length (c ∷ cs)) s) s e,
        times_same n (without_end (c ∷ cs)) s (cond-false (ends_with eqb s (c ∷ cs)) (take (length s - length (c ∷ cs)) s) s e),
      ) e
    ]

pub ends_left : LeavesNoneAtEnd
unfolding without_ends
ends_left pattern text some = ends_gone pattern some (length text) text (omega arith)
