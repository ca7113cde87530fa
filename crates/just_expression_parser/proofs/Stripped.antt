-- Texts without a mark at their front or end.
use Rattle.std.proofs.Common.{◌≡◌, ◌+◌, ◌-◌, List, ◌++◌, ℕ, length, take, drop, Option, Some, None, MatchOption, Bor, true, false}
use Rattle.std.proofs.Common.{eqb, sym, refl, ap, ◌∙◌, arith, unwrap_or}
use Rattle.std.specs.List.{starts_with}
use Rattle.std.specs.Str.Pattern.{FindsTextPrefix, FindsTextSuffix, StripsPrefix, StripsSuffix, LacksTextAt}
use Rattle.std.proofs.lemmas.List.{take_at, length-append}
use Rattle.std.proofs.lemmas.Slice.Eq.{bytes_eq-Decides}
use Rattle.std.proofs.lemmas.Str.Pattern.{starts_text, ends_text}
use Rattle.just_expression_parser.specs.Literal.{without_end_mark, without_front}

-- a text that begins with another, and one that does not
pub starts : (p s rest : List ℕ) → s ≡ p ++ rest → starts_with eqb s p ≡ true
starts p s rest e = (bytes_eq-Decides p (take (length p) s)).1 (sym (rw e (take_at p rest (length p) refl)))

pub starts_not : (p s : List ℕ) → LacksTextAt p s 0 → starts_with eqb s p ≡ false
starts_not p s lacks = sym (starts_text false p s lacks)

front_taken : (p m r : List ℕ) (n : ℕ) → FindsTextPrefix p m (Some n) → r ≡ drop n m → without_front p m ≡ r
unfolding without_front
front_taken p m r n found cut = rw (starts p m r (found.1 ∙ ap (λ t. p ++ t) (sym cut))) (sym (rw (← found.0) cut))

end_taken : (p m r : List ℕ) (n : ℕ) → FindsTextSuffix p m (Some n) → r ≡ take (length m - n) m → without_end_mark p m ≡ r
unfolding without_end_mark
end_taken p m r n found cut =
    let sizes : length r + length p ≡ length m = sym (ap length found.1 ∙ length-append (take (length m - n) m) p ∙ ap (λ t. length t + length p) (sym cut)) in
    let there = ends_text true p m (n, found, omega (arith, found.0, sizes), rw found.0 found.2) in
    rw (← there) (sym (rw (← found.0) cut))

front_kept : (p s : List ℕ) → LacksTextAt p s 0 → without_front p s ≡ s
unfolding without_front
front_kept p s lacks = rw (starts_not p s lacks)

end_kept : (p s : List ℕ) → FindsTextSuffix p s None → without_end_mark p s ≡ s
unfolding without_end_mark
end_kept p s lacks = rw (← ends_text false p s lacks)

-- the result of `strip_prefix` and `strip_suffix`, or else the text
pub front_stripped : (p s : List ℕ) (r : Option (Bor (List ℕ))) (whole : Bor (List ℕ)) → whole.now ≡ s
    → MatchOption r (FindsTextPrefix p s None) (λ x. StripsPrefix (FindsTextPrefix p) s x.now) → (unwrap_or r whole).now ≡ without_front p s
front_stripped p s None whole e lacks = e ∙ sym (front_kept p s lacks)
front_stripped p s (Some x) whole e (n, found, cut, sizes) = sym (front_taken p s x.now n found cut)

pub end_stripped : (p s : List ℕ) (r : Option (Bor (List ℕ))) (whole : Bor (List ℕ)) → whole.now ≡ s
    → MatchOption r (FindsTextSuffix p s None) (λ x. StripsSuffix (FindsTextSuffix p) s x.now) → (unwrap_or r whole).now ≡ without_end_mark p s
end_stripped p s None whole e lacks = e ∙ sym (end_kept p s lacks)
end_stripped p s (Some x) whole e (n, found, cut, sizes) = sym (end_taken p s x.now n found cut)
