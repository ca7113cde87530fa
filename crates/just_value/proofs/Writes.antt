-- Writing a sentence word by word.
use Rattle.std.proofs.Common.{◌≡◌, ℕ, suc, ◌+◌, List, [], ◌∷◌, ◌++◌, length, Option, Some, None, IfSome, Result, IsOk, option_map, option_and_then, sym, refl}
use Rattle.std.proofs.Common.{ap, ◌∙◌, arith, add-zero, zero-add}
use Rattle.std.specs.Fmt.{HasWrittenStyled, IsFlush, DisplaysStyledOnOk, ◌++?◌}
use Rattle.std.specs.declared.fmt.Error.{Error}
use Rattle.std.specs.declared.fmt.Formatter.{Formatter}
use Rattle.std.proofs.Output.{has_written_styled_append, has_written_styled_of_eq}
use Rattle.std.proofs.lemmas.List.{append_assoc, append-nil}
use Rattle.just_value.specs.Prelude.{before, listed, listed_from, outputs}

-- a text added to others, if all are specified
abbrev pushed : Option (List (List ℕ)) → Option (List ℕ) → Option (List (List ℕ))
pushed texts text = option_and_then (λ ts. option_map (λ t. ts ++ t ∷ []) text) texts

one : (o : Option (List ℕ)) → option_and_then (λ t. option_map (λ ts. t ∷ ts) (Some [])) o ≡ pushed (Some []) o
one None = refl
one (Some t) = refl

cons_pushed : (s : List ℕ) (a : Option (List (List ℕ))) (b : Option (List ℕ)) → option_map (λ ts. s ∷ ts) (pushed a b) ≡ pushed (option_map (λ ts. s ∷ ts) a) b
cons_pushed s None b = refl
cons_pushed s (Some ts) None = refl
cons_pushed s (Some ts) (Some t) = refl

first : (o : Option (List ℕ)) (a : Option (List (List ℕ))) (b : Option (List ℕ)) → option_and_then (λ s. option_map (λ ts. s ∷ ts) (pushed a b)) o
    ≡ pushed (option_and_then (λ s. option_map (λ ts. s ∷ ts) a) o) b
first None a b = refl
first (Some s) a b = cons_pushed s a b

outputs_push : {T : Type 0} (output : T → Option (List ℕ)) (xs : List T) (x : T) → outputs output (xs ++ x ∷ []) ≡ pushed (outputs output xs) (output x)
outputs_push output [] x = one (output x)
outputs_push output (y ∷ ys) x =
    ap (λ a. option_and_then (λ s. option_map (λ ts. s ∷ ts) a) (output y)) (outputs_push output ys x) ∙ first (output y) (outputs output ys) (output x)

-- the words so far and one more
listed_push : (c : List ℕ) (n at : ℕ) (ts : List (List ℕ)) (t : List ℕ)
    → listed_from c n at (ts ++ t ∷ []) ≡ listed_from c n at ts ++ (before c n (at + length ts) ++ t)
listed_push c n at [] t = rw add-zero (append-nil (before c n at ++ t))
listed_push c n at (s ∷ ts) t =
    let e : at + 1 + length ts ≡ at + suc (length ts) = omega arith in
    ap (λ l. (before c n at ++ s) ++ l) (listed_push c n (at + 1) ts t)
    ∙ rw e (sym (append_assoc (before c n at ++ s) (listed_from c n (at + 1) ts) (before c n (at + suc (length ts)) ++ t)))

many_first : (o : Option (List ℕ)) (a : Option (List (List ℕ))) (k : ℕ) → IfSome a (λ ts. length ts ≡ k)
    → IfSome (option_and_then (λ s. option_map (λ ts. s ∷ ts) a) o) (λ ts. length ts ≡ suc k)
many_first None a k len = tt
many_first (Some s) None k len = tt
many_first (Some s) (Some ts) k len = ap suc len

many : {T : Type 0} (output : T → Option (List ℕ)) (xs : List T) → IfSome (outputs output xs) (λ ts. length ts ≡ length xs)
many output [] = refl
many output (x ∷ xs) = many_first (output x) (outputs output xs) (length xs) (many output xs)

-- a write of three texts and a fourth whose output may be unspecified
pub from_write : {W : Type 0} (took : W → List ℕ → W → Type 0) (g h : Formatter W) (r : Result (Unit {0}) Error) → IsOk r → (m w p pre : List ℕ)
    → (m ++ w) ++ p ≡ pre → (o : Option (List ℕ)) → DisplaysStyledOnOk took g r (Some m ++? (Some w ++? (Some p ++? o))) h
    → IfSome o (λ t. IsFlush g → HasWrittenStyled took g (pre ++ t) h)
from_write took g h r ok m w p pre e None wrote = tt
from_write took g h r ok m w p pre e (Some t) wrote =
    λ flush. has_written_styled_of_eq took g _ _ h (sym (append_assoc m w (p ++ t)) ∙ (sym (append_assoc (m ++ w) p t) ∙ ap (λ l. l ++ t) e)) (wrote flush ok)

finish_at : {W : Type 0} (took : W → List ℕ → W → Type 0) (f g : Formatter W) (r : Result (Unit {0}) Error) (c : List ℕ) (a : Option (List (List ℕ))) (k : ℕ)
    → IfSome a (λ ts. length ts ≡ k) → (IsFlush f → IfSome a (λ ts. HasWrittenStyled took f (listed_from c k 0 ts) g))
    → DisplaysStyledOnOk took f r (option_map (listed c) a) g
finish_at took f g r c None k len done = tt
finish_at took f g r c (Some ts) k len done = λ flush ok. rw len (done flush)

-- all the words
pub finish : {W T : Type 0} (took : W → List ℕ → W → Type 0) (f g : Formatter W) (r : Result (Unit {0}) Error) (c : List ℕ) (output : T → Option (List ℕ))
    (xs : List T) → (IsFlush f → IfSome (outputs output xs) (λ ts. HasWrittenStyled took f (listed_from c (length xs) 0 ts) g))
    → DisplaysStyledOnOk took f r (option_map (listed c) (outputs output xs)) g
finish took f g r c output xs done = finish_at took f g r c (outputs output xs) (length xs) (many output xs) done

module _ {W : Type 0} (took : W → List ℕ → W → Type 0) (f g h : Formatter W) (c : List ℕ) (n : ℕ) where
  pushed_written : (a : Option (List (List ℕ))) (b : Option (List ℕ)) (k : ℕ) → IfSome a (λ ts. length ts ≡ k)
      → IfSome a (λ ts. HasWrittenStyled took f (listed_from c n 0 ts) g) → IfSome b (λ t. IsFlush g → HasWrittenStyled took g (before c n k ++ t) h)
      → IfSome (pushed a b) (λ ts. HasWrittenStyled took f (listed_from c n 0 ts) h)
  pushed_written None b k len done now = tt
  pushed_written (Some ts) None k len done now = tt
  pushed_written (Some ts) (Some t) k len done now =
      has_written_styled_of_eq took f _ _ h (ap (λ i. listed_from c n 0 ts ++ (before c n i ++ t)) (sym len ∙ sym (zero-add (length ts)))
      ∙ sym (listed_push c n 0 ts t)) (has_written_styled_append took f _ g _ h done (now done.flush))

  pub step : {T : Type 0} (output : T → Option (List ℕ)) (xs : List T) (x : T)
      → IfSome (outputs output xs) (λ ts. HasWrittenStyled took f (listed_from c n 0 ts) g)
      → IfSome (output x) (λ t. IsFlush g → HasWrittenStyled took g (before c n (length xs) ++ t) h)
      → IfSome (outputs output (xs ++ x ∷ [])) (λ ts. HasWrittenStyled took f (listed_from c n 0 ts) h)
  step output xs x done now = rw outputs_push (pushed_written (outputs output xs) (output x) (length xs) (many output xs) done now)
