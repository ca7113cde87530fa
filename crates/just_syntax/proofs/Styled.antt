-- What is written with the options of a formatter, and without options.
use Rattle.std.proofs.Common.{◌≡◌, ℕ, List, [], ◌∷◌, ◌++◌, Option, Some, None, Result, Ok, Err, OnOk, refl, sym, subst, ◌∙◌, rules}
use Rattle.std.specs.List.{FoldsTo, concat}
use Rattle.std.specs.declared.fmt.Error.{Error}
use Rattle.std.specs.declared.fmt.Formatter.{Formatter}
use Rattle.std.specs.Fmt.{DisplaysOnOk, DisplaysStyledOnOk, HasWritten, HasWrittenStyled, IsDefaultSpec, IsFlush, IsPlainFormatter, WritesText}
use Rattle.std.proofs.Output.{has_written_styled_append, has_written_styled_nil, has_written_styled_of_eq}
use Rattle.std.proofs.lemmas.List.{append_assoc}
use Rattle.just_syntax.specs.declared.unstyled.Unstyled.{Unstyled}

module _ {W : Type 0} (took : W → List ℕ → W → Type 0) where
  -- what is written for all options is written without options too
  pub plain_of_styled : (f : Formatter W) (bs : List ℕ) (g : Formatter W) → IsPlainFormatter f → HasWrittenStyled took f bs g → HasWritten took f bs g
  plain_of_styled f bs g plain written = record {
    wrote = written.wrote;
    plain = record { bare = subst IsDefaultSpec (sym written.spec) plain.bare; flush = written.flush };
  }

  -- the same for the whole of what is displayed
  pub displays_plain : (f g : Formatter W) (r : Result (Unit {0}) Error) (o : Option (List ℕ)) → DisplaysStyledOnOk took f r o g → DisplaysOnOk took f r o g
  displays_plain f g r None styled = tt
  displays_plain f g r (Some bs) styled = λ plain ok. plain_of_styled f bs g plain (styled plain.flush ok)

  -- two to five writes in a row, as one
  pub styled_two : (f g h : Formatter W) (a b all : List ℕ) → HasWrittenStyled took f a g → HasWrittenStyled took g b h → a ++ b ≡ all
      → HasWrittenStyled took f all h
  styled_two f g h a b all p q is = has_written_styled_of_eq took _ _ all _ is (has_written_styled_append took _ _ _ _ _ p q)

  pub styled_three : (f g h i : Formatter W) (a b c all : List ℕ) → HasWrittenStyled took f a g → HasWrittenStyled took g b h → HasWrittenStyled took h c i
      → a ++ (b ++ c) ≡ all → HasWrittenStyled took f all i
  styled_three f g h i a b c all p q r is = styled_two f g i a (b ++ c) all p (has_written_styled_append took _ _ _ _ _ q r) is

  pub styled_four : (f g h i j : Formatter W) (a b c d all : List ℕ) → HasWrittenStyled took f a g → HasWrittenStyled took g b h → HasWrittenStyled took h c i
      → HasWrittenStyled took i d j → a ++ (b ++ (c ++ d)) ≡ all → HasWrittenStyled took f all j
  styled_four f g h i j a b c d all p q r s is = styled_three f g h j a b (c ++ d) all p q (has_written_styled_append took _ _ _ _ _ r s) is

  pub styled_five : (f g h i j k : Formatter W) (a b c d e all : List ℕ) → HasWrittenStyled took f a g → HasWrittenStyled took g b h
      → HasWrittenStyled took h c i → HasWrittenStyled took i d j → HasWrittenStyled took j e k → a ++ (b ++ (c ++ (d ++ e))) ≡ all
      → HasWrittenStyled took f all k
  styled_five f g h i j k a b c d e all p q r s t is = styled_four f g h i k a b c (d ++ e) all p q r (has_written_styled_append took _ _ _ _ _ s t) is

  -- what one call writes to the inner formatter
  abbrev Took : Unstyled W → List ℕ → Unstyled W → Type 0
  Took s bs t = (t.inner.ghost_name ≡ s.inner.ghost_name) × (IsFlush s.inner.now → HasWrittenStyled took s.inner.now bs t.inner.now)

  unstyled_calls : (s : Unstyled W) (xs : List (List ℕ)) (t : Unstyled W) → FoldsTo Took s xs t → Took s (concat xs) t
  unstyled_calls s [] t p = subst (Took s []) p (refl, has_written_styled_nil took s.inner.now)
  unstyled_calls s (x ∷ xs) t p =
      let rest = unstyled_calls p.0 xs t p.2 in (
        rest.0 ∙ p.1.0,
        λ flush. has_written_styled_append took _ _ _ _ _ (p.1.1 flush) (rest.1 (p.1.1 flush).flush),
      )

  -- calls on the inner formatter, which is g once the loan ends
  pub displays_unstyled : (s t : Unstyled W) (g : Formatter W) (r : Result (Unit {0}) Error) (o : Option (List ℕ))
      → (t.inner.ghost_name ≡ s.inner.ghost_name → g ≡ t.inner.now) → OnOk r (WritesText Took s o t)
      → DisplaysStyledOnOk took s.inner.now r o g
  displays_unstyled s t g r None back written = tt
  displays_unstyled s t g (Ok x) (Some bs) back written =
      let all = unstyled_calls s written.parts t written.calls in
      λ flush ok. has_written_styled_of_eq took _ _ _ _ written.whole
      (subst (HasWrittenStyled took s.inner.now (concat written.parts)) (sym (back all.0)) (all.1 flush))
  displays_unstyled s t g (Err e) (Some bs) back written = λ flush ok. search rules

pub ruleset styled_steps = (styled_two, styled_three, styled_four, styled_five, append_assoc)
