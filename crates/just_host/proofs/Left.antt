-- Partial runs over a list: elements are produced in order, each from the value of an interaction tree.
use Rattle.std.proofs.Common.{List, [], ◌++◌, refl, ap, sym, subst, Option, Some, None, ◌≡◌}
use Rattle.std.proofs.lemmas.List.{append-nil, append_assoc}
use Rattle.just_host.specs.Prelude.{Behaves, Gave, Outcome, Refusal, Refused, Rules, Step, Stopped, Tree, bind, gives, unchecked, without_value}
use Rattle.just_interaction.proofs.Paths.{runs_on, runs_ends, runs_gives, runs_stopped}

-- the outcome, f applied to its value: f prepends what is already done
abbrev pub mapped_outcome : {A B : Type 0} → (A → B) → Outcome A → Outcome B
mapped_outcome f (Gave a) = Gave (f a)
mapped_outcome f (Refused r) = Refused r
mapped_outcome f Stopped = Stopped

after_ended : {A B : Type 0} (f : A → B) (e : Option Refusal) → mapped_outcome f (without_value e) ≡ without_value e
after_ended f (Some r) = refl
after_ended f None = refl

-- one more element, and then the rest
after_next : {X : Type 0} (made more : List X) (o : Outcome (List X)) → mapped_outcome (λ xs. made ++ xs) (mapped_outcome (λ xs. more ++ xs) o)
    ≡ mapped_outcome (λ xs. (made ++ more) ++ xs) o
after_next made more (Gave xs) = ap Gave (sym (append_assoc made more xs))
after_next made more (Refused r) = refl
after_next made more Stopped = refl

after_nothing : {X : Type 0} (o : Outcome (List X)) → mapped_outcome (λ xs. [] ++ xs) o ≡ o
after_nothing (Gave xs) = refl
after_nothing (Refused r) = refl
after_nothing Stopped = refl

-- The list `made` so far and the remaining tree `left`: if a run of `left` from here ends with an outcome, a run of the
-- whole ends with it, `made` prepended.
abbrev pub Left : {S X : Type 0} → Rules → Step S → Tree (List X) → S → Tree (List X) → S → List X → Type 0
Left {S} {X} by step whole start left here made =
    (o : Outcome (List X)) (new : S) → Behaves by step unchecked here left o new
    → Behaves by step unchecked start whole (mapped_outcome (λ xs. made ++ xs) o) new

module _ {rules : Rules} {S : Type 0} {step : Step S} where
  -- a value, and then the rest, to which f adds the value
  runs_more : {V A B : Type 0} {old mid new : S} (first : Tree V) (rest : Tree A) (v : V) (f : V → A → B) (o : Outcome A)
      → Behaves rules step unchecked old first (Gave v) mid → Behaves rules step unchecked mid rest o new
      → Behaves rules step unchecked old (bind first (λ v. bind rest (λ a. gives (f v a)))) (mapped_outcome (f v) o) new
  runs_more first rest v f (Gave a) r q = runs_on first _ r (runs_on rest (λ a. gives (f v a)) q (runs_gives (f v a)))
  runs_more first rest v f (Refused s) r q = runs_on first _ r (runs_ends rest (λ a. gives (f v a)) (Some s) q)
  runs_more first rest v f Stopped r q = runs_on first _ r (runs_ends rest (λ a. gives (f v a)) None q)

  module _ {X : Type 0} (whole : Tree (List X)) where
    pub left_all : {h : S} → Left rules step whole h whole h []
    left_all {h = h} o new r = subst (λ x. Behaves rules step unchecked h whole x new) (sym (after_nothing o)) r

    pub left_none : {start here : S} (made : List X) → Left rules step whole start (gives []) here made
        → Behaves rules step unchecked start whole (Gave made) here
    left_none {start = start} {here = here} made left =
        subst (λ xs. Behaves rules step unchecked start whole (Gave xs) here) (append-nil made) (left (Gave []) here (runs_gives []))

    -- a first tree, whose value gives some elements, and more
    module _ {V : Type 0} {start here : S} (first : Tree V) (more : Tree (List X)) (f : V → List X) (made : List X)
        (rest : Left rules step whole start (bind first (λ v. bind more (λ xs. gives (f v ++ xs)))) here made) where
      pub left_next : {mid : S} (v : V) → Behaves rules step unchecked here first (Gave v) mid → Left rules step whole start more mid (made ++ f v)
      left_next v r o new q = subst (λ x. Behaves rules step unchecked start whole x new) (after_next made (f v) o)
          (rest (mapped_outcome (λ xs. f v ++ xs) o) new (runs_more first more v (λ v xs. f v ++ xs) o r q))

      -- the first tree ends without a value
      pub left_ends : {new : S} (e : Option Refusal) → Behaves rules step unchecked here first (without_value e) new
          → Behaves rules step unchecked start whole (without_value e) new
      left_ends {new = new} e r =
          subst (λ x. Behaves rules step unchecked start whole x new) (after_ended (λ xs. made ++ xs) e) (rest (without_value e) new (runs_ends first _ e r))

      -- memory runs out after the first tree's value
      pub left_cut : {new : S} (v : V) → Behaves rules step unchecked here first (Gave v) new → Behaves rules step unchecked start whole Stopped new
      left_cut {new = new} v r = rest Stopped new (runs_on first _ r (runs_stopped _))
