-- Assignments with the overrides in place of the expressions that they override.
use Rattle.std.proofs.Common.{◌≡◌, inl, inr, ℕ, List, [], ◌∷◌, map, Option, Some, None, option_map, refl, ap, sym, subst, ◌∙◌}
use Rattle.just_syntax.specs.Keyed.{value_at}
use Rattle.just_syntax.specs.Plain.{Text, Token, Assignment, Expr, Function, StringLiteral, Literal}
use Rattle.just_syntax.proofs.Tables.{seen_at}
use Rattle.just_value.specs.Frames.{Frames}
use Rattle.just_meaning.specs.Assignments.{Assignments, assignment_at}
use Rattle.just_meaning.specs.Module.{Module, IsResolvedModule, IsResolvedRun, overridden, with_override, with_overrides}
use Rattle.just_meaning.specs.Reaches.{Here, Later, Reaches, Reads}
use Rattle.just_meaning.specs.Resolved.{AllKnown, AreAssignments, AreInOrder, IsResolved, MentionsKnown, with_taken}

-- a literal reads nothing
none_reached : {functions : List Function} {literal : Literal} {name : Text} → Reaches functions (StringLiteral literal) name → ⊥
none_reached (Here n occurs) = occurs
none_reached (Later name n occurs f found rest) = occurs

pub none_read : {functions : List Function} {literal : Literal} {n : ℕ} → Reads functions (StringLiteral literal) n → ⊥
none_read (inl occurs) = occurs
none_read (inr beyond) = none_reached beyond.reached

module _ (overrides : ℕ → Option Text) where
  -- the numbers are the same
  pub same_numbers : (all : List Assignment) → map (λ a. a.number) (map (with_override overrides) all) ≡ map (λ a. a.number) all
  same_numbers [] = refl
  same_numbers (a ∷ all) = ap (λ ns. a.number ∷ ns) (same_numbers all)

  -- what is found by name is the same but for its value
  pub found_after : (all : List Assignment) (name : Text) → value_at (λ a. a.name.lexeme) name (map (with_override overrides) all)
      ≡ option_map (with_override overrides) (value_at (λ a. a.name.lexeme) name all)
  found_after all name = seen_at (with_override overrides) (λ a. a.name.lexeme) name all

  -- it is that of an assignment
  pub found_before : (o : Option Assignment) (b : Assignment) → option_map (with_override overrides) o ≡ Some b
      → (a : Assignment) × (o ≡ Some a) × (with_override overrides a ≡ b)
  found_before None b is = let bad : None ≡ Some b = is in absurd (cc)
  found_before (Some a) b is = (a, refl, let same : with_override overrides a ≡ b = cc in same)

  -- what it reads, the assignment reads without its override
  pub read_before : (functions : List Function) (o : Option Text) (e : Expr) (n : ℕ) → Reads functions (overridden o e) n
      → (o ≡ None) × Reads functions e n
  read_before functions None e n reads = (refl, reads)
  read_before functions (Some text) e n reads = absurd (none_read reads)

  -- an override mentions nothing
  known_value : (functions : List Function) (o : Option Text) (e : Expr) → MentionsKnown functions e → MentionsKnown functions (overridden o e)
  known_value functions None e known = known
  known_value functions (Some text) e known = λ x occurs. absurd occurs

  pub known_values : (functions : List Function) (all : List Assignment) → AllKnown functions (map (λ a. a.value) all)
      → AllKnown functions (map (λ a. a.value) (map (with_override overrides) all))
  known_values functions [] known = tt
  known_values functions (a ∷ all) known = (known_value functions (overrides a.number) a.value known.0, known_values functions all known.1)

  module _ (assignments : Assignments) where
    pub named_after : (names : List Token) → AreAssignments assignments names → AreAssignments (with_overrides overrides assignments) names
    named_after [] named = tt
    named_after (t ∷ names) named = (
      (with_override overrides named.0.0, found_after assignments.all t.lexeme ∙ ap (option_map (with_override overrides)) named.0.1),
      named_after names named.1,
    )

    taken_same : (o : Option Assignment) (taken : List ℕ)
        → with_taken (with_overrides overrides assignments) (option_map (with_override overrides) o) taken ≡ with_taken assignments o taken
    taken_same None taken = refl
    taken_same (Some a) taken = refl

    pub taken_after : (t : Token) (taken : List ℕ)
        → with_taken (with_overrides overrides assignments) (assignment_at (with_overrides overrides assignments) t.lexeme) taken
        ≡ with_taken assignments (assignment_at assignments t.lexeme) taken
    taken_after t taken = ap (λ o. with_taken (with_overrides overrides assignments) o taken) (found_after assignments.all t.lexeme)
        ∙ taken_same (assignment_at assignments t.lexeme) taken

    order_after : (functions : List Function) (outer : Frames) (taken : List ℕ) (left : List Token) → AreInOrder functions assignments outer taken left
        → AreInOrder functions (with_overrides overrides assignments) outer taken left
    order_after functions outer taken [] h = tt
    order_after functions outer taken (t ∷ left) h = (
      (λ b found referenced n reads.
          let a = found_before (assignment_at assignments t.lexeme) b (sym (found_after assignments.all t.lexeme) ∙ found) in
          let here : Reads functions (with_override overrides a.0).value n = subst (λ (c : Assignment). Reads functions c.value n) (sym a.2) reads in
          h.0 a.0 a.1 (ap (λ (c : Assignment). assignments.referenced c.number) a.2 ∙ referenced) n
          (read_before functions (overrides a.0.number) a.0.value n here).1),
      subst (λ now. AreInOrder functions (with_overrides overrides assignments) outer now left) (sym (taken_after t taken))
          (order_after functions outer (with_taken assignments (assignment_at assignments t.lexeme) taken) left h.1),
    )

    -- what is resolved stays resolved when some of it is overridden
    pub stays_resolved : (functions : List Function) (outer : Frames) → IsResolved functions assignments outer
        → IsResolved functions (with_overrides overrides assignments) outer
    stays_resolved functions outer r = record {
      distinct = rw (same_numbers assignments.all) r.distinct;
      unbound = r.unbound;
      values = known_values functions assignments.all r.values;
      bodies = r.bodies;
      named = named_after assignments.order r.named;
      in_order = order_after functions outer [] assignments.order r.in_order;
    }

-- a run of a resolved module is resolved
pub resolved_run : (m : Module) (outer : Frames) → IsResolvedModule m outer → IsResolvedRun m outer
resolved_run m outer = stays_resolved m.overrides m.assignments m.program.functions outer
