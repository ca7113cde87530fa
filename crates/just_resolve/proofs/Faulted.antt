-- The first fault of a renumbered module whose assignments are sorted.
use Rattle.std.proofs.Common.{◌≡◌, ◌⊎◌, inl, inr, ⊎_elim, ℕ, List, [], ◌∷◌, ◌++◌, map, Option, Some, None, refl, ap, sym, ◌∙◌, subst}
use Rattle.std.proofs.Common.{option_map}
use Rattle.std.specs.List.{AllByRecursion}
use Rattle.just_syntax.specs.Occurrences.{CallAt, CommandAt, Occurrence, VariableAt, VariableOf, all_occurrences, mention_of, occurrences_in}
use Rattle.just_syntax.proofs.Lists.{in_append, in_map}
use Rattle.just_syntax.proofs.Occurring.{some_occurs}
use Rattle.just_value.specs.Value.{Value}
use Rattle.just_meaning.specs.Assignments.{Assignments}
use Rattle.just_meaning.specs.Reaches.{IsAmong, Occurs, Reads}
use Rattle.just_meaning.specs.Resolved.{with_taken}
use Rattle.just_resolution.specs.Fault.{CheckedPlace, IsFaulty, IsFirstFault, IsSound, IsTakenOrBound, ModuleFault, NameOf}
use Rattle.just_resolution.specs.Fault.{OccurrenceOf, ParameterOf, name_places}
use Rattle.just_resolution.specs.Fault.{number_places, numbered_parameters, occurrence_places, parameter_places, places}
use Rattle.just_resolution.specs.First.{IsFirstFaulty}
use Rattle.just_resolution.specs.Unreadable.{IsFirstUnreadable, IsUnreadable, IsUnreadableAt, MayBeRead}
use Rattle.just_resolution.proofs.Faults.{all_numbers, numbers_of}
use Rattle.just_resolve.specs.Prelude.{AreDistinct, AreFoundByName, AreSorted, Assignment, DependsOn, DependsOnItself, Expr, Frames, Function, HasValue}
use Rattle.just_resolve.specs.Prelude.{IsIn, IsOfCycle, IsOfMention, IsRenumbered, IsSortedOrder, PlainNode, Token, bound_names, graph_of}
use Rattle.just_resolve.specs.Prelude.{numbered_assignments, ordered, parameter_numbers, read_by, value_in}
use Rattle.just_resolve.proofs.Depending.{depends}
use Rattle.just_resolve.proofs.Mentions.{mention_is}
use Rattle.just_resolve.proofs.Numbering.{free_distinct, free_unbound}
use Rattle.just_resolve.proofs.Reading.{reads_given}

-- the faulty one of some items
first_at : {X : Type 0} (sound faulty : X → Type 0) (xs : List X) → IsFirstFaulty sound faulty xs → (x : X) × IsIn xs x × faulty x
first_at sound faulty [] h = absurd h
first_at sound faulty (x ∷ xs) h =
    ⊎_elim (λ k. (x, inl refl, k)) (λ k. let r = first_at sound faulty xs k.1 in (r.0, inr r.1, r.2)) h

-- ---- variables that may not be read

not_readable : (readable : ℕ → Type 0) (o : Occurrence) → (MayBeRead readable o → ⊥) → (n : ℕ) × (mention_of o ≡ VariableOf (Some n)) × (readable n → ⊥)
not_readable readable (CommandAt t text) h = absurd (h tt)
not_readable readable (CallAt t n) h = absurd (h tt)
not_readable readable (VariableAt t None) h = absurd (h tt)
not_readable readable (VariableAt t (Some n)) h = (n, refl, h)

unreadable_in : (readable : ℕ → Type 0) (e : Expr) (t : Token) → IsFirstUnreadable readable e t
    → (n : ℕ) × Occurs e (VariableOf (Some n)) × (readable n → ⊥)
unreadable_in readable e t h =
    let o = first_at (MayBeRead readable) (λ r. IsUnreadableAt readable r t) (occurrences_in e) h in
    let n = not_readable readable o.0 o.2.1 in
    (n.0, (some_occurs (λ r. mention_of r ≡ VariableOf (Some n.0)) e).0 (o.0, o.1, n.1), n.2)

-- a variable that is read, by the expression itself or through functions
unreadable_read : (functions : List Function) (readable : ℕ → Type 0) (e : Expr) (t : Token) → IsUnreadable functions readable readable e t
    → (n : ℕ) × Reads functions e n × (readable n → ⊥)
unreadable_read functions readable e t (inl first) = let n = unreadable_in readable e t first in (n.0, inl n.1, n.2)
unreadable_read functions readable e t (inr r) =
    let b = r.1 in
    let n = unreadable_in (λ n. IsAmong b.function.parameters n ⊎ readable n) b.function.body t b.first in (
      n.0,
      inr (record {
        name = b.name;
        function = b.function;
        reached = b.reached;
        found = b.found;
        occurs = n.1;
        beyond = λ own. n.2 (inl own);
      }),
      (λ h. n.2 (inr h)),
    )

not_valued : (o : Option Value) → ((v : Value) × (o ≡ Some v) → ⊥) → o ≡ None
not_valued None h = refl
not_valued (Some v) h = absurd (h (v, refl))

-- ---- faults of variables and calls

module _ (functions : List Function) (assignments : Assignments) (outer : Frames) (f : ModuleFault) where
  abbrev IsFaultAt : CheckedPlace → Type 0
  IsFaultAt place = IsFaulty functions assignments outer place f

  occurrence_is : (es : List Expr) (place : CheckedPlace) → IsIn (occurrence_places es) place → IsFaultAt place → IsOfMention f
  occurrence_is es place there h =
      let o = (in_map OccurrenceOf (all_occurrences es) place).0 there in
      mention_is functions o.0 f (subst IsFaultAt (sym o.2) h)

  -- no number occurs twice
  number_is : (earlier : List ℕ) (ps : List (Token × ℕ)) → AreDistinct (map (λ p. p.1) ps)
      → ((n : ℕ) → IsIn earlier n → IsIn (map (λ p. p.1) ps) n → ⊥) → (place : CheckedPlace) → IsIn (number_places earlier ps) place → IsFaultAt place → ⊥
  number_is earlier [] distinct apart place there h = there
  number_is earlier (p ∷ ps) distinct apart place (inl same) h = let k = subst IsFaultAt (sym same) h in apart p.1 k.1 (inl refl)
  number_is earlier (p ∷ ps) distinct apart place (inr later) h =
      number_is (p.1 ∷ earlier) ps distinct.1
      (λ n k there. ⊎_elim (λ e. distinct.0 (subst (λ j. IsIn (map (λ (q : Token × ℕ). q.1) ps) j) (sym e) there)) (λ j. apart n j (inr there)) k)
      place later h

  -- no parameter is bound outside
  parameter_is : (ps : List (Token × ℕ)) → ((n : ℕ) → IsIn (map (λ p. p.1) ps) n → HasValue (value_in outer) n → ⊥) → (place : CheckedPlace)
      → IsIn (parameter_places ps) place → IsFaultAt place → ⊥
  parameter_is ps unbound place there h =
      let p = (in_map (λ (p : Token × ℕ). ParameterOf p.0 p.1) ps place).0 there in
      let k = subst IsFaultAt (sym p.2) h in
      unbound p.0.1 ((in_map (λ (p : Token × ℕ). p.1) ps p.0.1).1 (p.0, p.1, refl)) k.1

-- ---- faults of the order

module _ (functions : List Function) (all : List Assignment) (outer : Frames) (order : List Token) (f : ModuleFault) (found : AreFoundByName all)
    (given : (b : Assignment) (n : ℕ) → IsIn all b → Reads functions b.value n → IsIn (map (λ a. a.number) all) n ⊎ HasValue (value_in outer) n) where
  abbrev assignments : Assignments
  assignments = ordered all order

  abbrev graph_reads : PlainNode → List PlainNode
  graph_reads = read_by (graph_of functions all outer)

  -- an assignment reads a variable that is not taken before it
  taken_is : (taken : List ℕ) (m : Assignment) → IsIn all m
      → ((n : ℕ) → DependsOn graph_reads m.number n → IsIn taken n ⊎ DependsOn graph_reads m.number m.number)
      → IsFaulty functions assignments outer (NameOf m.name taken) f → IsOfCycle functions all outer f
  taken_is taken m there sorted (inl u) =
      absurd (let bad : None ≡ Some m = sym u.1 ∙ found m there in cc)
  taken_is taken m there sorted (inr r) =
      let same : r.0 ≡ m = (let both : Some r.0 ≡ Some m = sym r.1 ∙ found m there in let e : r.0 ≡ m = cc in e) in
      let u = unreadable_read functions (IsTakenOrBound outer taken) r.0.value r.3.0 r.3.2 in
      let read = subst (λ (a : Assignment). Reads functions a.value u.0) same u.1 in
      let number = ⊎_elim {C = IsIn (map (λ (a : Assignment). a.number) all) u.0} (λ k. k) (λ k. absurd (u.2 (inr k))) (given m u.0 there read) in
      let none = not_valued (value_in outer u.0) (λ k. u.2 (inr k)) in
      let itself = ⊎_elim {C = DependsOn graph_reads m.number m.number} (λ k. absurd (u.2 (inl k))) (λ k. k)
      (sorted u.0 (depends functions all outer m u.0 there read (number, none))) in (
        r.0.name,
        r.3.0,
        r.3.1,
        subst (λ (a : Assignment). DependsOnItself functions all outer a.name.lexeme) (sym same)
            (m.number, ap (option_map (λ (b : Assignment). b.number)) (found m there), itself),
      )

  -- the names of sorted assignments
  name_is : (taken : List ℕ) (ms : List Assignment) → AllByRecursion (IsIn all) ms → AreSorted graph_reads taken (map (λ a. a.number) ms)
      → (place : CheckedPlace)
      → IsIn (name_places assignments taken (map (λ a. a.name) ms)) place → IsFaulty functions assignments outer place f → IsOfCycle functions all outer f
  name_is taken [] known sorted place there h = absurd there
  name_is taken (m ∷ ms) known sorted place (inl same) h =
      taken_is taken m known.0 sorted.0 (subst (λ p. IsFaulty functions assignments outer p f) (sym same) h)
  name_is taken (m ∷ ms) known sorted place (inr later) h =
      name_is (m.number ∷ taken) ms known.1 sorted.1 place
      (subst (λ o. IsIn (name_places assignments (with_taken assignments o taken) (map (λ (a : Assignment). a.name) ms)) place) (found m known.0) later) h

-- ---- the first fault

module _ (outer : Frames) (functions functions' : List Function) (assignments all : List Assignment)
    (renumbered : IsRenumbered outer functions assignments functions' all)
    (bound : (n : ℕ) → IsIn (map (λ p. p.1) (bound_names outer)) n → HasValue (value_in outer) n) where
  abbrev numbers : List ℕ
  numbers = map (λ a. a.number) all ++ parameter_numbers functions'

  distinct : AreDistinct numbers
  distinct = free_distinct outer 0 numbers renumbered.numbers

  unbound : (n : ℕ) → IsIn (parameter_numbers functions') n → HasValue (value_in outer) n → ⊥
  unbound n h =
      free_unbound outer 0 numbers n renumbered.numbers ((in_append (map (λ (a : Assignment). a.number) all) (parameter_numbers functions') n).1 (inr h))

  -- it is one of a variable or of a call, or it is due to an assignment that depends on itself
  pub fault_is : (order : List Token) (f : ModuleFault) → AreFoundByName all → IsSortedOrder functions' all outer order
      → IsFirstFault functions' (ordered all order) outer f → IsOfMention f ⊎ IsOfCycle functions' all outer f
  fault_is order f found sorted first =
      let m = ordered all order in
      let ps = numbered_parameters functions' in
      let second = λ (p : Token × ℕ). p.1 in
      let number_list = number_places [] (numbered_assignments all ++ ps) in
      let parameter_list = parameter_places ps in
      let value_list = occurrence_places (map (λ (a : Assignment). a.value) all) in
      let body_list = occurrence_places (map (λ (g : Function). g.body) functions') in
      let name_list = name_places m [] order in
      let has = sorted.named in
      let at = first_at (IsSound functions' m outer) (λ place. IsFaulty functions' m outer place f) (places functions' m) first in
      let place = at.0 in
      let all_distinct = subst AreDistinct
      (sym (all_numbers all ps ∙ ap (λ ns. map (λ (a : Assignment). a.number) all ++ ns) (numbers_of functions'))) distinct in
      let none_bound = λ (n : ℕ) (h : IsIn (map second ps) n). unbound n (subst (λ ns. IsIn ns n) (numbers_of functions') h) in
      let given = reads_given outer functions functions' assignments all renumbered bound in
      ⊎_elim
      (λ k. ⊎_elim
      (λ k. absurd (number_is functions' m outer f [] (numbered_assignments all ++ ps) all_distinct (λ n bad there. bad) place k at.2))
      (λ k. absurd (parameter_is functions' m outer f ps none_bound place k at.2))
      ((in_append number_list parameter_list place).0 k))
      (λ k. ⊎_elim
      (λ k. inl (occurrence_is functions' m outer f (map (λ (a : Assignment). a.value) all) place k at.2))
      (λ k. ⊎_elim
      (λ k. inl (occurrence_is functions' m outer f (map (λ (g : Function). g.body) functions') place k at.2))
      (λ k. inr (name_is functions' all outer order f found given [] has.members has.known
      (subst (AreSorted (read_by (graph_of functions' all outer)) []) (sym has.numbered) sorted.sorted) place
      (subst (λ names. IsIn (name_places m [] names) place) (sym has.named) k) at.2))
      ((in_append body_list name_list place).0 k))
      ((in_append value_list (body_list ++ name_list) place).0 k))
      ((in_append (number_list ++ parameter_list) (value_list ++ (body_list ++ name_list)) place).0 at.1)
