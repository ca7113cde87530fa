-- A path of a walk as a cycle of assignments.
use Rattle.std.proofs.Common.{◌≡◌, inl, inr, ⊎_elim, ℕ, not, ◌&&◌, List, [], ◌∷◌, map, Option, Some, None, IsTrue, refl, ap, sym, ◌∙◌, subst}
use Rattle.std.specs.List.{AllByRecursion}
use Rattle.std.proofs.lemmas.Bool.{and_parts}
use Rattle.just_meaning.specs.Reaches.{Reaches, Here, Reads, function_at}
use Rattle.just_meaning.proofs.Reached.{reaches_on}
use Rattle.just_needs.specs.Graph.{PlainGraph, nodes_in, owns, read_by_body, values_numbered}
use Rattle.just_needs.proofs.Needing.{in_all, in_values, not_both}
use Rattle.just_needs.proofs.Nodes.{function_in, listed, variable_in}
use Rattle.just_resolve.specs.Prelude.{AreDistinct, Assignment, Function, HasNames, IsCycle, IsIn, IsPathBack, IsRing, OfFunction, OfVariable, PlainNode}
use Rattle.just_resolve.specs.Prelude.{ReadInTurn, Text, Token, read_by, variables_in}
use Rattle.just_resolve.specs.Walk.{AreReadInTurn}
use Rattle.just_resolve.proofs.Stepping.{read_followed}

-- of distinct numbers each has one assignment
number_there : (all : List Assignment) (b : Assignment) → IsIn all b → IsIn (map (λ (a : Assignment). a.number) all) b.number
number_there [] b h = absurd h
number_there (a ∷ all) b (inl same) = inl (ap (λ (x : Assignment). x.number) same)
number_there (a ∷ all) b (inr later) = inr (number_there all b later)

pub one_assignment : (all : List Assignment) (a b : Assignment) → AreDistinct (map (λ (a : Assignment). a.number) all) → IsIn all a → IsIn all b
    → a.number ≡ b.number → a ≡ b
one_assignment [] a b d h k e = absurd h
one_assignment (x ∷ all) a b d (inl p) (inl q) e = sym p ∙ q
one_assignment (x ∷ all) a b d (inl p) (inr q) e =
    absurd (d.0 (subst (λ n. IsIn (map (λ (a : Assignment). a.number) all) n) (sym e ∙ ap (λ (y : Assignment). y.number) (sym p)) (number_there all b q)))
one_assignment (x ∷ all) a b d (inr p) (inl q) e =
    absurd (d.0 (subst (λ n. IsIn (map (λ (a : Assignment). a.number) all) n) (e ∙ ap (λ (y : Assignment). y.number) (sym q)) (number_there all a p)))
one_assignment (x ∷ all) a b d (inr p) (inr q) e = one_assignment all a b d.1 p q e

module _ (g : PlainGraph) (all : List Assignment) (distinct : AreDistinct (map (λ (a : Assignment). a.number) all))
    (values : (n : ℕ) → g.values n ≡ values_numbered all n) where
  abbrev functions : List Function
  functions = g.functions

  -- the variable itself, or a function that its value reaches
  abbrev IsWithin : Assignment → PlainNode → Type 0
  IsWithin a (OfFunction name) = Reaches functions a.value name
  IsWithin a (OfVariable n) = a.number ≡ n

  -- what the value of an assignment reads
  in_value : (a : Assignment) (n : ℕ) (x : PlainNode) → IsIn all a → a.number ≡ n → IsIn (read_by g (OfVariable n)) x → IsIn (nodes_in g.is_followed a.value) x
  in_value a n x there is h =
      let e = (in_all (nodes_in g.is_followed) (g.values n) x).0 h in
      let b = (in_values all n e.0).0 (subst (λ es. IsIn es e.0) (values n) e.1) in
      let same : b.0 ≡ a = one_assignment all b.0 a distinct b.1 there (b.2 ∙ sym is) in
      subst (λ (c : Assignment). IsIn (nodes_in g.is_followed c.value) x) same (subst (λ d. IsIn (nodes_in g.is_followed d) x) (sym b.3) e.2)

  in_body : (t : Text) (x : PlainNode) (o : Option Function) → function_at functions t ≡ o → IsIn (read_by_body g.is_followed o) x
      → (f : Function) × (function_at functions t ≡ Some f) × IsIn (nodes_in (λ n. g.is_followed n && not (owns f n)) f.body) x
  in_body t x None found h = absurd h
  in_body t x (Some f) found h = (f, found, h)

  -- a variable that is read
  reads_variable : (a : Assignment) (y : PlainNode) (n : ℕ) → IsIn all a → IsWithin a y → IsIn (read_by g y) (OfVariable n) → Reads functions a.value n
  reads_variable a (OfVariable k) n there w h = inl ((variable_in g.is_followed a.value n).0 (in_value a k (OfVariable n) there w h)).0
  reads_variable a (OfFunction t) n there w h =
      let r = in_body t (OfVariable n) (function_at functions t) refl h in
      let read = (variable_in (λ k. g.is_followed k && not (owns r.0 k)) r.0.body n).0 r.2 in
      let both = and_parts (g.is_followed n) (not (owns r.0 n)) read.1 in
      inr (record {
        name = t;
        function = r.0;
        reached = w;
        found = r.1;
        occurs = read.0;
        beyond = λ own. not_both (owns r.0 n) both.1 ((listed (map (λ p. p.1) r.0.parameters) n).1 own);
      })

  -- a function that is called
  reads_function : (a : Assignment) (y : PlainNode) (u : Text) → IsIn all a → IsWithin a y → IsIn (read_by g y) (OfFunction u) → Reaches functions a.value u
  reads_function a (OfVariable k) u there w h =
      let call = (function_in g.is_followed a.value u).0 (in_value a k (OfFunction u) there w h) in Here call.0 call.1
  reads_function a (OfFunction t) u there w h =
      let r = in_body t (OfFunction u) (function_at functions t) refl h in
      let call = (function_in (λ n. g.is_followed n && not (owns r.0 n)) r.0.body u).0 r.2 in
      reaches_on functions r.0 call.0 w r.1 call.1

  in_turn : (n : ℕ) (rest : List PlainNode) (a : Assignment) (y : PlainNode) (ms : List Assignment) → IsIn all a → IsWithin a y
      → AreReadInTurn (read_by g) (OfVariable n) y rest → map (λ (m : Assignment). m.number) ms ≡ variables_in rest → AllByRecursion (IsIn all) ms
      → ReadInTurn functions n a ms
  in_turn n [] a y [] there w h is known = reads_variable a y n there w h
  in_turn n [] a y (m ∷ ms) there w h is known = absurd (cc)
  in_turn n (OfFunction u ∷ rest) a y ms there w h is known =
      in_turn n rest a (OfFunction u) ms there (reads_function a y u there w h.0) h.1 is known
  in_turn n (OfVariable k ∷ rest) a y [] there w h is known = absurd (cc)
  in_turn n (OfVariable k ∷ rest) a y (m ∷ ms) there w h is known =
      let first : m.number ≡ k = cc in
      let others : map (λ (m : Assignment). m.number) ms ≡ variables_in rest = cc in (
        subst (λ j. Reads functions a.value j) (sym first) (reads_variable a y k there w h.0),
        in_turn n rest m (OfVariable k) ms known.0 first h.1 others known.1,
      )

  ring_of : (start : ℕ) (ms : List Assignment) (rest : List PlainNode) → map (λ (m : Assignment). m.number) ms ≡ start ∷ variables_in rest
      → AreReadInTurn (read_by g) (OfVariable start) (OfVariable start) rest → AllByRecursion (IsIn all) ms → IsRing functions ms
  ring_of start [] rest is h known = absurd (cc)
  ring_of start (m ∷ ms) rest is h known =
      let first : m.number ≡ start = cc in
      let others : map (λ (m : Assignment). m.number) ms ≡ variables_in rest = cc in
      subst (λ n. ReadInTurn functions n m ms) (sym first) (in_turn start rest m (OfVariable start) ms known.0 first h others known.1)

  -- the names on a path back to its start
  pub cycle_of : (start : ℕ) (numbers : List ℕ) (names : List Token) → IsPathBack (read_by g) start numbers → HasNames all numbers names
      → IsCycle functions all names
  cycle_of start numbers names back has = record {
    members = has.members;
    named = has.named;
    known = has.known;
    ring = ring_of start has.members back.rest (has.numbered ∙ back.are) back.path has.known;
  }

-- ---- the numbers of a path

followed_on : (g : PlainGraph) (rest : List PlainNode) (x y : PlainNode) (n : ℕ) → AreReadInTurn (read_by g) x y rest → IsIn (variables_in rest) n
    → IsTrue (g.is_followed n)
followed_on g [] x y n h k = absurd k
followed_on g (OfFunction u ∷ rest) x y n h k = followed_on g rest x (OfFunction u) n h.1 k
followed_on g (OfVariable m ∷ rest) x y n h (inl same) =
    subst (λ j. IsTrue (g.is_followed j)) same (read_followed g y m h.0)
followed_on g (OfVariable m ∷ rest) x y n h (inr later) = followed_on g rest x (OfVariable m) n h.1 later

-- they are those of assignments
pub path_known : (g : PlainGraph) (numbers all : List ℕ) (start n : ℕ) → IsPathBack (read_by g) start numbers
    → ((k : ℕ) → IsTrue (g.is_followed k) → IsIn all k) → IsIn all start → IsIn numbers n → IsIn all n
path_known g numbers all start n back followed there h =
    ⊎_elim (λ same. subst (IsIn all) same there)
    (λ later. followed n (followed_on g back.rest (OfVariable start) (OfVariable start) n back.path later))
    (subst (λ ns. IsIn ns n) back.are h)
