-- The starting nodes reach exactly the variables that are needed.
use Rattle.std.proofs.Common.{◌≡◌, ◌↔◌, inl, inr, ⊎_elim, ℕ, Bool, true, false, not, ◌&&◌, List, [], ◌∷◌, map, nat_eq, Option, Some, None, IsTrue, refl}
use Rattle.std.proofs.Common.{ap, sym, ◌∙◌, option_map, subst, if◌then◌else◌, unwrap_or}
use Rattle.std.specs.List.{flat_map, list_any}
use Rattle.std.proofs.lemmas.Bool.{and_from, and_parts, eq-eqb, eqb-true, or_cases, or_left, or_right}
use Rattle.just_meaning.specs.Reaches.{Reaches, Here, Later}
use Rattle.just_meaning.proofs.Reached.{reaches_on}
use Rattle.just_syntax.proofs.Lists.{in_append}
use Rattle.just_syntax.specs.Variables.{has_number, number_named}
use Rattle.just_syntax.specs.declared.function_definition.FunctionDefinition.{FunctionDefinition}
use Rattle.just_needs.specs.Prelude.{Assignment, CallOf, Expr, Frames, Function, IsFollowed, IsIn, IsNeeded, IsReadFrom, Occurs, OfFunction, OfVariable}
use Rattle.just_needs.specs.Prelude.{PlainGraph, PlainNode, Text, function_at, function_view, graph_view, is_member, nodes_in, owns, read_by}
use Rattle.just_needs.specs.Prelude.{overridden_graph, read_by_body, unless_overridden, values_in, values_numbered}
use Rattle.just_needs.specs.declared.graph.Graph.{Graph}
use Rattle.just_needs.specs.Graph as graphs
use Rattle.just_needs.specs.Graph.{Starts}
use Rattle.just_needs.specs.Needed as needs
use Rattle.just_needs.specs.Needed.{Asked}
use Rattle.just_needs.proofs.Nodes.{function_in, listed, variable_in}

-- ---- the values of a number

-- one more assignment
value_by : (a : Assignment) (n : ℕ) (e : Expr) (b : Bool) → nat_eq a.number n ≡ b → IsIn (if b then a.value ∷ [] else []) e
    ↔ ((a.number ≡ n) × (a.value ≡ e))
value_by a n e true is = ((λ h. ⊎_elim (λ same. (eqb-true a.number n is, same)) (λ bad. absurd bad) h), (λ h. inl h.1))
value_by a n e false is = ((λ h. absurd h), (λ h. absurd (let on = eq-eqb a.number n h.0 in let bad : false ≡ true = sym is ∙ on in cc)))

pub in_values : (all : List Assignment) (n : ℕ) (e : Expr) → IsIn (values_numbered all n) e
    ↔ ((a : Assignment) × IsIn all a × (a.number ≡ n) × (a.value ≡ e))
in_values [] n e = ((λ h. absurd h), (λ h. absurd h.1))
in_values (a ∷ all) n e =
    let here = value_by a n e (nat_eq a.number n) refl in
    let rest = in_values all n e in
    let both = in_append (if nat_eq a.number n then a.value ∷ [] else []) (values_numbered all n) e in (
      (λ h. ⊎_elim (λ k. let v = here.0 k in (a, inl refl, v.0, v.1)) (λ k. let v = rest.0 k in (v.0, inr v.1, v.2, v.3)) (both.0 h)),
      (λ h. ⊎_elim
          (λ same. both.1 (inl (here.1 (ap (λ (b : Assignment). b.number) same ∙ h.2, ap (λ (b : Assignment). b.value) same ∙ h.3))))
          (λ later. both.1 (inr (rest.1 (h.0, later, h.2, h.3)))) h.1),
    )

-- what is evaluated for a number: nothing if it is overridden
in_evaluated : (o : Option Text) (es : List Expr) (e : Expr) → IsIn (unless_overridden o es) e ↔ ((o ≡ None) × IsIn es e)
in_evaluated None es e = ((λ h. (refl, h)), (λ h. h.1))
in_evaluated (Some text) es e = ((λ h. absurd h), (λ h. let bad : Some text ≡ None = h.0 in absurd (cc)))

-- what some expressions read
pub in_all : (f : Expr → List PlainNode) (es : List Expr) (x : PlainNode) → IsIn (flat_map f es) x ↔ ((e : Expr) × IsIn es e × IsIn (f e) x)
in_all f [] x = ((λ h. absurd h), (λ h. absurd h.1))
in_all f (e ∷ es) x =
    let rest = in_all f es x in
    let both = in_append (f e) (flat_map f es) x in (
      (λ h. ⊎_elim (λ k. (e, inl refl, k)) (λ k. let r = rest.0 k in (r.0, inr r.1, r.2)) (both.0 h)),
      (λ h. ⊎_elim (λ same. both.1 (inl (subst (λ d. IsIn (f d) x) (sym same) h.2))) (λ later. both.1 (inr (rest.1 (h.0, later, h.2)))) h.1),
    )

off_if : (b : Bool) → (IsTrue b → ⊥) → not b ≡ true
off_if true h = absurd (h refl)
off_if false h = refl

pub not_both : (b : Bool) → not b ≡ true → IsTrue b → ⊥
not_both true off on = let bad : false ≡ true = off in cc
not_both false off on = let bad : false ≡ true = on in cc

module _ (g : PlainGraph) (all : List Assignment) (outer : Frames) (overrides : ℕ → Option Text) (names : List Text) (starts : List PlainNode)
    (values : (n : ℕ) → g.values n ≡ unless_overridden (overrides n) (values_numbered all n))
    (followed : (n : ℕ) → IsTrue (g.is_followed n) ↔ IsFollowed all outer n)
    (asked : (n : ℕ) → IsIn starts (OfVariable n) ↔ ((name : Text) × IsIn names name × (number_named all name ≡ Some n)))
    (no_function : (t : Text) → IsIn starts (OfFunction t) → ⊥) where
  abbrev functions : List Function
  functions = g.functions

  abbrev Needs : ℕ → Type 0
  Needs = IsNeeded functions all outer overrides names

  abbrev Goes : PlainNode → Type 0
  Goes = IsReadFrom (read_by g) starts

  -- ---- what is reached is needed

  -- what a reached node is: a needed variable, or a function that a needed variable reaches
  abbrev IsWanted : PlainNode → Type 0
  IsWanted (OfFunction name) = (a : Assignment) × IsIn all a × (overrides a.number ≡ None) × Needs a.number × Reaches functions a.value name
  IsWanted (OfVariable n) = Needs n

  read_by_value : (n : ℕ) (x : PlainNode) → IsIn (read_by g (OfVariable n)) x
      → (a : Assignment) × IsIn all a × (overrides a.number ≡ None) × (a.number ≡ n) × IsIn (nodes_in g.is_followed a.value) x
  read_by_value n x h =
      let e = (in_all (nodes_in g.is_followed) (g.values n) x).0 h in
      let v = (in_evaluated (overrides n) (values_numbered all n) e.0).0 (subst (λ es. IsIn es e.0) (values n) e.1) in
      let a = (in_values all n e.0).0 v.1 in
      (a.0, a.1, ap overrides a.2 ∙ v.0, a.2, subst (λ d. IsIn (nodes_in g.is_followed d) x) (sym a.3) e.2)

  read_by_function : (t : Text) (x : PlainNode) (o : Option Function) → function_at functions t ≡ o → IsIn (read_by_body g.is_followed o) x
      → (f : Function) × (function_at functions t ≡ Some f) × IsIn (nodes_in (λ n. g.is_followed n && not (owns f n)) f.body) x
  read_by_function t x None found h = absurd h
  read_by_function t x (Some f) found h = (f, found, h)

  on : (y x : PlainNode) → IsWanted y → IsIn (read_by g y) x → IsWanted x
  on (OfFunction t) (OfFunction u) w h =
      let r = read_by_function t (OfFunction u) (function_at functions t) refl h in
      let call = (function_in (λ n. g.is_followed n && not (owns r.0 n)) r.0.body u).0 r.2 in
      (w.0, w.1, w.2, w.3, reaches_on functions r.0 call.0 w.4 r.1 call.1)
  on (OfFunction t) (OfVariable n) w h =
      let r = read_by_function t (OfVariable n) (function_at functions t) refl h in
      let read = (variable_in (λ k. g.is_followed k && not (owns r.0 k)) r.0.body n).0 r.2 in
      let both = and_parts (g.is_followed n) (not (owns r.0 n)) read.1 in
      needs.ReadBy w.0 w.1 w.2 w.3
      (inr (record {
        name = t;
        function = r.0;
        reached = w.4;
        found = r.1;
        occurs = read.0;
        beyond = λ own. not_both (owns r.0 n) both.1 ((listed (map (λ p. p.1) r.0.parameters) n).1 own);
      })) ((followed n).0 both.0)
  on (OfVariable k) (OfFunction u) w h =
      let r = read_by_value k (OfFunction u) h in
      let call = (function_in g.is_followed r.0.value u).0 r.4 in
      (r.0, r.1, r.2, subst Needs (sym r.3) w, Here call.0 call.1)
  on (OfVariable k) (OfVariable n) w h =
      let r = read_by_value k (OfVariable n) h in
      let read = (variable_in g.is_followed r.0.value n).0 r.4 in
      needs.ReadBy r.0 r.1 r.2 (subst Needs (sym r.3) w) (inl read.0) ((followed n).0 read.1)

  begun : (x : PlainNode) → IsIn starts x → IsWanted x
  begun (OfFunction t) h = absurd (no_function t h)
  begun (OfVariable n) h = let a = (asked n).0 h in Asked a.0 a.1 a.2

  reached_wanted : {x : PlainNode} → Goes x → IsWanted x
  reached_wanted {x} (Starts h) = begun x h
  reached_wanted {x} (graphs.ReadBy y r h) = on y x (reached_wanted r) h

  -- ---- what is needed is reached

  value_reads : (a : Assignment) (x : PlainNode) → IsIn all a → overrides a.number ≡ None → IsIn (nodes_in g.is_followed a.value) x
      → IsIn (read_by g (OfVariable a.number)) x
  value_reads a x there none h =
      let here = (in_values all a.number a.value).1 (a, there, refl, refl) in
      let evaluated = (in_evaluated (overrides a.number) (values_numbered all a.number) a.value).1 (none, here) in
      (in_all (nodes_in g.is_followed) (g.values a.number) x).1 (a.value, subst (λ es. IsIn es a.value) (sym (values a.number)) evaluated, h)

  body_reads : (t : Text) (f : Function) (x : PlainNode) → function_at functions t ≡ Some f
      → IsIn (nodes_in (λ n. g.is_followed n && not (owns f n)) f.body) x → IsIn (read_by g (OfFunction t)) x
  body_reads t f x found h = subst (λ o. IsIn (read_by_body g.is_followed o) x) (sym found) h

  function_reached : {e : Expr} {name : Text} → Reaches functions e name → ((t : Text) (k : ℕ) → Occurs e (CallOf t k) → Goes (OfFunction t))
      → Goes (OfFunction name)
  function_reached {name = name} (Here k occurs) called = called name k occurs
  function_reached (Later mid k occurs f found rest) called =
      function_reached rest (λ t j there. graphs.ReadBy (OfFunction mid) (called mid k occurs)
      (body_reads mid f (OfFunction t) found ((function_in (λ n. g.is_followed n && not (owns f n)) f.body t).1 (j, there))))

  needed_reached : {n : ℕ} → Needs n → Goes (OfVariable n)
  needed_reached {n} (Asked name there is) = Starts ((asked n).1 (name, there, is))
  needed_reached {n} (needs.ReadBy a there none need (inl occurs) follows) =
      graphs.ReadBy (OfVariable a.number) (needed_reached need)
      (value_reads a (OfVariable n) there none ((variable_in g.is_followed a.value n).1 (occurs, (followed n).1 follows)))
  needed_reached {n} (needs.ReadBy a there none need (inr b) follows) =
      graphs.ReadBy (OfFunction b.name)
      (function_reached b.reached (λ t k occurs. graphs.ReadBy (OfVariable a.number) (needed_reached need)
      (value_reads a (OfFunction t) there none ((function_in g.is_followed a.value t).1 (k, occurs)))))
      (body_reads b.name b.function (OfVariable n) b.found ((variable_in (λ k. g.is_followed k && not (owns b.function k)) b.function.body n).1 (
        b.occurs,
        and_from (g.is_followed n) (not (owns b.function n)) ((followed n).1 follows)
            (off_if (owns b.function n) (λ own. b.beyond ((listed (map (λ p. p.1) b.function.parameters) n).0 own))),
      )))

  pub exactly : (n : ℕ) → Goes (OfVariable n) ↔ Needs n
  exactly n = ((λ h. reached_wanted h), (λ h. needed_reached h))

-- ---- the starting nodes

had_if : (o : Option ℕ) (n : ℕ) → IsTrue (unwrap_or (option_map (λ m. nat_eq m n) o) false) ↔ (o ≡ Some n)
had_if None n = ((λ h. absurd (let bad : false ≡ true = h in cc)), (λ h. absurd (let bad : None ≡ Some n = h in cc)))
had_if (Some m) n = ((λ h. ap Some (eqb-true m n h)), (λ h. eq-eqb m n (let same : m ≡ n = cc in same)))

-- a number that one of the names has
named_if : (all : List Assignment) (names : List Text) (n : ℕ) → IsTrue (list_any (has_number all n) names)
    ↔ ((name : Text) × IsIn names name × (number_named all name ≡ Some n))
named_if all [] n = ((λ h. absurd (let bad : false ≡ true = h in cc)), (λ h. absurd h.1))
named_if all (name ∷ names) n =
    let here = had_if (number_named all name) n in
    let rest = named_if all names n in (
      (λ h. ⊎_elim (λ k. (name, inl refl, here.0 k)) (λ k. let r = rest.0 k in (r.0, inr r.1, r.2))
          (or_cases (has_number all n name) (list_any (has_number all n) names) h)),
      (λ h. ⊎_elim
          (λ same. or_left (has_number all n name) (list_any (has_number all n) names) (here.1 (ap (number_named all) same ∙ h.2)))
          (λ later. or_right (has_number all n name) (list_any (has_number all n) names) (rest.1 (h.0, later, h.2))) h.1),
    )

in_variables : (keys : List ℕ) (n : ℕ) → IsIn (map OfVariable keys) (OfVariable n) ↔ IsIn keys n
in_variables [] n = ((λ h. h), (λ h. h))
in_variables (k ∷ keys) n =
    let rest = in_variables keys n in (
      (λ h. ⊎_elim (λ e. inl (let same : k ≡ n = cc in same)) (λ j. inr (rest.0 j)) h),
      (λ h. ⊎_elim (λ e. inl (ap OfVariable e)) (λ j. inr (rest.1 j)) h),
    )

no_function_in : (keys : List ℕ) (t : Text) → IsIn (map OfVariable keys) (OfFunction t) → ⊥
no_function_in [] t h = h
no_function_in (k ∷ keys) t h = ⊎_elim (λ bad. let e : OfVariable k ≡ OfFunction t = bad in cc) (λ j. no_function_in keys t j) h

-- what is reached from the variables with some names
pub needed_exactly : (g : Graph) (fs : List FunctionDefinition) (all : List Assignment) (outer : Frames) (overrides : ℕ → Option Text) (names : List Text)
    (keys : List ℕ) (starts : List PlainNode) (reached : PlainNode → Bool) → g.functions.now ≡ fs → ((n : ℕ) → values_in g.numbered n ≡ values_numbered all n)
    → ((n : ℕ) → IsTrue (is_member g.followed n) ↔ IsFollowed all outer n) → ((n : ℕ) → list_any (nat_eq n) keys ≡ list_any (has_number all n) names)
    → starts ≡ map OfVariable keys → ((x : PlainNode) → IsTrue (reached x) ↔ IsReadFrom (read_by (overridden_graph overrides (graph_view g))) starts x)
    → (n : ℕ)
    → IsTrue (reached (OfVariable n)) ↔ IsNeeded (map function_view fs) all outer overrides names n
needed_exactly g fs all outer overrides names keys starts reached functions values followed refers are reaches n =
    let asked : (k : ℕ) → IsIn starts (OfVariable k) ↔ ((name : Text) × IsIn names name × (number_named all name ≡ Some k)) =
    λ k. (
      (λ h. (named_if all names k).0
          (sym (refers k) ∙ (listed keys k).1 ((in_variables keys k).0 (subst (λ xs. IsIn xs (OfVariable k)) are h)))),
      (λ h. subst (λ xs. IsIn xs (OfVariable k)) (sym are) ((in_variables keys k).1 ((listed keys k).0 (refers k ∙ (named_if all names k).1 h)))),
    ) in
    let both = exactly (overridden_graph overrides (graph_view g)) all outer overrides names starts (λ k. ap (unless_overridden (overrides k)) (values k))
    followed asked
    (λ t h. no_function_in keys t (subst (λ xs. IsIn xs (OfFunction t)) are h)) n in
    let reach = reaches (OfVariable n) in (
      (λ h. subst (λ (gs : List FunctionDefinition). IsNeeded (map function_view gs) all outer overrides names n) functions (both.0 (reach.0 h))),
      (λ h. reach.1 (both.1 (subst (λ (gs : List FunctionDefinition). IsNeeded (map function_view gs) all outer overrides names n) (sym functions) h))),
    )
