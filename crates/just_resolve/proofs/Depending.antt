-- What assignments depend on, as a graph.
use Rattle.std.proofs.Common.{◌≡◌, ◌↔◌, inl, inr, ℕ, Bool, true, false, not, ◌&&◌, List, map, nat_eq, Option, Some, None, is_some, IsTrue}
use Rattle.std.proofs.Common.{refl, ap, sym, ◌∙◌, subst}
use Rattle.std.specs.List.{list_any}
use Rattle.std.proofs.lemmas.Bool.{and_from, and_parts}
use mathlib.Core.Path.{fun_ext}
use Rattle.just_value.specs.Value.{Value}
use Rattle.just_syntax.specs.declared.function_definition.FunctionDefinition.{FunctionDefinition}
use Rattle.just_meaning.specs.Reaches.{Here, Later, Reaches, Reads}
use Rattle.just_needs.specs.Graph as graphs
use Rattle.just_needs.specs.Graph.{IsReadFrom, Starts}
use Rattle.just_needs.specs.Prelude.{CallOf, IsFollowed, Occurs, PlainGraph, function_at, is_member, nodes_in, owns, read_by_body, values_in, values_numbered}
use Rattle.just_needs.specs.declared.graph.Graph.{Graph}
use Rattle.just_needs.proofs.Needing.{in_all, in_values}
use Rattle.just_needs.proofs.Nodes.{function_in, listed, same_test, variable_in}
use Rattle.just_resolve.specs.Prelude.{Assignment, DependsOn, Expr, Frames, Function, IsIn, OfFunction, OfVariable, PlainNode, Text, function_view, graph_of}
use Rattle.just_resolve.specs.Prelude.{graph_view, is_followed_in, read_by, value_in}

-- ---- the graph of a module

none_if : (o : Option Value) → IsTrue (not (is_some o)) ↔ (o ≡ None)
none_if None = ((λ h. refl), (λ h. refl))
none_if (Some v) = ((λ h. absurd (let bad : false ≡ true = h in cc)), (λ h. absurd (let bad : Some v ≡ None = h in cc)))

not_if : (b : Bool) → (IsTrue b → ⊥) → not b ≡ true
not_if true h = absurd (h refl)
not_if false h = refl

-- which numbers are followed
followed_if : (all : List Assignment) (outer : Frames) (n : ℕ) → IsTrue (is_followed_in all outer n) ↔ IsFollowed all outer n
followed_if all outer n =
    let known = list_any (nat_eq n) (map (λ (a : Assignment). a.number) all) in
    let free = not (is_some (value_in outer n)) in
    let here = listed (map (λ (a : Assignment). a.number) all) n in
    let none = none_if (value_in outer n) in (
      (λ h. let both = and_parts known free h in (here.0 both.0, none.0 both.1)),
      (λ h. and_from known free (here.1 h.0) (none.1 h.1)),
    )

abbrev graph_with : List Function → (ℕ → List Expr) → (ℕ → Bool) → PlainGraph
graph_with functions values is_followed = record { functions = functions; values = values; is_followed = is_followed }

pub graph_is : (g : Graph) (fs : List FunctionDefinition) (all : List Assignment) (outer : Frames) → g.functions.now ≡ fs
    → ((n : ℕ) → values_in g.numbered n ≡ values_numbered all n) → ((n : ℕ) → IsTrue (is_member g.followed n) ↔ IsFollowed all outer n)
    → graph_view g ≡ graph_of (map function_view fs) all outer
graph_is g fs all outer functions values followed =
    ap (λ (hs : List FunctionDefinition). graph_with (map function_view hs) (values_in g.numbered) (is_member g.followed)) functions
    ∙ ap (λ (vs : ℕ → List Expr). graph_with (map function_view fs) vs (is_member g.followed)) (fun_ext values)
    ∙ ap (λ (test : ℕ → Bool). graph_with (map function_view fs) (values_numbered all) test)
    (fun_ext (λ n. same_test (is_member g.followed n) (is_followed_in all outer n) (followed n) (followed_if all outer n)))

-- ---- what an assignment reads

module _ (functions : List Function) (all : List Assignment) (outer : Frames) where
  abbrev graph_reads : PlainNode → List PlainNode
  graph_reads = read_by (graph_of functions all outer)

  abbrev follows : ℕ → Bool
  follows = is_followed_in all outer

  value_reads : (a : Assignment) (x : PlainNode) → IsIn all a → IsIn (nodes_in follows a.value) x → IsIn (graph_reads (OfVariable a.number)) x
  value_reads a x there h =
      (in_all (nodes_in follows) (values_numbered all a.number) x).1 (a.value, (in_values all a.number a.value).1 (a, there, refl, refl), h)

  body_reads : (t : Text) (f : Function) (x : PlainNode) → function_at functions t ≡ Some f → IsIn (nodes_in (λ n. follows n && not (owns f n)) f.body) x
      → IsIn (graph_reads (OfFunction t)) x
  body_reads t f x found h = subst (λ o. IsIn (read_by_body follows o) x) (sym found) h

  function_reached : (starts : List PlainNode) {e : Expr} {name : Text} → Reaches functions e name
      → ((t : Text) (k : ℕ) → Occurs e (CallOf t k) → IsReadFrom graph_reads starts (OfFunction t)) → IsReadFrom graph_reads starts (OfFunction name)
  function_reached starts {name = name} (Here k occurs) called = called name k occurs
  function_reached starts (Later mid k occurs f found rest) called =
      function_reached starts rest (λ t j there. graphs.ReadBy (OfFunction mid) (called mid k occurs)
      (body_reads mid f (OfFunction t) found ((function_in (λ n. follows n && not (owns f n)) f.body t).1 (j, there))))

  -- an assignment depends on each followed number that it reads
  pub depends : (a : Assignment) (n : ℕ) → IsIn all a → Reads functions a.value n → IsFollowed all outer n → DependsOn graph_reads a.number n
  depends a n there (inl occurs) followed =
      Starts (value_reads a (OfVariable n) there ((variable_in follows a.value n).1 (occurs, (followed_if all outer n).1 followed)))
  depends a n there (inr b) followed =
      graphs.ReadBy (OfFunction b.name)
      (function_reached (graph_reads (OfVariable a.number)) b.reached
      (λ t k occurs. Starts (value_reads a (OfFunction t) there ((function_in follows a.value t).1 (k, occurs)))))
      (body_reads b.name b.function (OfVariable n) b.found ((variable_in (λ k. follows k && not (owns b.function k)) b.function.body n).1 (
        b.occurs,
        and_from (follows n) (not (owns b.function n)) ((followed_if all outer n).1 followed)
            (not_if (owns b.function n) (λ own. b.beyond ((listed (map (λ p. p.1) b.function.parameters) n).0 own))),
      )))
