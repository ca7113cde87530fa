use Rattle.std.proofs.Common.{[], ℕ, List, map, subst, sym}
use Rattle.std.proofs.lemmas.Result.{IfOk-weaker}
use Rattle.just_needs.specs.Graph.{PlainGraph}
use Rattle.just_resolve.specs.Prelude.{AreSorted, Assignment, HasNames, IsIn, assignment_view, frames_view, name_view, read_by}
use Rattle.just_resolve.proofs.Depending.{graph_is}
use Rattle.just_resolve.proofs.Indexing.{order_of}
use Rattle.just_resolve.proofs.Lookups.{found_in_order}
use Rattle.just_resolve.proofs.order.order.Goals as goal

pub postorder-requires : goal.postorder-requires
postorder-requires c = λ n h.
    subst (λ (ns : List ℕ). IsIn ns n) (sym c.deref.ensures.value) ((c.in_ok-starts.ensures.same n).1 ((c.in_ok-graph.ensures.followed n).0 h).0)

pub names_of-requires : goal.names_of-requires
names_of-requires c = λ n h.
    (c.in_ok-starts.ensures.same n).0 (subst (λ (ns : List ℕ). IsIn ns n) c.deref.ensures.value
    ((c.in_ok-numbers.ensures.same n).0 (subst (λ (ns : List ℕ). IsIn ns n) c.deref-2.ensures.value h)))

pub returns-clause-order : goal.returns-clause-order
returns-clause-order c =
    let all = map assignment_view c.args.«module».now.assignments in
    let numbers = c.in_ok-numbers.numbers.items in
    IfOk-weaker c.names_of.result _ _ (λ names has.
    order_of all numbers (map name_view names.items) c.requires c.in_ok-numbers.ensures.once
    (λ n h. (c.in_ok-numbers.ensures.same n).1 (subst (λ (ns : List ℕ). IsIn ns n) (sym c.deref.ensures.value) ((c.in_ok-starts.ensures.same n).1 h)))
    (subst (λ (ns : List ℕ). HasNames all ns (map name_view names.items)) c.deref-2.ensures.value has)) c.names_of.ensures

pub returns-clause-sorted : goal.returns-clause-sorted
returns-clause-sorted c =
    let all = map assignment_view c.args.«module».now.assignments in
    let outer = frames_view c.args.outer.now in
    let numbers = c.in_ok-numbers.numbers.items in
    let graph = graph_is c.in_ok-graph.graph c.args.«module».now.functions all outer c.in_ok-graph.ensures.functions c.in_ok-graph.ensures.values
    c.in_ok-graph.ensures.followed in
    IfOk-weaker c.names_of.result _ _ (λ names has. record {
      numbers = numbers;
      named = subst (λ (ns : List ℕ). HasNames all ns (map name_view names.items)) c.deref-2.ensures.value has;
      sorted = subst (λ (g : PlainGraph). AreSorted (read_by g) [] numbers) graph c.in_ok-numbers.ensures.sorted;
    }) c.names_of.ensures

pub returns-clause-found : goal.returns-clause-found
returns-clause-found c =
    let all = map assignment_view c.args.«module».now.assignments in
    IfOk-weaker c.names_of.result _ _ (λ names has a there.
    found_in_order (λ (b : Assignment). b.name.lexeme) all a c.in_ok-starts.ensures.in_order there) c.names_of.ensures
