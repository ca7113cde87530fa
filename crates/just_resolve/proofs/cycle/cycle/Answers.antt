use Rattle.std.proofs.Common.{◌≡◌, ◌∙◌, ℕ, List, Some, map, refl, subst, sym}
use Rattle.just_needs.specs.Graph.{PlainGraph}
use Rattle.just_syntax.specs.declared.function_definition.FunctionDefinition.{FunctionDefinition}
use Rattle.just_resolve.specs.Prelude.{Assignment, DependsOn, HasNames, IsCycle, IsIn, assignment_view, frames_view, function_view, graph_view}
use Rattle.just_resolve.specs.Prelude.{name_view, read_by}
use Rattle.just_resolve.proofs.Depending.{graph_is}
use Rattle.just_resolve.proofs.Indexing.{named_there}
use Rattle.just_resolve.proofs.Rings.{cycle_of, path_known}
use Rattle.just_resolve.proofs.cycle.cycle.Goals as goal

pub names_of-requires : goal.names_of-requires
names_of-requires c = λ n h.
    let all = map assignment_view c.args.«module».now.assignments in
    path_known (graph_view c.in_ok-graph.graph) c.in-Some-2.path.items (map (λ (a : Assignment). a.number) all) c.in-Some.start n
    (rw c.in-Some-2.is at c.in_ok-path.ensures.some) (λ k f. ((c.in_ok-graph.ensures.followed k).0 f).0)
    (named_there all c.args.name.now c.in-Some.start (sym c.in-Some.ensures))
    (subst (λ (ns : List ℕ). IsIn ns n) c.deref.ensures.value h)

pub returns-in-Some-2-clause-some : goal.returns-in-Some-2-clause-some
returns-in-Some-2-clause-some c =
    let all = map assignment_view c.args.«module».now.assignments in
    let names = map name_view c.in_ok-names_of-in-Some-2.field-0.items in
    let path = c.in-Some-2.path.items in
    subst (λ (fs : List FunctionDefinition). IsCycle (map function_view fs) all names) c.in_ok-graph.ensures.functions
    (cycle_of (graph_view c.in_ok-graph.graph) all c.requires c.in_ok-graph.ensures.values c.in-Some.start path names
    (rw c.in-Some-2.is at c.in_ok-path.ensures.some)
    (subst (λ (ns : List ℕ). HasNames all ns names) c.deref.ensures.value c.in_ok-names_of-in-Some-2.ensures))

pub returns-clause-none : goal.returns-clause-none
returns-clause-none c = λ none itself.
    let all = map assignment_view c.args.«module».now.assignments in
    let graph = graph_is c.in_ok-graph.graph c.args.«module».now.functions all (frames_view c.args.outer.now) c.in_ok-graph.ensures.functions
    c.in_ok-graph.ensures.values c.in_ok-graph.ensures.followed in
    let same : itself.0 ≡ c.in-Some.start = (let both : Some itself.0 ≡ Some c.in-Some.start = sym itself.1 ∙ sym c.in-Some.ensures in
    let e : itself.0 ≡ c.in-Some.start = cc in e) in
    (rw c.in-None.is at c.in_ok-path.ensures.none) refl
    (subst (λ (n : ℕ). DependsOn (read_by (graph_view c.in_ok-graph.graph)) n n) same
    (subst (λ (g : PlainGraph). DependsOn (read_by g) itself.0 itself.0) (sym graph) itself.2))
