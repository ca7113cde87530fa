use Rattle.std.proofs.Common.{◌↔◌, ℕ, Bool, IsTrue, map, nat_eq, subst, sym}
use Rattle.std.specs.List.{list_any}
use Rattle.just_needs.specs.Prelude.{IsNeeded, assignment_view, frames_view, functions_view, has, is_reached, name_view, nodes_view, text_numbered}
use Rattle.just_needs.proofs.Members.{Numbers}
use Rattle.just_needs.proofs.Needing.{needed_exactly}
use Rattle.just_needs.proofs.Staying.{stays}
use Rattle.just_needs.proofs.needed.needed.Goals.{After-into_variables}
use Rattle.just_needs.proofs.needed.needed.Goals as goal

abbrev IsNeededHere : After-into_variables → ℕ → Type 0
IsNeededHere c n =
    IsNeeded (functions_view c.args.«module».now) (map assignment_view c.args.«module».now.assignments) (frames_view c.args.outer.now)
    (text_numbered c.args.overrides.now) (map (λ name. name.now) c.args.names.now) n

exactly : (c : After-into_variables) (n : ℕ) → IsTrue (has c.into_variables.result n) ↔ IsNeededHere c n
exactly c n = subst (λ (b : Bool). IsTrue b ↔ IsNeededHere c n) (sym (c.into_variables.ensures n))
    (needed_exactly c.in_ok-graph.graph c.args.«module».now.functions (map assignment_view c.args.«module».now.assignments) (frames_view c.args.outer.now)
    (text_numbered c.args.overrides.now) (map (λ name. name.now) c.args.names.now) c.in_ok-asked.asked.keys (nodes_view c.in_ok-starts.starts.items)
    (is_reached c.in_ok-reached.reached) c.in_ok-graph.ensures.functions c.in_ok-graph.ensures.values c.in_ok-graph.ensures.followed
    c.in_ok-asked.ensures.refers c.in_ok-starts.ensures c.in_ok-reached.ensures n)

pub returns-clause-exact : goal.returns-clause-exact
returns-clause-exact c = exactly (goal.at.returns-clause-exact c).After-into_variables

pub returns-clause-stays_resolved : goal.returns-clause-stays_resolved
returns-clause-stays_resolved c = λ resolved references is.
    let here = (goal.at.returns-clause-stays_resolved c).After-into_variables in
    stays (functions_view c.args.«module».now) (map assignment_view c.args.«module».now.assignments)
    (map name_view c.args.«module».now.evaluation_order.items) (frames_view c.args.outer.now) (text_numbered c.args.overrides.now)
    (map (λ name. name.now) c.args.names.now) (λ n. list_any (nat_eq n) references.now.keys)
    (subst (λ (set : Numbers). (n : ℕ) → IsTrue (has set n) ↔ IsNeededHere here n) (sym is) (exactly here)) resolved
