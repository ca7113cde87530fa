use Rattle.std.proofs.Common.{◌≡◌, ◌∙◌, ◌++◌, ◌∷◌, Bool, List, ap, false, if◌then◌else◌, not, subst, sym, true, ⊎_elim}
use Rattle.std.proofs.lemmas.Bool.{not-false}
use mathlib.Core.Path.{fun_ext}
use Rattle.just_needs.specs.View.{graph_nodes}
use Rattle.just_needs.proofs.Graphs.{are_all}
use Rattle.just_needs.proofs.Walk.{AddsNode}
use Rattle.just_resolve.specs.Prelude.{Leave, OfVariable, PlainNode, PlainStep, all_entered, entered_in, graph_view, path_in, variables_in, node_view}
use Rattle.just_resolve.specs.Prelude.{read_by, step_view, steps_in}
use Rattle.just_resolve.proofs.Measure.{falls_goes, falls_left}
use Rattle.just_resolve.proofs.Paths.{way_back, way_begins, way_goes, way_shortens}
use Rattle.just_resolve.proofs.Searching.{search_begins, search_ends, search_goes, search_leaves}
use Rattle.just_resolve.proofs.Stepping.{entered_last, left_last}
use Rattle.just_resolve.proofs.cycle.path_back.Goals as goal

pub loop-step-init : goal.loop-step-init
loop-step-init c =
    let reads = read_by (graph_view c.args.graph.now) in
    let entered = entered_in c.in_ok-walk.walk in
    let steps = steps_in c.in_ok-walk.walk in record {
      way = way_begins reads c.args.start entered steps c.in_ok-walk.ensures.entered c.in_ok-walk.ensures.steps;
      search = search_begins reads (OfVariable c.args.start) entered steps c.in_ok-walk.ensures.entered c.in_ok-walk.ensures.steps;
    }

pub loop-step-preserved-then-step : goal.loop-step-preserved-then-step
loop-step-preserved-then-step c =
    let reads = read_by (graph_view c.args.graph.now) in
    let old = entered_in c.loop-step.walk in
    let new = entered_in c.pop.new.self in
    let front = steps_in c.pop.new.self in
    let steps = steps_in c.loop-step.walk in
    let step = c.in-Some.step in record {
      way = way_shortens reads c.args.start old new front steps c.loop-step.invariant.way (step_view step) c.in-Some.ensures.steps;
      search = search_leaves reads (OfVariable c.args.start) old new front steps (node_view step.node) c.loop-step.invariant.search c.pop.ensures.entered
          (left_last front steps step c.in-Some.ensures.steps c.if-step.true);
    }

pub loop-step-preserved : goal.loop-step-preserved
loop-step-preserved c =
    let reads = read_by (graph_view c.args.graph.now) in
    let old = entered_in c.loop-step.walk in
    let new = entered_in c.enter.new.self in
    let front = steps_in c.pop.new.self in
    let steps = steps_in c.loop-step.walk in
    let next = steps_in c.enter.new.self in
    let step = c.in-Some.step in
    let x = node_view step.node in
    let is_new = c.in_ok-is_new.is_new in
    let last = entered_last front steps step c.in-Some.ensures.steps c.if-step.false in
    let adds = subst (λ (e : PlainNode → Bool). AddsNode e new x) (fun_ext c.pop.ensures.entered) c.in_ok-is_new.ensures.entered in record {
      way = way_goes reads c.args.start old new front steps next x is_new c.loop-step.invariant.way last c.in_ok-is_new.ensures.steps;
      search = search_goes reads (OfVariable c.args.start) old new front steps next x is_new c.loop-step.invariant.search adds last
          (c.in_ok-is_new.ensures.fresh ∙ ap not (c.pop.ensures.entered x)) c.in_ok-is_new.ensures.steps
          (λ off at. ⊎_elim (λ k. let bad : true ≡ false = sym k.1 ∙ off in cc)
          (λ k. let bad : false ≡ true = sym k ∙ c.is_variable-is_start.ensures.1 at in cc) c.else-is_start.either);
    }

pub loop-step-smaller-then-step : goal.loop-step-smaller-then-step
loop-step-smaller-then-step c =
    let front = steps_in c.pop.new.self in
    let steps = steps_in c.loop-step.walk in
    let step = c.in-Some.step in
    falls_left (read_by (graph_view c.args.graph.now)) (graph_nodes c.args.graph.now) (entered_in c.loop-step.walk) (entered_in c.pop.new.self) front steps
    (node_view step.node) c.pop.ensures.entered (left_last front steps step c.in-Some.ensures.steps c.if-step.true)

pub loop-step-smaller : goal.loop-step-smaller
loop-step-smaller c =
    let g = graph_view c.args.graph.now in
    let front = steps_in c.pop.new.self in
    let steps = steps_in c.loop-step.walk in
    let step = c.in-Some.step in
    let x = node_view step.node in
    let adds = subst (λ (e : PlainNode → Bool). AddsNode e (entered_in c.enter.new.self) x) (fun_ext c.pop.ensures.entered) c.in_ok-is_new.ensures.entered in
    falls_goes (read_by g) (graph_nodes c.args.graph.now) (entered_in c.loop-step.walk) (entered_in c.enter.new.self) front steps (steps_in c.enter.new.self) x
    c.in_ok-is_new.is_new adds (are_all c.args.graph.now) (entered_last front steps step c.in-Some.ensures.steps c.if-step.false)
    (c.in_ok-is_new.ensures.fresh ∙ ap not (c.pop.ensures.entered x)) c.in_ok-is_new.ensures.steps

pub returns-then-not-is_new-clause-some : goal.returns-then-not-is_new-clause-some
returns-then-not-is_new-clause-some c =
    let g = graph_view c.args.graph.now in
    let front = steps_in c.pop.new.self in
    let steps = steps_in c.loop-step.walk in
    let step = c.in-Some.step in
    let x = node_view step.node in
    let there : entered_in c.loop-step.walk x ≡ true =
    sym (c.pop.ensures.entered x) ∙ not-false (entered_in c.pop.new.self x) (sym c.in_ok-is_new.ensures.fresh ∙ c.if-not-is_new.true) in
    let kept : steps_in c.enter.new.self ≡ front =
    c.in_ok-is_new.ensures.steps ∙ ap (λ (b : Bool). if b then front ++ Leave x ∷ all_entered (read_by g x) else front) c.if-not-is_new.true in
    way_back (read_by g) c.args.start (entered_in c.loop-step.walk) (entered_in c.enter.new.self) front steps c.loop-step.invariant.way x
    c.in_ok-path.field-0.items (entered_last front steps step c.in-Some.ensures.steps c.if-step.false)
    (c.is_variable-is_start.ensures.0 c.if-is_start.true) there
    (c.in_ok-path.ensures ∙ ap (λ (ss : List PlainStep). variables_in (path_in ss)) kept)

pub returns-clause-none : goal.returns-clause-none
returns-clause-none c = λ none.
    search_ends (read_by (graph_view c.args.graph.now)) (OfVariable c.args.start) (entered_in c.loop-step.walk) (steps_in c.loop-step.walk)
    c.loop-step.invariant.search (rw c.in_default.is at c.pop.ensures.steps)
