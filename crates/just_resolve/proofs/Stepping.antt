-- The last step of a walk, and what graphs read.
use Rattle.std.proofs.Common.{◌≡◌, ℕ, Bool, true, false, not, ◌&&◌, List, [], ◌∷◌, ◌++◌, if◌then◌else◌, Option, Some, None, IsTrue, ap}
use Rattle.std.proofs.Common.{◌∙◌}
use Rattle.std.proofs.lemmas.Bool.{and_parts}
use Rattle.just_meaning.specs.Reaches.{function_at}
use Rattle.just_needs.specs.Graph.{PlainGraph, nodes_in, owns, read_by_body}
use Rattle.just_needs.proofs.Needing.{in_all}
use Rattle.just_needs.proofs.Nodes.{variable_in}
use Rattle.just_resolve.specs.Prelude.{Enter, Function, IsIn, Leave, OfFunction, OfVariable, PlainNode, PlainStep, node_view, read_by, step_view}
use Rattle.just_resolve.specs.declared.walk.Step.{Step}

-- the last step leaves its node
pub left_last : (front steps : List PlainStep) (s : Step) → steps ≡ front ++ step_view s ∷ [] → s.is_entered ≡ true
    → steps ≡ front ++ Leave (node_view s.node) ∷ []
left_last front steps s is on = is ∙ ap (λ b. front ++ (if b then Leave (node_view s.node) else Enter (node_view s.node)) ∷ []) on

-- it enters its node
pub entered_last : (front steps : List PlainStep) (s : Step) → steps ≡ front ++ step_view s ∷ [] → s.is_entered ≡ false
    → steps ≡ front ++ Enter (node_view s.node) ∷ []
entered_last front steps s is off = is ∙ ap (λ b. front ++ (if b then Leave (node_view s.node) else Enter (node_view s.node)) ∷ []) off

-- variables that are read are followed
read_by_body_followed : (is_followed : ℕ → Bool) (o : Option Function) (n : ℕ) → IsIn (read_by_body is_followed o) (OfVariable n) → IsTrue (is_followed n)
read_by_body_followed is_followed None n h = absurd h
read_by_body_followed is_followed (Some f) n h =
    (and_parts (is_followed n) (not (owns f n)) ((variable_in (λ k. is_followed k && not (owns f k)) f.body n).0 h).1).0

pub read_followed : (g : PlainGraph) (x : PlainNode) (n : ℕ) → IsIn (read_by g x) (OfVariable n) → IsTrue (g.is_followed n)
read_followed g (OfFunction t) n h = read_by_body_followed g.is_followed (function_at g.functions t) n h
read_followed g (OfVariable k) n h =
    let e = (in_all (nodes_in g.is_followed) (g.values k) (OfVariable n)).0 h in ((variable_in g.is_followed e.0 n).0 e.2).1
