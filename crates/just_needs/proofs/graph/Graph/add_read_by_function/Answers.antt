use Rattle.std.proofs.Common.{◌∙◌, ◌↔◌, ◌++◌, ℕ, Bor, IsTrue, List, Option, ap, map, option_map, sym}
use Rattle.std.proofs.lemmas.List.{append-nil}
use Rattle.std.proofs.lemmas.Result.{on_ok_weaker}
use Rattle.just_meaning.specs.Reaches.{IsAmong}
use Rattle.just_syntax.specs.declared.function_definition.FunctionDefinition.{FunctionDefinition}
use Rattle.just_needs.specs.Prelude.{Function, PlainNode, function_at, function_view, is_member, is_number_in, nodes_view, parameter_view, read_by_body}
use Rattle.just_needs.proofs.Nodes.{body_read, function_found}
use Rattle.just_needs.proofs.graph.Graph.add_read_by_function.Goals as goal

pub returns-in_ok-own-in-Some : goal.returns-in_ok-own-in-Some
returns-in_ok-own-in-Some c =
    let owns : (n : ℕ) → IsTrue (is_number_in c.in_ok-own-in-Some.own n) ↔ IsAmong (map parameter_view c.in-Some.function.now.parameters.items) n =
    rw c.deref.ensures.value at c.in_ok-own-in-Some.ensures in
    let found = function_found c.args.name.now c.args.self.now.functions.now c.get.result c.get.ensures
    ∙ ap (option_map (λ (v : Bor FunctionDefinition). function_view v.now)) c.in-Some.is in
    on_ok_weaker c.add_nodes.result
    (λ added. added ∙ ap (λ (ns : List PlainNode). nodes_view c.args.nodes.now.items ++ ns)
    (body_read (function_at (map function_view c.args.self.now.functions.now) c.args.name.now) (function_view c.in-Some.function.now)
    (is_member c.args.self.now.followed) (is_number_in c.in_ok-own-in-Some.own) found owns)) c.add_nodes.ensures

pub returns-in-None : goal.returns-in-None
returns-in-None c =
    let none = function_found c.args.name.now c.args.self.now.functions.now c.get.result c.get.ensures
    ∙ ap (option_map (λ (v : Bor FunctionDefinition). function_view v.now)) c.in-None.is in
    sym (append-nil (nodes_view c.args.nodes.now.items))
    ∙ ap (λ (o : Option Function). nodes_view c.args.nodes.now.items ++ read_by_body (is_member c.args.self.now.followed) o) (sym none)
