use Rattle.std.proofs.Common.{◌≡◌, ◌∙◌, ◌++◌, ◌&&◌, ℕ, Bool, List, ap, not}
use Rattle.std.proofs.lemmas.Result.{on_ok_weaker}
use Rattle.just_needs.specs.Prelude.{Occurrence, is_member, is_number_in, nodes_at, nodes_view, occurrences_in, occurrences_view, view}
use Rattle.just_needs.proofs.graph.add_nodes.Goals as goal

pub returns : goal.returns
returns c =
    let test : ℕ → Bool = λ n. is_member c.args.followed.now n && not (is_number_in c.args.own.now n) in
    let seen : occurrences_view c.deref.result.now ≡ occurrences_in (view c.args.expression.now) =
    ap occurrences_view c.deref.ensures.value ∙ c.in_ok-occurrences.ensures in
    on_ok_weaker c.add_occurrences.result (λ added. added ∙ ap (λ (ss : List Occurrence). nodes_view c.args.nodes.now.items ++ nodes_at test ss) seen)
    c.add_occurrences.ensures
