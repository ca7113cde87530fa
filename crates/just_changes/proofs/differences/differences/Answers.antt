use Rattle.std.proofs.Common.{◌∙◌, ◌++◌, ap}
use Rattle.std.proofs.lemmas.Result.{IfOk-weaker}
use Rattle.just_changes.specs.Prelude.{all_nodes, nodes_view}
use Rattle.just_changes.proofs.Covered.{all_compared}
use Rattle.just_changes.proofs.differences.differences.Goals as goal

pub returns-clause-all : goal.returns-clause-all
returns-clause-all c =
    let nodes = ap nodes_view c.deref.ensures.value ∙ c.in_ok-add_nodes-2.ensures ∙ ap (λ ns. ns ++ all_nodes c.args.after.now) (c.in_ok-add_nodes.ensures
    ∙ ap (λ ns. nodes_view ns ++ all_nodes c.args.before.now) c.new-all.ensures.items) in
    IfOk-weaker c.different.result _ _ (λ found compared. all_compared c.args.before.now c.args.after.now c.requires.before c.requires.after
    (nodes_view c.deref.result.now) (nodes_view found.items) nodes compared) c.different.ensures.all
