use Rattle.std.proofs.Common.{Vec, map, subst, sym}
use Rattle.std.proofs.lemmas.Result.{IfOk-weaker}
use Rattle.std.specs.Global.{Global}
use Rattle.just_syntax.specs.declared.name.Name.{Name}
use Rattle.just_resolve.specs.Prelude.{IsOrder, assignment_view, name_view}
use Rattle.just_resolve.proofs.name_faults.ordered_faults.Goals as goal

pub returns : goal.returns
returns c =
    let all = map assignment_view c.args.made.now.assignments in
    IfOk-weaker c.faults.result _ _
    (λ found are. record {
      order = map name_view c.swap.new.x.items;
      is_order = subst (λ (names : Vec Name Global). IsOrder all (map name_view names.items)) (sym c.swap.ensures.x_after) c.in_ok-order.ensures.order;
      are = are;
    }) c.faults.ensures.exact
