use Rattle.std.proofs.Common.{ap}
use Rattle.std.proofs.lemmas.Map.Text.{btree_map_updates_str}
use Rattle.just_resolve.proofs.names.put.Goals as goal

pub returns-in-Ok : goal.returns-in-Ok
returns-in-Ok c =
    let name = ap (λ text. text.now) c.lexeme.ensures in
    record {
      old = rw name at c.in-Ok.ensures.old;
      new = λ t.
          let updated = btree_map_updates_str c.lexeme.result.now c.args.all.now c.insert.new.self _ c.in-Ok.ensures.updates t in
          rw name at updated;
    }
