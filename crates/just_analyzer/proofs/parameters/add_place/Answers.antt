use Rattle.std.proofs.Common.{ap}
use Rattle.std.proofs.lemmas.Map.Text.{btree_map_updates_str}
use Rattle.just_analyzer.proofs.parameters.add_place.Goals as goal

pub returns-in-Ok-clause-places : goal.returns-in-Ok-clause-places
returns-in-Ok-clause-places c = λ t.
    let name = ap (λ name. name.now) c.lexeme-2.ensures in
    rw name at (btree_map_updates_str c.lexeme-2.result.now c.args.places.now c.insert.new.self _ c.in-Ok.ensures.updates t)
