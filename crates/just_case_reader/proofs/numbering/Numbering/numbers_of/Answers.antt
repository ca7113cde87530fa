use Rattle.std.proofs.Common.{map, take, rules}
use Rattle.std.proofs.lemmas.List.{map_more}
use Rattle.just_case_reader.specs.Prelude.{numbering_view}
use Rattle.just_case_reader.proofs.Numbers.{one_more}
use Rattle.just_case_reader.proofs.numbering.Numbering.numbers_of.Goals as goal

pub loop-name-preserved : goal.loop-name-preserved
loop-name-preserved c =
    let so_far = map (λ name. name.now) (take c.loop-name.name-index c.args.names.now) in
    let more = map_more (λ name. name.now) c.args.names.now c.loop-name.name-index _ (search rules) in
    rw (c.in_ok-push.ensures.items) (one_more (λ name number. number) (numbering_view c.args.self.now) so_far _ _ c.loop-name.numbers.items _
    (numbering_view c.loop-name.self) (numbering_view c.number_of.new.self) c.loop-name.invariant c.in_ok-number_of.ensures.number
    c.in_ok-number_of.ensures.ok more)
