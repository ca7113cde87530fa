use Rattle.std.proofs.Common.{map, take, rules, ◌∷◌, []}
use Rattle.std.proofs.lemmas.List.{map_more, map-append}
use Rattle.just_case_reader.specs.Prelude.{numbering_view, parameter_view, token_of}
use Rattle.just_case_reader.proofs.Numbers.{one_more}
use Rattle.just_case_reader.proofs.numbering.Numbering.parameters_of.Goals as goal

pub loop-name-preserved : goal.loop-name-preserved
loop-name-preserved c =
    let so_far = map (λ name. name.now) (take c.loop-name.name-index c.args.names.now) in
    let more = map_more (λ name. name.now) c.args.names.now c.loop-name.name-index _ (search rules) in
    let next = one_more (λ name number. (token_of name, number)) (numbering_view c.args.self.now) so_far _ _ (map parameter_view c.loop-name.parameters.items)
    c.in_ok-number.number (numbering_view c.loop-name.self) (numbering_view c.number_of.new.self) c.loop-name.invariant c.in_ok-number.ensures.number
    c.in_ok-number.ensures.ok more in
    rw (c.in_ok-extend_from_slice.ensures.items, map-append parameter_view c.loop-name.parameters.items (c.parameter.result ∷ []), c.parameter.ensures) next
