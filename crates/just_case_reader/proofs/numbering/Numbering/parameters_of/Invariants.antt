use Rattle.std.proofs.Common.{◌≡◌, map, take}
use Rattle.just_case_reader.specs.Prelude.{numbering_view, parameter_view, parameters_with_numbers, with_names}
use Rattle.just_case_reader.proofs.numbering.Numbering.parameters_of.Given as goal

-- the parameters of the names so far, and the numbering after these names
abbrev pub invariant-loop-name : goal.invariant-loop-name
invariant-loop-name l =
    let so_far = map (λ name. name.now) (take l.name-index l.names) in
    (map parameter_view l.parameters.items ≡ parameters_with_numbers (numbering_view l.fn.self) so_far)
    × (numbering_view l.self ≡ with_names (numbering_view l.fn.self) so_far)
