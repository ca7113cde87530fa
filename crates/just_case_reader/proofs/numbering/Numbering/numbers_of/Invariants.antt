use Rattle.std.proofs.Common.{◌≡◌, map, take}
use Rattle.just_case_reader.specs.Prelude.{numbering_view, with_names}
use Rattle.just_case_reader.specs.Numbering.{numbers_of_names}
use Rattle.just_case_reader.proofs.numbering.Numbering.numbers_of.Given as goal

-- the numbers of the names so far, and the numbering after these names
abbrev pub invariant-loop-name : goal.invariant-loop-name
invariant-loop-name l =
    let so_far = map (λ name. name.now) (take l.name-index l.names) in
    (l.numbers.items ≡ numbers_of_names (numbering_view l.fn.self) so_far) × (numbering_view l.self ≡ with_names (numbering_view l.fn.self) so_far)
