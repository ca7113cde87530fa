use Rattle.std.proofs.Common.{sym, ◌∙◌, arith}
use Rattle.std.proofs.lemmas.Str.{IsCharBoundary-before_ascii, lead_after_ascii}
use Rattle.just_case_reader.proofs.Split.{found_at}
use Rattle.just_case_reader.proofs.rest.split_word.Goals as goal

pub range-requires-clause-end_boundary : goal.range-requires-clause-end_boundary
range-requires-clause-end_boundary c =
    let space = found_at 32 c.args.text.now c.in-Some.end (sym (rw (c.as_bytes.ensures.value) at c.space_place.ensures) ∙ c.in-Some.is) in
    IsCharBoundary-before_ascii c.args.text.now c.in-Some.end space.0 (omega (arith, space.1))

pub range_from-requires : goal.range_from-requires
range_from-requires c =
    let space = found_at 32 c.args.text.now c.in-Some.end (sym (rw (c.as_bytes.ensures.value) at c.space_place.ensures) ∙ c.in-Some.is) in
    λ positive. (omega (arith, space.0), lead_after_ascii c.args.text.now c.in-Some.end c.utf8.text (omega (arith, space.1)))
