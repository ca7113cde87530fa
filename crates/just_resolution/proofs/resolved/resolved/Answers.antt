use Rattle.std.proofs.Common.{is_some}
use Rattle.just_resolution.proofs.Deciding.{none_answers}
use Rattle.just_resolution.proofs.resolved.resolved.Goals as goal

pub returns : goal.returns
returns c = record { exact = none_answers (is_some c.in_ok-first_fault.field-0) c.is_none.result c.is_none.ensures c.in_ok-first_fault.ensures.exact }
