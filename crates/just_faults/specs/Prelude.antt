-- The names that the contracts and proofs of this crate share, passed on from one place. Declares nothing.
pub use Rattle.just_meaning.specs.Assignments.{Assignments, assignment_at}
pub use Rattle.just_meaning.specs.Callee.{accepts, callee}
pub use Rattle.just_meaning.specs.Resolved.{HasValue, IsKnown, IsResolved, with_taken}
pub use Rattle.just_meaning.specs.View.{assignments_view, functions_view, ordered_view}
pub use Rattle.just_syntax.specs.Lists.{IsIn}
pub use Rattle.just_syntax.specs.NameSet.{is_name_in}
pub use Rattle.just_syntax.specs.NumberSet.{is_member}
pub use Rattle.just_syntax.specs.Plain.{Assignment, Function, Text, Token}
pub use Rattle.just_syntax.specs.View.{assignment_view, function_view, name_view, parameter_view, view}
pub use Rattle.just_value.specs.Frames.{Frames, value_in}
pub use Rattle.just_value.specs.View.{frames_view}
pub use Rattle.just_resolution.specs.Admitted.{FindsMisplaced, IsAdmitted, IsNumberOf, ReadsReadable}
pub use Rattle.just_resolution.specs.Fault.{BoundParameter, CheckedPlace, DuplicateNumber, IsFaulty, IsFirstFault}
pub use Rattle.just_resolution.specs.Fault.{IsMisplaced, IsSound, IsTakenOrBound, MayComeNext, ModuleFault, NameOf}
pub use Rattle.just_resolution.specs.Fault.{HasFault, IsKnownAt, NumberOf, OccurrenceOf, ParameterOf, ReadsUntaken}
pub use Rattle.just_resolution.specs.Fault.{name_places, number_places, numbered_assignments, numbered_parameters}
pub use Rattle.just_resolution.specs.Fault.{occurrence_fault, occurrence_places, parameter_places, places}
pub use Rattle.just_resolution.specs.First.{IsFirstFaulty}
pub use Rattle.just_resolution.specs.Seen.{is_number_taken, is_readable, module_fault_view}
pub use Rattle.just_syntax.specs.Occurrences.{Occurrence, all_occurrences, mention_of, occurrences_in, occurs_at}
pub use Rattle.just_faults.specs.All.{Adds, AddsFaults, AddsUnknown, AreFaults, FindsAll, with_some}
pub use Rattle.just_faults.specs.Passed.{IsPassed}
pub use Rattle.just_syntax.specs.View.{occurrence_view, occurrences_view}
