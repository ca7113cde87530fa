-- The names that the contracts and proofs of this crate share, passed on from one place. Declares nothing.
pub use Rattle.just_meaning.specs.Assignments.{Assignments, assignment_at}
pub use Rattle.just_meaning.specs.Callee.{accepts, callee, defined_or, undefined}
pub use Rattle.just_meaning.specs.Here.{AllReadable, AreReadableInTurn, attribute_expressions, expressions_of}
pub use Rattle.just_meaning.specs.Here.{parameter_expressions}
pub use Rattle.just_meaning.specs.Reaches.{IsAmong, Occurs, function_at}
pub use Rattle.just_meaning.specs.Resolved.{AllKnown, AllNumbered, AreAssignments, AreDistinct, AreInOrder, HasValue}
pub use Rattle.just_meaning.specs.Resolved.{IsKnown, IsNumbered, IsResolved, IsResolvedConst, parameter_numbers}
pub use Rattle.just_meaning.specs.Resolved.{with_taken}
pub use Rattle.just_meaning.specs.View.{IsResolvedWith, assignments_view, functions_view, is_referenced_in}
pub use Rattle.just_meaning.specs.View.{ordered_view}
pub use Rattle.just_syntax.specs.Keyed.{value_at}
pub use Rattle.just_syntax.specs.Lists.{IsIn}
pub use Rattle.just_syntax.specs.NameSet.{is_name_in}
pub use Rattle.just_syntax.specs.NumberSet.{is_member}
pub use Rattle.just_syntax.specs.Occurrences.{CallAt, CallOf, Mention, Occurrence, VariableAt, VariableOf}
pub use Rattle.just_syntax.specs.Occurrences.{all_occurrences, mention_of, occurrences_in, occurs_at}
pub use Rattle.just_syntax.specs.Plain.{Assignment, Expr, Function, Parameter, Text, Token}
pub use Rattle.just_syntax.specs.View.{assignment_view, attributes_view, function_view, name_view, parameter_view}
pub use Rattle.just_syntax.specs.View.{occurrence_view, occurrences_view, recipe_parameter_view, token_view, view}
pub use Rattle.just_value.specs.Frames.{Frames, value_in}
pub use Rattle.just_value.specs.Value.{Value}
pub use Rattle.just_value.specs.View.{frames_view}
pub use Rattle.just_resolution.specs.Admitted.{FindsBeyond, FindsBody, FindsBound, FindsMisplaced, FindsUnknown}
pub use Rattle.just_resolution.specs.Admitted.{FindsUnreadable, IsAdmitted, IsNumberOf, IsTakenBy, MayAllOccur}
pub use Rattle.just_resolution.specs.Admitted.{MayFollowInTurn, MayOccur, ReadsReadable, ReadsWithin, is_numbered}
pub use Rattle.just_resolution.specs.Admitted.{may_be_read, may_occur}
pub use Rattle.just_resolution.specs.Apart.{AreApart}
pub use Rattle.just_resolution.specs.Fault.{BoundParameter, HasFault, IsFaulty, IsFirstFault, IsKnownAt, IsMisplaced}
pub use Rattle.just_resolution.specs.Fault.{IsSound, MayComeNext, ModuleFault, NameOf, NumberOf, ParameterOf}
pub use Rattle.just_resolution.specs.Fault.{ReadsUntaken, call_fault}
pub use Rattle.just_resolution.specs.Fault.{fault_token, is_unknown, name_places, number_places, occurrence_fault}
pub use Rattle.just_resolution.specs.Fault.{numbered_assignments, numbered_parameters, parameter_places}
pub use Rattle.just_resolution.specs.First.{Finds}
pub use Rattle.just_resolution.specs.Seen.{IsSameReader, attributes_of, expressions_view, is_number_in}
pub use Rattle.just_resolution.specs.Seen.{is_number_taken, is_readable, module_fault_view, texts}
pub use Rattle.just_resolution.specs.Called.{called_names, calls_of, name_called}
pub use Rattle.just_resolution.specs.Unreadable.{IsUnreadable, IsUnreadableAt, MayBeRead}
