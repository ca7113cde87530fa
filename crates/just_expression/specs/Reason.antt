-- What the refusals of an unresolved module say.
use Rattle.just_syntax.specs.Plain.{Text}
use Rattle.just_meaning.specs.Messages.{mismatched_text, miscounted_text, unevaluated_text, unknown_assignment_text}
use Rattle.just_meaning.specs.Messages.{unknown_function_text, unresolved_text}
use Rattle.just_expression.specs.declared.internal.Reason.{Reason}
use Rattle.just_expression.specs.declared.internal.Reason.TheVariants.{Mismatched, Miscounted, Unevaluated}
use Rattle.just_expression.specs.declared.internal.Reason.TheVariants.{UnknownAssignment, UnknownFunction, Unresolved}

-- the message about a name
abbrev pub reason_text : Reason → Text → Text
reason_text Mismatched name = mismatched_text
reason_text Miscounted name = miscounted_text name
reason_text Unevaluated name = unevaluated_text name
reason_text UnknownAssignment name = unknown_assignment_text name
reason_text UnknownFunction name = unknown_function_text name
reason_text Unresolved name = unresolved_text name
