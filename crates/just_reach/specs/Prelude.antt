-- The names that the contracts and proofs of this crate share, passed on from one place. Declares nothing.
pub use Rattle.just_meaning.specs.Callee.{callee, undefined}
pub use Rattle.just_meaning.specs.Reaches.{function_at}
pub use Rattle.just_meaning.specs.View.{functions_view, is_referenced_in}
pub use Rattle.just_syntax.specs.Lists.{IsIn}
pub use Rattle.just_syntax.specs.Plain.{Assignment, Expr, Function, Text, Token}
pub use Rattle.just_syntax.specs.View.{assignment_view, function_view, name_view, occurrence_view}
pub use Rattle.just_syntax.specs.View.{occurrences_view, token_view, view}
pub use Rattle.just_builtins.specs.Shape.{builtin_of}
pub use Rattle.just_reach.specs.Asking.{asks, is_shell, may_ask, may_run_command}
pub use Rattle.just_reach.specs.Member.{BuiltIn, Call, Command, PlainMember, Unknown, Variable, called_member}
pub use Rattle.just_reach.specs.Member.{member_of, member_token}
pub use Rattle.just_reach.specs.Members.{BeginsWith, HasBodiesOnce, all_body_members, body_members, members, members_in}
pub use Rattle.just_reach.specs.Members.{members_of_body, members_of_value, members_of_values, name_of_call}
pub use Rattle.just_reach.specs.Members.{value_members, with_members}
pub use Rattle.just_reach.specs.Reached.{IsReached, IsReachedFrom, IsReachedInRun, OccursAt}
pub use Rattle.just_reach.specs.View.{member_view, members_view}
