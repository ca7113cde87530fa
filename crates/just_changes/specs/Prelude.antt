-- The names that the contracts and proofs of this crate share, passed on from one place. Declares nothing.
pub use Rattle.just_laws.specs.Cone.{HaveSameCone, assignment_numbered}
pub use Rattle.just_meaning.specs.Module.{Module}
pub use Rattle.just_syntax.specs.Occurrences.{CallOf, Occurrence, mention_of, occurrences_in, occurs_at}
pub use Rattle.just_meaning.specs.Reaches.{function_at}
pub use Rattle.just_needs.specs.Graph.{IsReadFrom, OfFunction, OfVariable, PlainNode, Starts}
pub use Rattle.just_needs.specs.View.{has, is_reached, node_view, nodes_view}
pub use Rattle.just_resolution.specs.Seen.{is_number_in}
pub use Rattle.just_syntax.specs.Lists.{IsIn}
pub use Rattle.just_syntax.specs.Plain.{Assignment, Call, Expr, Function, Text}
pub use Rattle.just_syntax.specs.View.{assert_view, assignment_view, conditional, function_view, join, literal_view}
pub use Rattle.just_syntax.specs.View.{name_view, parameter_view, piece_views, token_view, view, views}
pub use Rattle.just_value.specs.Frames.{Frames}
pub use Rattle.just_value.specs.View.{frames_view}
pub use Rattle.just_changes.specs.Changed.{AreAlikeAt, IsOver}
pub use Rattle.just_changes.specs.Nodes.{AmongOccurrences, AssignmentReads, FunctionReads, IsFree, IsNodeAt}
pub use Rattle.just_changes.specs.Nodes.{IsOneVariable, IsTouchedBetween, IsUnchanged, Mentions, ReadsItself, Version}
pub use Rattle.just_changes.specs.View.{IsWhole, all_nodes, all_read, assignment_in, found_nodes, readers_of}
pub use Rattle.just_changes.specs.View.{version_view}
pub use Rattle.just_syntax.specs.View.{occurrence_view, occurrences_view}
