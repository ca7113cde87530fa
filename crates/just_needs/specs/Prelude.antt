-- The names that the contracts and proofs of this crate share, passed on from one place. Declares nothing.
pub use Rattle.just_syntax.specs.Occurrences.{CallOf, Occurrence, VariableOf, mention_of, occurrences_in, occurs_at}
pub use Rattle.just_meaning.specs.Reaches.{Occurs, function_at}
pub use Rattle.just_meaning.specs.View.{functions_view}
pub use Rattle.just_resolution.specs.Seen.{is_number_in}
pub use Rattle.just_syntax.specs.Lists.{IsIn}
pub use Rattle.just_syntax.specs.NameSet.{is_name_in}
pub use Rattle.just_syntax.specs.NumberSet.{is_member}
pub use Rattle.just_syntax.specs.Plain.{Assignment, Expr, Function, Text}
pub use Rattle.just_syntax.specs.Variables.{first_unknown}
pub use Rattle.just_syntax.specs.View.{assignment_view, function_view, name_view, parameter_view}
pub use Rattle.just_syntax.specs.View.{text_numbered, unknown_name, view}
pub use Rattle.just_value.specs.Frames.{Frames, value_in}
pub use Rattle.just_value.specs.View.{frames_view}
pub use Rattle.just_needs.specs.Graph.{AreAll, IsReadFrom, OfFunction, OfVariable, PlainGraph, PlainNode, Starts}
pub use Rattle.just_needs.specs.Graph.{node_at, nodes_at, nodes_in, overridden_graph, owns, read_by, read_by_body}
pub use Rattle.just_needs.specs.Graph.{unless_overridden, values_numbered, variable_at}
pub use Rattle.just_needs.specs.Needed.{IsFollowed, IsNeeded, StaysResolved}
pub use Rattle.just_needs.specs.View.{found_values, graph_nodes, graph_view, has, is_reached, node_view}
pub use Rattle.just_needs.specs.View.{nodes_view, read_in, values_in, values_looked_up}
pub use Rattle.just_syntax.specs.View.{occurrence_view, occurrences_view}
