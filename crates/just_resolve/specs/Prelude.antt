-- The names that the contracts and proofs of this crate share, passed on from one place. Declares nothing.
pub use Rattle.just_meaning.specs.Resolved.{AreDistinct, HasValue, IsResolved, parameter_numbers}
pub use Rattle.just_meaning.specs.View.{functions_view}
pub use Rattle.just_resolution.specs.Fault.{numbered_assignments, numbered_parameters}
pub use Rattle.just_resolution.specs.Seen.{module_fault_view}
pub use Rattle.just_syntax.specs.Keyed.{IsInOrder, with_value}
pub use Rattle.just_syntax.specs.Lists.{IsIn}
pub use Rattle.just_syntax.specs.Plain.{Assignment, Expr, Function, Text, Token}
pub use Rattle.just_syntax.specs.View.{assignment_view, function_view, literal_view, name_view, parameter_view}
pub use Rattle.just_syntax.specs.View.{piece_view, piece_views, token_view, view, views}
pub use Rattle.just_value.specs.Frames.{Frame, Frames, value_in}
pub use Rattle.just_value.specs.View.{bound_view, frame_view, frames_view}
pub use Rattle.just_resolve.specs.Cycle.{IsCycle, IsRing, ReadInTurn}
pub use Rattle.just_resolve.specs.Dependence.{AreSorted, DependsOn, DependsOnItself, IsSortedOrder, graph_of}
pub use Rattle.just_resolve.specs.Dependence.{is_followed_in}
pub use Rattle.just_resolve.specs.Free.{AreBelow, AreFree, AreNew, AreTaken, IsNextFree, numbers_of}
pub use Rattle.just_resolve.specs.Hopeless.{AreFoundByName, NoOrderResolvesACycle}
pub use Rattle.just_resolve.specs.Numbered.{bound_names, first_named, frame_names, numbered_expression, visible}
pub use Rattle.just_resolve.specs.Order.{HasNames, IsNameOf, IsOrder, ordered}
pub use Rattle.just_resolve.specs.Renumbered.{IsRenumbered, IsRenumberedAssignment, IsRenumberedFunction, Pairwise}
pub use Rattle.just_resolve.specs.Renumbered.{with_number}
pub use Rattle.just_resolve.specs.Resolve.{AreFaultsInSomeOrder, AreNameFaults}
pub use Rattle.just_resolve.specs.Resolve.{IsCircular, IsFaultAnyway, IsFaultInEachOrder, IsOfCycle, IsOfMention}
pub use Rattle.just_resolve.specs.Resolve.{IsUntaken}
pub use Rattle.just_resolve.specs.Resolve.{arrow_text, cycle_in, cycle_text, fault_in, no_memory, resolve_error_token}
pub use Rattle.just_resolve.specs.Resolve.{resolve_error_text, ring_text}
pub use Rattle.just_resolve.specs.View.{declared_view, entered_in, name_number, name_numbered, next_free, number_in}
pub use Rattle.just_resolve.specs.View.{parameter_named, step_view, steps_in, variable_named}
pub use Rattle.just_resolve.specs.Walk.{Enter, IsPathBack, Leave, PlainStep, all_entered, path_in, variable_in}
pub use Rattle.just_resolve.specs.Walk.{variables_in}
pub use Rattle.just_needs.specs.Prelude.{OfFunction, OfVariable, PlainNode, graph_view, node_view, nodes_view}
pub use Rattle.just_needs.specs.Prelude.{read_by}
