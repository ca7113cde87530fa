use Rattle.std.proofs.Common.{◌≡◌, ◌+◌, map, drop, length}
use Rattle.std.specs.Vec.Iter.{into_iter_items}
use Rattle.just_expression.specs.Prelude.{frames_view, parameter_view, parameters_innermost}
use Rattle.just_expression.proofs.parameters.bind_parameters.Given as goal

-- the bindings so far and the remaining ones are all
abbrev pub invariant-loop-value : goal.invariant-loop-value
invariant-loop-value l = record {
  count : l.index + length (into_iter_items l.value-iterator) ≡ length l.parameters;
  rest : parameters_innermost (frames_view l.scope) (map parameter_view (drop l.index l.parameters)) (into_iter_items l.value-iterator)
      ≡ parameters_innermost (frames_view l.fn.scope) (map parameter_view l.parameters) (into_iter_items l.initial.value-iterator);
}
