-- What an iterator over bindings has left.
use Rattle.std.specs.Prelude.{◌<◌, List, length}
use Rattle.std.specs.List.{AllByRecursion}
use Rattle.std.specs.Slice.Iter.{iter_rest}
use Rattle.just_value.specs.declared.binding.Binding.{Binding}
use Rattle.just_value.specs.declared.bindings.Left.{Left}
use Rattle.just_value.specs.declared.bindings.Left.TheVariants.{ByPlace, InOrder}
use Rattle.just_value.specs.Placed.{elements_at}

abbrev pub bindings_in : List Binding → Left → List Binding
bindings_in bindings (InOrder left) = iter_rest left
bindings_in bindings (ByPlace places) = elements_at bindings places

-- each index is that of a binding
abbrev pub AreWithin : List Binding → Left → Type 0
AreWithin bindings (InOrder left) = Unit {0}
AreWithin bindings (ByPlace places) = AllByRecursion (λ i. i < length bindings) places
