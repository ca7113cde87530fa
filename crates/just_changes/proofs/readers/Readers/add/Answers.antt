use Rattle.std.proofs.Common.{◌≡◌, ◌∙◌, ◌↔◌, ◌⊎◌, ◌++◌, ◌∷◌, [], ap}
use Rattle.just_changes.specs.Prelude.{IsIn, OfFunction, OfVariable, PlainNode, found_nodes, node_view, readers_of}
use Rattle.just_changes.proofs.Lists.{as_before, as_function, as_variable, function_reader, variable_reader}
use Rattle.just_changes.proofs.readers.Readers.add.Goals as goal

pub returns-in_ok-insert-in-Function : goal.returns-in_ok-insert-in-Function
returns-in_ok-insert-in-Function c = rw (c.in-Function.is) by
  where
    by : (x y : PlainNode)
        → IsIn (readers_of (record { alloc = c.args.self.now.alloc; of_functions = c.insert.new.self; of_variables = c.args.self.now.of_variables }) x) y
        ↔ (((OfFunction c.in-Function.name.now ≡ x) × (node_view c.args.reader.now ≡ y)) ⊎ IsIn (readers_of c.args.self.now x) y)
    by (OfFunction t) y =
        as_function (function_reader c.args.self.now.of_functions c.remove.new.self c.insert.new.self c.in-Function.name c.in_ok-all-in-Function.all
        (node_view c.args.reader.now) c.remove.ensures.updates.0 c.in_ok-insert-in-Function.ensures.updates.0
        (c.in_ok-all-in-Function.ensures ∙ ap (λ o. found_nodes o ++ node_view c.args.reader.now ∷ []) c.remove.ensures.value) t y)
    by (OfVariable n) y = as_before (λ e. cc)

pub returns-in_ok-insert-in-Variable : goal.returns-in_ok-insert-in-Variable
returns-in_ok-insert-in-Variable c = rw (c.in-Variable.is) by
  where
    by : (x y : PlainNode)
        → IsIn (readers_of (record { alloc = c.args.self.now.alloc; of_functions = c.args.self.now.of_functions; of_variables = c.insert-in-Variable.new.self })
        x) y ↔ (((OfVariable c.in-Variable.number ≡ x) × (node_view c.args.reader.now ≡ y)) ⊎ IsIn (readers_of c.args.self.now x) y)
    by (OfFunction t) y = as_before (λ e. cc)
    by (OfVariable n) y =
        as_variable (variable_reader c.args.self.now.of_variables c.remove-in-Variable.new.self c.insert-in-Variable.new.self c.in-Variable.number
        c.in_ok-all-in-Variable.all (node_view c.args.reader.now) c.remove-in-Variable.ensures.updates.0 c.in_ok-insert-in-Variable.ensures.updates.0
        (c.in_ok-all-in-Variable.ensures ∙ ap (λ o. found_nodes o ++ node_view c.args.reader.now ∷ []) c.remove-in-Variable.ensures.value) n y)
