use Rattle.std.proofs.Common.{◌≡◌, ◌++◌, map, take}
use Rattle.just_resolve.specs.Prelude.{name_number, numbered_expression, view}
use Rattle.just_recipe.proofs.numbered_setting.add_numbered.Given as goal

-- copies of the expressions so far were added
abbrev pub invariant-loop-expression : goal.invariant-loop-expression
invariant-loop-expression l = map view l.copies.items
    ≡ map view l.initial.copies.items ++ map (numbered_expression (name_number l.names)) (map view (take l.expression-index l.expressions))
