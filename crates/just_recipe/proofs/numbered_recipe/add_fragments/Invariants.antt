use Rattle.std.proofs.Common.{◌≡◌, ◌++◌, map, take}
use Rattle.just_recipe.specs.Numbered.{numbered_fragment}
use Rattle.just_resolve.specs.Prelude.{name_number}
use Rattle.just_syntax.specs.View.{fragment_view}
use Rattle.just_recipe.proofs.numbered_recipe.add_fragments.Given as goal

-- copies of the fragments so far were added
abbrev pub invariant-loop-fragment : goal.invariant-loop-fragment
invariant-loop-fragment l = map fragment_view l.copies.items ≡ map fragment_view l.initial.copies.items
    ++ map (numbered_fragment (name_number l.names)) (map fragment_view (take l.fragment-index l.fragments))
