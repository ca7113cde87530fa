-- How two lists are combined element by element.
use Rattle.std.specs.Prelude.{ℕ, List, [], codes}
use Rattle.just_syntax.specs.declared.list_operator.ListOperator.{ListOperator}
use Rattle.just_syntax.specs.declared.list_operator.ListOperator.TheVariants.{Concatenate, Join}

-- the separator between two combined elements: nothing, or a slash
abbrev pub separator : ListOperator → List ℕ
separator Concatenate = []
separator Join = codes "/"

-- how it is written
abbrev pub operator_text : ListOperator → List ℕ
operator_text Concatenate = codes "+"
operator_text Join = codes "/"
