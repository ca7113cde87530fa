-- The situation of an expression evaluator as plain data, and what an expression means in it.
use Rattle.std.specs.Prelude.{ℕ, Bool, false, List, Option, Some, None, Result, nat_eq}
use Rattle.std.specs.List.{list_any}
use Rattle.std.specs.Option.{option_copied, option_map}
use Rattle.just_syntax.specs.Plain.{Expr}
use Rattle.just_syntax.specs.View.{name_view, pairs_view, views}
use Rattle.just_syntax.specs.declared.expression.Expression.{Expression}
use Rattle.just_syntax.specs.declared.name.Name.{Name}
use Rattle.just_value.specs.Frames.{value_in}
use Rattle.just_value.specs.Value.{Value}
use Rattle.just_value.specs.View.{ended, frames_view}
use Rattle.just_value.specs.declared.error.Error.{Error}
use Rattle.just_host.specs.Interaction.{Rules, Tree, freely, Step, Behaves, unchecked}
use Rattle.just_host.specs.declared.execution_context.ExecutionContext.{ExecutionContext}
use Rattle.just_meaning.specs.Closings.{dynamic}
use Rattle.just_meaning.specs.Constant.{constantly, nowhere}
use Rattle.just_meaning.specs.Meaning.{Program, Deeper, Row, Situation, eval, eval_row}
use Rattle.just_meaning.specs.View.{program_view}
use Rattle.just_expression.specs.declared.evaluator.ExpressionEvaluator.{ExpressionEvaluator}
use Rattle.just_expression.specs.declared.operand.Operand.{Operand}
use Rattle.just_expression.specs.declared.operand.Operand.TheVariants.{InPlace, Own}

abbrev pub program_of : Option ExecutionContext → Program
program_of (Some c) = program_view c
program_of None = nowhere

-- Without a context some variables may be open.
abbrev pub open_in : Option ExecutionContext → (ℕ → Bool) → ℕ → Bool
open_in (Some c) is_open n = false
open_in None is_open n = is_open n

-- With a context nothing is refused; without one the const rules apply.
abbrev pub rules_in : Option ExecutionContext → (ℕ → Bool) → Rules
rules_in (Some c) is_open = freely
rules_in None is_open = constantly is_open

-- the situation of an evaluator
abbrev pub situation : ExpressionEvaluator → Situation
situation e = record {
  names = value_in (frames_view e.scope.now);
  environment = pairs_view e.env.now;
  recipe = option_map (λ (n : Name). (name_view n).lexeme) (option_copied e.recipe);
  is_dependency = e.is_dependency;
  lists = e.lists;
  shown = frames_view e.scope.now;
  below = frames_view e.below.now;
}

-- the context of the run, if there is one
abbrev pub context_of : ExpressionEvaluator → Option ExecutionContext
context_of e = option_copied e.context

abbrev pub program : ExpressionEvaluator → Program
program e = program_of (context_of e)

abbrev pub deeper : ExpressionEvaluator → Deeper
deeper e = dynamic (program e) e.calls_left

-- whether a variable has no constant value
abbrev pub is_non_const : ExpressionEvaluator → ℕ → Bool
is_non_const e n = list_any (nat_eq n) e.non_const_assignments.now.keys

abbrev pub rules : ExpressionEvaluator → Rules
rules e = rules_in (context_of e) (is_non_const e)

-- what an expression means here
abbrev pub meaning : ExpressionEvaluator → Expr → Tree Value
meaning e x = eval (program e) (deeper e) (situation e) x

-- what a row of expressions means here
abbrev pub row : ExpressionEvaluator → List Expression → Row
row e xs = eval_row (program e) (deeper e) (situation e) 0 (views xs)

-- an operand's texts
abbrev pub operand_view : Operand → Value
operand_view (InPlace texts) = texts.now
operand_view (Own value) = value

-- The result is the outcome of a run of the tree, whose questions take the host's state from `old` to `new`.
abbrev pub RunsTo : {S : Type 0} → ExpressionEvaluator → Step S → S → Tree Value → Result Value Error → S → Type 0
RunsTo e step old tree result new = Behaves (rules e) step unchecked old tree (ended (λ v. v) result) new
