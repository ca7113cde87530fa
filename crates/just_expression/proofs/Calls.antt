-- The runs of calls.
use Rattle.std.proofs.Common.{◌≡◌, ℕ, List, [], ◌∷◌, length, Bor, Option, Some, None, sym, ap, ◌∙◌, refl, subst, option_copied}
use Rattle.just_syntax.specs.declared.expression.Expression.{Expression}
use Rattle.just_expression.specs.Prelude.{Behaves, EndsBefore, Entered, Enters, Frames, Function, Gave, Outcome, Program, Refusal, Rules, Step, Token, Tree}
use Rattle.just_expression.specs.Prelude.{Value, unchecked}
use Rattle.just_expression.specs.Prelude.{bind, called, callee, context_of, deeper, dynamic, eval, inside, is_non_const, look, note, program, program_view, row}
use Rattle.just_expression.specs.Prelude.{rules, situation, value_in, with_parameters, without_value}
use Rattle.just_syntax.specs.Plain.{Expr}
use Rattle.just_host.specs.Interaction.{done}
use Rattle.just_host.specs.declared.execution_context.ExecutionContext.{ExecutionContext}
use Rattle.just_interaction.proofs.Paths.{runs_done, runs_ends, runs_note, runs_on, runs_stopped}
use Rattle.just_meaning.specs.Meaning.{Situation}
use Rattle.just_expression.specs.Call.{Reached, entered}
use Rattle.just_expression.proofs.Commands.{itself}
use Rattle.just_expression.specs.View.{program_of}
use Rattle.just_expression.specs.declared.evaluator.ExpressionEvaluator.{ExpressionEvaluator}
use Rattle.just_expression.proofs.Leaves.{passes}

-- a body's situation, from its caller's
pub inside_is : (inner : Frames) (s own : Situation) (f : Function) (vs : List Value) → inner ≡ with_parameters [] f.parameters vs ∷ s.below
    → own ≡ (record {
      names = value_in inner;
      environment = s.environment;
      recipe = s.recipe;
      is_dependency = s.is_dependency;
      lists = s.lists;
      shown = inner;
      below = inner;
    }) → own ≡ inside (value_in s.below) s f vs
inside_is inner s own f vs e is = is ∙ rw e refl

-- a body runs in its own situation
pub body_runs : {rules : Rules} {S : Type 0} {step : Step S} {old new : S} (p : Program) (calls : ℕ) (inner own : Situation) (e : Expr) (o : Outcome Value)
    → inner ≡ own → Behaves rules step unchecked old (eval p (dynamic p calls) inner e) o new
    → Behaves rules step unchecked old (eval p (dynamic p calls) own e) o new
body_runs {rules = rules} {step = step} {old = old} {new = new} p calls inner own e o is r =
    subst (λ i. Behaves rules step unchecked old (eval p (dynamic p calls) i e) o new) is r

-- the runs of a call, in a context
module _ {S : Type 0} (step : Step S) (e : ExpressionEvaluator) (c : Bor ExecutionContext) (is : e.context ≡ Some c) (t : Token) (xs : List Expression) where
  given : context_of e ≡ Some c.now
  given = ap option_copied is

  abbrev called_tree : Tree Value
  called_tree = called (program e) t (callee (program e).functions t.lexeme) (deeper e) (situation e) (length xs) (row e xs)

  entering : {old new : S} (o : Outcome Value) → Behaves (rules e) step unchecked old called_tree o new
      → Behaves (rules e) step unchecked old (note (Entered t) called_tree) o new
  entering o r = runs_note (passes (context_of e) (is_non_const e) c.now (Entered t) given) r

  -- it ends before its arguments are evaluated
  pub call_refused : {h : S} (r : Option Refusal) → EndsBefore (program_view c.now) t (callee (program_view c.now).functions t.lexeme) e.calls_left (length xs)
      r → Behaves (rules e) step unchecked h (note (Entered t) called_tree) (without_value r) h
  call_refused None ends = entering _ (runs_stopped called_tree)
  call_refused {h = h} (Some r) ends =
      let here = subst (λ o. EndsBefore (program_of o) t (callee (program_of o).functions t.lexeme) e.calls_left (length xs) (Some r)) (sym given) ends in
      entering _ (subst (λ x. Behaves (rules e) step unchecked h x (without_value (Some r)) h) (sym (here (situation e) (row e xs))) (runs_done _ _ refl))

  module _ (r : Reached) (enters : Enters (program_view c.now) t (callee (program_view c.now).functions t.lexeme) e.calls_left (length xs) r) where
    call_enters : called_tree ≡ bind (row e xs (look r t)) (entered (program e) (situation e) t r)
    call_enters =
        subst (λ o. Enters (program_of o) t (callee (program_of o).functions t.lexeme) e.calls_left (length xs) r) (sym given) enters (situation e) (row e xs)

    -- an argument ends it
    pub call_ends : {old new : S} (o : Option Refusal) → Behaves (rules e) step unchecked old (row e xs (look r t)) (without_value o) new
        → Behaves (rules e) step unchecked old (note (Entered t) called_tree) (without_value o) new
    call_ends {old = old} {new = new} o q = entering _
        (subst (λ x. Behaves (rules e) step unchecked old x (without_value o) new) (sym call_enters) (runs_ends _ _ o q))

    -- the callee runs after the arguments
    pub call_runs : {old mid new : S} (vs : List Value) (o : Outcome Value) → Behaves (rules e) step unchecked old (row e xs (look r t)) (Gave vs) mid
        → Behaves (rules e) step unchecked mid (entered (program e) (situation e) t r vs) o new
        → Behaves (rules e) step unchecked old (note (Entered t) called_tree) o new
    call_runs {old = old} {new = new} vs o q b = entering _ (subst (λ x. Behaves (rules e) step unchecked old x o new) (sym call_enters) (runs_on _ _ q b))

-- an argument's value, and what is derived from it without a question
pub looked_at : {rules : Rules} {S : Type 0} {step : Step S} {old new : S} (t : Tree Value) (look : ℕ → Value → Tree Value) (i k : ℕ) (v : Value)
    (w : Outcome Value) → i ≡ k → Behaves rules step unchecked old t (Gave v) new → look i v ≡ done w → Behaves rules step unchecked old (bind t (look k)) w new
looked_at {rules = rules} {step = step} {old = old} {new = new} t look i k v w same r is =
    runs_on t (look k) r (subst (λ x. Behaves rules step unchecked new x w new) (sym is ∙ ap (λ j. look j v) same) (runs_done w w (itself w w refl)))
