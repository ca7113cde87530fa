-- The meaning of calls.
use Rattle.std.proofs.Common.{◌≡◌, ◌≢◌, ℕ, zero, suc, true, false, if◌then◌else◌, length, nat_eq, refl, sym, ap, ◌∙◌, Option, Some, None, option_map, arith}
use Rattle.std.proofs.lemmas.Bool.Decides.{nat_tests}
use Rattle.just_expression.specs.Prelude.{EndsBefore, Enters, Function, Internal, IsExpected, Program, Refusal, RefusesWith, Text, Token, accepts, as_it_is}
use Rattle.just_expression.specs.Prelude.{bind, built_in_call, called, dynamic, eval, function_view, inside, program_view, refuses, undefined, value_at}
use Rattle.just_expression.specs.Prelude.{value_in}
use Rattle.just_syntax.proofs.Tables.{found_at}
use Rattle.just_syntax.specs.declared.function_definition.FunctionDefinition.{FunctionDefinition}
use Rattle.just_host.specs.declared.execution_context.ExecutionContext.{ExecutionContext}
use Rattle.just_builtins.specs.declared.function.Function.{Function as BuiltIn}
use Rattle.just_meaning.specs.Callee as meant
use Rattle.just_meaning.specs.Callee.{defined_or}
use Rattle.just_meaning.specs.Meaning.{texts_of}
use Rattle.just_meaning.specs.Messages.{miscounted_text}
use Rattle.just_meaning.proofs.Callees.{callable}
use Rattle.just_expression.specs.Call as call

-- what a name stands for, whether the file defines it or not
pub callee_is : (c : ExecutionContext) (name : Text) (found : Option FunctionDefinition)
    → found ≡ value_at (λ f. f.name.token.lexeme.now) name c.module.now.functions
    → meant.callee (program_view c).functions name ≡ defined_or (option_map function_view found) (undefined name)
callee_is c name found e = ap (λ o. defined_or o (undefined name)) (found_at function_view (λ f. f.name.lexeme) name name c.module.now.functions found e refl)

module _ (p : Program) (t : Token) where
  -- if a further call may be pending and the count fits, the arguments are evaluated, and then the body
  pub defined_is : (f : Function) (calls left n : ℕ) → calls ≡ suc left → length f.parameters ≡ n → Enters p t (meant.Defined f) calls n (call.Defined f left)
  defined_is f calls left n one same s row =
      let fits : nat_eq n (length f.parameters) ≡ true = grind (arith, nat_tests) in
      ap (λ k. called p t (meant.Defined f) (dynamic p k) s n row) one
      ∙ ap (λ b. if b then bind (row as_it_is) (λ vs. eval p (dynamic p left) (inside (value_in s.below) s f vs) f.body)
      else refuses (Internal (miscounted_text t.lexeme) t)) fits

  -- if the count does not fit, the refusal says so
  pub miscounted_is : (f : Function) (calls n : ℕ) (r : Option Refusal) → calls ≢ 0 → n ≢ length f.parameters
      → RefusesWith r (Internal (miscounted_text t.lexeme) t) → EndsBefore p t (meant.Defined f) calls n r
  miscounted_is f calls n None some other said = tt
  miscounted_is f zero n (Some r) some other said = absurd (some refl)
  miscounted_is f (suc calls) n (Some r) some other said = λ s row.
      let differs : nat_eq n (length f.parameters) ≡ false = grind (arith, nat_tests, other) in
      ap (λ b. if b then bind (row as_it_is) (λ vs. eval p (dynamic p calls) (inside (value_in s.below) s f vs) f.body)
      else refuses (Internal (miscounted_text t.lexeme) t)) differs
      ∙ ap refuses (sym said)

  -- if the count fits, the arguments are evaluated, and then the built-in function is called
  pub builtin_is : (f : BuiltIn) (calls n : ℕ) → IsExpected f n → Enters p t (meant.BuiltIn f) calls n (call.BuiltIn f)
  builtin_is f calls n fits s row =
      ap (λ b. if b then bind (row (texts_of f t)) (built_in_call p s t f) else refuses (Internal (miscounted_text t.lexeme) t))
      ((callable (meant.BuiltIn f) n).1 fits)

  -- if the count does not fit, the call is refused before the arguments
  pub unexpected_is : (f : BuiltIn) (calls n : ℕ) (r : Option Refusal) → accepts (meant.BuiltIn f) n ≡ false
      → RefusesWith r (Internal (miscounted_text t.lexeme) t) → EndsBefore p t (meant.BuiltIn f) calls n r
  unexpected_is f calls n None unfit said = tt
  unexpected_is f calls n (Some r) unfit said = λ s row.
      ap (λ b. if b then bind (row (texts_of f t)) (built_in_call p s t f) else refuses (Internal (miscounted_text t.lexeme) t)) unfit
      ∙ ap refuses (sym said)
