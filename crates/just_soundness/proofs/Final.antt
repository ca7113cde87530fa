-- A run meets none of the refusals of constant evaluation.
use Rattle.std.proofs.Common.{ℕ, zero, suc, ◌-◌, List, [], ◌∷◌, length, nat_eq, Option, Some, None}
use Rattle.just_syntax.specs.Plain.{Text, Token, Assignment, Function, Expr}
use Rattle.just_value.specs.Value.{Value}
use Rattle.just_value.specs.Frames.{Frames, value_in}
use Rattle.just_value.specs.Outcome.{Outcome}
use Rattle.just_host.specs.Interaction.{Event, Path, Tree, freely}
use Rattle.just_meaning.specs.Callee.{Callee, Defined, BuiltIn, LeftOut, Unknown, accepts, callee}
use Rattle.just_meaning.specs.Closings.{dynamic, inside}
use Rattle.just_meaning.specs.Internal.{IfRefused, IsFinal}
use Rattle.just_meaning.specs.Meaning.{Program, Situation, Deeper, AtLimit, WithinLimit, Row, as_it_is, called, eval, named}
use Rattle.just_meaning.specs.Assignments.{assignment_at}
use Rattle.just_meaning.specs.Module.{Module, assigned, dynamically, evaluated, is_taken, run, turn, turn_of}
use Rattle.just_syntax.specs.Occurrences.{CallOf, CommandOf, Mention, VariableOf}
use Rattle.just_interaction.proofs.Ends.{ends_path}
use Rattle.just_soundness.proofs.Refused.{AllRefused, IsRowRefused, MentionFits, Permits, refused_bind, refused_built_in, refused_eval, refused_if}
use Rattle.just_soundness.proofs.Refused.{refused_override}

-- no outcome of the tree is a refusal of the const rules
abbrev pub AllFinal : {A : Type 0} → Tree A → Type 0
AllFinal t = AllRefused IsFinal t

permits_final : Permits IsFinal
permits_final = record {
  forms = record { assertion = λ message t. tt; operation = λ l o r t. tt; regex = λ t. tt };
  command = λ t f. tt;
  function = λ t message. tt;
  list = λ context v. tt;
}

final_named : (t : Token) (o : Option Value) → IfRefused IsFinal (named t o)
final_named t (Some v) = tt
final_named t None = tt

-- nor is an outcome of a call
abbrev pub IsFinalDeeper : Deeper → Type 0
IsFinalDeeper AtLimit = Unit {0}
IsFinalDeeper (WithinLimit run) = (f : Function) (s : Situation) (vs : List Value) → AllFinal (run f s vs)

-- every call and every variable is allowed
abbrev Any : Text → ℕ → Type 0
Any f n = Unit {0}

module _ (c : Program) (s : Situation) where
  final_called : (t : Token) (f : Callee) (d : Deeper) (n : ℕ) (row : Row) → IsFinalDeeper d → IsRowRefused IsFinal row → AllFinal (called c t f d s n row)
  final_called t (Defined f) AtLimit n row deeper h = tt
  final_called t (Defined f) (WithinLimit run) n row deeper h =
      refused_if IsFinal (nat_eq n (length f.parameters)) _ _ (refused_bind IsFinal (row as_it_is) (run f s) (h as_it_is (λ i v. tt)) (λ vs. deeper f s vs)) tt
  final_called t (BuiltIn f) d n row deeper h = refused_if IsFinal (accepts (BuiltIn f) n) _ _ (refused_built_in IsFinal permits_final c s t f row h) tt
  final_called t LeftOut d n row deeper h = tt
  final_called t Unknown d n row deeper h = tt

  final_mention : (x : Mention) → MentionFits IsFinal Any s.names x
  final_mention (CommandOf text) = tt
  final_mention (VariableOf None) = λ t. tt
  final_mention (VariableOf (Some n)) = λ t. final_named t (s.names n)
  final_mention (CallOf f n) = tt

  pub final_eval : (d : Deeper) → IsFinalDeeper d → (e : Expr) → AllFinal (eval c d s e)
  final_eval d deeper e = refused_eval IsFinal permits_final c d s Any (λ t n row among counted h. final_called t (callee c.functions t.lexeme) d n row deeper
      h) e (λ x occurs. final_mention x)

pub final_dynamic : (c : Program) (n : ℕ) → IsFinalDeeper (dynamic c n)
final_dynamic c zero = tt
final_dynamic c (suc n) = λ f s vs. final_eval c (inside (value_in s.below) s f vs) (dynamic c n) (final_dynamic c n) f.body

-- ---- a run under dynamic scope, of any module

module _ (m : Module) where
  final_evaluated : (frames : Frames) (a : Assignment) → AllFinal (evaluated dynamically m frames a)
  final_evaluated frames a =
      refused_bind IsFinal (assigned dynamically m frames a) _ (refused_override IsFinal (m.overrides a.number) _
      (final_eval m.program _ (dynamically m frames) (final_dynamic m.program (m.limit - 1)) a.value)) (λ v. tt)

  final_turn : (frames : Frames) (t : Token) (x : Option Assignment) → AllFinal (turn_of dynamically m frames t x)
  final_turn frames t None = tt
  final_turn frames t (Some a) = refused_if IsFinal (is_taken m frames a) _ _ (final_evaluated frames a) tt

  final_run : (frames : Frames) (names : List Token) → AllFinal (run dynamically m frames names)
  final_run frames [] = tt
  final_run frames (t ∷ left) =
      refused_bind IsFinal (turn dynamically m frames t) _ (final_turn frames t (assignment_at m.assignments t.lexeme)) (λ next. final_run next left)

  pub turn_is_final : (frames : Frames) (t : Token) {es : List Event} {o : Outcome Frames} → Path freely (turn dynamically m frames t) es o
      → IfRefused IsFinal o
  turn_is_final frames t path =
      ends_path (IfRefused IsFinal) tt (turn dynamically m frames t) (final_turn frames t (assignment_at m.assignments t.lexeme)) path

  pub run_is_final : (frames : Frames) (names : List Token) {es : List Event} {o : Outcome Frames} → Path freely (run dynamically m frames names) es o
      → IfRefused IsFinal o
  run_is_final frames names path = ends_path (IfRefused IsFinal) tt (run dynamically m frames names) (final_run frames names) path
