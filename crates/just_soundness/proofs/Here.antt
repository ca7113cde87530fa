-- What is evaluated for a recipe has the meaning of lexical scope, and meets few refusals.
use Rattle.std.proofs.Common.{◌≡◌, inr, ℕ, Bool, false, List, [], ◌∷◌, map, ap}
use Rattle.std.specs.List.{AllByRecursion}
use Rattle.just_syntax.specs.Plain.{Text, Token, Assignment, Attribute, Expr, Fragment, Interpolation, Parameter, TextFragment}
use Rattle.just_syntax.specs.StringContext.{StringContext}
use Rattle.just_syntax.proofs.Lists.{in_first}
use Rattle.just_value.specs.Value.{Value, joined}
use Rattle.just_value.specs.Frames.{Frames, value_in}
use Rattle.just_host.specs.Interaction.{Tree, done, bind}
use Rattle.just_meaning.specs.Here.{IsReadable, IsResolvedHere}
use Rattle.just_meaning.specs.Internal.{IsFinal, IsNotInternal}
use Rattle.just_meaning.specs.Line.{line, line_expressions, string}
use Rattle.just_meaning.specs.Meaning.{Program, Situation}
use Rattle.just_meaning.specs.Resolved.{parameter_numbers}
use Rattle.just_meaning.specs.Settings.{text_in}
use Rattle.just_value.specs.Refusal.{Refusal, ListInStringContext}
use Rattle.just_soundness.proofs.ConstInternal.{IsOther}
use Rattle.just_soundness.proofs.Constants.{AllConst, const_bind, const_congruence}
use Rattle.just_soundness.proofs.Final.{AllFinal}
use Rattle.just_soundness.proofs.Forms.{IsCongruence, equality, related_bind}
use Rattle.just_soundness.proofs.Internal.{IsNeverInternal}
use Rattle.just_soundness.proofs.Lexical.{IsApart}
use Rattle.just_soundness.proofs.Refused.{AllRefused, refused_bind, refused_congruence, refused_text}

-- ---- texts and lines, by the meaning of their expressions

pub all_such : (P : Expr → Type 0) → ((e : Expr) → P e) → (es : List Expr) → AllByRecursion P es
all_such P h [] = tt
all_such P h (e ∷ es) = (h e, all_such P h es)

-- the expression means the same
abbrev pub Same : (Expr → Tree Value) → (Expr → Tree Value) → Expr → Type 0
Same means other e = means e ≡ other e

pub same_string : (means other : Expr → Tree Value) (context : StringContext) (e : Expr) → Same means other e → string means context e ≡ string other context e
same_string means other context e same = ap (λ t. bind t (λ v. done (text_in context v))) same

-- a list is refused if a single text is required
pub text_not : (context : StringContext) (v : Value) → IsNotInternal (text_in context v)
text_not = refused_text IsOther (λ context v none. none)

pub string_never : (means : Expr → Tree Value) (context : StringContext) (e : Expr) → IsNeverInternal (means e) → IsNeverInternal (string means context e)
string_never means context e h = refused_bind IsOther (means e) _ h (text_not context)

pub string_final : (means : Expr → Tree Value) (context : StringContext) (e : Expr) → AllFinal (means e) → AllFinal (string means context e)
string_final means context e h = refused_bind IsFinal (means e) _ h (refused_text IsFinal (λ context v. tt) context)

-- a line is related to another if its expressions are
related_line : (R : (A : Type 0) → Tree A → Tree A → Type 0) → IsCongruence R → (means other : Expr → Tree Value) (continued : Bool) (fs : List Fragment)
    → AllByRecursion (λ e. R Value (means e) (other e)) (line_expressions fs) → R Text (line means continued fs) (line other continued fs)
related_line R congruence means other continued [] h = congruence.gave _ []
related_line R congruence means other continued (TextFragment t ∷ fs) h =
    related_bind R congruence (related_line R congruence means other false fs h) (λ rest. congruence.gave _ _)
related_line R congruence means other continued (Interpolation e ∷ fs) h =
    related_bind R congruence (related_bind R congruence h.0 (λ v. congruence.gave _ (joined v)))
    (λ text. related_bind R congruence (related_line R congruence means other false fs h.1) (λ rest. congruence.gave _ _))

pub same_line : (means other : Expr → Tree Value) (continued : Bool) (fs : List Fragment) → AllByRecursion (Same means other) (line_expressions fs)
    → line means continued fs ≡ line other continued fs
same_line = related_line (λ A t u. t ≡ u) equality

pub line_never : (means : Expr → Tree Value) (continued : Bool) (fs : List Fragment) → AllByRecursion (λ e. IsNeverInternal (means e)) (line_expressions fs)
    → IsNeverInternal (line means continued fs)
line_never means = related_line (λ A t u. AllRefused IsOther t) (refused_congruence IsOther) means means

pub line_final : (means : Expr → Tree Value) (continued : Bool) (fs : List Fragment) → ((e : Expr) → AllFinal (means e)) → AllFinal (line means continued fs)
line_final means continued fs h = related_line (λ A t u. AllFinal t) (refused_congruence IsFinal) means means continued fs (all_such _ h (line_expressions fs))

-- ---- under the const rules

module _ (P : Refusal → Type 0) (lists : (context : StringContext) (v : Value) → P (ListInStringContext context v)) (is_open : ℕ → Bool) where
  pub string_const : (means : Expr → Tree Value) (context : StringContext) (e : Expr) → AllConst P is_open (means e)
      → AllConst P is_open (string means context e)
  string_const means context e h = const_bind P is_open (means e) _ h (refused_text P lists context)

  pub line_const : (means : Expr → Tree Value) (continued : Bool) (fs : List Fragment)
      → AllByRecursion (λ e. AllConst P is_open (means e)) (line_expressions fs)
      → AllConst P is_open (line means continued fs)
  line_const means = related_line (λ A t u. AllConst P is_open t) (const_congruence P is_open) means means

-- ---- if all is resolved

module _ (c : Program) (assignments : List Assignment) (k : ℕ) (s : Situation) (attributes : List (Attribute × Token)) (parameters : List Parameter)
    (expressions : List Expr) (base : Frames)
    (resolved : IsResolvedHere c.functions assignments base s.shown attributes parameters expressions) where
  -- an expression that reads, through functions, only what has a value in the base reads no other function's parameter
  -- there
  pub readable_apart : (readable : ℕ → Type 0) (e : Expr) → IsReadable c.functions (value_in base) readable e → IsApart c.functions e
  readable_apart readable e h n beyond parameter =
      resolved.unbound n (in_first (parameter_numbers c.functions) (map (λ p. p.number) parameters) n parameter) (inr (h.beyond n beyond))
