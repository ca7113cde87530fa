-- Expressions and values are predictive.
use Rattle.std.specs.Prelude.{ℕ, ◌≡◌, ◌≤◌, Bool, true, false, [], ◌∷◌, ◌++◌, length, bytes_eq, codes}
use Rattle.std.proofs.Common.{◌∙◌, ap, arith, inl, refl, subst, sym}
use Rattle.std.proofs.lemmas.List.{length-append}
use Rattle.just_lexer.specs.State.{Lexeme}
use Rattle.just_syntax.specs.Plain.{Expr, Literal, StringLiteral, Token}
use Rattle.just_lexer.specs.declared.kind.TokenKind.TheVariants as kinds
use Rattle.just_expression_parser.specs.Grammar as grammar
use Rattle.just_expression_parser.specs.Machine as machine
use Rattle.just_expression_parser.specs.Machine.{Action, Done, Expression, Operators, Passes, Refuses, Takes, begins_expression}
use Rattle.just_expression_parser.specs.Machine.{begins_value, parse}
use Rattle.just_expression_parser.specs.Tokens.{Tokens, code, is_kind, is_word, lexeme}
use Rattle.just_expression_parser.specs.declared.parse_error.Fault as syntax
use Rattle.just_expression_parser.proofs.Codes.{of_kind}
use Rattle.just_expression_parser.proofs.Early.{Early, Reading, Refusing, early}
use Rattle.just_expression_parser.proofs.Actions.{value_completes}
use Rattle.just_expression_parser.proofs.Runs.{refuses, takes}
use Rattle.just_expression_parser.proofs.Sound.{derives_at, not_read}
use Rattle.just_expression_parser.proofs.Starts.{IsStart, expression_starts, value_here}
use Rattle.just_expression_parser.proofs.Steps.{read_all}
use Rattle.just_expression_parser.proofs.Values.{string_here}
use Rattle.just_parser.specs.Phrase.{Phrase, Read, Refused, expression, of_machine, value}
use Rattle.just_parser.specs.declared.parse_error.Fault.{Fault}
use Rattle.just_parser.specs.declared.parse_error.Fault.TheVariants.{Syntax}
use Rattle.just_parser.proofs.Predictive.{IsPredictive, IsRefusal, RefusesAgain, TakesToken, reads_some}

-- ---- what the machine reads

read_by : (r : machine.Result) (a : Expr) (us : Tokens) → of_machine r ≡ Read a us → r ≡ machine.Read a us
read_by (machine.Read e ts) a us is = cc
read_by (machine.Refused f ts) a us is = absurd (cc)

refused_by : (r : machine.Result) (fault : Fault) (us : Tokens) → of_machine r ≡ Refused fault us
    → (f : syntax.Fault) × (Syntax f ≡ fault) × (r ≡ machine.Refused f us)
refused_by (machine.Read e ts) fault us is = absurd (cc)
refused_by (machine.Refused f ts) fault us is = (f, cc, cc)

-- an expression takes a token
takes_some : (least : ℕ) (e : Expr) (t : Lexeme) (rest : Tokens) (a : Action) → begins_expression least t ≡ a → IsStart a
    → parse (t ∷ rest) (Expression least) [] ≡ machine.Read e (t ∷ rest) → ⊥
takes_some least e t rest (Takes next inner) is start r =
    let soon = early rest next (inner ++ []) (Reading e) t rest (sym (takes t rest (Expression least) [] next inner is) ∙ r) in
    omega (arith, ap length soon.1, length-append soon.0 (t ∷ rest))
takes_some least e t rest (Passes x) is start r = absurd start
takes_some least e t rest (Refuses fault) is start r =
    not_read fault (t ∷ rest) e (t ∷ rest) (sym (refuses t rest (Expression least) [] fault is) ∙ r)

enough_taken : (least : ℕ) (e : Expr) (t : Lexeme) (rest front : Tokens) (ts : Tokens) → ts ≡ front ++ t ∷ rest
    → parse ts (Expression least) [] ≡ machine.Read e (t ∷ rest) → 1 ≤ length front
enough_taken least e t rest [] ts parts r =
    absurd (takes_some least e t rest (begins_expression least t) refl (expression_starts least t) (ap (λ us. parse us (Expression least) []) (sym parts) ∙ r))
enough_taken least e t rest (x ∷ front) ts parts r = omega arith

module _ (least : ℕ) (phrase : Phrase Expr) (is : (ts : Tokens) → phrase ts ≡ of_machine (parse ts (Expression least) [])) where
  refused_early : (ts : Tokens) (fault : Fault) (t : Lexeme) (rest : Tokens) (f : syntax.Fault) → Early ts (Expression least) [] (Refusing f) t rest
      → RefusesAgain phrase ts fault t rest
  refused_early ts fault t rest f (front, parts, again) = record {
    front = front;
    parts = parts;
    again = λ us alike. subst IsRefusal (sym (is (front ++ t ∷ us) ∙ ap of_machine (again us))) tt;
  }

  of_machine_predictive : IsPredictive 1 phrase
  of_machine_predictive = record {
    reads = λ ts e t rest h.
        let r = read_by (parse ts (Expression least) []) e (t ∷ rest) (sym (is ts) ∙ h) in
        let soon = early ts (Expression least) [] (Reading e) t rest r in
        record {
          used = soon.0;
          parts = soon.1;
          enough = enough_taken least e t rest soon.0 ts soon.1 r;
          again = λ us. is (soon.0 ++ t ∷ us) ∙ ap of_machine (soon.2 us);
        };
    refuses = λ ts fault t rest h.
        let r = refused_by (parse ts (Expression least) []) fault (t ∷ rest) (sym (is ts) ∙ h) in
        refused_early ts fault t rest r.0 (early ts (Expression least) [] (Refusing r.0) t rest r.2);
  }

pub reads_expression : IsPredictive 1 expression
unfolding expression
reads_expression = of_machine_predictive 0 expression (λ ts. refl)

pub reads_value : IsPredictive 1 value
unfolding value
reads_value = of_machine_predictive 4 value (λ ts. refl)

value_is : (ts : Tokens) → value ts ≡ of_machine (parse ts (Expression 4) [])
unfolding value
value_is ts = refl

-- ---- names

abbrev IsTake : Action → Type 0
IsTake (Takes next inner) = Unit {0}
IsTake (Passes e) = ⊥
IsTake (Refuses fault) = ⊥

-- a name begins an expression
name_begins : (token : Token) (b : Bool) → bytes_eq token.lexeme (codes "if") ≡ b → IsTake (begins_expression 0 (lexeme kinds.Identifier token))
unfolding begins_expression begins_value is_word is_kind code
name_begins token true is = rw is tt
name_begins token false is = rw is tt

taken_name : (t : Lexeme) (rest : Tokens) (f : syntax.Fault) (a : Action) → begins_expression 0 t ≡ a → IsTake a
    → parse (t ∷ rest) (Expression 0) [] ≡ machine.Refused f (t ∷ rest) → ⊥
taken_name t rest f (Takes next inner) is take r =
    let soon = early rest next (inner ++ []) (Refusing f) t rest (sym (takes t rest (Expression 0) [] next inner is) ∙ r) in
    omega (arith, ap length soon.1, length-append soon.0 (t ∷ rest))
taken_name t rest f (Passes x) is take r = absurd take
taken_name t rest f (Refuses fault) is take r = absurd take

expression_is : (ts : Tokens) → expression ts ≡ of_machine (parse ts (Expression 0) [])
unfolding expression
expression_is ts = refl

pub name_is_taken : (t : Lexeme) → is_kind kinds.Identifier t ≡ true → TakesToken expression t
name_is_taken t is = record {
  reads_on = reads_some reads_expression t;
  never_refused = λ rest fault h.
      let r = refused_by (parse (t ∷ rest) (Expression 0) []) fault (t ∷ rest) (sym (expression_is (t ∷ rest)) ∙ h) in
      let first : lexeme kinds.Identifier t.token ≡ t = ap (λ k. lexeme k t.token) (sym (of_kind kinds.Identifier t is)) in
      taken_name t rest r.0 (begins_expression 0 t) refl
      (subst (λ t. IsTake (begins_expression 0 t)) first (name_begins t.token (bytes_eq t.token.lexeme (codes "if")) refl)) r.2;
}

-- ---- strings

-- a complete value is read, whatever comes after it
pub complete : (ts rest : Tokens) (e : Expr) → parse ts machine.Value (Operators 4 4 ∷ []) ≡ parse rest (Done e) (Operators 4 4 ∷ []) → value ts ≡ Read e rest
complete ts rest e is =
    value_is ts
    ∙ ap of_machine (value_here 4 ts [] (inl (omega arith)) ∙ is ∙ value_completes rest e [] ∙ sym (read_all rest e [] refl))

-- a value that is read, the grammar derives
pub derived : (ts : Tokens) (e : Expr) (rest : Tokens) → value ts ≡ Read e rest → grammar.reads e 4 ts rest
derived ts e rest is = derives_at 4 e ts rest (omega arith) (read_by (parse ts (Expression 4) []) e rest (sym (value_is ts) ∙ is))

-- a string is known by its token
pub string_again : (t : Lexeme) (us later : Tokens) (l : Literal) → value (t ∷ us) ≡ Read (StringLiteral l) later → (rest : Tokens)
    → value (t ∷ rest) ≡ Read (StringLiteral l) rest
string_again t us later l is rest =
    let d = derived (t ∷ us) (StringLiteral l) later is in
    let first : t ≡ lexeme kinds.StringToken d.0 = cc in
    complete (t ∷ rest) rest (StringLiteral l)
    (ap (λ x. parse (x ∷ rest) machine.Value (Operators 4 4 ∷ [])) first
    ∙ string_here kinds.StringToken d.0 rest (Operators 4 4 ∷ []) refl (StringLiteral l) (d.1, d.2))
