-- A logical relation of interaction trees, and its fundamental lemma: one recursion over the forms of expression.
use Rattle.std.proofs.Common.{inl, inr, ℕ, suc, Bool, true, false, List, [], ◌∷◌, ◌++◌, if◌then◌else◌, Option, Some, None, refl, subst, ◌≡◌}
use Rattle.just_syntax.specs.Plain.{Text, Token, Expr, And, Assert, AssertOnly, Backtick, Call, Comparison, Concatenation, Conditional, ConditionalOnly}
use Rattle.just_syntax.specs.Plain.{FormatString, Group, Join, JoinOnly, ListOf, ListConcatenation, Not, Or, StringLiteral, Variable, Exprs, Nil, Cons, count}
use Rattle.just_syntax.specs.Plain.{Pieces, NoPiece, Piece}
use Rattle.just_syntax.specs.Occurrences.{CallAt, CallOf, Mention, Occurrence, SomeOccurs, SomeOccursInPieces, SomeOccursInRow, VariableOf}
use Rattle.just_syntax.specs.Occurrences.{CommandAt, VariableAt, mention_of}
use Rattle.just_syntax.specs.Printed.{printed}
use Rattle.just_syntax.specs.declared.list_operator.ListOperator.{ListOperator}
use Rattle.just_syntax.specs.declared.list_operator.ListOperator.TheVariants as operators
use Rattle.just_syntax.specs.ListOperator.{separator}
use Rattle.just_value.specs.Value.{Value, is_truthy, joined}
use Rattle.just_value.specs.Applied.{applied, value_or_lists}
use Rattle.just_value.specs.Refusal as refusal
use Rattle.just_value.specs.Refusal.{Refusal}
use Rattle.just_host.specs.Interaction.{Tree, done, bind, gives, refuses}
use Rattle.just_meaning.specs.Meaning.{Program, Situation, Deeper, Row, as_it_is, asserted, assertion, combination, eval, eval_row, eval_pieces, is_regex}
use Rattle.just_meaning.specs.Meaning.{variable}
use Rattle.just_meaning.specs.Reaches.{Occurs}

-- the refusals of the forms themselves have this property
pub record OfForms (P : Refusal → Type 0) : Type 0 where
  pub assertion : (message : Text) (t : Token) → P (refusal.Assert message t)
  pub operation : (l : Value) (o : ListOperator) (r : Value) (t : Token) → P (refusal.ListOperation l o r t)
  pub regex : (t : Token) → P (refusal.LeftOutRegex t)

-- the relation holds of a value and itself, and it is closed under `bind`
pub record IsCongruence (R : (A : Type 0) → Tree A → Tree A → Type 0) : Type 1 where
  pub gave : (A : Type 0) (a : A) → R A (gives a) (gives a)
  pub bound : (A B : Type 0) (t u : Tree A) (go on : A → Tree B) → R A t u → ((a : A) → R B (go a) (on a)) → R B (bind t go) (bind u on)

pub equality : IsCongruence (λ A t u. t ≡ u)
equality = record { gave = λ A a. refl; bound = λ A B t u go on h k. λ i. bind (h i) (λ a. k a i) }

-- rows are related if each value is passed to a function that is related to itself
abbrev pub AreRowsRelated : ((A : Type 0) → Tree A → Tree A → Type 0) → Row → Row → Type 0
AreRowsRelated R row other = (look : ℕ → Value → Tree Value) → ((i : ℕ) (v : Value) → R Value (look i v) (look i v)) → R (List Value) (row look) (other look)

module _ (R : (A : Type 0) → Tree A → Tree A → Type 0) (congruence : IsCongruence R) where
  pub related_bind : {A B : Type 0} {t u : Tree A} {go on : A → Tree B} → R A t u → ((a : A) → R B (go a) (on a)) → R B (bind t go) (bind u on)
  related_bind h k = congruence.bound _ _ _ _ _ _ h k

  related_two : {A B D : Type 0} {t t' : Tree A} {u u' : Tree B} (go : A → B → Tree D) → R A t t' → R B u u' → ((v : A) (w : B) → R D (go v w) (go v w))
      → R D (bind t (λ v. bind u (go v))) (bind t' (λ v. bind u' (go v)))
  related_two go h k l = related_bind h (λ v. related_bind k (λ w. l v w))

  pub related_if : {A : Type 0} (b : Bool) {x y x' y' : Tree A} → R A x x' → R A y y' → R A (if b then x else y) (if b then x' else y')
  related_if true h k = h
  related_if false h k = k

  module _ (refused : OfForms (λ r. R Value (refuses r) (refuses r))) where
    related_lists : (o : Option Value) (xs : Value) (k : ListOperator) (ys : Value) (t : Token)
        → R Value (done (value_or_lists o xs k ys t)) (done (value_or_lists o xs k ys t))
    related_lists (Some v) xs k ys t = congruence.gave _ v
    related_lists None xs k ys t = refused.operation xs k ys t

    related_both : (o : ListOperator) (t : Token) {l r l' r' : Tree Value} → R Value l l' → R Value r r' → R Value (combination o l t r) (combination o l' t r')
    related_both o t h k = related_two _ h k (λ v w. related_lists (applied (separator o) v w) v o w t)

    related_assertion : {lists other : Bool} → lists ≡ other → (t : Token) {e e' : Tree Value} {m m' : Tree Text} → R Value e e' → R Text m m'
        → R Value (assertion lists t e m) (assertion other t e' m')
    related_assertion {lists = lists} same t h k =
        related_bind h (λ v. related_if (is_truthy v) (subst (λ b. R Value (gives (asserted lists v)) (gives (asserted b v))) same (congruence.gave _ _))
        (related_bind k (λ text. refused.assertion text t)))

    -- The two sides may differ in all but the lists flag. Commands, calls and variables are parameters. Each may use
    -- that what it is fits, and a call that the rows of its arguments are related.
    module _ (c c' : Program) (d d' : Deeper) (s s' : Situation) (lists : s.lists ≡ s'.lists) where
      module _ {X : Type 0} (Is : X → Occurrence → Type 0) (Fits : X → Type 0) where
        -- these fit
        abbrev AllFit : (X → Type 0) → Type 0
        AllFit these = (x : X) → these x → Fits x

        module _ (commands : (text : Text) (t : Token) → AllFit (λ x. Is x (CommandAt t text))
            → R Value (eval c d s (Backtick text t)) (eval c' d' s' (Backtick text t)))
            (calls : (t : Token) (es : Exprs) → AllFit (λ x. Is x (CallAt t (count es)))
            → AreRowsRelated R (eval_row c d s 0 es) (eval_row c' d' s' 0 es) → R Value (eval c d s (Call t es)) (eval c' d' s' (Call t es)))
            (variables : (number : Option ℕ) (t : Token) → AllFit (λ x. Is x (VariableAt t number))
            → R Value (variable t number s.names) (variable t number s'.names)) where
          mutual
            pub related_each : (e : Expr) → AllFit (λ x. SomeOccurs (Is x) e) → R Value (eval c d s e) (eval c' d' s' e)
            related_each (And l r) fit =
                related_bind (related_each l (λ x y. fit x (inl y)))
                (λ v. related_if (is_truthy v) (related_each r (λ x y. fit x (inr y))) (congruence.gave _ _))
            related_each (Assert e m t) fit =
                related_assertion lists t (related_each e (λ x y. fit x (inl y)))
                (related_bind (related_each m (λ x y. fit x (inr y))) (λ w. congruence.gave _ (joined w)))
            related_each (AssertOnly e t) fit = related_assertion lists t (related_each e fit) (congruence.gave _ ((96 ∷ printed e) ++ 96 ∷ []))
            related_each (Backtick text t) fit = commands text t fit
            related_each (Call t es) fit = calls t es (λ x y. fit x (inl y)) (λ look h. related_row 0 es look h (λ x y. fit x (inr y)))
            related_each (Comparison l o r t) fit =
                related_if (is_regex o) (refused.regex t) (related_two _ (related_each l (λ x y. fit x (inl y))) (related_each r (λ x y. fit x (inr y)))
                (λ v w. congruence.gave _ _))
            related_each (Concatenation l t r) fit =
                related_both operators.Concatenate t (related_each l (λ x y. fit x (inl y))) (related_each r (λ x y. fit x (inr y)))
            related_each (Conditional e a b) fit =
                related_bind (related_each e (λ x y. fit x (inl y))) (λ v. related_if (is_truthy v) (related_each a (λ x y. fit x (inr (inl y))))
                (related_each b (λ x y. fit x (inr (inr y)))))
            related_each (ConditionalOnly e a) fit =
                related_bind (related_each e (λ x y. fit x (inl y)))
                (λ v. related_if (is_truthy v) (related_each a (λ x y. fit x (inr y))) (congruence.gave _ _))
            related_each (FormatString start pieces) fit = related_bind (related_pieces pieces fit) (λ text. congruence.gave _ _)
            related_each (Group e) fit = related_each e fit
            related_each (Join l t r) fit = related_both operators.Join t (related_each l (λ x y. fit x (inl y))) (related_each r (λ x y. fit x (inr y)))
            related_each (JoinOnly t r) fit = related_both operators.Join t (congruence.gave _ ([] ∷ [])) (related_each r fit)
            related_each (ListOf es t) fit = related_bind (related_row 0 es as_it_is (λ i v. congruence.gave _ v) fit) (λ vs. congruence.gave _ _)
            related_each (ListConcatenation l t r) fit =
                related_two _ (related_each l (λ x y. fit x (inl y))) (related_each r (λ x y. fit x (inr y))) (λ v w. congruence.gave _ _)
            related_each (Not e) fit = related_bind (related_each e fit) (λ v. congruence.gave _ _)
            related_each (Or l r) fit =
                related_bind (related_each l (λ x y. fit x (inl y)))
                (λ v. related_if (is_truthy v) (congruence.gave _ v) (related_each r (λ x y. fit x (inr y))))
            related_each (StringLiteral literal) fit = congruence.gave _ _
            related_each (Variable t number) fit = variables number t fit

            related_row : (i : ℕ) (es : Exprs) (look : ℕ → Value → Tree Value) → ((i : ℕ) (v : Value) → R Value (look i v) (look i v))
                → AllFit (λ x. SomeOccursInRow (Is x) es) → R (List Value) (eval_row c d s i es look) (eval_row c' d' s' i es look)
            related_row i Nil look h fit = congruence.gave _ []
            related_row i (Cons e es) look h fit = related_two _ (related_bind (related_each e (λ x y. fit x (inl y))) (λ v. h i v))
                (related_row (suc i) es look h (λ x y. fit x (inr y))) (λ v vs. congruence.gave _ _)

            related_pieces : (pieces : Pieces) → AllFit (λ x. SomeOccursInPieces (Is x) pieces)
                → R Text (eval_pieces c d s pieces) (eval_pieces c' d' s' pieces)
            related_pieces NoPiece fit = congruence.gave _ []
            related_pieces (Piece e literal pieces) fit =
                related_two _ (related_each e (λ x y. fit x (inl y))) (related_pieces pieces (λ x y. fit x (inr y))) (λ v text. congruence.gave _ _)

      -- the same for what mentions something that fits
      module _ (Fits : Mention → Type 0) (commands : (text : Text) (t : Token) → R Value (eval c d s (Backtick text t)) (eval c' d' s' (Backtick text t)))
          (calls : (t : Token) (es : Exprs) → Fits (CallOf t.lexeme (count es)) → AreRowsRelated R (eval_row c d s 0 es) (eval_row c' d' s' 0 es)
          → R Value (eval c d s (Call t es)) (eval c' d' s' (Call t es)))
          (variables : (number : Option ℕ) → Fits (VariableOf number) → (t : Token) → R Value (variable t number s.names) (variable t number s'.names)) where
        pub related_eval : (e : Expr) → ((x : Mention) → Occurs e x → Fits x) → R Value (eval c d s e) (eval c' d' s' e)
        related_eval e fit =
            related_each (λ x o. mention_of o ≡ x) Fits (λ text t fit. commands text t)
            (λ t es fit row. calls t es (fit (CallOf t.lexeme (count es)) refl) row)
            (λ number t fit. variables number (fit (VariableOf number) refl) t) e fit

-- the same for a property of one tree
pub holds_each : (H : (A : Type 0) → Tree A → Type 0) → ((A : Type 0) (a : A) → H A (gives a))
    → ((A B : Type 0) (t : Tree A) (go : A → Tree B) → H A t → ((a : A) → H B (go a)) → H B (bind t go))
    → OfForms (λ r. H Value (refuses r)) → (c : Program) (d : Deeper) (s : Situation) {X : Type 0} (Is : X → Occurrence → Type 0) (Fits : X → Type 0)
    → ((text : Text) (t : Token) → ((x : X) → Is x (CommandAt t text) → Fits x) → H Value (eval c d s (Backtick text t)))
    → ((t : Token) (es : Exprs) → ((x : X) → Is x (CallAt t (count es)) → Fits x)
    → AreRowsRelated (λ A t u. H A t) (eval_row c d s 0 es) (eval_row c d s 0 es) → H Value (eval c d s (Call t es)))
    → ((number : Option ℕ) (t : Token) → ((x : X) → Is x (VariableAt t number) → Fits x) → H Value (variable t number s.names))
    → (e : Expr) → ((x : X) → SomeOccurs (Is x) e → Fits x) → H Value (eval c d s e)
holds_each H gave bound refused c d s Is Fits commands calls variables e fit =
    related_each (λ A t u. H A t) (record { gave = gave; bound = λ A B t u go on h k. bound A B t go h k }) refused c c d d s s refl Is Fits commands
    calls variables e fit

pub holds_eval : (H : (A : Type 0) → Tree A → Type 0) → ((A : Type 0) (a : A) → H A (gives a))
    → ((A B : Type 0) (t : Tree A) (go : A → Tree B) → H A t → ((a : A) → H B (go a)) → H B (bind t go))
    → OfForms (λ r. H Value (refuses r)) → (c : Program) (d : Deeper) (s : Situation) (Fits : Mention → Type 0)
    → ((text : Text) (t : Token) → H Value (eval c d s (Backtick text t)))
    → ((t : Token) (es : Exprs) → Fits (CallOf t.lexeme (count es)) → AreRowsRelated (λ A t u. H A t) (eval_row c d s 0 es) (eval_row c d s 0 es)
    → H Value (eval c d s (Call t es)))
    → ((number : Option ℕ) → Fits (VariableOf number) → (t : Token) → H Value (variable t number s.names)) → (e : Expr) → ((x : Mention) → Occurs e x → Fits x)
    → H Value (eval c d s e)
holds_eval H gave bound refused c d s Fits commands calls variables e fit =
    related_eval (λ A t u. H A t) (record { gave = gave; bound = λ A B t u go on h k. bound A B t go h k }) refused c c d d s s refl Fits commands
    calls variables e fit
