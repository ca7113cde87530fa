-- What is read is of some form, or else its first token is refused.
use Rattle.std.specs.Prelude.{◌≡◌, ◌⊎◌, [], ◌∷◌, ◌++◌, take, Option, Some, None}
use Rattle.std.proofs.Common.{◌∙◌, ap, refl, subst, sym, ⊎_elim}
use Rattle.just_lexer.specs.State.{Lexeme}
use Rattle.just_syntax.specs.Plain.{Expr, Literal, StringLiteral}
use Rattle.just_expression_parser.specs.Tokens.{Tokens}
use Rattle.just_parser.specs.Phrase.{Parsed, Phrase, Read, Refused, after_read, found_at, value, value_as}
use Rattle.just_parser.specs.declared.parse_error.Fault.{Fault}
use Rattle.just_parser.specs.Laws.{lookahead}
use Rattle.just_parser.proofs.ReadExpressions.{reads_value, string_again}
use Rattle.just_parser.proofs.Predictive.{IsPredictive, ReadsAgain, IsRefusal, RefusesAgain, refused_at, same_read}

-- the tokens that decide the fault decide whether what is read has the form
abbrev pub IsDecided : {A B : Type 0} → Fault → Phrase A → (A → Option B) → Type 0
IsDecided {A} {B} fault phrase form = (t : Lexeme) (rest us : Tokens) (a b : A) (more later : Tokens)
    → take (lookahead fault) us ≡ take (lookahead fault) rest → phrase (t ∷ rest) ≡ Read a more → form a ≡ None → phrase (t ∷ us) ≡ Read b later
    → form b ≡ None

module _ {A B : Type 0} (fault : Fault) (phrase : Phrase A) (one : IsPredictive 1 phrase) (form : A → Option B) (decided : IsDecided fault phrase form) where
  abbrev of_form : Phrase B
  of_form = λ ts. after_read (phrase ts) (λ a. found_at fault ts (form a))

  formed : (ts : Tokens) (a : A) (mid : Tokens) (b : B) (t : Lexeme) (rest : Tokens) (o : Option B) → form a ≡ o → phrase ts ≡ Read a mid
      → found_at fault ts o mid ≡ Read b (t ∷ rest) → ReadsAgain 1 of_form ts b t rest
  formed ts a mid b t rest None there is h = absurd (cc)
  formed ts a mid b t rest (Some x) there is h =
      let same = same_read x b mid (t ∷ rest) h in
      let r = one.reads ts a t rest (is ∙ ap (Read a) same.1) in
      record {
        used = r.used;
        parts = r.parts;
        enough = r.enough;
        again = λ us. ap (λ o. after_read o (λ a. found_at fault (r.used ++ t ∷ us) (form a))) (r.again us)
            ∙ ap (λ o. found_at fault (r.used ++ t ∷ us) o (t ∷ us)) there ∙ ap (λ x. Read x (t ∷ us)) same.0;
      }

  -- whatever is read, it has not the form
  formless : (ts : Tokens) (o : Parsed A) → ((b : A) (later : Tokens) → o ≡ Read b later → form b ≡ None)
      → IsRefusal (after_read o (λ a. found_at fault ts (form a)))
  formless ts (Refused f at) none = tt
  formless ts (Read b later) none = subst (λ o. IsRefusal (found_at fault ts o later)) (sym (none b later refl)) tt

  unformed : (ts : Tokens) (a : A) (mid : Tokens) (f : Fault) (t : Lexeme) (rest : Tokens) (o : Option B) → form a ≡ o → phrase ts ≡ Read a mid
      → found_at fault ts o mid ≡ Refused f (t ∷ rest) → RefusesAgain of_form ts f t rest
  unformed ts a mid f t rest (Some x) there is h = absurd (cc)
  unformed ts a mid f t rest None there is h =
      let same = refused_at fault f ts (t ∷ rest) h in
      record {
        front = [];
        parts = same.1;
        again = λ us alike. formless (t ∷ us) (phrase (t ∷ us)) (λ b later h.
            decided t rest us a b mid later (subst (λ f. take (lookahead f) us ≡ take (lookahead f) rest) (sym same.0) alike)
            (ap phrase (sym same.1) ∙ is) there h);
      }

  read_so : (ts : Tokens) (b : B) (t : Lexeme) (rest : Tokens) (o : Parsed A) → phrase ts ≡ o
      → after_read o (λ a. found_at fault ts (form a)) ≡ Read b (t ∷ rest) → ReadsAgain 1 of_form ts b t rest
  read_so ts b t rest (Refused f at) is h = absurd (cc)
  read_so ts b t rest (Read a mid) is h = formed ts a mid b t rest (form a) refl is h

  refused_so : (ts : Tokens) (f : Fault) (t : Lexeme) (rest : Tokens) (o : Parsed A) → phrase ts ≡ o
      → after_read o (λ a. found_at fault ts (form a)) ≡ Refused f (t ∷ rest) → RefusesAgain of_form ts f t rest
  refused_so ts f t rest (Read a mid) is h = unformed ts a mid f t rest (form a) refl is h
  refused_so ts f t rest (Refused g at) is h =
      let same = refused_at g f at (t ∷ rest) h in
      let r = one.refuses ts f t rest (is ∙ ap (λ f. Refused f at) same.0 ∙ ap (Refused f) same.1) in
      record {
        front = r.front;
        parts = r.parts;
        again = λ us alike. formless (r.front ++ t ∷ us) (phrase (r.front ++ t ∷ us)) (λ b later h. absurd (subst IsRefusal h (r.again us alike)));
      }

  pub reads_form : IsPredictive 1 of_form
  reads_form = record {
    reads = λ ts b t rest h. read_so ts b t rest (phrase ts) refl h;
    refuses = λ ts f t rest h. refused_so ts f t rest (phrase ts) refl h;
  }

-- ---- strings of some form

-- nothing else has the form
abbrev pub IsOfStrings : {A : Type 0} → (Expr → Option A) → Type 0
IsOfStrings form = (e : Expr) → ((l : Literal) × (e ≡ StringLiteral l)) ⊎ (form e ≡ None)

string_decided : {A : Type 0} (fault : Fault) (form : Expr → Option A) → IsOfStrings form → IsDecided fault value form
string_decided fault form only t rest us e f more later alike first none second =
    ⊎_elim (λ (l, is).
    let again = string_again t us later l (second ∙ ap (λ f. Read f later) is) rest in
    let same = same_read (StringLiteral l) e rest more (sym again ∙ first) in
    ap form is ∙ ap form same.0 ∙ none)
    (λ other. other) (only f)

pub reads_string_as : {A : Type 0} (fault : Fault) (form : Expr → Option A) → IsOfStrings form → IsPredictive 1 (value_as fault form)
unfolding value_as
reads_string_as fault form only = reads_form fault value reads_value form (string_decided fault form only)
