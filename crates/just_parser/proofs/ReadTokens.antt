-- Single tokens are predictive.
use Rattle.std.specs.Prelude.{ℕ, ◌≡◌, ◌+◌, Bool, true, false, [], ◌∷◌, length, if◌then◌else◌}
use Rattle.std.proofs.Common.{◌∙◌, ap, arith, refl, subst, sym}
use Rattle.just_lexer.specs.State.{Lexeme}
use Rattle.just_lexer.specs.declared.kind.TokenKind.{TokenKind}
use Rattle.just_lexer.specs.declared.kind.TokenKind.TheVariants as kinds
use Rattle.just_syntax.specs.Plain.{Token}
use Rattle.just_expression_parser.specs.Tokens.{Tokens, is_at, is_kind}
use Rattle.just_parser.specs.Phrase.{Phrase, Read, Refused, accepted, after_read, comma_unless, ◌>>=◌, expected, give, in_line, line_end, one}
use Rattle.just_parser.specs.declared.parse_error.Fault.{Fault}
use Rattle.just_parser.proofs.Predictive.{IsPredictive, ReadsAgain, IsRefusal, RefusesAgain, LooksAtOne, ReadsOn, TakesToken, any, at_least, by_test}
use Rattle.just_parser.proofs.Predictive.{follows, gives, reads_on_then, takes_then, refused_at, refuses_next, same_read}

-- whether a token is of a kind is seen at that token
pub at_looks : (kind : TokenKind) → LooksAtOne (is_at 0 kind)
at_looks kind t rest us = refl

-- ---- one token

pub one_here : (kind : TokenKind) (t : Lexeme) (ts : Tokens) (b : Bool) → is_kind kind t ≡ b
    → one kind (t ∷ ts) ≡ (if b then Read t.token ts else Refused (expected kind) (t ∷ ts))
unfolding one
one_here kind t ts b is = rw is refl

no_token : (kind : TokenKind) → one kind [] ≡ Refused (expected kind) []
unfolding one
no_token kind = refl

module _ (kind : TokenKind) where
  token_read : (x : Lexeme) (xs : Tokens) (a : Token) (t : Lexeme) (rest : Tokens) (b : Bool) → is_kind kind x ≡ b → one kind (x ∷ xs) ≡ Read a (t ∷ rest)
      → ReadsAgain 1 (one kind) (x ∷ xs) a t rest
  token_read x xs a t rest true is h =
      let same = same_read x.token a xs (t ∷ rest) (sym (one_here kind x xs true is) ∙ h) in
      record {
        used = x ∷ [];
        parts = ap (λ us. x ∷ us) same.1;
        enough = omega arith;
        again = λ us. one_here kind x (t ∷ us) true is ∙ ap (λ a. Read a (t ∷ us)) same.0;
      }
  token_read x xs a t rest false is h = let e = one_here kind x xs false is in absurd (cc)

  token_refused : (x : Lexeme) (xs : Tokens) (fault : Fault) (t : Lexeme) (rest : Tokens) (b : Bool) → is_kind kind x ≡ b
      → one kind (x ∷ xs) ≡ Refused fault (t ∷ rest) → RefusesAgain (one kind) (x ∷ xs) fault t rest
  token_refused x xs fault t rest true is h = let e = one_here kind x xs true is in absurd (cc)
  token_refused x xs fault t rest false is h =
      let same = refused_at (expected kind) fault (x ∷ xs) (t ∷ rest) (sym (one_here kind x xs false is) ∙ h) in
      let first : x ≡ t = cc in
      record {
        front = [];
        parts = same.1;
        again = λ us alike. subst IsRefusal (sym (one_here kind t us false (ap (is_kind kind) (sym first) ∙ is))) tt;
      }

  pub takes_one : IsPredictive 1 (one kind)
  takes_one = record {
    reads = λ ts a t rest is. read_at ts a t rest is;
    refuses = λ ts fault t rest is. refused_there ts fault t rest is;
  } where
    read_at : (ts : Tokens) (a : Token) (t : Lexeme) (rest : Tokens) → one kind ts ≡ Read a (t ∷ rest) → ReadsAgain 1 (one kind) ts a t rest
    read_at [] a t rest is = let e = no_token kind in absurd (cc)
    read_at (x ∷ xs) a t rest is = token_read x xs a t rest (is_kind kind x) refl is

    refused_there : (ts : Tokens) (fault : Fault) (t : Lexeme) (rest : Tokens) → one kind ts ≡ Refused fault (t ∷ rest)
        → RefusesAgain (one kind) ts fault t rest
    refused_there [] fault t rest is = let e = no_token kind in absurd (cc)
    refused_there (x ∷ xs) fault t rest is = token_refused x xs fault t rest (is_kind kind x) refl is

-- a token of the kind is taken
pub takes_kind : (kind : TokenKind) (t : Lexeme) → is_kind kind t ≡ true → TakesToken (one kind) t
takes_kind kind t is = record {
  reads_on = λ rest a h. let e = one_here kind t rest true is in shorter rest (cc);
  never_refused = λ rest fault h. let e = one_here kind t rest true is in cc;
} where
  shorter : (rest : Tokens) → rest ≡ t ∷ rest → ⊥
  shorter rest same = omega (arith, ap length same)

-- a token, and then nothing
pub after_one : {A : Type 0} (kind : TokenKind) (a : A) → IsPredictive 1 (λ ts. after_read (one kind ts) (λ token. give a))
after_one kind a = follows (takes_one kind) (λ token. gives a)

-- ---- tokens that may be there

-- one of two phrases, by the kind of the next token
pub by_kind : {A : Type 0} {least : ℕ} {first second : Phrase A} (kind : TokenKind) → IsPredictive least first → IsPredictive least second
    → IsPredictive least (λ ts. if is_at 0 kind ts then first ts else second ts)
by_kind kind one other = by_test (is_at 0 kind) (at_looks kind) one other

pub accepts : (kind : TokenKind) → IsPredictive 0 (accepted kind)
unfolding accepted
accepts kind = by_kind kind (any (after_one kind true)) (gives false)

-- a token of the kind is taken
pub accepted_takes : (kind : TokenKind) (t : Lexeme) → is_kind kind t ≡ true → ReadsOn (accepted kind) t
unfolding accepted
accepted_takes kind t is rest a h =
    reads_on_then t (any (takes_one kind)) (λ token. gives true) (takes_kind kind t is).reads_on rest a (rw is at h)

-- a token of another kind stays
pub not_accepted : (kind : TokenKind) (t : Lexeme) → is_kind kind t ≡ false → (rest : Tokens) → accepted kind (t ∷ rest) ≡ Read false (t ∷ rest)
unfolding accepted
not_accepted kind t is rest = rw is refl

pub ends_line : IsPredictive 0 line_end
unfolding line_end
ends_line = by_kind kinds.Eof (gives tt) (any (after_one kinds.Eol tt))

-- something, and the end of its line
pub ends_its_line : {A : Type 0} {least : ℕ} {phrase : Phrase A} → IsPredictive least phrase → IsPredictive least (in_line phrase)
ends_its_line p = at_least (omega arith) (follows p (λ a. follows ends_line (λ end. gives a)))

pub ends_element : (close : TokenKind) → IsPredictive 0 (comma_unless close)
unfolding comma_unless
ends_element close = by_kind close (gives tt) (by_kind kinds.Comma (any (after_one kinds.Comma tt)) (refuses_next (expected close)))

-- ---- phrases that begin with a token of a kind

-- a predictive phrase, which takes it
pub record Begins {A : Type 0} (least : ℕ) (kind : TokenKind) (phrase : Phrase A) : Type 0 where
  pub predictive : IsPredictive least phrase
  pub takes : (t : Lexeme) → is_kind kind t ≡ true → TakesToken phrase t

pub at_one : (kind : TokenKind) → Begins 1 kind (one kind)
at_one kind = record { predictive = takes_one kind; takes = takes_kind kind }

pub begins_with : {A B : Type 0} {least more : ℕ} {kind : TokenKind} {first : Phrase A} {next : A → Phrase B} → Begins least kind first
    → ((a : A) → IsPredictive more (next a)) → Begins (least + more) kind (first >>= next)
begins_with one other = record {
  predictive = follows one.predictive other;
  takes = λ t is. takes_then t (any one.predictive) (λ a. any (other a)) (one.takes t is);
}

pub begins : {B : Type 0} {more : ℕ} {next : Token → Phrase B} (kind : TokenKind) → ((token : Token) → IsPredictive more (next token))
    → Begins (1 + more) kind (one kind >>= next)
begins kind other = begins_with (at_one kind) other
