-- The arguments of attributes that evaluation ignores are predictive.
use Rattle.std.specs.Prelude.{◌≡◌, ◌≤◌, Bool, true, false, ◌&&◌, [], ◌∷◌, ◌++◌, length, take, if◌then◌else◌}
use Rattle.std.proofs.Common.{◌∙◌, ap, arith, refl, subst, sym}
use Rattle.just_lexer.specs.State.{Lexeme}
use Rattle.just_lexer.specs.declared.kind.TokenKind.TheVariants as kinds
use Rattle.just_expression_parser.specs.Tokens.{Tokens, is_at, is_kind}
use Rattle.just_parser.specs.Attributes.{ignored, ignored_argument, ignored_value}
use Rattle.just_parser.specs.Phrase.{Phrase, Refused, after_read, expression, one}
use Rattle.just_parser.specs.declared.parse_error.Fault.{Fault}
use Rattle.just_parser.specs.Laws.{lookahead}
use Rattle.just_parser.proofs.ReadExpressions.{name_is_taken, reads_expression}
use Rattle.just_parser.proofs.Predictive.{IsPredictive, ReadsAgain, IsRefusal, RefusesAgain, TakesToken, any, follows, gives, not_itself, takes_then}
use Rattle.just_parser.proofs.ReadTokens.{by_kind, takes_kind, takes_one}

ignores : IsPredictive 1 ignored
unfolding ignored
ignores = follows reads_expression (λ e. gives tt)

pub ignores_value : IsPredictive 0 ignored_value
unfolding ignored_value
ignores_value = by_kind kinds.Equals (any (follows (takes_one kinds.Equals) (λ mark. ignores))) (gives tt)

-- ---- `NAME = e`, or an expression, by the first two tokens

abbrev is_named_argument : Tokens → Bool
is_named_argument ts = is_at 0 kinds.Identifier ts && is_at 1 kinds.Equals ts

abbrev named_argument : Phrase Unit
named_argument = λ ts. after_read (one kinds.Identifier ts) (λ name. ignored_value)

abbrev side_of : Bool → Phrase Unit
side_of b = if b then named_argument else ignored

reads_side : (b : Bool) → IsPredictive 1 (side_of b)
reads_side true = follows (takes_one kinds.Identifier) (λ name. ignores_value)
reads_side false = ignores

argument_is : (ts : Tokens) (b : Bool) → is_named_argument ts ≡ b → ignored_argument ts ≡ side_of b ts
unfolding ignored_argument
argument_is ts true is = rw is refl
argument_is ts false is = rw is refl

same_two : (x : Lexeme) (front : Tokens) (t : Lexeme) (rest us : Tokens) → is_named_argument (x ∷ front ++ t ∷ rest) ≡ is_named_argument (x ∷ front ++ t ∷ us)
same_two x [] t rest us = refl
same_two x (y ∷ front) t rest us = refl

same_side : (b : Bool) (ts front : Tokens) (t : Lexeme) (rest us : Tokens) → 1 ≤ length front → ts ≡ front ++ t ∷ rest → is_named_argument ts ≡ b
    → ignored_argument (front ++ t ∷ us) ≡ side_of b (front ++ t ∷ us)
same_side b ts [] t rest us some parts is = absurd (omega (arith, some))
same_side b ts (x ∷ front) t rest us some parts is =
    argument_is (x ∷ front ++ t ∷ us) b (sym (same_two x front t rest us) ∙ ap is_named_argument (sym parts) ∙ is)

ignored_takes : (t : Lexeme) → is_kind kinds.Identifier t ≡ true → TakesToken ignored t
unfolding ignored
ignored_takes t is = takes_then t (any reads_expression) (λ e. gives tt) (name_is_taken t is)

-- a name is taken
side_takes : (t : Lexeme) → is_kind kinds.Identifier t ≡ true → (b : Bool) → TakesToken (side_of b) t
side_takes t is true = takes_then t (any (takes_one kinds.Identifier)) (λ name. ignores_value) (takes_kind kinds.Identifier t is)
side_takes t is false = ignored_takes t is

other_named : (t : Lexeme) (us : Tokens) → is_kind kinds.Identifier t ≡ false → is_named_argument (t ∷ us) ≡ false
other_named t us is = rw is refl

refused_first : (b : Bool) (fault : Fault) (t : Lexeme) (rest : Tokens) → is_named_argument (t ∷ rest) ≡ b → side_of b (t ∷ rest) ≡ Refused fault (t ∷ rest)
    → (k : Bool) → is_kind kinds.Identifier t ≡ k → (us : Tokens) → take (lookahead fault) us ≡ take (lookahead fault) rest
    → IsRefusal (ignored_argument (t ∷ us))
refused_first b fault t rest is h true name us alike = absurd ((side_takes t name b).never_refused rest fault h)
refused_first true fault t rest is h false name us alike = let e = other_named t rest name in absurd (cc)
refused_first false fault t rest is h false name us alike =
    let r = ignores.refuses (t ∷ rest) fault t rest h in
    subst IsRefusal (sym (argument_is (t ∷ us) false (other_named t us name))) (again r.front r.parts r.again) where
      again : (front : Tokens) → t ∷ rest ≡ front ++ t ∷ rest
          → ((us : Tokens) → take (lookahead fault) us ≡ take (lookahead fault) rest → IsRefusal (ignored (front ++ t ∷ us))) → IsRefusal (ignored (t ∷ us))
      again [] parts so = so us alike
      again (x ∷ front) parts so = absurd (not_itself t rest (x ∷ front) (omega arith) parts)

read_again : (ts : Tokens) (a : Unit) (t : Lexeme) (rest : Tokens) (b : Bool) → is_named_argument ts ≡ b → ReadsAgain 1 (side_of b) ts a t rest
    → ReadsAgain 1 ignored_argument ts a t rest
read_again ts a t rest b is r = record {
  used = r.used;
  parts = r.parts;
  enough = r.enough;
  again = λ us. same_side b ts r.used t rest us r.enough r.parts is ∙ r.again us;
}

refused_again : (ts : Tokens) (fault : Fault) (t : Lexeme) (rest : Tokens) (b : Bool) → is_named_argument ts ≡ b → side_of b ts ≡ Refused fault (t ∷ rest)
    → (front : Tokens) → ts ≡ front ++ t ∷ rest
    → ((us : Tokens) → take (lookahead fault) us ≡ take (lookahead fault) rest → IsRefusal (side_of b (front ++ t ∷ us)))
    → RefusesAgain ignored_argument ts fault t rest
refused_again ts fault t rest b is h [] parts again = record {
  front = [];
  parts = parts;
  again = λ us alike. refused_first b fault t rest (sym (ap is_named_argument parts) ∙ is) (sym (ap (side_of b) parts) ∙ h)
      (is_kind kinds.Identifier t) refl us alike;
}
refused_again ts fault t rest b is h (x ∷ front) parts again = record {
  front = x ∷ front;
  parts = parts;
  again = λ us alike. subst IsRefusal (sym (same_side b ts (x ∷ front) t rest us (omega arith) parts is)) (again us alike);
}

pub ignores_argument : IsPredictive 1 ignored_argument
ignores_argument = record {
  reads = λ ts a t rest h.
      let b = is_named_argument ts in
      read_again ts a t rest b refl ((reads_side b).reads ts a t rest (sym (argument_is ts b refl) ∙ h));
  refuses = λ ts fault t rest h.
      let b = is_named_argument ts in
      let side = sym (argument_is ts b refl) ∙ h in
      let r = (reads_side b).refuses ts fault t rest side in
      refused_again ts fault t rest b refl side r.front r.parts r.again;
}
