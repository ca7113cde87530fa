-- Tokens and expressions that are read, or refused.
use Rattle.std.specs.Prelude.{◌≡◌, [], ◌∷◌, Option, Some, None, Result, Ok, Err, IfErr, IfOk, option_map}
use Rattle.std.proofs.Common.{◌∙◌, ap, refl, sym}
use Rattle.just_syntax.specs.Plain as plain
use Rattle.just_syntax.specs.Plain.{Token}
use Rattle.just_syntax.specs.View.{setting_view}
use Rattle.just_syntax.specs.declared.setting.Setting.{Setting}
use Rattle.just_lexer.specs.declared.kind.TokenKind.{TokenKind}
use Rattle.just_expression_parser.proofs.Codes.{is_not_of_kind, is_of_kind}
use Rattle.just_expression_parser.specs.Machine as machine
use Rattle.just_expression_parser.specs.Parsed as expressions
use Rattle.just_expression_parser.specs.Tokens.{One, Tokens, lexeme}
use Rattle.just_expression_parser.specs.declared.parse_error.ParseError as syntax
use Rattle.just_expression_parser.specs.declared.parse_error.ParseError.TheVariants as syntax_errors
use Rattle.just_parser.specs.Parsed.{IsPhraseRefusalAt, IsPhraseRefused, IsSameRefusal}
use Rattle.just_parser.specs.Phrase.{Parsed, Phrase, Read, Refused, after_read, expected, expression, give_if, of_machine, one, value}
use Rattle.just_parser.specs.declared.parse_error.Fault.TheVariants.{UnknownSetting}
use Rattle.just_parser.specs.declared.parse_error.ParseError.{ParseError}
use Rattle.just_parser.specs.declared.parse_error.ParseError.TheVariants.{Lex, OutOfMemory, Unexpected}

-- ---- a token of a kind

pub one_taken : (kind : TokenKind) (token : Token) (ts rest : Tokens) → One kind token ts rest → one kind ts ≡ Read token rest
unfolding one
one_taken kind token ts rest taken = rw (taken, is_of_kind kind (lexeme kind token) refl) refl

pub one_refused : (kind : TokenKind) (ts : Tokens) (refusal : ParseError) → expressions.IsNotAt kind ts
    → IsPhraseRefusalAt (expected kind) ts refusal → IsPhraseRefused (one kind ts) refusal
unfolding one
one_refused kind [] (Unexpected fault token) other at = ([], ap (λ f. Refused f []) (sym at.0), at.1)
one_refused kind (t ∷ ts) (Unexpected fault token) other at =
    (t ∷ ts, rw (is_not_of_kind kind t other) (ap (λ f. Refused f (t ∷ ts)) (sym at.0)), at.1)
one_refused kind ts (Lex k t) other at = absurd at
one_refused kind ts OutOfMemory other at = absurd at

-- ---- expressions

pub expression_refused : (ts : Tokens) (inner : syntax.ParseError) (outer : ParseError) → expressions.IsNoExpression ts inner
    → IsSameRefusal inner outer → IsPhraseRefused (expression ts) outer
unfolding expression
expression_refused ts (syntax_errors.Unexpected fault token) outer refused is = rw is (refused.1, ap of_machine refused.5, refused.3)
expression_refused ts syntax_errors.OutOfMemory outer refused is = rw is tt

pub value_refused : (ts : Tokens) (inner : syntax.ParseError) (outer : ParseError)
    → expressions.IsRefused (machine.parse ts (machine.Expression 4) []) inner → IsSameRefusal inner outer → IsPhraseRefused (value ts) outer
unfolding value
value_refused ts (syntax_errors.Unexpected fault token) outer refused is = rw is (refused.0, ap of_machine refused.1, refused.2)
value_refused ts syntax_errors.OutOfMemory outer refused is = rw is tt

-- ---- what follows

-- what follows something refused is refused
pub after_refused : {A B : Type 0} (outcome : Parsed A) (next : A → Phrase B) (refusal : ParseError) → IsPhraseRefused outcome refusal
    → IsPhraseRefused (after_read outcome next) refusal
after_refused outcome next (Unexpected fault token) (at, is, found) = (at, ap (λ o. after_read o next) is, found)
after_refused outcome next (Lex kind token) refused = absurd refused
after_refused outcome next OutOfMemory refused = tt

-- the next token is refused
pub refused_here : {A : Type 0} (outcome : Parsed A) (fault : _) (ts : Tokens) (refusal : ParseError) → outcome ≡ Refused fault ts
    → IsPhraseRefusalAt fault ts refusal → IsPhraseRefused outcome refusal
refused_here outcome fault ts (Unexpected found token) is at = (ts, is ∙ ap (λ f. Refused f ts) (sym at.0), at.1)
refused_here outcome fault ts (Lex kind token) is at = absurd at
refused_here outcome fault ts OutOfMemory is at = absurd at

-- ---- settings

-- a setting by its name, if there is one
pub known : (found : Option Setting) (named : Option plain.Setting) (r : Result Setting ParseError) (whole : Parsed plain.Setting) (ts : Tokens)
    → option_map setting_view found ≡ named → whole ≡ give_if UnknownSetting named ts → IfOk r (λ s. found ≡ Some s)
    → IfErr r (λ refusal. IsPhraseRefusalAt UnknownSetting ts refusal × (found ≡ None))
    → IfOk r (λ s. whole ≡ Read (setting_view s) ts) × IfErr r (IsPhraseRefused whole)
known found named (Ok s) whole ts is gives ok refused =
    (gives ∙ ap (λ n. give_if UnknownSetting n ts) (sym is ∙ ap (option_map setting_view) ok), tt)
known found named (Err refusal) whole ts is gives ok refused = (
  tt,
  refused_here whole UnknownSetting ts refusal
      (gives ∙ ap (λ n. give_if UnknownSetting n ts) (sym is ∙ ap (option_map setting_view) refused.1)) refused.0,
)
