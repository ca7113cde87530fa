-- Kinds and their numbers.
use Rattle.std.specs.Prelude.{ℕ, ◌≡◌, ◌⊎◌, true, false, ◌==◌, if◌then◌else◌}
use Rattle.std.proofs.Common.{◌∙◌, ap, refl, sym, inl, inr, ⊎_elim}
use Rattle.std.proofs.lemmas.Bool.{eq-eqb}
use Rattle.std.proofs.Math.Dec.{eqb}
use Rattle.std.proofs.lemmas.Bool.Decides.{eqb_tells}
use Rattle.just_lexer.specs.State.{Lexeme}
use Rattle.just_lexer.specs.declared.kind.TokenKind.{TokenKind}
use Rattle.just_lexer.specs.declared.kind.TokenKind.TheVariants as kinds
use Rattle.just_expression_parser.specs.Tokens.{code, is_kind}

-- the kind with this number
decode : ℕ → TokenKind
decode n =
    if n == 0 then kinds.AmpersandAmpersand else
    if n == 1 then kinds.Asterisk else
    if n == 2 then kinds.At else
    if n == 3 then kinds.Backtick else
    if n == 4 then kinds.Bang else
    if n == 5 then kinds.BangEquals else
    if n == 6 then kinds.BangTilde else
    if n == 7 then kinds.BarBar else
    if n == 8 then kinds.BraceL else
    if n == 9 then kinds.BraceR else
    if n == 10 then kinds.BracketL else
    if n == 11 then kinds.BracketR else
    if n == 12 then kinds.ByteOrderMark else
    if n == 13 then kinds.Colon else
    if n == 14 then kinds.ColonColon else
    if n == 15 then kinds.ColonEquals else
    if n == 16 then kinds.Comma else
    if n == 17 then kinds.Comment else
    if n == 18 then kinds.Dedent else
    if n == 19 then kinds.Dollar else
    if n == 20 then kinds.Eof else
    if n == 21 then kinds.Eol else
    if n == 22 then kinds.Equals else
    if n == 23 then kinds.EqualsEquals else
    if n == 24 then kinds.EqualsTilde else
    if n == 25 then kinds.FormatStringContinue else
    if n == 26 then kinds.FormatStringEnd else
    if n == 27 then kinds.FormatStringStart else
    if n == 28 then kinds.Identifier else
    if n == 29 then kinds.Indent else
    if n == 30 then kinds.InterpolationEnd else
    if n == 31 then kinds.InterpolationStart else
    if n == 32 then kinds.ParenL else
    if n == 33 then kinds.ParenR else
    if n == 34 then kinds.Plus else
    if n == 35 then kinds.PlusPlus else
    if n == 36 then kinds.QuestionMark else
    if n == 37 then kinds.Slash else
    if n == 38 then kinds.StringToken else
    if n == 39 then kinds.Text else
    kinds.Whitespace

decode_code : (k : TokenKind) → decode (code k) ≡ k
unfolding decode code
decode_code kinds.AmpersandAmpersand = refl
decode_code kinds.Asterisk = refl
decode_code kinds.At = refl
decode_code kinds.Backtick = refl
decode_code kinds.Bang = refl
decode_code kinds.BangEquals = refl
decode_code kinds.BangTilde = refl
decode_code kinds.BarBar = refl
decode_code kinds.BraceL = refl
decode_code kinds.BraceR = refl
decode_code kinds.BracketL = refl
decode_code kinds.BracketR = refl
decode_code kinds.ByteOrderMark = refl
decode_code kinds.Colon = refl
decode_code kinds.ColonColon = refl
decode_code kinds.ColonEquals = refl
decode_code kinds.Comma = refl
decode_code kinds.Comment = refl
decode_code kinds.Dedent = refl
decode_code kinds.Dollar = refl
decode_code kinds.Eof = refl
decode_code kinds.Eol = refl
decode_code kinds.Equals = refl
decode_code kinds.EqualsEquals = refl
decode_code kinds.EqualsTilde = refl
decode_code kinds.FormatStringContinue = refl
decode_code kinds.FormatStringEnd = refl
decode_code kinds.FormatStringStart = refl
decode_code kinds.Identifier = refl
decode_code kinds.Indent = refl
decode_code kinds.InterpolationEnd = refl
decode_code kinds.InterpolationStart = refl
decode_code kinds.ParenL = refl
decode_code kinds.ParenR = refl
decode_code kinds.Plus = refl
decode_code kinds.PlusPlus = refl
decode_code kinds.QuestionMark = refl
decode_code kinds.Slash = refl
decode_code kinds.StringToken = refl
decode_code kinds.Text = refl
decode_code kinds.Whitespace = refl

pub code_injective : (k j : TokenKind) → code k ≡ code j → k ≡ j
code_injective k j e = sym (decode_code k) ∙ ap decode e ∙ decode_code j

-- a token is of its kind, and of no other
pub is_of_kind : (kind : TokenKind) (t : Lexeme) → t.kind ≡ kind → is_kind kind t ≡ true
unfolding is_kind
is_of_kind kind t e = eq-eqb (code kind) (code t.kind) (ap code (sym e))

pub is_not_of_kind : (kind : TokenKind) (t : Lexeme) → (t.kind ≡ kind → ⊥) → is_kind kind t ≡ false
unfolding is_kind
is_not_of_kind kind t other =
    elim (eqb_tells (code kind) (code t.kind)) as (λ _. eqb (code kind) (code t.kind) ≡ false) [
      | inl same ↦ absurd (other (sym (code_injective kind t.kind same.1)))
      | inr differ ↦ differ.0
    ]

-- whether it is
pub at_kind : (kind : TokenKind) (t : Lexeme) → (t.kind ≡ kind) ⊎ (t.kind ≡ kind → ⊥)
at_kind kind t =
    elim (eqb_tells (code kind) (code t.kind)) as (λ _. (t.kind ≡ kind) ⊎ (t.kind ≡ kind → ⊥)) [
      | inl same ↦ inl (sym (code_injective kind t.kind same.1))
      | inr differ ↦ inr (λ same. differ.1 (ap code (sym same)))
    ]

-- a token is of its kind
pub of_kind : (kind : TokenKind) (t : Lexeme) → is_kind kind t ≡ true → t.kind ≡ kind
of_kind kind t is = ⊎_elim (λ same. same) (λ other. let e = is_not_of_kind kind t other in absurd (cc)) (at_kind kind t)

-- and of no other
pub of_one_kind : (kind other : TokenKind) (t : Lexeme) → is_kind kind t ≡ true → (kind ≡ other → ⊥) → is_kind other t ≡ false
of_one_kind kind other t is apart = is_not_of_kind other t (λ same. apart (sym (of_kind kind t is) ∙ same))
