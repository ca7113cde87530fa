-- Tokens, and what a phrase takes of them.
use Rattle.std.specs.Prelude.{ℕ, zero, suc, ◌≡◌, Bool, ◌==◌, ◌&&◌, List, [], ◌∷◌, bytes_eq, false, if◌then◌else◌, true}
use Rattle.just_syntax.specs.Plain.{Text, Token}
use Rattle.just_lexer.specs.State.{Lexeme}
use Rattle.just_lexer.specs.declared.kind.TokenKind.{TokenKind}
use Rattle.just_lexer.specs.declared.kind.TokenKind.TheVariants as kinds

abbrev pub Tokens : Type 0
Tokens = List Lexeme

-- ---- kinds

-- a number for each kind
unfoldable pub code : TokenKind → ℕ
code kinds.AmpersandAmpersand = 0
code kinds.Asterisk = 1
code kinds.At = 2
code kinds.Backtick = 3
code kinds.Bang = 4
code kinds.BangEquals = 5
code kinds.BangTilde = 6
code kinds.BarBar = 7
code kinds.BraceL = 8
code kinds.BraceR = 9
code kinds.BracketL = 10
code kinds.BracketR = 11
code kinds.ByteOrderMark = 12
code kinds.Colon = 13
code kinds.ColonColon = 14
code kinds.ColonEquals = 15
code kinds.Comma = 16
code kinds.Comment = 17
code kinds.Dedent = 18
code kinds.Dollar = 19
code kinds.Eof = 20
code kinds.Eol = 21
code kinds.Equals = 22
code kinds.EqualsEquals = 23
code kinds.EqualsTilde = 24
code kinds.FormatStringContinue = 25
code kinds.FormatStringEnd = 26
code kinds.FormatStringStart = 27
code kinds.Identifier = 28
code kinds.Indent = 29
code kinds.InterpolationEnd = 30
code kinds.InterpolationStart = 31
code kinds.ParenL = 32
code kinds.ParenR = 33
code kinds.Plus = 34
code kinds.PlusPlus = 35
code kinds.QuestionMark = 36
code kinds.Slash = 37
code kinds.StringToken = 38
code kinds.Text = 39
code kinds.Whitespace = 40

unfoldable pub is_kind : TokenKind → Lexeme → Bool
is_kind kind t = code kind == code t.kind

unfoldable pub is_word : Text → Lexeme → Bool
is_word word t = is_kind kinds.Identifier t && bytes_eq t.token.lexeme word

-- the token after so many others is of a kind
abbrev pub is_at : ℕ → TokenKind → Tokens → Bool
is_at others kind [] = false
is_at zero kind (t ∷ ts) = is_kind kind t
is_at (suc others) kind (t ∷ ts) = is_at others kind ts

-- a token of a kind
abbrev pub lexeme : TokenKind → Token → Lexeme
lexeme kind token = record { kind = kind; token = token }

-- ---- what is taken: the tokens from `ts` up to `rest`

-- a token of this kind, which is this one
abbrev pub One : TokenKind → Token → Tokens → Tokens → Type 0
One kind token ts rest = ts ≡ lexeme kind token ∷ rest

-- a token of this kind
abbrev pub Mark : TokenKind → Tokens → Tokens → Type 0
Mark kind ts rest = (token : Token) × One kind token ts rest

-- a word
abbrev pub Word : Text → Tokens → Tokens → Type 0
Word word ts rest = (token : Token) × (bytes_eq token.lexeme word ≡ true) × One kinds.Identifier token ts rest

-- one thing, and then another
abbrev pub Then : (Tokens → Tokens → Type 0) → (Tokens → Tokens → Type 0) → Tokens → Tokens → Type 0
Then First Second ts rest = (middle : Tokens) × First ts middle × Second middle rest

-- ---- tokens that matter to an expression

abbrev pub is_significant : TokenKind → Bool
is_significant kinds.Whitespace = false
is_significant kinds.Comment = false
is_significant _ = true

abbrev pub significant : Tokens → Tokens
significant [] = []
significant (t ∷ ts) = if is_significant t.kind then t ∷ significant ts else significant ts
