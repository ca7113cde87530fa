-- Values, at their first tokens.
use Rattle.std.specs.Prelude.{◌≡◌, Bool, true, false, List, [], ◌∷◌, Option, Some, None, if◌then◌else◌}
use Rattle.std.proofs.Common.{◌∙◌, ap, refl, sym}
use Rattle.just_syntax.specs.Plain as plain
use Rattle.just_syntax.specs.Plain.{Expr, Literal, Text, Token}
use Rattle.just_lexer.specs.State.{Lexeme}
use Rattle.just_lexer.specs.declared.kind.TokenKind.{TokenKind}
use Rattle.just_lexer.specs.declared.kind.TokenKind.TheVariants as kinds
use Rattle.just_expression_parser.proofs.Codes.{is_not_of_kind}
use Rattle.just_expression_parser.proofs.Runs.{refuses, takes}
use Rattle.just_expression_parser.proofs.Starts.{value_refused}
use Rattle.just_expression_parser.specs.Literal.{Style, backtick_command, format_style, is_format, start_of_format, string_literal, whole_format, written}
use Rattle.just_expression_parser.specs.Machine as machine
use Rattle.just_expression_parser.specs.Machine.{Action, Done, Elements, MachineFrame, Refused, Refuses, Takes, at_string, begins_value, parse, with_literal}
use Rattle.just_expression_parser.specs.Parsed.{IsNoLiteral, IsRefusalOf, IsRefused, IsString}
use Rattle.just_expression_parser.specs.Tokens.{Tokens, code, is_kind, lexeme}
use Rattle.just_expression_parser.specs.declared.parse_error.Fault.TheVariants.{ExpectedExpression, InvalidEscape}
use Rattle.just_expression_parser.specs.declared.parse_error.ParseError.{ParseError}
use Rattle.just_expression_parser.specs.declared.parse_error.ParseError.TheVariants.{OutOfMemory, Unexpected}

-- ---- what begins at a token of a kind

backtick_is : (token : Token) → begins_value (lexeme kinds.Backtick token) ≡ Takes (Done (plain.Backtick (backtick_command token.lexeme) token)) []
unfolding begins_value is_kind code
backtick_is token = refl

bang_is : (token : Token) → begins_value (lexeme kinds.Bang token) ≡ Takes machine.Value (machine.Not ∷ [])
unfolding begins_value is_kind code
bang_is token = refl

list_is : (token : Token) → begins_value (lexeme kinds.BracketL token) ≡ Takes (Elements (machine.ListOf token) []) []
unfolding begins_value is_kind code
list_is token = refl

group_is : (token : Token) → begins_value (lexeme kinds.ParenL token) ≡ Takes (machine.Expression 0) (machine.Group ∷ [])
unfolding begins_value is_kind code
group_is token = refl

pub string_is : (token : Token) → begins_value (lexeme kinds.StringToken token) ≡ at_string token.lexeme
unfolding begins_value is_kind code
string_is token = refl

pub format_is : (token : Token) → begins_value (lexeme kinds.FormatStringStart token) ≡ with_literal (start_of_format token.lexeme)
    (λ start. Takes (machine.Expression 0) (machine.Interpolation start [] (format_style token.lexeme) ∷ []))
unfolding begins_value is_kind code
format_is token = refl

pub nothing_is : (t : Lexeme) → (t.kind ≡ kinds.Backtick → ⊥) → (t.kind ≡ kinds.Bang → ⊥) → (t.kind ≡ kinds.BracketL → ⊥)
    → (t.kind ≡ kinds.FormatStringStart → ⊥) → (t.kind ≡ kinds.Identifier → ⊥) → (t.kind ≡ kinds.ParenL → ⊥)
    → (t.kind ≡ kinds.StringToken → ⊥) → begins_value t ≡ Refuses ExpectedExpression
unfolding begins_value
nothing_is t no_backtick no_bang no_list no_format no_name no_group no_string =
    rw (
      is_not_of_kind kinds.Backtick t no_backtick,
      is_not_of_kind kinds.Bang t no_bang,
      is_not_of_kind kinds.BracketL t no_list,
      is_not_of_kind kinds.FormatStringStart t no_format,
      is_not_of_kind kinds.Identifier t no_name,
      is_not_of_kind kinds.ParenL t no_group,
      is_not_of_kind kinds.StringToken t no_string,
    ) refl

-- ---- what is read there

module _ (kind : TokenKind) (token : Token) (ts : Tokens) (frames : List MachineFrame) where
  at : (same : TokenKind) → kind ≡ same → parse (lexeme kind token ∷ ts) machine.Value frames ≡ parse (lexeme same token ∷ ts) machine.Value frames
  at same is = ap (λ k. parse (lexeme k token ∷ ts) machine.Value frames) is

  pub backtick_here : kind ≡ kinds.Backtick
      → parse (lexeme kind token ∷ ts) machine.Value frames ≡ parse ts (Done (plain.Backtick (backtick_command token.lexeme) token)) frames
  backtick_here is = at kinds.Backtick is
      ∙ takes (lexeme kinds.Backtick token) ts machine.Value frames (Done (plain.Backtick (backtick_command token.lexeme) token)) [] (backtick_is token)

  pub bang_here : kind ≡ kinds.Bang → parse (lexeme kind token ∷ ts) machine.Value frames ≡ parse ts machine.Value (machine.Not ∷ frames)
  bang_here is = at kinds.Bang is ∙ takes (lexeme kinds.Bang token) ts machine.Value frames machine.Value (machine.Not ∷ []) (bang_is token)

  pub list_here : kind ≡ kinds.BracketL → parse (lexeme kind token ∷ ts) machine.Value frames ≡ parse ts (Elements (machine.ListOf token) []) frames
  list_here is = at kinds.BracketL is
      ∙ takes (lexeme kinds.BracketL token) ts machine.Value frames (Elements (machine.ListOf token) []) [] (list_is token)

  pub group_here : kind ≡ kinds.ParenL → parse (lexeme kind token ∷ ts) machine.Value frames ≡ parse ts (machine.Expression 0) (machine.Group ∷ frames)
  group_here is = at kinds.ParenL is
      ∙ takes (lexeme kinds.ParenL token) ts machine.Value frames (machine.Expression 0) (machine.Group ∷ []) (group_is token)

  pub nothing_here : (refusal : ParseError) → (kind ≡ kinds.Backtick → ⊥) → (kind ≡ kinds.Bang → ⊥) → (kind ≡ kinds.BracketL → ⊥)
      → (kind ≡ kinds.FormatStringStart → ⊥) → (kind ≡ kinds.Identifier → ⊥) → (kind ≡ kinds.ParenL → ⊥) → (kind ≡ kinds.StringToken → ⊥)
      → IsRefusalOf ExpectedExpression token refusal → IsRefused (parse (lexeme kind token ∷ ts) machine.Value frames) refusal
  nothing_here refusal no_backtick no_bang no_list no_format no_name no_group no_string so =
      value_refused (lexeme kind token) ts frames refusal
      (nothing_is (lexeme kind token) no_backtick no_bang no_list no_format no_name no_group no_string) so

-- ---- literals

-- a token with a bad escape is refused
escape_refused : (t : Lexeme) (ts : Tokens) (frames : List MachineFrame) (literal : Option Literal) (refusal : ParseError)
    → (literal ≡ None → begins_value t ≡ Refuses InvalidEscape) → IsNoLiteral literal t.token refusal → IsRefused (parse (t ∷ ts) machine.Value frames) refusal
escape_refused t ts frames literal (Unexpected found token) value_is (none, fault, first) =
    (t ∷ ts, refuses t ts machine.Value frames InvalidEscape (value_is none) ∙ ap (λ f. Refused f (t ∷ ts)) (sym fault), first)
escape_refused t ts frames literal OutOfMemory value_is so = tt

at_string_is : (lexeme : Text) (e : Expr) → IsString lexeme e → at_string lexeme ≡ Takes (Done e) []
unfolding at_string
at_string_is lexeme (plain.StringLiteral l) (no_format, is) = rw (no_format, is) refl
at_string_is lexeme (plain.FormatString l plain.NoPiece) (format, is) = rw (format, is) refl
at_string_is lexeme e so = absurd so

neither : (b : Bool) (o p : Option Literal) (f g : Literal → Action) → (if b then o else p) ≡ None
    → (if b then with_literal o f else with_literal p g) ≡ Refuses InvalidEscape
neither true o p f g none = ap (λ o. with_literal o f) none
neither false o p f g none = ap (λ o. with_literal o g) none

pub no_string : (lexeme : Text) → written lexeme ≡ None → at_string lexeme ≡ Refuses InvalidEscape
unfolding at_string
no_string lexeme none = neither (is_format lexeme) (whole_format lexeme) (string_literal lexeme) _ _ none

module _ (kind : TokenKind) (token : Token) (ts : Tokens) (frames : List MachineFrame) (is : kind ≡ kinds.StringToken) where
  pub string_here : (e : Expr) → IsString token.lexeme e → parse (lexeme kind token ∷ ts) machine.Value frames ≡ parse ts (Done e) frames
  string_here e so = at kind token ts frames kinds.StringToken is
      ∙ takes (lexeme kinds.StringToken token) ts machine.Value frames (Done e) [] (string_is token ∙ at_string_is token.lexeme e so)

  pub string_refused : (refusal : ParseError) → IsNoLiteral (written token.lexeme) token refusal
      → IsRefused (parse (lexeme kind token ∷ ts) machine.Value frames) refusal
  string_refused refusal so = rw is (escape_refused (lexeme kinds.StringToken token) ts frames (written token.lexeme) refusal
      (λ none. string_is token ∙ no_string token.lexeme none) so)

-- ---- format strings

pub format_here : (token : Token) (ts : Tokens) (frames : List MachineFrame) (l : Literal) (ps : List (Expr × Literal)) (style : Style)
    → start_of_format token.lexeme ≡ Some l → ps ≡ [] → style ≡ format_style token.lexeme
    → parse (lexeme kinds.FormatStringStart token ∷ ts) machine.Value frames ≡ parse ts (machine.Expression 0) (machine.Interpolation l ps style ∷ frames)
format_here token ts frames l ps style is none same =
    takes (lexeme kinds.FormatStringStart token) ts machine.Value frames (machine.Expression 0) (machine.Interpolation l ps style ∷ [])
    (format_is token ∙ rw (is, none, same) refl)

pub format_refused : (token : Token) (ts : Tokens) (frames : List MachineFrame) (refusal : ParseError)
    → IsNoLiteral (start_of_format token.lexeme) token refusal
    → IsRefused (parse (lexeme kinds.FormatStringStart token ∷ ts) machine.Value frames) refusal
format_refused token ts frames refusal so = escape_refused (lexeme kinds.FormatStringStart token) ts frames (start_of_format token.lexeme) refusal
    (λ none. format_is token ∙ rw none refl) so
