-- What comes after an interpolated expression.
use Rattle.std.specs.Prelude.{suc, length, ◌≡◌, ◌⊎◌, List, [], ◌∷◌, ◌++◌, map, Option, Some, None, Result, Ok, Err, IfErr, IfOk, IsOkAnd}
use Rattle.std.proofs.Common.{◌∙◌, ap, inl, inr, refl, sym, subst}
use Rattle.just_syntax.specs.Plain as plain
use Rattle.just_syntax.specs.Plain.{Expr, Literal, Token}
use Rattle.just_syntax.specs.View.{literal_view, piece_view, piece_views, view}
use Rattle.just_syntax.specs.declared.expression.Expression.{Expression}
use Rattle.just_syntax.specs.declared.string_literal.StringLiteral.{StringLiteral}
use Rattle.just_lexer.specs.State.{Lexeme}
use Rattle.just_lexer.specs.declared.kind.TokenKind.TheVariants as kinds
use Rattle.just_expression_parser.proofs.Codes.{is_not_of_kind}
use Rattle.just_expression_parser.proofs.Runs.{frame_refuses, frame_refuses_end, frame_takes}
use Rattle.just_expression_parser.specs.Literal.{Style, end_of_format, middle_of_format}
use Rattle.just_expression_parser.specs.Machine as machine
use Rattle.just_expression_parser.specs.Machine.{Done, Interpolation, MachineFrame, Refused, Refuses, Takes, after_interpolation, format_pieces, parse}
use Rattle.just_expression_parser.specs.Parsed.{IsLastText, IsNoLastText, IsNoLiteral, IsNotAt, IsRefused}
use Rattle.just_expression_parser.specs.Tokens.{One, Tokens, code, is_kind, lexeme}
use Rattle.just_expression_parser.specs.declared.parse_error.Fault.TheVariants.{Expected, InvalidEscape}
use Rattle.just_expression_parser.specs.declared.parse_error.ParseError.{ParseError}
use Rattle.just_expression_parser.specs.declared.parse_error.ParseError.TheVariants.{OutOfMemory, Unexpected}

pub last_taken : (style : Style) (ts : Tokens) (l : Literal) (rest : Tokens) → IsLastText style ts l rest → length ts ≡ suc (length rest)
last_taken style ts l rest (token, taken, is) = ap length taken

-- pieces are seen one by one
pub pieces_seen : (ps : List (Expression × StringLiteral)) → piece_views ps ≡ format_pieces (map piece_view ps)
pieces_seen [] = refl
pieces_seen (p ∷ ps) = ap (λ more. plain.Piece (view p.0) (literal_view p.1) more) (pieces_seen ps)

module _ (start : Literal) (ps : List (Expr × Literal)) (style : Style) (e : Expr) where
  middle : (token : Token) (l : Literal) → middle_of_format style token.lexeme ≡ Some l
      → after_interpolation start ps style e (lexeme kinds.FormatStringContinue token)
      ≡ Takes (machine.Expression 0) (Interpolation start (ps ++ (e, l) ∷ []) style ∷ [])
  unfolding after_interpolation is_kind code
  middle token l is = rw is refl

  pub no_middle : (token : Token) → middle_of_format style token.lexeme ≡ None
      → after_interpolation start ps style e (lexeme kinds.FormatStringContinue token) ≡ Refuses InvalidEscape
  unfolding after_interpolation is_kind code
  no_middle token none = rw none refl

  last : (token : Token) (l : Literal) → end_of_format style token.lexeme ≡ Some l
      → after_interpolation start ps style e (lexeme kinds.FormatStringEnd token)
      ≡ Takes (Done (plain.FormatString start (format_pieces (ps ++ (e, l) ∷ [])))) []
  unfolding after_interpolation is_kind code
  last token l is = rw is refl

  pub no_last : (token : Token) → end_of_format style token.lexeme ≡ None
      → after_interpolation start ps style e (lexeme kinds.FormatStringEnd token) ≡ Refuses InvalidEscape
  unfolding after_interpolation is_kind code
  no_last token none = rw none refl

  pub neither : (t : Lexeme) → (t.kind ≡ kinds.FormatStringContinue → ⊥) → (t.kind ≡ kinds.FormatStringEnd → ⊥)
      → after_interpolation start ps style e t ≡ Refuses (Expected kinds.FormatStringEnd)
  unfolding after_interpolation
  neither t no_more no_end =
      rw (is_not_of_kind kinds.FormatStringContinue t no_more, is_not_of_kind kinds.FormatStringEnd t no_end) refl

  -- another interpolation
  pub middle_here : (token : Token) (l : Literal) (ts rest : Tokens) (frames : List MachineFrame) → One kinds.FormatStringContinue token ts rest
      → middle_of_format style token.lexeme ≡ Some l → parse ts (Done e) (Interpolation start ps style ∷ frames)
      ≡ parse rest (machine.Expression 0) (Interpolation start (ps ++ (e, l) ∷ []) style ∷ frames)
  middle_here token l ts rest frames taken is = ap (λ us. parse us (Done e) (Interpolation start ps style ∷ frames)) taken
      ∙ frame_takes (lexeme kinds.FormatStringContinue token) rest (Interpolation start ps style) frames e (machine.Expression 0)
      (Interpolation start (ps ++ (e, l) ∷ []) style ∷ []) (middle token l is)

  -- the end
  pub last_here : (l : Literal) (ts rest : Tokens) (frames : List MachineFrame) → IsLastText style ts l rest
      → parse ts (Done e) (Interpolation start ps style ∷ frames) ≡ parse rest (Done (plain.FormatString start (format_pieces (ps ++ (e, l) ∷ [])))) frames
  last_here l ts rest frames (token, taken, is) = ap (λ us. parse us (Done e) (Interpolation start ps style ∷ frames)) taken
      ∙ frame_takes (lexeme kinds.FormatStringEnd token) rest (Interpolation start ps style) frames e
      (Done (plain.FormatString start (format_pieces (ps ++ (e, l) ∷ [])))) [] (last token l is)

  -- a bad escape
  escape_refused : (t : Lexeme) (ts : Tokens) (frames : List MachineFrame) (literal : Option Literal) (refusal : ParseError)
      → (literal ≡ None → after_interpolation start ps style e t ≡ Refuses InvalidEscape) → IsNoLiteral literal t.token refusal
      → IsRefused (parse (t ∷ ts) (Done e) (Interpolation start ps style ∷ frames)) refusal
  escape_refused t ts frames literal (Unexpected found token) refuses (none, fault, first) =
      (t ∷ ts, frame_refuses t ts (Interpolation start ps style) frames e InvalidEscape (refuses none) ∙ ap (λ f. Refused f (t ∷ ts)) (sym fault), first)
  escape_refused t ts frames literal OutOfMemory refuses so = tt

  pub middle_refused : (token : Token) (ts rest : Tokens) (frames : List MachineFrame) (refusal : ParseError) → One kinds.FormatStringContinue token ts rest
      → IsNoLiteral (middle_of_format style token.lexeme) token refusal
      → IsRefused (parse ts (Done e) (Interpolation start ps style ∷ frames)) refusal
  middle_refused token ts rest frames refusal taken so = rw taken (escape_refused (lexeme kinds.FormatStringContinue token) rest frames
      (middle_of_format style token.lexeme) refusal (no_middle token) so)

  pub last_refused : (ts : Tokens) (frames : List MachineFrame) (refusal : ParseError) → IsNotAt kinds.FormatStringContinue ts → IsNoLastText style ts refusal
      → IsRefused (parse ts (Done e) (Interpolation start ps style ∷ frames)) refusal
  last_refused [] frames (Unexpected found token) no_more (inl ((fault, first), no_end)) =
      ([], frame_refuses_end (Interpolation start ps style) frames e (Expected kinds.FormatStringEnd) refl ∙ ap (λ f. Refused f []) (sym fault), first)
  last_refused (t ∷ ts) frames (Unexpected found token) no_more (inl ((fault, first), no_end)) = (
    t ∷ ts,
    frame_refuses t ts (Interpolation start ps style) frames e (Expected kinds.FormatStringEnd) (neither t no_more no_end)
        ∙ ap (λ f. Refused f (t ∷ ts)) (sym fault),
    first,
  )
  last_refused ts frames OutOfMemory no_more (inl (none, no_end)) = absurd none
  last_refused ts frames refusal no_more (inr (token, rest, taken, so)) = rw taken (escape_refused (lexeme kinds.FormatStringEnd token) rest frames
      (end_of_format style token.lexeme) refusal (no_last token) so)

-- ---- what becomes of a text

-- a refusal, if a text is refused or memory ran out
pub refused_by : (text : Result StringLiteral ParseError) (refusal : ParseError) (P : ParseError → Type 0) → (refusal ≡ OutOfMemory) ⊎ (text ≡ Err refusal)
    → P OutOfMemory → IfErr text P → P refusal
refused_by text refusal P (inl none) memory so = subst P (sym none) memory
refused_by text refusal P (inr is) memory so = subst (λ r. IfErr r P) is so

-- the text, if there is one
pub text_of : (text : Result StringLiteral ParseError) (more : List (Expression × StringLiteral)) (ps : List (Expression × StringLiteral)) (e : Expression)
    (P : StringLiteral → Type 0) → IsOkAnd text (λ t. more ≡ ps ++ (e, t) ∷ []) → IfOk text P
    → (t : StringLiteral) × (more ≡ ps ++ (e, t) ∷ []) × P t
text_of (Ok t) more ps e P is so = (t, is, so)
text_of (Err x) more ps e P is so = absurd is
