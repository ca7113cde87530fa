-- What comes next at the start of a line, and in a recipe's body.
use Rattle.std.specs.Prelude.{ℕ, Bool, ◌||◌, ◌&&◌, ◌==◌, nat_lt, length, take, drop, Option, Some, None}
use Rattle.std.specs.Prelude.{[], ◌∷◌, codes, not, if◌then◌else◌}
use Rattle.std.specs.List.{list_any}
use Rattle.just_syntax.specs.Plain.{Text}
use Rattle.just_lexer.specs.Expression.{lexed_expression}
use Rattle.just_lexer.specs.Front.{begins_with, line_end_length}
use Rattle.just_lexer.specs.Span.{span}
use Rattle.just_lexer.specs.State.{State, innermost_open}
use Rattle.just_lexer.specs.declared.fault.FaultKind.{FaultKind}
use Rattle.just_lexer.specs.declared.fault.FaultKind.TheVariants as faults
use Rattle.just_lexer.specs.declared.inside.Inside.{Inside}
use Rattle.just_lexer.specs.declared.inside.Inside.TheVariants as insides
use Rattle.just_lexer.specs.declared.kind.TokenKind.TheVariants as kinds
use Rattle.just_lexer.specs.declared.span.Rule.TheVariants.{Blanks, Command}
use Rattle.just_lexer.specs.declared.step.Step.{Step}
use Rattle.just_lexer.specs.declared.step.Step.TheVariants.{Token, Fault, OpenFault, End}

-- ---- a line of a recipe's body

-- text, an interpolation or the line's end
unfoldable pub body_line : Text → Step
body_line text =
    if nat_lt 0 (span Command 0 text) then Token kinds.Text (span Command 0 text) else
    if begins_with text (codes "{{") then Token kinds.InterpolationStart 2 else
    Token kinds.Eol (line_end_length text)

-- ---- the start of a line

-- both spaces and tabs
unfoldable pub is_mixed : Text → Bool
is_mixed blanks = list_any (λ byte. byte == 32) blanks && list_any (λ byte. byte == 9) blanks

-- what is wrong with the white space before a line of a body
unfoldable pub indentation_fault : Text → FaultKind
indentation_fault blanks = if is_mixed blanks then faults.MixedIndentation else faults.InconsistentIndentation

-- a line of a body begins with the body's indentation; a line without white space ends the body
unfoldable pub body_start : Text → Text → Step
body_start indentation text =
    let count = span Blanks 0 text in
    if begins_with (take count text) indentation then Token kinds.Whitespace (length indentation) else
    if count == 0 then Token kinds.Dedent 0 else
    Fault (indentation_fault (take count text)) count

-- an indented line begins a body, if one may follow
unfoldable pub lexed_indentation : Bool → Text → Step
lexed_indentation has_colon text =
    let count = span Blanks 0 text in
    if not has_colon then Fault faults.UnexpectedIndentation count else
    if is_mixed (take count text) then Fault faults.MixedIndentation count else
    Token kinds.Indent count

-- only white space until the line's end
unfoldable pub is_blank_line : Text → Bool
is_blank_line text =
    let rest = drop (span Blanks 0 text) text in
    (length rest == 0) || nat_lt 0 (line_end_length rest)

-- white space, or the line's end
unfoldable pub blank_line : Text → Step
blank_line text =
    if nat_lt 0 (span Blanks 0 text) then Token kinds.Whitespace (span Blanks 0 text) else
    Token kinds.Eol (line_end_length text)

-- the start of a line that is not blank
unfoldable pub filled_line : Text → Bool → Text → Step
filled_line indentation has_colon text =
    if nat_lt 0 (length indentation) then body_start indentation text else
    if nat_lt 0 (span Blanks 0 text) then lexed_indentation has_colon text else
    lexed_expression None text

-- the bytes of a byte order mark
abbrev pub byte_order_mark : Text
byte_order_mark = 239 ∷ 187 ∷ 191 ∷ []

unfoldable pub line_start : ℕ → Text → Bool → Text → Step
line_start offset indentation has_colon text =
    if (offset == 0) && begins_with text byte_order_mark then Token kinds.ByteOrderMark 3 else
    if is_blank_line text then blank_line text else
    filled_line indentation has_colon text

-- ---- the end of the text

-- the end of a text inside of this
unfoldable pub unclosed : Inside → Step
unclosed (insides.Delimiter opened line) = OpenFault faults.UnclosedDelimiter
unclosed insides.Interpolation = OpenFault faults.UnterminatedInterpolation
unclosed (insides.FormatString quote) = OpenFault faults.UnterminatedInterpolation

-- the end of a text outside of all delimiters ends a body first
unfoldable pub text_end : Text → Step
text_end indentation = if nat_lt 0 (length indentation) then Token kinds.Dedent 0 else End

-- ---- all of it

-- what comes next inside of this
unfoldable pub lexed_inside : Inside → Text → Step
lexed_inside inside text = if length text == 0 then unclosed inside else lexed_expression (Some inside) text

-- what comes next in a line outside of all delimiters
unfoldable pub lexed_line : Text → Text → Step
lexed_line indentation text = if nat_lt 0 (length indentation) then body_line text else lexed_expression None text

-- what comes next outside of all delimiters
unfoldable pub outside : State → Text → Step
outside s text =
    if length text == 0 then text_end s.indentation else
    if s.in_line then lexed_line s.indentation text else
    line_start s.place.offset s.indentation s.has_colon text

unfoldable pub next_inside : Option Inside → State → Text → Step
next_inside None s text = outside s text
next_inside (Some inside) s text = lexed_inside inside text

-- what comes next
unfoldable pub next : State → Text → Step
next s text = next_inside (innermost_open s.openings) s text
