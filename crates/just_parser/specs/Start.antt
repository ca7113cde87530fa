-- How items begin. A keyword is one only where the tokens after it fit: `export := 'x'` assigns a variable.
use Rattle.std.specs.Prelude.{Bool, true, false, ◌&&◌, ◌||◌, codes, if◌then◌else◌}
use Rattle.just_syntax.specs.Plain.{Text}
use Rattle.just_lexer.specs.declared.kind.TokenKind.TheVariants as kinds
use Rattle.just_expression_parser.specs.Parsed.{is_at_word}
use Rattle.just_expression_parser.specs.Tokens.{Tokens, is_at}
use Rattle.just_parser.specs.declared.start.Start.{Start}
use Rattle.just_parser.specs.declared.start.Start.TheVariants as starts

-- a keyword, a name and `:=`
abbrev pub gives_name : Text → Tokens → Bool
gives_name keyword ts = is_at_word keyword ts && (is_at 1 kinds.Identifier ts && is_at 2 kinds.ColonEquals ts)

-- a keyword, a name and the end of the line
abbrev pub ends_with_name : Text → Tokens → Bool
ends_with_name keyword ts =
    is_at_word keyword ts && (is_at 1 kinds.Identifier ts && (is_at 2 kinds.Eol ts || is_at 2 kinds.Eof ts))

-- `import` with a path, or `mod` with a name, each with or without `?`
abbrev pub is_unsupported : Tokens → Bool
is_unsupported ts =
    if is_at_word (codes "import") ts then is_at 1 kinds.StringToken ts || is_at 1 kinds.QuestionMark ts else
    is_at_word (codes "mod") ts && (is_at 1 kinds.QuestionMark ts || (ends_with_name (codes "mod") ts
    || (is_at 1 kinds.Identifier ts && is_at 2 kinds.StringToken ts)))

-- what begins with a keyword, if something does
unfoldable pub start_of_keyword : Tokens → Start
start_of_keyword ts =
    if gives_name (codes "alias") ts then starts.Alias else
    if gives_name (codes "eager") ts then starts.Eager else
    if gives_name (codes "export") ts then starts.Export else
    if gives_name (codes "set") ts || ends_with_name (codes "set") ts then starts.Set else
    if ends_with_name (codes "unexport") ts then starts.Unexport else
    if is_unsupported ts then starts.Unsupported else
    starts.Recipe

-- what begins with a name
unfoldable pub start_of_name : Tokens → Start
start_of_name ts =
    if is_at 1 kinds.ColonEquals ts then starts.Assignment else
    if is_at 1 kinds.ParenL ts then starts.Function else
    start_of_keyword ts

-- what begins with the next token
unfoldable pub start_of_item : Tokens → Start
start_of_item ts =
    if is_at 0 kinds.Identifier ts then start_of_name ts else
    if is_at 0 kinds.At ts then starts.Recipe else
    starts.Other

-- what begins so may have attributes before it
abbrev pub takes_attributes : Start → Bool
takes_attributes starts.Alias = true
takes_attributes starts.Assignment = true
takes_attributes starts.Eager = true
takes_attributes starts.Export = true
takes_attributes starts.Recipe = true
takes_attributes _ = false
