-- How values are read, with their elements and interpolations, if their parts are.
use Rattle.std.specs.Prelude.{ℕ, ◌≡◌, ◌≤◌, true, codes, drop, List, [], ◌∷◌, ◌++◌, Option}
use Rattle.std.proofs.Common.{◌∙◌, ap, arith, inl, inr, refl, sym}
use Rattle.std.proofs.lemmas.List.{append_assoc, append-nil}
use Rattle.just_syntax.specs.Plain as plain
use Rattle.just_syntax.specs.Plain.{Expr, Exprs, Literal, Pieces, Text, Token}
use Rattle.just_lexer.specs.declared.kind.TokenKind.TheVariants as kinds
use Rattle.just_expression_parser.proofs.Actions.{assertion_end, element_comma, element_last, expected_after, message_here}
use Rattle.just_expression_parser.proofs.Interpolations.{last_here, middle_here}
use Rattle.just_expression_parser.proofs.Runs.{frame_completes}
use Rattle.just_expression_parser.proofs.Starts.{assertion_here, call_here, element_here, elements_end, name_here, value_here, variable_here}
use Rattle.just_expression_parser.proofs.Values.{backtick_here, bang_here, format_here, group_here, list_here, string_here}
use Rattle.just_expression_parser.proofs.Boundaries.{BeginsValue, IsEnd, comma_closes, continue_closes, end_closes, ends_at, expression_opens, form_closes}
use Rattle.just_expression_parser.proofs.Boundaries.{open_at, opens, paren_closes, top, value_begins}
use Rattle.just_expression_parser.proofs.ReadOperators.{IsRead, ReadsValue, never, up_to, whole}
use Rattle.just_expression_parser.specs.Grammar.{interpolations, more, reads, reads_elements}
use Rattle.just_expression_parser.specs.Literal.{Style, format_style}
use Rattle.just_expression_parser.specs.Machine as machine
use Rattle.just_expression_parser.specs.Machine.{Done, Elements, Form, Interpolation, MachineFrame, Operators, closing_kind, expression_list, expression_row}
use Rattle.just_expression_parser.specs.Machine.{format_pieces, parse, with_elements}
use Rattle.just_expression_parser.specs.Parsed.{IsNotAt, is_at_word}
use Rattle.just_expression_parser.specs.Tokens.{Mark, Tokens, code}

-- ---- values

pub not_value : (e : Expr) → IsRead e → ReadsValue (plain.Not e)
not_value e read ts rest frames (m, (t, taken), d) end =
    ap (λ us. parse us machine.Value frames) taken ∙ bang_here kinds.Bang t m frames refl ∙ read.0 m rest (machine.Not ∷ frames) d end
    ∙ frame_completes rest machine.Not frames e (plain.Not e) (λ t. refl) refl

pub group_value : (e : Expr) → IsRead e → ReadsValue (plain.Group e)
group_value e read ts rest frames (m, (t, taken), (m2, d, ending)) end =
    ap (λ us. parse us machine.Value frames) taken ∙ group_here kinds.ParenL t m frames refl ∙ up_to kinds.ParenR e read m m2 rest (machine.Group ∷ frames)
    paren_closes d ending
    ∙ expected_after m2 rest machine.Group frames e kinds.ParenR (Done (plain.Group e)) [] (λ t. refl) ending

pub assertion_value : (e : Expr) (t : Token) → IsRead e → ReadsValue (plain.AssertOnly e t)
assertion_value e t read ts rest frames (m, (is_assert, (no_if, taken)), (m2, (tp, takenp), (m3, d, ending))) end =
    ap (λ us. parse us machine.Value frames) taken ∙ name_here t m frames no_if ∙ assertion_here t tp m m2 frames is_assert takenp
    ∙ up_to kinds.ParenR e read m2 m3 rest (machine.Assertion t ∷ frames) paren_closes d ending ∙ assertion_end t e m3 rest frames ending

pub message_value : (e message : Expr) (t : Token) → IsRead e → IsRead message → ReadsValue (plain.Assert e message t)
message_value e message t read readm ts rest frames
    (m, (is_assert, (no_if, taken)), (m2, (tp, takenp), (m5, (m3, d, (m4, (tc, takenc), dm)), ending))) end =
    ap (λ us. parse us machine.Value frames) taken ∙ name_here t m frames no_if ∙ assertion_here t tp m m2 frames is_assert takenp
    ∙ up_to kinds.Comma e read m2 m3 m4 (machine.Assertion t ∷ frames) comma_closes d (tc, takenc) ∙ message_here t e m3 m4 tc frames takenc
    ∙ up_to kinds.ParenR message readm m4 m5 rest (machine.Message e t ∷ frames) paren_closes dm ending
    ∙ expected_after m5 rest (machine.Message e t) frames message kinds.ParenR (Done (plain.Assert e message t)) [] (λ t. refl) ending

pub backtick_value : (text : Text) (t : Token) → ReadsValue (plain.Backtick text t)
backtick_value text t ts rest frames (is, taken) end =
    ap (λ us. parse us machine.Value frames) taken ∙ backtick_here kinds.Backtick t rest frames refl
    ∙ ap (λ x. parse rest (Done (plain.Backtick x t)) frames) (sym is)

pub string_value : (literal : Literal) → ReadsValue (plain.StringLiteral literal)
string_value literal ts rest frames (t, no_format, is, taken) end =
    ap (λ us. parse us machine.Value frames) taken ∙ string_here kinds.StringToken t rest frames refl (plain.StringLiteral literal) (no_format, is)

pub whole_format_value : (start : Literal) → ReadsValue (plain.FormatString start plain.NoPiece)
whole_format_value start ts rest frames (t, format, is, taken) end =
    ap (λ us. parse us machine.Value frames) taken ∙ string_here kinds.StringToken t rest frames refl (plain.FormatString start plain.NoPiece) (format, is)

pub variable_value : (t : Token) (number : Option ℕ) → ReadsValue (plain.Variable t number)
variable_value t number ts rest frames (none, (no_if, taken)) end =
    ap (λ us. parse us machine.Value frames) taken ∙ name_here t rest frames no_if ∙ variable_here t rest frames (no_paren rest end)
    ∙ ap (λ n. parse rest (Done (plain.Variable t n)) frames) (sym none)
  where
    no_paren : (ts : Tokens) → IsEnd 4 ts → IsNotAt kinds.ParenL ts
    no_paren [] end = tt
    no_paren (t ∷ ts) end = end.1

-- a value, where an expression may be
as_value : (least : ℕ) (ts : Tokens) (frames : List MachineFrame) → BeginsValue ts
    → parse ts (machine.Expression least) frames ≡ parse ts machine.Value (Operators least 4 ∷ frames)
as_value least ts frames begin = value_here least ts frames (inr begin)

-- a value is read as a value, from each level on, and never after `if`
module _ (e : Expr) (value : ReadsValue e) where
  value_from : (n least : ℕ) (ts rest : Tokens) (frames : List MachineFrame) → reads e 4 ts rest → IsEnd 4 rest
      → parse ts (machine.Expression least) frames ≡ parse rest (Done e) (Operators least 4 ∷ frames)
  value_from n least ts rest frames derived end =
      as_value least ts frames (value_begins e ts rest derived) ∙ value ts rest (Operators least 4 ∷ frames) derived end

  value_no_if : (ts rest : Tokens) → reads e 4 ts rest → is_at_word (codes "if") ts ≡ true → ⊥
  value_no_if ts rest derived there = never (is_at_word (codes "if") ts) (value_begins e ts rest derived).0 there

-- a value is read in each way
pub as_read : (e : Expr) → ReadsValue e → top e ≡ 4 → open_at e ≡ 4 → ((n : ℕ) (ts rest : Tokens) → reads e n ts rest → reads e 4 ts rest) → IsRead e
as_read e value high closed same = (value, from, after_if) where
  from : (n least : ℕ) (ts rest : Tokens) (frames : List MachineFrame) → n ≤ 4 → least ≤ n → reads e n ts rest → IsEnd (open_at e) rest
      → parse ts (machine.Expression least) frames ≡ parse rest (Done e) (Operators least (top e) ∷ frames)
  from n least ts rest frames most lower derived end =
      rw high (value_from e value n least ts rest frames (same n ts rest derived) (rw closed at end))

  after_if : (ts rest : Tokens) (frames : List MachineFrame) → reads e 3 ts rest → is_at_word (codes "if") ts ≡ true → IsEnd 4 rest
      → parse (drop 1 ts) (machine.Expression 0) (machine.Condition ∷ frames) ≡ parse rest (Done e) frames
  after_if ts rest frames derived there end = absurd (value_no_if e value ts rest (same 3 ts rest derived) there)

-- pieces as a list
abbrev pub listed_pieces : Pieces → List (Expr × Literal)
listed_pieces plain.NoPiece = []
listed_pieces (plain.Piece e text ps) = (e, text) ∷ listed_pieces ps

pub row_listed : (es : Exprs) → expression_row (expression_list es) ≡ es
row_listed plain.Nil = refl
row_listed (plain.Cons e es) = ap (plain.Cons e) (row_listed es)

pub pieces_listed : (ps : Pieces) → format_pieces (listed_pieces ps) ≡ ps
pieces_listed plain.NoPiece = refl
pieces_listed (plain.Piece e text ps) = ap (plain.Piece e text) (pieces_listed ps)

-- ---- elements

comma_opens : (form : Form) (ts rest : Tokens) → Mark kinds.Comma ts rest → IsNotAt (closing_kind form) ts
unfolding code
comma_opens form ts rest (t, taken) =
    opens kinds.Comma t ts rest (λ same. absurd (omega (arith, ap code same))) (λ same. absurd (omega (arith, ap code same))) taken form

abbrev pub ReadsElements : Exprs → Type 0
ReadsElements es = (form : Form) (before : List Expr) (ts rest : Tokens) (frames : List MachineFrame) → reads_elements es (closing_kind form) ts rest
    → parse ts (Elements form before) frames ≡ parse rest (Done (with_elements form (before ++ expression_list es))) frames

abbrev pub ReadsMore : Exprs → Type 0
ReadsMore es = (form : Form) (before : List Expr) (e : Expr) (ts rest : Tokens) (frames : List MachineFrame) → more es (closing_kind form) ts rest
    → parse ts (Done e) (machine.Element form before ∷ frames) ≡ parse rest (Done (with_elements form (before ++ e ∷ expression_list es))) frames

more_ends : (es : Exprs) (form : Form) (ts rest : Tokens) → more es (closing_kind form) ts rest → IsEnd 0 ts
more_ends plain.Nil form ts rest (inl mark) = ends_at (closing_kind form) 0 ts rest (form_closes form) mark
more_ends plain.Nil form ts rest (inr (m, comma, mark)) = ends_at kinds.Comma 0 ts m comma_closes comma
more_ends (plain.Cons e es) form ts rest (m, comma, later) = ends_at kinds.Comma 0 ts m comma_closes comma

pub no_elements : ReadsElements plain.Nil
no_elements form before ts rest frames (t, taken) =
    elements_end form before ts rest t frames taken ∙ ap (λ xs. parse rest (Done (with_elements form xs)) frames) (sym (append-nil before))

pub some_elements : (e : Expr) (es : Exprs) → IsRead e → ReadsMore es → ReadsElements (plain.Cons e es)
some_elements e es read later form before ts rest frames (m, d, rests) =
    element_here form before ts frames (expression_opens e 0 ts m d form)
    ∙ whole e read ts m (machine.Element form before ∷ frames) d (more_ends es form m rest rests)
    ∙ later form before e m rest frames rests

pub last_element : ReadsMore plain.Nil
last_element form before e ts rest frames (inl (t, taken)) = element_last form before e ts rest t frames taken
last_element form before e ts rest frames (inr (m, comma, (t, taken))) =
    element_comma form before e ts m frames (comma_opens form ts m comma) comma ∙ elements_end form (before ++ e ∷ []) m rest t frames taken

pub another_element : (e : Expr) (es : Exprs) → IsRead e → ReadsMore es → ReadsMore (plain.Cons e es)
another_element e es read later form before first ts rest frames (m, comma, (m2, d, rests)) =
    element_comma form before first ts m frames (comma_opens form ts m comma) comma
    ∙ element_here form (before ++ first ∷ []) m frames (expression_opens e 0 m m2 d form)
    ∙ whole e read m m2 (machine.Element form (before ++ first ∷ []) ∷ frames) d (more_ends es form m2 rest rests)
    ∙ later form (before ++ first ∷ []) e m2 rest frames rests
    ∙ ap (λ xs. parse rest (Done (with_elements form xs)) frames) (append_assoc before (first ∷ []) (e ∷ expression_list es))

pub list_value : (es : Exprs) (t : Token) → ReadsElements es → ReadsValue (plain.ListOf es t)
list_value es t reading ts rest frames (m, taken, d) end =
    ap (λ us. parse us machine.Value frames) taken ∙ list_here kinds.BracketL t m frames refl ∙ reading (machine.ListOf t) [] m rest frames d
    ∙ ap (λ xs. parse rest (Done (plain.ListOf xs t)) frames) (row_listed es)

pub call_value : (t : Token) (es : Exprs) → ReadsElements es → ReadsValue (plain.Call t es)
call_value t es reading ts rest frames (m, (no_assert, (no_if, taken)), (m2, (tp, takenp), d)) end =
    ap (λ us. parse us machine.Value frames) taken ∙ name_here t m frames no_if ∙ call_here t tp m m2 frames no_assert takenp
    ∙ reading (machine.Call t) [] m2 rest frames d ∙ ap (λ xs. parse rest (Done (plain.Call t xs)) frames) (row_listed es)

-- ---- interpolations

abbrev pub ReadsPieces : Pieces → Type 0
ReadsPieces plain.NoPiece = Unit {0}
ReadsPieces (plain.Piece e text ps) = (start : Literal) (before : List (Expr × Literal)) (style : Style) (ts rest : Tokens) (frames : List MachineFrame)
    → interpolations (plain.Piece e text ps) style ts rest → parse ts (machine.Expression 0) (Interpolation start before style ∷ frames)
    ≡ parse rest (Done (plain.FormatString start (format_pieces (before ++ listed_pieces (plain.Piece e text ps))))) frames

pub last_piece : (e : Expr) (text : Literal) → IsRead e → ReadsPieces (plain.Piece e text plain.NoPiece)
last_piece e text read start before style ts rest frames (m, d, (m2, (t, is, taken), nothing)) =
    whole e read ts m (Interpolation start before style ∷ frames) d (ends_at kinds.FormatStringEnd 0 m m2 end_closes (t, taken))
    ∙ last_here start before style e text m m2 frames (t, taken, is)
    ∙ ap (λ us. parse us (Done (plain.FormatString start (format_pieces (before ++ listed_pieces (plain.Piece e text plain.NoPiece))))) frames) nothing

pub another_piece : (e : Expr) (text : Literal) (e2 : Expr) (text2 : Literal) (ps : Pieces) → IsRead e → ReadsPieces (plain.Piece e2 text2 ps)
    → ReadsPieces (plain.Piece e text (plain.Piece e2 text2 ps))
another_piece e text e2 text2 ps read later start before style ts rest frames (m, d, (m2, (t, is, taken), rests)) =
    let piece : Expr × Literal = (e, text) in
    whole e read ts m (Interpolation start before style ∷ frames) d (ends_at kinds.FormatStringContinue 0 m m2 continue_closes (t, taken))
    ∙ middle_here start before style e t text m m2 frames taken is
    ∙ later start (before ++ piece ∷ []) style m2 rest frames rests
    ∙ ap (λ xs. parse rest (Done (plain.FormatString start (format_pieces xs))) frames)
    (append_assoc before (piece ∷ []) (listed_pieces (plain.Piece e2 text2 ps)))

pub format_value : (start : Literal) (e : Expr) (text : Literal) (ps : Pieces) → ReadsPieces (plain.Piece e text ps)
    → ReadsValue (plain.FormatString start (plain.Piece e text ps))
format_value start e text ps reading ts rest frames (t, is, (m, taken, d)) end =
    ap (λ us. parse us machine.Value frames) taken ∙ format_here t m frames start [] (format_style t.lexeme) is refl refl
    ∙ reading start [] (format_style t.lexeme) m rest frames d
    ∙ ap (λ xs. parse rest (Done (plain.FormatString start xs)) frames) (pieces_listed (plain.Piece e text ps))
