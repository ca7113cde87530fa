-- What is read, the grammar derives.
use Rattle.std.specs.Prelude.{ℕ, zero, suc, ◌≡◌, ◌<◌, ◌≤◌, ◌⊎◌, Bool, false, true, bytes_eq, codes, length, List, [], ◌∷◌, ◌++◌, Option, Some}
use Rattle.std.specs.Prelude.{None}
use Rattle.std.proofs.Common.{◌∙◌, ap, arith, inl, inr, refl, sym, subst}
use Rattle.std.proofs.lemmas.Bool.{cases_lt}
use Rattle.std.proofs.lemmas.List.{append_assoc, append-nil}
use Rattle.just_syntax.specs.Plain as plain
use Rattle.just_syntax.specs.Plain.{Expr, Exprs, Literal, Pieces, Text, Token}
use Rattle.just_syntax.specs.declared.conditional_operator.ConditionalOperator.TheVariants as conditional
use Rattle.just_lexer.specs.State.{Lexeme}
use Rattle.just_lexer.specs.declared.kind.TokenKind.{TokenKind}
use Rattle.just_lexer.specs.declared.kind.TokenKind.TheVariants as kinds
use Rattle.just_expression_parser.proofs.Actions.{assertion_end, element_comma, element_last, expected_after, message_here, neither_of, no_message_of, no_token}
use Rattle.just_expression_parser.proofs.Actions.{not_here, not_operator, operator_here, unexpected}
use Rattle.just_expression_parser.proofs.Codes.{at_kind, is_not_of_kind, is_of_kind}
use Rattle.just_expression_parser.proofs.Derived.{same_reading}
use Rattle.just_expression_parser.proofs.ReadValues.{listed_pieces, pieces_listed, row_listed}
use Rattle.just_expression_parser.proofs.Interpolations.{last_here, middle_here, neither, no_last, no_middle}
use Rattle.just_expression_parser.proofs.Runs.{frame_completes, frame_refuses, frame_refuses_end, refuses, refuses_end}
use Rattle.just_expression_parser.proofs.Starts.{assertion_here, brace_after_else, braced_here, call_here, chained_here, element_here, elements_end, else_here}
use Rattle.just_expression_parser.proofs.Starts.{if_here}
use Rattle.just_expression_parser.proofs.Starts.{if_is_none, name_here, no_else_here, root_here, value_here, variable_here}
use Rattle.just_expression_parser.proofs.Steps.{read_all}
use Rattle.just_expression_parser.proofs.Values.{backtick_here, bang_here, format_here, format_is, group_here, list_here, no_string, nothing_is, string_here}
use Rattle.just_expression_parser.proofs.Values.{string_is}
use Rattle.just_expression_parser.specs.Grammar as grammar
use Rattle.just_expression_parser.specs.Grammar.{interpolations, more, reads, reads_elements}
use Rattle.just_expression_parser.specs.Laws.{DerivesWhatIsRead}
use Rattle.just_expression_parser.specs.Literal.{Style, backtick_command, end_of_format, format_style, is_format, middle_of_format, start_of_format}
use Rattle.just_expression_parser.specs.Literal.{string_literal, whole_format, written}
use Rattle.just_expression_parser.specs.Machine as machine
use Rattle.just_expression_parser.specs.Machine.{Done, Elements, Form, Interpolation, MachineFrame, Next, Operators, Read, Refused, Refuses, Side, closing_kind}
use Rattle.just_expression_parser.specs.Machine.{ends_with, expects, expression_list, expression_row, format_pieces, parse, takes_it, with_elements}
use Rattle.just_expression_parser.specs.Operator.{comparison_kind, level, operation, operator_of}
use Rattle.just_expression_parser.specs.Parsed.{IsNotAt, is_at_word}
use Rattle.just_expression_parser.specs.Tokens.{Mark, One, Tokens, Word, is_word, lexeme}
use Rattle.just_expression_parser.specs.declared.operator.Operator.{Operator}
use Rattle.just_expression_parser.specs.declared.operator.Operator.TheVariants as operators
use Rattle.just_expression_parser.specs.declared.parse_error.Fault.{Fault}
use Rattle.just_expression_parser.specs.declared.parse_error.Fault.TheVariants.{Expected, ExpectedExpression, InvalidEscape}

-- ---- decisions

yes_or_no : (b : Bool) → (b ≡ true) ⊎ (b ≡ false)
yes_or_no true = inl refl
yes_or_no false = inr refl

some_or_none : {X : Type 0} (o : Option X) → ((x : X) × (o ≡ Some x)) ⊎ (o ≡ None)
some_or_none None = inr refl
some_or_none (Some x) = inl (x, refl)

pub not_read : (fault : Fault) (at : Tokens) (w : Expr) (rest : Tokens) → Refused fault at ≡ Read w rest → ⊥
not_read fault at w rest same = cc

-- the first token, if it is of a kind
one : (kind : TokenKind) (t : Lexeme) (ts : Tokens) → t.kind ≡ kind → One kind t.token (t ∷ ts) ts
one kind t ts is = ap (λ k. lexeme k t.token ∷ ts) is

-- ---- operators

abbrev kind_of_operator : Operator → TokenKind
kind_of_operator operators.Or = kinds.BarBar
kind_of_operator operators.And = kinds.AmpersandAmpersand
kind_of_operator (operators.Comparison o) = comparison_kind o
kind_of_operator operators.Concatenation = kinds.Plus
kind_of_operator operators.ListConcatenation = kinds.PlusPlus
kind_of_operator operators.Join = kinds.Slash

same_some : (o p : Operator) → Some o ≡ Some p → o ≡ p
same_some o p same = cc

kind_is : (kind : TokenKind) (o : Operator) → operator_of kind ≡ Some o → kind ≡ kind_of_operator o
kind_is kinds.AmpersandAmpersand o is = ap kind_of_operator (same_some operators.And o is)
kind_is kinds.BangEquals o is = ap kind_of_operator (same_some (operators.Comparison conditional.Inequality) o is)
kind_is kinds.BangTilde o is = ap kind_of_operator (same_some (operators.Comparison conditional.RegexMismatch) o is)
kind_is kinds.BarBar o is = ap kind_of_operator (same_some operators.Or o is)
kind_is kinds.EqualsEquals o is = ap kind_of_operator (same_some (operators.Comparison conditional.Equality) o is)
kind_is kinds.EqualsTilde o is = ap kind_of_operator (same_some (operators.Comparison conditional.RegexMatch) o is)
kind_is kinds.Plus o is = ap kind_of_operator (same_some operators.Concatenation o is)
kind_is kinds.PlusPlus o is = ap kind_of_operator (same_some operators.ListConcatenation o is)
kind_is kinds.Slash o is = ap kind_of_operator (same_some operators.Join o is)
kind_is kind o is = absurd (cc)

level_small : (o : Operator) → level o ≤ 3
level_small operators.Or = omega arith
level_small operators.And = omega arith
level_small (operators.Comparison o) = omega arith
level_small operators.Concatenation = omega arith
level_small operators.ListConcatenation = omega arith
level_small operators.Join = omega arith

-- an expression of a level is one of each lower level
lower : (e : Expr) (m n : ℕ) (ts rest : Tokens) → m ≤ n → reads e n ts rest → reads e m ts rest
lower (plain.Or l r) m n ts rest most (low, later) = (omega (arith, most, low), later)
lower (plain.And l r) m n ts rest most (low, later) = (omega (arith, most, low), later)
lower (plain.Comparison l o r t) m n ts rest most (low, later) = (omega (arith, most, low), later)
lower (plain.Concatenation l t r) m n ts rest most (low, later) = (omega (arith, most, low), later)
lower (plain.ListConcatenation l t r) m n ts rest most (low, later) = (omega (arith, most, low), later)
lower (plain.Join l t r) m n ts rest most (low, later) = (omega (arith, most, low), later)
lower (plain.JoinOnly t r) m n ts rest most (low, later) = (omega (arith, most, low), later)
lower (plain.Conditional c a b) m n ts rest most (low, later) = (omega (arith, most, low), later)
lower (plain.ConditionalOnly c a) m n ts rest most (low, later) = (omega (arith, most, low), later)
lower (plain.Not e) m n ts rest most d = d
lower (plain.Group e) m n ts rest most d = d
lower (plain.ListOf es t) m n ts rest most d = d
lower (plain.Call t es) m n ts rest most d = d
lower (plain.AssertOnly e t) m n ts rest most d = d
lower (plain.Assert e message t) m n ts rest most d = d
lower (plain.Backtick text t) m n ts rest most d = d
lower (plain.StringLiteral literal) m n ts rest most d = d
lower (plain.FormatString start ps) m n ts rest most d = d
lower (plain.Variable t number) m n ts rest most d = d

-- two expressions with an operator between them
applied_reads : (o : Operator) (e r : Expr) (t : Token) (ts at at' rest : Tokens) → reads e (suc (level o)) ts at → One (kind_of_operator o) t at at'
    → reads r (level o) at' rest → reads (operation e o t r) (level o) ts rest
applied_reads operators.Or e r t ts at at' rest d taken later = (omega arith, (at, d, (at', (t, taken), later)))
applied_reads operators.And e r t ts at at' rest d taken later = (omega arith, (at, d, (at', (t, taken), later)))
applied_reads (operators.Comparison o) e r t ts at at' rest d taken later = (omega arith, (at, d, (at', taken, later)))
applied_reads operators.Concatenation e r t ts at at' rest d taken later = (omega arith, (at, d, (at', taken, later)))
applied_reads operators.ListConcatenation e r t ts at at' rest d taken later = (omega arith, (at, d, (at', taken, later)))
applied_reads operators.Join e r t ts at at' rest d taken later = (omega arith, (at, d, (at', taken, later)))

-- ---- what is to be shown

-- each expression that is complete before these last tokens, completes the whole, of the level `m`, from `start` on
abbrev Good : ℕ → ℕ → Tokens → List MachineFrame → ℕ → Tokens → Type 0
Good k m start frames n ts = (e : Expr) (at : Tokens) (w : Expr) (rest : Tokens) → length at < k → reads e n ts at → parse at (Done e) frames ≡ Read w rest
    → reads w m start rest

fewer : (k : ℕ) (m : ℕ) (start : Tokens) (frames : List MachineFrame) (n : ℕ) (ts : Tokens) → Good (suc k) m start frames n ts → Good k m start frames n ts
fewer k m start frames n ts good e at w rest less d r = good e at w rest (omega (arith, less)) d r

abbrev Main : ℕ → Type 0
Main k = (m : ℕ) (start ts : Tokens) (frames : List MachineFrame) (n : ℕ) → n ≤ 4 → length ts < k → Good k m start frames n ts → (w : Expr) (rest : Tokens)
    → parse ts (machine.Expression n) frames ≡ Read w rest → reads w m start rest

abbrev Ops : ℕ → Type 0
Ops k = (m : ℕ) (start ts : Tokens) (frames : List MachineFrame) (n b : ℕ) → n ≤ b → b ≤ 4 → Good k m start frames n ts
    → Good k m start (Operators n b ∷ frames) b ts

abbrev Values : ℕ → Type 0
Values k = (m : ℕ) (start ts : Tokens) (frames : List MachineFrame) → length ts < k → Good k m start frames 4 ts → (w : Expr) (rest : Tokens)
    → parse ts machine.Value frames ≡ Read w rest → reads w m start rest

-- after `if`
abbrev Ifs : ℕ → Type 0
Ifs k = (m : ℕ) (start begin ts : Tokens) (frames : List MachineFrame) → Word (codes "if") begin ts → length ts < k → Good k m start frames 3 begin → (w : Expr)
    (rest : Tokens)
    → parse ts (machine.Expression 0) (machine.Condition ∷ frames) ≡ Read w rest → reads w m start rest

-- elements after others
abbrev GoodElements : ℕ → ℕ → Tokens → Form → List MachineFrame → List Expr → Tokens → Type 0
GoodElements k m start form frames before ts =
    (es : Exprs) (at : Tokens) (w : Expr) (rest : Tokens) → length at < k → reads_elements es (closing_kind form) ts at
    → parse at (Done (with_elements form (before ++ expression_list es))) frames ≡ Read w rest → reads w m start rest

abbrev Lists : ℕ → Type 0
Lists k =
    (m : ℕ) (start : Tokens) (form : Form) (before : List Expr) (ts : Tokens) (frames : List MachineFrame) → length ts < k → GoodElements k m start form frames
    before ts
    → (w : Expr) (rest : Tokens) → parse ts (Elements form before) frames ≡ Read w rest → reads w m start rest

-- interpolations after others
abbrev GoodPieces : ℕ → ℕ → Tokens → Literal → Style → List MachineFrame → List (Expr × Literal) → Tokens → Type 0
GoodPieces k m start l style frames before ts = (e : Expr) (text : Literal) (ps : Pieces) (at : Tokens) (w : Expr) (rest : Tokens) → length at < k
    → interpolations (plain.Piece e text ps) style ts at
    → parse at (Done (plain.FormatString l (format_pieces (before ++ listed_pieces (plain.Piece e text ps))))) frames ≡ Read w rest → reads w m start rest

abbrev Formats : ℕ → Type 0
Formats k = (m : ℕ) (start : Tokens) (l : Literal) (style : Style) (before : List (Expr × Literal)) (ts : Tokens) (frames : List MachineFrame) → length ts < k
    → GoodPieces k m start l style frames before ts → (w : Expr) (rest : Tokens)
    → parse ts (machine.Expression 0) (Interpolation l before style ∷ frames) ≡ Read w rest → reads w m start rest

-- ---- steps

-- a frame that waits for a token of one kind
expected : (ts : Tokens) (frame : MachineFrame) (frames : List MachineFrame) (e : Expr) (kind : TokenKind) (later : Next) (inner : List MachineFrame) (w : Expr)
    (rest : Tokens)
    → ((t : Lexeme) → takes_it frame e t ≡ expects kind t later inner) → ends_with frame e ≡ Refuses (Expected kind)
    → parse ts (Done e) (frame ∷ frames) ≡ Read w rest → (after : Tokens) × Mark kind ts after × (parse after later (inner ++ frames) ≡ Read w rest)
expected [] frame frames e kind later inner w rest takes ends r =
    absurd (not_read (Expected kind) [] w rest (sym (frame_refuses_end frame frames e (Expected kind) ends) ∙ r))
expected (t ∷ ts) frame frames e kind later inner w rest takes ends r =
    elim (at_kind kind t) [
      | inl is ↦
          let mark : Mark kind (t ∷ ts) ts = (t.token, one kind t ts is) in
          (ts, mark, sym (expected_after (t ∷ ts) ts frame frames e kind later inner takes mark) ∙ r)
      | inr other ↦ absurd (not_read (Expected kind) (t ∷ ts) w rest
          (sym (frame_refuses t ts frame frames e (Expected kind) (takes t ∙ unexpected kind t later inner other)) ∙ r))
    ]

mark_length : (kind : TokenKind) (ts rest : Tokens) → Mark kind ts rest → length ts ≡ suc (length rest)
mark_length kind ts rest (t, taken) = ap length taken

ops_step : (k : ℕ) → Main k → Ops k → Ops (suc k)
ops_step k main ops m start ts frames n b most high good e [] w rest less d r =
    good e [] w rest less (lower e n b ts [] most d) (sym (no_token n b [] e frames refl) ∙ r)
ops_step k main ops m start ts frames n b most high good e (t ∷ at) w rest less d r =
    elim (some_or_none (operator_of t.kind)) [
      | inr none ↦ good e (t ∷ at) w rest less (lower e n b ts (t ∷ at) most d) (sym (not_operator n b (t ∷ at) t e frames refl none) ∙ r)
      | inl (o, is) ↦
          elim (cases_lt (level o) n) [
            | inl low ↦ good e (t ∷ at) w rest less (lower e n b ts (t ∷ at) most d) (sym (not_here n b (t ∷ at) t o e frames refl is (inl low)) ∙ r)
            | inr above ↦
                elim (cases_lt (level o) b) [
                  | inr past ↦
                      good e (t ∷ at) w rest less (lower e n b ts (t ∷ at) most d) (sym (not_here n b (t ∷ at) t o e frames refl is (inr past)) ∙ r)
                  | inl below ↦
                      let three = level_small o in
                      main m start at (Side e o t.token ∷ Operators n (level o) ∷ frames) (level o) (omega (arith, three)) (omega (arith, less))
                      (λ right at2 w2 rest2 less2 d2 r2.
                      ops m start ts frames n (level o) above (omega (arith, three)) (fewer k m start frames n ts good)
                      (operation e o t.token right) at2 w2 rest2
                      less2
                      (applied_reads o e right t.token ts (t ∷ at) at at2 (lower e (suc (level o)) b ts (t ∷ at) below d)
                      (one (kind_of_operator o) t at (kind_is t.kind o is)) d2)
                      (sym (frame_completes at2 (Side e o t.token) (Operators n (level o) ∷ frames) right (operation e o t.token right) (λ t. refl) refl) ∙ r2))
                      w rest (sym (operator_here n b (t ∷ at) at t.kind t.token o e frames is above below refl) ∙ r)
                ]
          ]
    ]

-- ---- conditionals

word_of : (word : Text) (t : Lexeme) (ts : Tokens) → is_word word t ≡ true → Word word (t ∷ ts) ts
unfolding is_word
word_of word t ts is =
    elim (at_kind kinds.Identifier t) [
      | inl same ↦ (t.token, (let both = rw (is_of_kind kinds.Identifier t same) at is in both), one kinds.Identifier t ts same)
      | inr other ↦ absurd (let both : false ≡ true = rw (is_not_of_kind kinds.Identifier t other) at is in cc)
    ]

if_step : (k : ℕ) → Main (suc k) → Ifs k → Ifs (suc k)
if_step k main ifs m start begin ts frames word less good w rest r =
    main m start ts (machine.Condition ∷ frames) 0 (omega arith) less after_condition w rest r
  where
    -- the whole, once the branches are known
    after_branches : (c : Expr) (at1 : Tokens) → reads c 0 ts at1 → (at2 : Tokens) → Mark kinds.BraceL at1 at2 → (a : Expr) (at3 : Tokens) → reads a 0 at2 at3
        → (at4 : Tokens) → Mark kinds.BraceR at3 at4 → length at4 < k → (w : Expr) (rest : Tokens) → parse at4 (machine.Else c a) frames ≡ Read w rest
        → reads w m start rest
    after_branches c at1 dc at2 opening a at3 da [] ending less4 w rest r =
        good (plain.ConditionalOnly c a) [] w rest (omega (arith, less4)) (omega arith, (ts, word, (at1, dc, (at2, opening, (at3, da, ending)))))
        (sym (no_else_here c a [] frames refl) ∙ r)
    after_branches c at1 dc at2 opening a at3 da (t ∷ at5) ending less4 w rest r =
        elim (yes_or_no (is_word (codes "else") t)) [
          | inr no_else ↦ good (plain.ConditionalOnly c a) (t ∷ at5) w rest (omega (arith, less4))
              (omega arith, (ts, word, (at1, dc, (at2, opening, (at3, da, ending))))) (sym (no_else_here c a (t ∷ at5) frames no_else) ∙ r)
          | inl is_else ↦ other_branch at5 ending (omega (arith, less4)) w rest (sym (else_here c a (t ∷ at5) frames is_else) ∙ r)
              (word_of (codes "else") t at5 is_else)
        ]
      where
        other_branch : (at5 : Tokens) → Mark kinds.BraceR at3 (t ∷ at5) → suc (length at5) < k → (w : Expr) (rest : Tokens)
            → parse at5 (machine.Branch c a) frames ≡ Read w rest → Word (codes "else") (t ∷ at5) at5 → reads w m start rest
        other_branch [] ending less5 w rest r is_else =
            absurd (not_read (Expected kinds.BraceL) [] w rest (sym (refuses_end (machine.Branch c a) frames (Expected kinds.BraceL) refl) ∙ r))
        other_branch (u ∷ at6) ending less5 w rest r is_else =
            elim (yes_or_no (is_word (codes "if") u)) [
              | inl is_if ↦
                  ifs m start (u ∷ at6) at6 (machine.ElseIf c a ∷ frames) (word_of (codes "if") u at6 is_if) (omega (arith, less5))
                  (λ b at7 w7 rest7 less7 d7 r7. good (plain.Conditional c a b) at7 w7 rest7 (omega (arith, less7)) (
                    omega arith,
                    (
                      t ∷ u ∷ at6,
                      (ts, word, (at1, dc, (at2, opening, (at3, da, ending)))),
                      (u ∷ at6, is_else, inr ((at6, word_of (codes "if") u at6 is_if), d7)),
                    ),
                  )
                  (sym (frame_completes at7 (machine.ElseIf c a) frames b (plain.Conditional c a b) (λ t. refl) refl) ∙ r7))
                  w rest (sym (chained_here c a (u ∷ at6) frames is_if) ∙ r)
              | inr no_if ↦
                  elim (at_kind kinds.BraceL u) [
                    | inl is ↦
                        let mark : Mark kinds.BraceL (u ∷ at6) at6 = (u.token, one kinds.BraceL u at6 is) in
                        main m start at6 (machine.Otherwise c a ∷ frames) 0 (omega arith) (omega (arith, less5))
                        (λ b at7 w7 rest7 less7 d7 r7.
                        let x = expected at7 (machine.Otherwise c a) frames b kinds.BraceR (Done (plain.Conditional c a b)) [] w7 rest7 (λ t. refl) refl r7 in
                        good (plain.Conditional c a b) x.0 w7 rest7 (omega (arith, less7, mark_length kinds.BraceR at7 x.0 x.1)) (
                          omega arith,
                          (
                            t ∷ u ∷ at6,
                            (ts, word, (at1, dc, (at2, opening, (at3, da, ending)))),
                            (u ∷ at6, is_else, inl (at6, mark, (at7, d7, x.1))),
                          ),
                        ) x.2)
                        w rest (sym (braced_here c a (u ∷ at6) at6 frames no_if mark) ∙ r)
                    | inr other ↦ absurd (not_read (Expected kinds.BraceL) (u ∷ at6) w rest
                        (sym (refuses u at6 (machine.Branch c a) frames (Expected kinds.BraceL)
                        (brace_after_else c a u no_if ∙ unexpected kinds.BraceL u (machine.Expression 0) (machine.Otherwise c a ∷ []) other)) ∙ r))
                  ]
            ]

    after_condition : Good (suc k) m start (machine.Condition ∷ frames) 0 ts
    after_condition c at1 w rest less1 dc r1 =
        let x = expected at1 machine.Condition frames c kinds.BraceL (machine.Expression 0) (machine.Consequence c ∷ []) w rest (λ t. refl) refl r1 in
        main m start x.0 (machine.Consequence c ∷ frames) 0 (omega arith) (omega (arith, less1, mark_length kinds.BraceL at1 x.0 x.1))
        (λ a at3 w3 rest3 less3 da r3.
        let y = expected at3 (machine.Consequence c) frames a kinds.BraceR (machine.Else c a) [] w3 rest3 (λ t. refl) refl r3 in
        after_branches c at1 dc x.0 x.1 a at3 da y.0 y.1 (omega (arith, less3, mark_length kinds.BraceR at3 y.0 y.1)) w3 rest3 y.2)
        w rest x.2

-- ---- elements

more_of : (es : Exprs) (form : Form) (ts m rest : Tokens) → Mark kinds.Comma ts m → reads_elements es (closing_kind form) m rest
    → more es (closing_kind form) ts rest
more_of plain.Nil form ts m rest comma mark = inr (m, comma, mark)
more_of (plain.Cons e es) form ts m rest comma later = (m, comma, later)

lists_step : (k : ℕ) → Main (suc k) → Lists k → Lists (suc k)
lists_step k main lists m start form before [] frames less good w rest r =
    absurd (not_read ExpectedExpression [] w rest (sym (refuses_end (Elements form before) frames ExpectedExpression refl) ∙ r))
lists_step k main lists m start form before (t ∷ ts) frames less good w rest r =
    elim (at_kind (closing_kind form) t) [
      | inl is ↦ good plain.Nil ts w rest (omega (arith, less)) (t.token, one (closing_kind form) t ts is)
          (ap (λ xs. parse ts (Done (with_elements form xs)) frames) (append-nil before)
          ∙ sym (elements_end form before (t ∷ ts) ts t.token frames (one (closing_kind form) t ts is)) ∙ r)
      | inr other ↦ main m start (t ∷ ts) (machine.Element form before ∷ frames) 0 (omega arith) less after_element w rest
          (sym (element_here form before (t ∷ ts) frames other) ∙ r)
    ]
  where
    after_element : Good (suc k) m start (machine.Element form before ∷ frames) 0 (t ∷ ts)
    after_element e [] w rest less d r =
        absurd (not_read (Expected (closing_kind form)) [] w rest
        (sym (frame_refuses_end (machine.Element form before) frames e (Expected (closing_kind form)) refl) ∙ r))
    after_element e (v ∷ vs) w rest less d r =
        elim (at_kind (closing_kind form) v) [
          | inl is ↦ good (plain.Cons e plain.Nil) vs w rest (omega (arith, less)) (v ∷ vs, d, inl (v.token, one (closing_kind form) v vs is))
              (sym (element_last form before e (v ∷ vs) vs v.token frames (one (closing_kind form) v vs is)) ∙ r)
          | inr other ↦
              elim (at_kind kinds.Comma v) [
                | inl is ↦
                    let comma : Mark kinds.Comma (v ∷ vs) vs = (v.token, one kinds.Comma v vs is) in
                    lists m start form (before ++ e ∷ []) vs frames (omega (arith, less))
                    (λ es at2 w2 rest2 less2 d2 r2. good (plain.Cons e es) at2 w2 rest2 (omega (arith, less2))
                    (v ∷ vs, d, more_of es form (v ∷ vs) vs at2 comma d2)
                    (ap (λ xs. parse at2 (Done (with_elements form xs)) frames) (sym (append_assoc before (e ∷ []) (expression_list es))) ∙ r2))
                    w rest (sym (element_comma form before e (v ∷ vs) vs frames other comma) ∙ r)
                | inr no_comma ↦ absurd (not_read (Expected (closing_kind form)) (v ∷ vs) w rest
                    (sym (frame_refuses v vs (machine.Element form before) frames e (Expected (closing_kind form))
                    (neither_of form (before ++ e ∷ []) v other no_comma)) ∙ r))
              ]
        ]

-- ---- interpolations

formats_step : (k : ℕ) → Main (suc k) → Formats k → Formats (suc k)
formats_step k main formats m start l style before ts frames less good w rest r =
    main m start ts (Interpolation l before style ∷ frames) 0 (omega arith) less after_interpolation w rest r
  where
    as_kind : (kind : TokenKind) (e : Expr) (v : Lexeme) (vs : Tokens) → v.kind ≡ kind → parse (v ∷ vs) (Done e) (Interpolation l before style ∷ frames)
        ≡ parse (lexeme kind v.token ∷ vs) (Done e) (Interpolation l before style ∷ frames)
    as_kind kind e v vs is = ap (λ k. parse (lexeme k v.token ∷ vs) (Done e) (Interpolation l before style ∷ frames)) is

    after_interpolation : Good (suc k) m start (Interpolation l before style ∷ frames) 0 ts
    after_interpolation e [] w rest less d r =
        absurd (not_read (Expected kinds.FormatStringEnd) [] w rest
        (sym (frame_refuses_end (Interpolation l before style) frames e (Expected kinds.FormatStringEnd) refl) ∙ r))
    after_interpolation e (v ∷ vs) w rest less d r =
        elim (at_kind kinds.FormatStringContinue v) [
          | inl is ↦
              elim (some_or_none (middle_of_format style v.token.lexeme)) [
                | inl (text, there) ↦
                    let piece : Expr × Literal = (e, text) in
                    formats m start l style (before ++ piece ∷ []) vs frames (omega (arith, less))
                    (λ e2 text2 ps at2 w2 rest2 less2 d2 r2. good e text (plain.Piece e2 text2 ps) at2 w2 rest2 (omega (arith, less2))
                    (v ∷ vs, d, (vs, (v.token, there, one kinds.FormatStringContinue v vs is), d2))
                    (ap (λ xs. parse at2 (Done (plain.FormatString l (format_pieces xs))) frames)
                    (sym (append_assoc before (piece ∷ []) (listed_pieces (plain.Piece e2 text2 ps)))) ∙ r2))
                    w rest (sym (middle_here l before style e v.token text (v ∷ vs) vs frames (one kinds.FormatStringContinue v vs is) there) ∙ r)
                | inr none ↦ absurd (not_read InvalidEscape (lexeme kinds.FormatStringContinue v.token ∷ vs) w rest
                    (sym (frame_refuses (lexeme kinds.FormatStringContinue v.token) vs (Interpolation l before style) frames e InvalidEscape
                    (no_middle l before style e v.token none)) ∙ sym (as_kind kinds.FormatStringContinue e v vs is) ∙ r))
              ]
          | inr no_more ↦
              elim (at_kind kinds.FormatStringEnd v) [
                | inl is ↦
                    elim (some_or_none (end_of_format style v.token.lexeme)) [
                      | inl (text, there) ↦ good e text plain.NoPiece vs w rest (omega (arith, less))
                          (v ∷ vs, d, (vs, (v.token, there, one kinds.FormatStringEnd v vs is), refl))
                          (sym (last_here l before style e text (v ∷ vs) vs frames (v.token, one kinds.FormatStringEnd v vs is, there)) ∙ r)
                      | inr none ↦ absurd (not_read InvalidEscape (lexeme kinds.FormatStringEnd v.token ∷ vs) w rest
                          (sym (frame_refuses (lexeme kinds.FormatStringEnd v.token) vs (Interpolation l before style) frames e InvalidEscape
                          (no_last l before style e v.token none)) ∙ sym (as_kind kinds.FormatStringEnd e v vs is) ∙ r))
                    ]
                | inr no_end ↦ absurd (not_read (Expected kinds.FormatStringEnd) (v ∷ vs) w rest
                    (sym (frame_refuses v vs (Interpolation l before style) frames e (Expected kinds.FormatStringEnd)
                    (neither l before style e v no_more no_end)) ∙ r))
              ]
        ]

-- ---- values

as_kind : (kind : TokenKind) (t : Lexeme) (ts : Tokens) (frames : List MachineFrame) → t.kind ≡ kind
    → parse (t ∷ ts) machine.Value frames ≡ parse (lexeme kind t.token ∷ ts) machine.Value frames
as_kind kind t ts frames is = ap (λ k. parse (lexeme k t.token ∷ ts) machine.Value frames) is

format_start : (k : ℕ) → Formats k → (m : ℕ) (start : Tokens) (t : Lexeme) (ts : Tokens) (frames : List MachineFrame) → t.kind ≡ kinds.FormatStringStart
    → length ts
    < k
    → Good (suc k) m start frames 4 (t ∷ ts) → (w : Expr) (rest : Tokens) → parse (t ∷ ts) machine.Value frames ≡ Read w rest → reads w m start rest
format_start k formats m start t ts frames is less good w rest r =
    let here = as_kind kinds.FormatStringStart t ts frames is in
    elim (some_or_none (start_of_format t.token.lexeme)) [
      | inl (l, there) ↦
          formats m start l (format_style t.token.lexeme) [] ts frames less
          (λ e text ps at w2 rest2 less2 d r2. good (plain.FormatString l (plain.Piece e text ps)) at w2 rest2 (omega (arith, less2))
          (t.token, there, (ts, one kinds.FormatStringStart t ts is, d))
          (ap (λ xs. parse at (Done (plain.FormatString l xs)) frames) (sym (pieces_listed (plain.Piece e text ps))) ∙ r2))
          w rest (sym (here ∙ format_here t.token ts frames l [] (format_style t.token.lexeme) there refl refl) ∙ r)
      | inr none ↦ absurd (not_read InvalidEscape (lexeme kinds.FormatStringStart t.token ∷ ts) w rest
          (sym (refuses (lexeme kinds.FormatStringStart t.token) ts machine.Value frames InvalidEscape (format_is t.token ∙ rw none refl)) ∙ sym here ∙ r))
    ]

string_start : (k : ℕ) (m : ℕ) (start : Tokens) (t : Lexeme) (ts : Tokens) (frames : List MachineFrame) → t.kind ≡ kinds.StringToken → length ts < k
    → Good (suc k) m start frames 4 (t ∷ ts) → (w : Expr) (rest : Tokens) → parse (t ∷ ts) machine.Value frames ≡ Read w rest → reads w m start rest
string_start k m start t ts frames is less good w rest r =
    elim (yes_or_no (is_format t.token.lexeme)) [
      | inl format ↦
          elim (some_or_none (whole_format t.token.lexeme)) [
            | inl (l, there) ↦ good (plain.FormatString l plain.NoPiece) ts w rest (omega (arith, less)) (t.token, format, there, one kinds.StringToken t ts is)
                (sym (string_here t.kind t.token ts frames is (plain.FormatString l plain.NoPiece) (format, there)) ∙ r)
            | inr none ↦ refused (rw format none)
          ]
      | inr no_format ↦
          elim (some_or_none (string_literal t.token.lexeme)) [
            | inl (l, there) ↦ good (plain.StringLiteral l) ts w rest (omega (arith, less)) (t.token, no_format, there, one kinds.StringToken t ts is)
                (sym (string_here t.kind t.token ts frames is (plain.StringLiteral l) (no_format, there)) ∙ r)
            | inr none ↦ refused (rw no_format none)
          ]
    ]
  where
    refused : written t.token.lexeme ≡ None → reads w m start rest
    refused none = absurd (not_read InvalidEscape (lexeme kinds.StringToken t.token ∷ ts) w rest
        (sym (refuses (lexeme kinds.StringToken t.token) ts machine.Value frames InvalidEscape (string_is t.token ∙ no_string t.token.lexeme none))
        ∙ sym (as_kind kinds.StringToken t ts frames is) ∙ r))

-- after the parenthesis of an assertion
assertion_start : (k : ℕ) → Main k → (m : ℕ) (start begin middle ts : Tokens) (t : Token) (frames : List MachineFrame)
    → bytes_eq t.lexeme (codes "assert") ≡ true
    → grammar.Name t begin middle → Mark kinds.ParenL middle ts → length ts < k → Good (suc k) m start frames 4 begin → (w : Expr) (rest : Tokens)
    → parse ts (machine.Expression 0) (machine.Assertion t ∷ frames) ≡ Read w rest → reads w m start rest
assertion_start k main m start begin middle ts t frames is_assert name paren less good w rest r =
    main m start ts (machine.Assertion t ∷ frames) 0 (omega arith) less after_condition w rest r
  where
    after_condition : Good k m start (machine.Assertion t ∷ frames) 0 ts
    after_condition e [] w rest less d r =
        absurd (not_read (Expected kinds.ParenR) [] w rest (sym (frame_refuses_end (machine.Assertion t) frames e (Expected kinds.ParenR) refl) ∙ r))
    after_condition e (v ∷ vs) w rest less d r =
        elim (at_kind kinds.Comma v) [
          | inl is ↦
              main m start vs (machine.Message e t ∷ frames) 0 (omega arith) (omega (arith, less))
              (λ message at2 w2 rest2 less2 dm r2.
              let x = expected at2 (machine.Message e t) frames message kinds.ParenR (Done (plain.Assert e message t)) [] w2 rest2 (λ t. refl) refl r2 in
              good (plain.Assert e message t) x.0 w2 rest2 (omega (arith, less2, mark_length kinds.ParenR at2 x.0 x.1))
              (middle, (is_assert, name), (ts, paren, (at2, (v ∷ vs, d, (vs, (v.token, one kinds.Comma v vs is), dm)), x.1))) x.2)
              w rest (sym (message_here t e (v ∷ vs) vs v.token frames (one kinds.Comma v vs is)) ∙ r)
          | inr no_comma ↦
              elim (at_kind kinds.ParenR v) [
                | inl is ↦
                    let mark : Mark kinds.ParenR (v ∷ vs) vs = (v.token, one kinds.ParenR v vs is) in
                    good (plain.AssertOnly e t) vs w rest (omega (arith, less)) (middle, (is_assert, name), (ts, paren, (v ∷ vs, d, mark)))
                    (sym (assertion_end t e (v ∷ vs) vs frames mark) ∙ r)
                | inr other ↦ absurd (not_read (Expected kinds.ParenR) (v ∷ vs) w rest
                    (sym (frame_refuses v vs (machine.Assertion t) frames e (Expected kinds.ParenR)
                    (no_message_of t e v no_comma ∙ unexpected kinds.ParenR v (Done (plain.AssertOnly e t)) [] other)) ∙ r))
              ]
        ]

name_start : (k : ℕ) → Main k → Lists k → (m : ℕ) (start : Tokens) (t : Lexeme) (ts : Tokens) (frames : List MachineFrame) → t.kind ≡ kinds.Identifier
    → length ts < k
    → Good (suc k) m start frames 4 (t ∷ ts) → (w : Expr) (rest : Tokens) → parse (t ∷ ts) machine.Value frames ≡ Read w rest → reads w m start rest
name_start k main lists m start t ts frames is less good w rest r =
    let here = as_kind kinds.Identifier t ts frames is in
    elim (yes_or_no (bytes_eq t.token.lexeme (codes "if"))) [
      | inl is_if ↦ absurd (not_read ExpectedExpression (lexeme kinds.Identifier t.token ∷ ts) w rest
          (sym (refuses (lexeme kinds.Identifier t.token) ts machine.Value frames ExpectedExpression (if_is_none t.token is_if)) ∙ sym here ∙ r))
      | inr no_if ↦ named ts less (no_if, one kinds.Identifier t ts is) good w rest (sym (here ∙ name_here t.token ts frames no_if) ∙ r)
    ]
  where
    named : (ts : Tokens) → length ts < k → grammar.Name t.token (t ∷ ts) ts → Good (suc k) m start frames 4 (t ∷ ts) → (w : Expr) (rest : Tokens)
        → parse ts (machine.Named t.token) frames ≡ Read w rest → reads w m start rest
    named [] less name good w rest r =
        good (plain.Variable t.token None) [] w rest (omega (arith, less)) (refl, name) (sym (variable_here t.token [] frames tt) ∙ r)
    named (u ∷ us) less name good w rest r =
        elim (at_kind kinds.ParenL u) [
          | inr other ↦ good (plain.Variable t.token None) (u ∷ us) w rest (omega (arith, less)) (refl, name)
              (sym (variable_here t.token (u ∷ us) frames other) ∙ r)
          | inl paren ↦
              let opening = one kinds.ParenL u us paren in
              elim (yes_or_no (bytes_eq t.token.lexeme (codes "assert"))) [
                | inl is_assert ↦
                    assertion_start k main m start (t ∷ u ∷ us) (u ∷ us) us t.token frames is_assert name (u.token, opening) (omega (arith, less)) good w rest
                    (sym (assertion_here t.token u.token (u ∷ us) us frames is_assert opening) ∙ r)
                | inr no_assert ↦
                    lists m start (machine.Call t.token) [] us frames (omega (arith, less))
                    (λ es at w2 rest2 less2 d r2. good (plain.Call t.token es) at w2 rest2 (omega (arith, less2))
                    (u ∷ us, (no_assert, name), (us, (u.token, opening), d))
                    (ap (λ xs. parse at (Done (plain.Call t.token xs)) frames) (sym (row_listed es)) ∙ r2))
                    w rest (sym (call_here t.token u.token (u ∷ us) us frames no_assert opening) ∙ r)
              ]
        ]

value_step : (k : ℕ) → Values k → Main k → Lists k → Formats k → Values (suc k)
value_step k values main lists formats m start [] frames less good w rest r =
    absurd (not_read ExpectedExpression [] w rest (sym (refuses_end machine.Value frames ExpectedExpression refl) ∙ r))
value_step k values main lists formats m start (t ∷ ts) frames less good w rest r =
    elim (at_kind kinds.Backtick t) [
      | inl is ↦ good (plain.Backtick (backtick_command t.token.lexeme) t.token) ts w rest (omega (arith, less)) (refl, one kinds.Backtick t ts is)
          (sym (backtick_here t.kind t.token ts frames is) ∙ r)
      | inr no_backtick ↦
          elim (at_kind kinds.Bang t) [
            | inl is ↦ values m start ts (machine.Not ∷ frames) (omega (arith, less))
                (λ e at w2 rest2 less2 d r2. good (plain.Not e) at w2 rest2 (omega (arith, less2)) (ts, (t.token, one kinds.Bang t ts is), d)
                (sym (frame_completes at machine.Not frames e (plain.Not e) (λ t. refl) refl) ∙ r2))
                w rest (sym (bang_here t.kind t.token ts frames is) ∙ r)
            | inr no_bang ↦
                elim (at_kind kinds.BracketL t) [
                  | inl is ↦ lists m start (machine.ListOf t.token) [] ts frames (omega (arith, less))
                      (λ es at w2 rest2 less2 d r2. good (plain.ListOf es t.token) at w2 rest2 (omega (arith, less2)) (ts, one kinds.BracketL t ts is, d)
                      (ap (λ xs. parse at (Done (plain.ListOf xs t.token)) frames) (sym (row_listed es)) ∙ r2))
                      w rest (sym (list_here t.kind t.token ts frames is) ∙ r)
                  | inr no_list ↦
                      elim (at_kind kinds.FormatStringStart t) [
                        | inl is ↦ format_start k formats m start t ts frames is (omega (arith, less)) good w rest r
                        | inr no_format ↦
                            elim (at_kind kinds.Identifier t) [
                              | inl is ↦ name_start k main lists m start t ts frames is (omega (arith, less)) good w rest r
                              | inr no_name ↦
                                  elim (at_kind kinds.ParenL t) [
                                    | inl is ↦ main m start ts (machine.Group ∷ frames) 0 (omega arith) (omega (arith, less))
                                        (λ e at w2 rest2 less2 d r2.
                                        let x = expected at machine.Group frames e kinds.ParenR (Done (plain.Group e)) [] w2 rest2 (λ t. refl) refl r2 in
                                        good (plain.Group e) x.0 w2 rest2 (omega (arith, less2, mark_length kinds.ParenR at x.0 x.1))
                                        (ts, (t.token, one kinds.ParenL t ts is), (at, d, x.1)) x.2)
                                        w rest (sym (group_here t.kind t.token ts frames is) ∙ r)
                                    | inr no_group ↦
                                        elim (at_kind kinds.StringToken t) [
                                          | inl is ↦ string_start k m start t ts frames is (omega (arith, less)) good w rest r
                                          | inr no_string ↦ absurd (not_read ExpectedExpression (t ∷ ts) w rest
                                              (sym
                                              (refuses t ts machine.Value frames ExpectedExpression
                                              (nothing_is t no_backtick no_bang no_list no_format no_name no_group no_string)) ∙ r))
                                        ]
                                  ]
                            ]
                      ]
                ]
          ]
    ]

-- ---- expressions

main_step : (k : ℕ) → Main k → Values (suc k) → Ifs k → Ops (suc k) → Main (suc k)
main_step k main values ifs ops m start [] frames n most less good w rest r =
    absurd (not_read ExpectedExpression [] w rest (sym (refuses_end (machine.Expression n) frames ExpectedExpression refl) ∙ r))
main_step k main values ifs ops m start (t ∷ ts) frames n most less good w rest r =
    elim (cases_lt 3 n) [
      | inl high ↦ as_value (inl high)
      | inr low ↦
          elim (yes_or_no (is_word (codes "if") t)) [
            | inl is_if ↦
                ifs m start (t ∷ ts) ts (Operators n 3 ∷ frames) (word_of (codes "if") t ts is_if) (omega (arith, less))
                (fewer k m start (Operators n 3 ∷ frames) 3 (t ∷ ts) (ops m start (t ∷ ts) frames n 3 low (omega arith) good)) w rest
                (sym (if_here n (t ∷ ts) frames low is_if) ∙ r)
            | inr no_if ↦
                elim (at_kind kinds.Slash t) [
                  | inr no_slash ↦ as_value (inr (no_if, no_slash))
                  | inl is ↦
                      main m start ts (machine.Root t.token ∷ Operators n 3 ∷ frames) 3 (omega arith) (omega (arith, less))
                      (λ e at w2 rest2 less2 d r2. ops m start (t ∷ ts) frames n 3 low (omega arith) good (plain.JoinOnly t.token e) at w2 rest2
                      (omega (arith, less2))
                      (omega arith, (ts, one kinds.Slash t ts is, d))
                      (sym (frame_completes at (machine.Root t.token) (Operators n 3 ∷ frames) e (plain.JoinOnly t.token e) (λ t. refl) refl) ∙ r2))
                      w rest (sym (root_here n (t ∷ ts) ts t.token frames low (one kinds.Slash t ts is)) ∙ r)
                ]
          ]
    ]
  where
    as_value : (3 < n) ⊎ ((is_at_word (codes "if") (t ∷ ts) ≡ false) × IsNotAt kinds.Slash (t ∷ ts)) → reads w m start rest
    as_value so = values m start (t ∷ ts) (Operators n 4 ∷ frames) less (ops m start (t ∷ ts) frames n 4 most (omega arith) good) w rest
        (sym (value_here n (t ∷ ts) frames so) ∙ r)

abbrev All : ℕ → Type 0
All k = Ops k × Main k × Values k × Ifs k × Lists k × Formats k

all : (k : ℕ) → All k
all zero = (
  λ m start ts frames n b most high good e at w rest less d r. absurd (omega (arith, less)),
  λ m start ts frames n most less good w rest r. absurd (omega (arith, less)),
  λ m start ts frames less good w rest r. absurd (omega (arith, less)),
  λ m start begin ts frames word less good w rest r. absurd (omega (arith, less)),
  λ m start form before ts frames less good w rest r. absurd (omega (arith, less)),
  λ m start l style before ts frames less good w rest r. absurd (omega (arith, less)),
)
all (suc k) =
    let before = all k in
    let ops = ops_step k before.1 before.0 in
    let values = value_step k before.2 before.1 before.4 before.5 in
    let main = main_step k before.1 values before.3 ops in
    (ops, main, values, if_step k main before.3, lists_step k main before.4, formats_step k main before.5)

-- nothing waits
alone : (k n : ℕ) (ts : Tokens) → Good k n ts [] n ts
alone k n ts e at w rest less d r =
    let same = same_reading e w at rest (read_all at e [] refl ∙ r) in
    subst (λ x. reads x n ts rest) same.0 (subst (λ y. reads e n ts y) same.1 d)

-- what is read at a level, the grammar derives at that level
pub derives_at : (n : ℕ) (e : Expr) (ts rest : Tokens) → n ≤ 4 → parse ts (machine.Expression n) [] ≡ Read e rest → reads e n ts rest
derives_at n e ts rest most r =
    (all (suc (length ts))).1 n ts ts [] n most (omega arith) (alone (suc (length ts)) n ts) e rest r

pub derives_what_is_read : DerivesWhatIsRead
derives_what_is_read e ts rest r = derives_at 0 e ts rest (omega arith) r
