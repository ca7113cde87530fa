-- What comes next in an expression fits the text.
use Rattle.std.proofs.Common.{◌≡◌, ℕ, ◌+◌, ◌-◌, ◌<◌, ◌≤◌, Bool, true, false, cond, eqb, ltb, leb, ◌||◌, [], ◌∷◌, length, drop, refl, ap, ◌∙◌, subst, arith}
use Rattle.std.proofs.Common.{get_or, ◌⊎◌, inl, inr, ⊎_elim, Option, Some, None, codes, lit<, unwrap_or}
use Rattle.std.proofs.lemmas.Bool.Decides.{nat_tests}
use Rattle.std.proofs.lemmas.List.{drop-drop, get_or-drop, length-drop}
use Rattle.std.specs.Str.{IsCharBoundary, IsUtf8}
use Rattle.just_syntax.specs.Plain.{Text}
use Rattle.just_syntax.specs.NameBytes.{is_name_part, is_name_start}
use Rattle.just_syntax.specs.Unindented.{is_gap}
use Rattle.just_lexer.specs.Expression.{backslash, closing_braces, closing_token, end_of_line, format_string, lexed_expression}
use Rattle.just_lexer.specs.Expression.{lexed_name, lexed_piece, lexed_string, mark_after_letter, operator, string_or_symbol, symbol}
use Rattle.just_lexer.specs.Front.{begins_with, is_continuation, leading_byte, line_end_length}
use Rattle.just_lexer.specs.Quote.{delimiter, quote_at}
use Rattle.just_lexer.specs.Span.{one_if, passed, passed_in_piece, passed_in_string, span}
use Rattle.just_lexer.proofs.Cuts.{cut_after, cut_begin, cut_front, front_byte, front_within, span_stops, span_within}
use Rattle.just_lexer.proofs.Cuts.{ascii_span, blanks_ascii, names_ascii}
use Rattle.just_lexer.specs.declared.fault.FaultKind.{FaultKind}
use Rattle.just_lexer.specs.declared.fault.FaultKind.TheVariants as faults
use Rattle.just_lexer.specs.Inside.{same_delimiter}
use Rattle.just_lexer.specs.declared.inside.Delimiter.{Delimiter}
use Rattle.just_lexer.specs.declared.inside.Delimiter.TheVariants.{Brace, Bracket, Paren}
use Rattle.just_lexer.specs.declared.inside.Inside.{Inside}
use Rattle.just_lexer.specs.declared.inside.Inside.TheVariants as insides
use Rattle.just_lexer.specs.declared.kind.TokenKind.{TokenKind}
use Rattle.just_lexer.specs.declared.kind.TokenKind.TheVariants as kinds
use Rattle.just_lexer.specs.declared.quote.Quote.{Quote}
use Rattle.just_lexer.specs.declared.quote.Quote.TheVariants.{Backtick, Cooked, IndentedBacktick, IndentedCooked}
use Rattle.just_lexer.specs.declared.quote.Quote.TheVariants.{IndentedRaw, Raw}
use Rattle.just_lexer.specs.declared.span.Rule.{Rule}
use Rattle.just_lexer.specs.declared.span.Rule.TheVariants.{Blanks, Character, Comment, Name, Piece, Quoted}
use Rattle.just_lexer.specs.declared.step.Step.{Step}
use Rattle.just_lexer.specs.declared.step.Step.TheVariants.{Token, Fault, OpenFault, End}

-- a step takes some bytes, and cuts the text between characters
unfoldable pub StepFits : Text → Step → Type 0
StepFits t (Token kind n) = (0 < n) × IsCharBoundary t n
StepFits t (Fault fault n) = IsCharBoundary t n
StepFits t (OpenFault fault) = Unit {0}
StepFits t End = ⊥

pub fits_token : (t : Text) (kind : TokenKind) (n : ℕ) → 0 < n → IsCharBoundary t n → StepFits t (Token kind n)
unfolding StepFits
fits_token t kind n some cut = (some, cut)

pub fits_fault : (t : Text) (fault : FaultKind) (n : ℕ) → IsCharBoundary t n → StepFits t (Fault fault n)
unfolding StepFits
fits_fault t fault n cut = cut

pub fits_open : (t : Text) (fault : FaultKind) → StepFits t (OpenFault fault)
unfolding StepFits
fits_open t fault = tt

pub by_test : (t : Text) (b : Bool) (x y : Step) → (b ≡ true → StepFits t x) → (b ≡ false → StepFits t y) → StepFits t (cond b x y)
by_test t true x y chosen other = chosen refl
by_test t false x y chosen other = other refl

pub front_token : (t front : Text) (kind : TokenKind) → IsUtf8 t → 0 < length front → get_or front (length front - 1) 0 < 128 → begins_with t front ≡ true
    → StepFits t (Token kind (length front))
front_token t front kind utf8 some low e = fits_token t kind (length front) some (cut_begin t front utf8 e some low)

pub front_fault : (t front : Text) (fault : FaultKind) → IsUtf8 t → 0 < length front → get_or front (length front - 1) 0 < 128 → begins_with t front ≡ true
    → StepFits t (Fault fault (length front))
front_fault t front fault utf8 some low e = fits_fault t fault (length front) (cut_begin t front utf8 e some low)

first_byte : (t : Text) → leading_byte t ≡ get_or t 0 0
first_byte [] = refl
first_byte (b ∷ t) = refl

one_if_zero : (b : Bool) → one_if b ≡ 0 → b ≡ false
one_if_zero true e = absurd (omega arith)
one_if_zero false e = refl

above : (b : ℕ) → is_continuation b ≡ false → 128 ≤ b → 192 ≤ b
above b test high = grind (arith, nat_tests)

-- where the bytes of a character end, no byte continues it
no_continuation : (t : Text) (n : ℕ) → passed Character (drop n t) ≡ 0 → 128 ≤ get_or t n 0 → 192 ≤ get_or t n 0
unfolding passed
no_continuation t n stops high =
    let add : n + 0 ≡ n = omega arith in
    let test : is_continuation (get_or t n 0) ≡ false =
    subst (λ b. is_continuation b ≡ false) (first_byte (drop n t) ∙ get_or-drop n t 0 0 ∙ ap (λ k. get_or t k 0) add)
    (one_if_zero (is_continuation (leading_byte (drop n t))) stops) in
    above (get_or t n 0) test high

-- a character that begins no token
pub unknown_fits : (t : Text) → IsUtf8 t → 0 < length t → StepFits t (Fault faults.UnknownStart (1 + span Character 0 (drop 1 t)))
unknown_fits t utf8 some =
    let count : ℕ = span Character 0 (drop 1 t) in
    let within : 1 + count ≤ length t = omega (arith, span_within Character 0 (drop 1 t), length-drop 1 t) in
    let same : drop count (drop 1 t) ≡ drop (1 + count) t = drop-drop count 1 t in
    let next : 1 + count < length t → (128 ≤ get_or t (1 + count) 0 → 192 ≤ get_or t (1 + count) 0) = λ inside.
    let stops = span_stops Character 0 (drop 1 t) (omega (arith, inside, length-drop 1 t)) in
    no_continuation t (1 + count) (subst (λ u. passed Character u ≡ 0) same stops) in
    fits_fault t faults.UnknownStart (1 + count) (within, next)

operator_fits : (t : Text) → IsUtf8 t → 0 < length t → StepFits t (operator t)
unfolding operator
operator_fits t utf8 some =
    by_test t _ _ _ (front_token t (codes ":=") kinds.ColonEquals utf8 (lit< tt) (lit< tt)) (λ no.
    by_test t _ _ _ (front_token t (codes "::") kinds.ColonColon utf8 (lit< tt) (lit< tt)) (λ no.
    by_test t _ _ _ (front_token t (codes ":") kinds.Colon utf8 (lit< tt) (lit< tt)) (λ no.
    by_test t _ _ _ (front_token t (codes "(") kinds.ParenL utf8 (lit< tt) (lit< tt)) (λ no.
    by_test t _ _ _ (front_token t (codes "[") kinds.BracketL utf8 (lit< tt) (lit< tt)) (λ no.
    by_test t _ _ _ (front_token t (codes "{") kinds.BraceL utf8 (lit< tt) (lit< tt)) (λ no.
    by_test t _ _ _ (front_token t (codes ",") kinds.Comma utf8 (lit< tt) (lit< tt)) (λ no.
    by_test t _ _ _ (front_token t (codes "++") kinds.PlusPlus utf8 (lit< tt) (lit< tt)) (λ no.
    by_test t _ _ _ (front_token t (codes "+") kinds.Plus utf8 (lit< tt) (lit< tt)) (λ no.
    by_test t _ _ _ (front_token t (codes "/") kinds.Slash utf8 (lit< tt) (lit< tt)) (λ no.
    by_test t _ _ _ (front_token t (codes "==") kinds.EqualsEquals utf8 (lit< tt) (lit< tt)) (λ no.
    by_test t _ _ _ (front_token t (codes "=~") kinds.EqualsTilde utf8 (lit< tt) (lit< tt)) (λ no.
    by_test t _ _ _ (front_token t (codes "=") kinds.Equals utf8 (lit< tt) (lit< tt)) (λ no.
    by_test t _ _ _ (front_token t (codes "!=") kinds.BangEquals utf8 (lit< tt) (lit< tt)) (λ no.
    by_test t _ _ _ (front_token t (codes "!~") kinds.BangTilde utf8 (lit< tt) (lit< tt)) (λ no.
    by_test t _ _ _ (front_token t (codes "!") kinds.Bang utf8 (lit< tt) (lit< tt)) (λ no.
    by_test t _ _ _ (front_token t (codes "&&") kinds.AmpersandAmpersand utf8 (lit< tt) (lit< tt)) (λ no.
    by_test t _ _ _ (front_token t (codes "||") kinds.BarBar utf8 (lit< tt) (lit< tt)) (λ no.
    by_test t _ _ _ (front_token t (codes "@") kinds.At utf8 (lit< tt) (lit< tt)) (λ no.
    by_test t _ _ _ (front_token t (codes "$") kinds.Dollar utf8 (lit< tt) (lit< tt)) (λ no.
    by_test t _ _ _ (front_token t (codes "*") kinds.Asterisk utf8 (lit< tt) (lit< tt)) (λ no.
    by_test t _ _ _ (front_token t (codes "?") kinds.QuestionMark utf8 (lit< tt) (lit< tt)) (λ no.
    unknown_fits t utf8 some))))))))))))))))))))))

-- ---- strings

mark_some : (q : Quote) → 0 < length (delimiter q)
mark_some Backtick = lit< tt
mark_some Cooked = lit< tt
mark_some IndentedBacktick = lit< tt
mark_some IndentedCooked = lit< tt
mark_some IndentedRaw = lit< tt
mark_some Raw = lit< tt

mark_ascii : (q : Quote) → get_or (delimiter q) (length (delimiter q) - 1) 0 < 128
mark_ascii Backtick = lit< tt
mark_ascii Cooked = lit< tt
mark_ascii IndentedBacktick = lit< tt
mark_ascii IndentedCooked = lit< tt
mark_ascii IndentedRaw = lit< tt
mark_ascii Raw = lit< tt

-- where the text of a string stops, there is its second mark
string_stops : (q : Quote) (t : Text) → passed (Quoted q) t ≡ 0 → begins_with t (delimiter q) ≡ true
unfolding passed passed_in_string
string_stops q t e = grind (arith, nat_tests)

-- where the text of a piece stops, there is an interpolation or the second mark
piece_stops : (q : Quote) (t : Text) → passed (Piece q) t ≡ 0 → begins_with t (codes "{{") ≡ false → begins_with t (delimiter q) ≡ true
unfolding passed passed_in_piece passed_in_string
piece_stops q t e none = grind (arith, nat_tests)

string_fits : (q : Quote) (t : Text) → IsUtf8 t → begins_with t (delimiter q) ≡ true → StepFits t (lexed_string q t)
unfolding lexed_string
string_fits q t utf8 e =
    let mark : ℕ = length (delimiter q) in
    let count : ℕ = span (Quoted q) 0 (drop mark t) in
    let inside : mark + count ≤ length t =
    omega (arith, front_within t (delimiter q) e, span_within (Quoted q) 0 (drop mark t), length-drop mark t) in
    by_test t (ltb (mark + count) (length t)) _ _
    (λ more.
    let low : mark + count < length t = grind (arith, nat_tests, more) in
    let stops = span_stops (Quoted q) 0 (drop mark t) (omega (arith, low, length-drop mark t)) in
    let there = string_stops q (drop (mark + count) t) (subst (λ u. passed (Quoted q) u ≡ 0) (drop-drop count mark t) stops) in
    fits_token t _ _ (omega (arith, mark_some q)) (cut_front t (delimiter q) (mark + count) utf8 inside there (mark_some q) (mark_ascii q)))
    (λ no. front_fault t (delimiter q) _ utf8 (mark_some q) (mark_ascii q) e)

piece_fits : (q : Quote) (opening : ℕ) (opens closes : TokenKind) (t : Text) → IsUtf8 t → 0 < opening → IsCharBoundary t opening
    → StepFits t (lexed_piece q opening opens closes t)
unfolding lexed_piece
piece_fits q opening opens closes t utf8 some cut =
    let count : ℕ = span (Piece q) 0 (drop opening t) in
    let inside : opening + count ≤ length t = omega (arith, cut.0, span_within (Piece q) 0 (drop opening t), length-drop opening t) in
    by_test t (leb (length t) (opening + count)) _ _
    (λ more. fits_fault t _ _ cut)
    (λ more.
    let low : opening + count < length t = grind (arith, nat_tests, more) in
    let stops = subst (λ u. passed (Piece q) u ≡ 0) (drop-drop count opening t)
    (span_stops (Piece q) 0 (drop opening t) (omega (arith, low, length-drop opening t))) in
    by_test t _ _ _
    (λ there. fits_token t _ _ (omega arith) (cut_front t (codes "{{") (opening + count) utf8 inside there (lit< tt) (lit< tt)))
    (λ none.
    let there = piece_stops q (drop (opening + count) t) stops none in
    fits_token t _ _ (omega arith) (cut_front t (delimiter q) (opening + count) utf8 inside there (mark_some q) (mark_ascii q))))

-- ---- names

-- the mark at the front of a text
front_mark : (u : Text) (q : Quote) → quote_at u ≡ Some q → begins_with u (delimiter q) ≡ true
unfolding quote_at
front_mark u q e = grind (arith, nat_tests)

-- a text that begins with a single or a double quotation mark has a mark at its front
no_mark : (u : Text) → quote_at u ≡ None → (begins_with u (codes "'") ≡ false) × (begins_with u (codes "\"") ≡ false)
unfolding quote_at
no_mark u e = (grind (arith, nat_tests), grind (arith, nat_tests))

-- the front after a byte
begins_after : (t front : Text) (b : ℕ) → begins_with t (b ∷ front) ≡ true → begins_with (drop 1 t) front ≡ true
unfolding begins_with
begins_after [] front b e = absurd (cc)
begins_after (c ∷ t) front b e = grind (arith, nat_tests)

-- the mark after a letter is there, if it is a single or a double quotation mark
letter_mark : (t : Text) (o : Option Quote) → quote_at (drop 1 t) ≡ o
    → (begins_with (drop 1 t) (codes "'") ≡ true) ⊎ (begins_with (drop 1 t) (codes "\"") ≡ true)
    → begins_with (drop 1 t) (delimiter (unwrap_or o Raw)) ≡ true
letter_mark t (Some q) e there = front_mark (drop 1 t) q e
letter_mark t None e (inl single) = single
letter_mark t None e (inr double) = absurd (let no = (no_mark (drop 1 t) e).1 in cc)

format_string_fits : (t : Text) → IsUtf8 t → (begins_with (drop 1 t) (codes "'") ≡ true) ⊎ (begins_with (drop 1 t) (codes "\"") ≡ true) → 0 < length t
    → StepFits t (format_string (mark_after_letter t) t)
unfolding format_string mark_after_letter
format_string_fits t utf8 there some =
    let q : Quote = unwrap_or (quote_at (drop 1 t)) Raw in
    let mark : begins_with (drop 1 t) (delimiter q) ≡ true = letter_mark t (quote_at (drop 1 t)) refl there in
    piece_fits q (1 + length (delimiter q)) kinds.FormatStringStart kinds.StringToken t utf8 (omega arith)
    (cut_front t (delimiter q) 1 utf8 (omega arith) mark (mark_some q) (mark_ascii q))

-- a name begins with an ASCII letter or `_`
start_is_part : (b : ℕ) → is_name_start b ≡ true → is_name_part b ≡ true
start_is_part b e = grind (arith, nat_tests)

start_is_ascii : (b : ℕ) → is_name_start b ≡ true → b < 128
start_is_ascii b e = grind (arith, nat_tests)

-- a name has a byte
name_some : (t : Text) → is_name_start (leading_byte t) ≡ true → 0 < span Name 0 t
unfolding passed
name_some [] e = absurd (cc)
name_some (b ∷ t) e = rw (start_is_part b e) (omega arith)

pub either : (a b : Bool) → (a || b) ≡ true → (a ≡ true) ⊎ (b ≡ true)
either true b e = inl refl
either false b e = inr e

letter_f : (t : Text) → (begins_with t (codes "f'") || begins_with t (codes "f\"")) ≡ true
    → (begins_with (drop 1 t) (codes "'") ≡ true) ⊎ (begins_with (drop 1 t) (codes "\"") ≡ true)
letter_f t e =
    ⊎_elim (λ single. inl (begins_after t (codes "'") 102 single)) (λ double. inr (begins_after t (codes "\"") 102 double)) (either _ _ e)

named_fits : (t : Text) → IsUtf8 t → 0 < length t → is_name_start (leading_byte t) ≡ true → StepFits t (lexed_name t)
unfolding lexed_name
named_fits t utf8 some e =
    let low : get_or t 0 0 < 128 = rw (first_byte t) at (start_is_ascii (leading_byte t) e) in
    by_test t (begins_with t (codes "x'") || begins_with t (codes "x\"")) (Fault faults.ShellExpandedString 1) _
    (λ x. fits_fault t _ 1 (cut_after t 1 utf8 (lit< tt) some low))
    (λ no. by_test t (begins_with t (codes "f'") || begins_with t (codes "f\"")) _ _
    (λ f. format_string_fits t utf8 (letter_f t f) some)
    (λ none. fits_token t kinds.Identifier (span Name 0 t) (name_some t e)
    (cut_after t (span Name 0 t) utf8 (name_some t e) (span_within Name 0 t)
    (ascii_span Name names_ascii t (span Name 0 t - 1) (omega (arith, name_some t e))))))

-- ---- the rest

ends_by : (b c : Bool) → 0 < cond {A = ℕ} b 1 (cond {A = ℕ} c 2 0)
    → ((b ≡ true) × (cond {A = ℕ} b 1 (cond {A = ℕ} c 2 0) ≡ 1)) ⊎ ((c ≡ true) × (cond {A = ℕ} b 1 (cond {A = ℕ} c 2 0) ≡ 2))
ends_by true c some = inl (refl, refl)
ends_by false true some = inr (refl, refl)
ends_by false false some = absurd (omega arith)

line_end_is : (u : Text) → 0 < line_end_length u
    → ((begins_with u (codes "\n") ≡ true) × (line_end_length u ≡ 1)) ⊎ ((begins_with u (codes "\r\n") ≡ true) × (line_end_length u ≡ 2))
unfolding line_end_length
line_end_is u some = ends_by (begins_with u (codes "\n")) (begins_with u (codes "\r\n")) some

abbrev IsLineEnd : Text → Type 0
IsLineEnd u = ((begins_with u (codes "\n") ≡ true) × (line_end_length u ≡ 1)) ⊎ ((begins_with u (codes "\r\n") ≡ true) × (line_end_length u ≡ 2))

end_ascii : (u : Text) → IsLineEnd u → get_or u 0 0 < 128
end_ascii u (inl one) = rw (front_byte u (codes "\n") 0 one.0 (lit< tt)) (lit< tt)
end_ascii u (inr two) = rw (front_byte u (codes "\r\n") 0 two.0 (lit< tt)) (lit< tt)

-- a line end is ASCII
pub line_end_ascii : (u : Text) → 0 < line_end_length u → get_or u 0 0 < 128
line_end_ascii u some = end_ascii u (line_end_is u some)

end_cut : (t : Text) (n : ℕ) → IsUtf8 t → n ≤ length t → IsLineEnd (drop n t) → IsCharBoundary t (n + line_end_length (drop n t))
end_cut t n utf8 inside (inl one) = rw one.1 (cut_front t (codes "\n") n utf8 inside one.0 (lit< tt) (lit< tt))
end_cut t n utf8 inside (inr two) = rw two.1 (cut_front t (codes "\r\n") n utf8 inside two.0 (lit< tt) (lit< tt))

-- a line end at a place
pub line_end_cut : (t : Text) (n : ℕ) → IsUtf8 t → n ≤ length t → 0 < line_end_length (drop n t) → IsCharBoundary t (n + line_end_length (drop n t))
line_end_cut t n utf8 inside some = end_cut t n utf8 inside (line_end_is (drop n t) some)

pub line_end_here : (t : Text) → IsUtf8 t → 0 < line_end_length t → IsCharBoundary t (line_end_length t)
line_end_here t utf8 some =
    let same : 0 + line_end_length t ≡ line_end_length t = omega arith in
    subst (λ k. IsCharBoundary t k) same (line_end_cut t 0 utf8 (omega arith) some)

backslash_fits : (t : Text) → IsUtf8 t → begins_with t (codes "\\") ≡ true → StepFits t (backslash t)
unfolding backslash
backslash_fits t utf8 e =
    by_test t (ltb 0 (line_end_length (drop 1 t))) _ _
    (λ more.
    let some : 0 < line_end_length (drop 1 t) = grind (arith, nat_tests, more) in
    fits_token t _ _ (omega arith) (line_end_cut t 1 utf8 (front_within t (codes "\\") e) some))
    (λ none. front_fault t (codes "\\") _ utf8 (lit< tt) (lit< tt) e)

end_of_line_fits : (inside : Option Inside) (t : Text) (n : ℕ) → 0 < n → IsCharBoundary t n → StepFits t (end_of_line inside n)
unfolding end_of_line
end_of_line_fits None t n some cut = fits_token t _ n some cut
end_of_line_fits (Some (insides.Delimiter opened line)) t n some cut = fits_token t _ n some cut
end_of_line_fits (Some insides.Interpolation) t n some cut = fits_open t _
end_of_line_fits (Some (insides.FormatString quote)) t n some cut = fits_open t _

closing_fits : (close : Delimiter) (kind : TokenKind) (inside : Option Inside) (t : Text) → IsCharBoundary t 1 → StepFits t (closing_token close kind inside)
unfolding closing_token
closing_fits close kind None t cut = fits_fault t _ 1 cut
closing_fits close kind (Some insides.Interpolation) t cut = fits_fault t _ 1 cut
closing_fits close kind (Some (insides.FormatString quote)) t cut = fits_fault t _ 1 cut
closing_fits close kind (Some (insides.Delimiter opened line)) t cut =
    by_test t (same_delimiter opened close) _ (Fault (faults.MismatchedClosingDelimiter opened line) 1)
    (λ same. fits_token t kind 1 (lit< tt) cut) (λ other. fits_fault t _ 1 cut)

one_brace : (t : Text) → IsUtf8 t → begins_with t (codes "}}") ≡ true → IsCharBoundary t 1
one_brace t utf8 e =
    cut_after t 1 utf8 (lit< tt) (omega (arith, front_within t (codes "}}") e)) (rw (front_byte t (codes "}}") 0 e (lit< tt)) (lit< tt))

closing_braces_fits : (inside : Option Inside) (t : Text) → IsUtf8 t → begins_with t (codes "}}") ≡ true → StepFits t (closing_braces inside t)
unfolding closing_braces
closing_braces_fits None t utf8 e = closing_fits Brace kinds.BraceR None t (one_brace t utf8 e)
closing_braces_fits (Some insides.Interpolation) t utf8 e = front_token t (codes "}}") _ utf8 (lit< tt) (lit< tt) e
closing_braces_fits (Some (insides.FormatString quote)) t utf8 e =
    piece_fits quote 2 kinds.FormatStringContinue kinds.FormatStringEnd t utf8 (lit< tt) (cut_begin t (codes "}}") utf8 e (lit< tt) (lit< tt))
closing_braces_fits (Some (insides.Delimiter opened line)) t utf8 e =
    closing_fits Brace kinds.BraceR (Some (insides.Delimiter opened line)) t (one_brace t utf8 e)

symbol_fits : (inside : Option Inside) (t : Text) → IsUtf8 t → 0 < length t → StepFits t (symbol inside t)
unfolding symbol
symbol_fits inside t utf8 some =
    by_test t _ _ _ (closing_braces_fits inside t utf8)
    (λ no. by_test t _ _ _ (λ e. closing_fits Brace _ inside t (cut_begin t (codes "}") utf8 e (lit< tt) (lit< tt)))
    (λ no. by_test t _ _ _ (λ e. closing_fits Paren _ inside t (cut_begin t (codes ")") utf8 e (lit< tt) (lit< tt)))
    (λ no. by_test t _ _ _ (λ e. closing_fits Bracket _ inside t (cut_begin t (codes "]") utf8 e (lit< tt) (lit< tt)))
    (λ no. operator_fits t utf8 some))))

marked_fits : (o : Option Quote) (inside : Option Inside) (t : Text) → quote_at t ≡ o → IsUtf8 t → 0 < length t → StepFits t (string_or_symbol o inside t)
unfolding string_or_symbol
marked_fits (Some q) inside t e utf8 some = string_fits q t utf8 (front_mark t q e)
marked_fits None inside t e utf8 some = symbol_fits inside t utf8 some

-- white space has a byte
blank_some : (t : Text) → is_gap (leading_byte t) ≡ true → 0 < span Blanks 0 t
unfolding passed
blank_some [] e = absurd (cc)
blank_some (b ∷ t) e = rw e (omega arith)

pub blanks_cut : (t : Text) → IsUtf8 t → 0 < span Blanks 0 t → IsCharBoundary t (span Blanks 0 t)
blanks_cut t utf8 some = cut_after t (span Blanks 0 t) utf8 some (span_within Blanks 0 t) (ascii_span Blanks blanks_ascii t (span Blanks 0 t - 1) (omega arith))

-- where a rule that stops at ASCII bytes stops, the text may be cut
pub cut_at_stop : (rule : Rule) (t : Text) → ((u : Text) → passed rule u ≡ 0 → get_or u 0 0 < 128) → IsCharBoundary t (span rule 0 t)
cut_at_stop rule t stops_low =
    let count : ℕ = span rule 0 t in
    let add : count + 0 ≡ count = omega arith in (
      span_within rule 0 t,
      λ inside high.
          let low : get_or t count 0 < 128 = rw (get_or-drop count t 0 0, add) at (stops_low (drop count t) (span_stops rule 0 t inside)) in
          absurd (omega (arith, low, high)),
    )

comment_stops : (u : Text) → passed Comment u ≡ 0 → get_or u 0 0 < 128
unfolding passed
comment_stops u stops =
    let test : (eqb (line_end_length u) 0) ≡ false = one_if_zero (eqb (line_end_length u) 0) stops in
    line_end_ascii u (grind (arith, nat_tests, test))

comment_some : (t : Text) → 0 < length t → line_end_length t ≡ 0 → 0 < span Comment 0 t
unfolding passed
comment_some [] some none = absurd (omega arith)
comment_some (b ∷ t) some none = rw none (omega arith)

comment_fits : (t : Text) → 0 < length t → line_end_length t ≡ 0 → StepFits t (Token kinds.Comment (span Comment 0 t))
comment_fits t some none = fits_token t _ _ (comment_some t some none) (cut_at_stop Comment t comment_stops)

pub expression_fits : (inside : Option Inside) (t : Text) → IsUtf8 t → 0 < length t → StepFits t (lexed_expression inside t)
unfolding lexed_expression
expression_fits inside t utf8 some =
    by_test t _ _ _ (λ e. fits_token t _ _ (blank_some t e) (blanks_cut t utf8 (blank_some t e)))
    (λ no. by_test t _ _ _ (named_fits t utf8 some)
    (λ no. by_test t (ltb 0 (line_end_length t)) _ _
    (λ e.
    let more : 0 < line_end_length t = grind (arith, nat_tests, e) in
    end_of_line_fits inside t (line_end_length t) more (line_end_here t utf8 more))
    (λ e.
    let none : line_end_length t ≡ 0 = grind (arith, nat_tests, e) in
    by_test t _ _ _ (front_fault t (codes "\r") _ utf8 (lit< tt) (lit< tt))
    (λ no. by_test t _ _ _ (backslash_fits t utf8)
    (λ no. by_test t _ _ _ (λ e. comment_fits t some none)
    (λ no. marked_fits (quote_at t) inside t refl utf8 some))))))
