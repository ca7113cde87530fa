-- What comes next fits the text.
use Rattle.std.proofs.Common.{◌≡◌, ℕ, suc, ◌-◌, ◌<◌, ◌≤◌, Bool, true, false, cond, eqb, ltb, ◌||◌, ◌&&◌, [], ◌∷◌, length, drop, take, refl, arith, get_or, ◌⊎◌}
use Rattle.std.proofs.Common.{inl, inr, Option, Some, None, codes, lit<, not}
use Rattle.std.proofs.lemmas.Bool.Decides.{nat_tests}
use Rattle.std.proofs.lemmas.List.{length-take}
use Rattle.std.proofs.lemmas.Str.{IsCharBoundary-start, IsCharBoundary-past_char}
use Rattle.std.specs.Str.{IsCharBoundary, IsUtf8}
use Rattle.just_syntax.specs.Plain.{Text}
use Rattle.just_lexer.specs.Expression.{lexed_expression}
use Rattle.just_lexer.specs.Front.{begins_with, line_end_length}
use Rattle.just_lexer.specs.Line.{blank_line, body_line, body_start, byte_order_mark, filled_line, indentation_fault, lexed_indentation, lexed_inside}
use Rattle.just_lexer.specs.Line.{is_blank_line, is_mixed, lexed_line, line_start, next, next_inside, outside, text_end, unclosed}
use Rattle.just_lexer.specs.Advances.{FitsIn}
use Rattle.just_lexer.specs.Span.{passed, span}
use Rattle.just_lexer.specs.State.{State, innermost_open}
use Rattle.just_lexer.proofs.Cuts.{ascii_span, begun, front_byte, blanks_ascii, cut_after, cut_begin, front_within, span_stops, span_within}
use Rattle.just_lexer.proofs.Fits.{StepFits, either, blanks_cut, cut_at_stop, expression_fits, line_end_ascii, line_end_here}
use Rattle.just_lexer.specs.declared.fault.FaultKind.{FaultKind}
use Rattle.just_lexer.specs.declared.fault.FaultKind.TheVariants as faults
use Rattle.just_lexer.specs.declared.inside.Inside.{Inside}
use Rattle.just_lexer.specs.declared.inside.Inside.TheVariants as insides
use Rattle.just_lexer.specs.declared.kind.TokenKind.{TokenKind}
use Rattle.just_lexer.specs.declared.kind.TokenKind.TheVariants as kinds
use Rattle.just_lexer.specs.declared.span.Rule.{Rule}
use Rattle.just_lexer.specs.declared.span.Rule.TheVariants.{Blanks, Command}
use Rattle.just_lexer.specs.declared.step.Step.{Step}
use Rattle.just_lexer.specs.declared.step.Step.TheVariants.{Token, Fault, OpenFault, End}

no_bytes : (t : Text) → eqb (length t) 0 ≡ true → t ≡ []
no_bytes [] e = refl
no_bytes (b ∷ t) e = absurd (let none : suc (length t) ≡ 0 = grind (arith, nat_tests, e) in omega (arith, none))

stops_by : (a b c : Bool) → cond {A = ℕ} a 4 (cond {A = ℕ} (b || c) 0 1) ≡ 0 → (b ≡ true) ⊎ (c ≡ true)
stops_by true b c e = absurd (omega arith)
stops_by false true c e = inl refl
stops_by false false true e = inr refl
stops_by false false false e = absurd (omega arith)

abbrev IsCommandEnd : Text → Type 0
IsCommandEnd u = (begins_with u (codes "{{") ≡ true) ⊎ (ltb 0 (line_end_length u) ≡ true)

command_end : (u : Text) → passed Command u ≡ 0 → IsCommandEnd u
unfolding passed
command_end u stops = stops_by (begins_with u (codes "{{{{")) (begins_with u (codes "{{")) (ltb 0 (line_end_length u)) stops

end_ascii : (u : Text) → IsCommandEnd u → get_or u 0 0 < 128
end_ascii u (inl there) = rw (front_byte u (codes "{{") 0 there (lit< tt)) (lit< tt)
end_ascii u (inr more) = line_end_ascii u (grind (arith, nat_tests, more))

end_of_line : (u : Text) → begins_with u (codes "{{") ≡ false → IsCommandEnd u → 0 < line_end_length u
end_of_line u none (inl there) = absurd (cc)
end_of_line u none (inr more) = grind (arith, nat_tests, more)

-- a rule that passes nothing stops at once
span_zero : (rule : Rule) (t : Text) → 0 < length t → ltb 0 (span rule 0 t) ≡ false → (span rule 0 t ≡ 0) × (passed rule t ≡ 0)
span_zero rule t some e =
    let none : span rule 0 t ≡ 0 = grind (arith, nat_tests, e) in
    let stops = span_stops rule 0 t (omega arith) in
    (none, rw none at stops)

filled_end : (t : Text) → 0 < length t → (eqb (length t) 0 ≡ true) ⊎ (ltb 0 (line_end_length t) ≡ true) → 0 < line_end_length t
filled_end t some (inl e) = absurd (let none : length t ≡ 0 = grind (arith, nat_tests, e) in omega arith)
filled_end t some (inr e) = grind (arith, nat_tests, e)

-- a blank line without white space ends here
blank_end : (t : Text) → 0 < length t → is_blank_line t ≡ true → span Blanks 0 t ≡ 0 → 0 < line_end_length t
unfolding is_blank_line
blank_end t some blank none =
    let here = rw none at blank in
    filled_end t some (either (eqb (length t) 0) (ltb 0 (line_end_length t)) here)

both_true : (a b : Bool) → (a && b) ≡ true → b ≡ true
both_true true b e = e
both_true false b e = absurd (cc)

module _ (indentation t : Text) where
  fits_token : (kind : TokenKind) (n : ℕ) → 0 < n → IsCharBoundary t n → FitsIn indentation t (Token kind n)
  unfolding FitsIn
  fits_token kind n some cut = (inl some, cut)

  fits_dedent : 0 < length indentation → IsUtf8 t → FitsIn indentation t (Token kinds.Dedent 0)
  unfolding FitsIn
  fits_dedent some utf8 = (inr (refl, some), IsCharBoundary-start t utf8)

  fits_fault : (fault : FaultKind) (n : ℕ) → IsCharBoundary t n → FitsIn indentation t (Fault fault n)
  unfolding FitsIn
  fits_fault fault n cut = cut

  fits_open : (fault : FaultKind) → FitsIn indentation t (OpenFault fault)
  unfolding FitsIn
  fits_open fault = tt

  fits_end : eqb (length t) 0 ≡ true → FitsIn indentation t End
  unfolding FitsIn
  fits_end e = no_bytes t e

  fits_weak : (step : Step) → StepFits t step → FitsIn indentation t step
  unfolding FitsIn StepFits
  fits_weak (Token kind n) fits = (inl fits.0, fits.1)
  fits_weak (Fault fault n) fits = fits
  fits_weak (OpenFault fault) fits = tt
  fits_weak End fits = absurd fits

  by_test : (b : Bool) (x y : Step) → (b ≡ true → FitsIn indentation t x) → (b ≡ false → FitsIn indentation t y) → FitsIn indentation t (cond b x y)
  by_test true x y chosen other = chosen refl
  by_test false x y chosen other = other refl

  -- ---- a line of a body

  command_stops : (u : Text) → passed Command u ≡ 0 → get_or u 0 0 < 128
  command_stops u stops = end_ascii u (command_end u stops)

  body_line_fits : IsUtf8 t → 0 < length t → FitsIn indentation t (body_line t)
  unfolding body_line
  body_line_fits utf8 some =
      by_test (ltb 0 (span Command 0 t)) _ _
      (λ e. fits_token _ _ (grind (arith, nat_tests, e)) (cut_at_stop Command t command_stops))
      (λ e. by_test (begins_with t (codes "{{")) _ _
      (λ there. fits_token kinds.InterpolationStart 2 (lit< tt) (cut_begin t (codes "{{") utf8 there (lit< tt) (lit< tt)))
      (λ none. let more : 0 < line_end_length t = end_of_line t none (command_end t (span_zero Command t some e).1) in fits_token kinds.Eol
      (line_end_length t) more
      (line_end_here t utf8 more)))

  -- ---- the start of a line

  blank_line_fits : IsUtf8 t → 0 < length t → is_blank_line t ≡ true → FitsIn indentation t (blank_line t)
  unfolding blank_line
  blank_line_fits utf8 some blank =
      by_test (ltb 0 (span Blanks 0 t)) _ _
      (λ e. let more : 0 < span Blanks 0 t = grind (arith, nat_tests, e) in fits_token kinds.Whitespace _ more (blanks_cut t utf8 more))
      (λ e. let more : 0 < line_end_length t = blank_end t some blank (span_zero Blanks t some e).0 in fits_token kinds.Eol (line_end_length t) more
      (line_end_here t utf8 more))

  indentation_cut : (count : ℕ) → count ≡ span Blanks 0 t → IsUtf8 t → begins_with (take count t) indentation ≡ true → 0 < length indentation
      → IsCharBoundary t (length indentation)
  indentation_cut count is utf8 e some =
      let within : length indentation ≤ count = omega (arith, front_within (take count t) indentation e, length-take count t) in
      cut_after t (length indentation) utf8 some (omega (arith, span_within Blanks 0 t))
      (ascii_span Blanks blanks_ascii t (length indentation - 1) (omega arith))

  body_start_fits : IsUtf8 t → 0 < length t → 0 < length indentation → FitsIn indentation t (body_start indentation t)
  unfolding body_start
  body_start_fits utf8 some inside =
      by_test (begins_with (take (span Blanks 0 t) t) indentation) _ _
      (λ e. fits_token kinds.Whitespace (length indentation) inside (indentation_cut (span Blanks 0 t) refl utf8 e inside))
      (λ no. by_test (eqb (span Blanks 0 t) 0) _ _
      (λ e. fits_dedent inside utf8)
      (λ e. fits_fault (indentation_fault (take (span Blanks 0 t) t)) (span Blanks 0 t) (blanks_cut t utf8 (grind (arith, nat_tests, e)))))

  indented_fits : (has_colon : Bool) → IsUtf8 t → 0 < span Blanks 0 t → FitsIn indentation t (lexed_indentation has_colon t)
  unfolding lexed_indentation
  indented_fits has_colon utf8 more =
      by_test (not has_colon) _ _
      (λ no. fits_fault faults.UnexpectedIndentation (span Blanks 0 t) (blanks_cut t utf8 more))
      (λ no. by_test (is_mixed (take (span Blanks 0 t) t)) _ _
      (λ e. fits_fault faults.MixedIndentation (span Blanks 0 t) (blanks_cut t utf8 more))
      (λ no. fits_token kinds.Indent (span Blanks 0 t) more (blanks_cut t utf8 more)))

  filled_line_fits : (has_colon : Bool) → IsUtf8 t → 0 < length t → FitsIn indentation t (filled_line indentation has_colon t)
  unfolding filled_line
  filled_line_fits has_colon utf8 some =
      by_test (ltb 0 (length indentation)) _ _
      (λ e. body_start_fits utf8 some (grind (arith, nat_tests, e)))
      (λ no. by_test (ltb 0 (span Blanks 0 t)) _ _
      (λ e. indented_fits has_colon utf8 (grind (arith, nat_tests, e)))
      (λ no. fits_weak (lexed_expression None t) (expression_fits None t utf8 some)))

  mark_cut : IsUtf8 t → begins_with t byte_order_mark ≡ true → IsCharBoundary t 3
  unfolding lib.Utf8.encode
  mark_cut utf8 e = IsCharBoundary-past_char t (drop 3 t) 0 65279 (omega arith) utf8 (begun t byte_order_mark e)

  line_start_fits : (offset : ℕ) (has_colon : Bool) → IsUtf8 t → 0 < length t → FitsIn indentation t (line_start offset indentation has_colon t)
  unfolding line_start
  line_start_fits offset has_colon utf8 some =
      by_test ((eqb offset 0) && begins_with t byte_order_mark) _ _
      (λ e. fits_token kinds.ByteOrderMark 3 (lit< tt) (mark_cut utf8 (both_true (eqb offset 0) (begins_with t byte_order_mark) e)))
      (λ no. by_test (is_blank_line t) _ _ (blank_line_fits utf8 some)
      (λ no. filled_line_fits has_colon utf8 some))

  -- ---- all of it

  text_end_fits : IsUtf8 t → eqb (length t) 0 ≡ true → FitsIn indentation t (text_end indentation)
  unfolding text_end
  text_end_fits utf8 none =
      by_test (ltb 0 (length indentation)) _ _ (λ e. fits_dedent (grind (arith, nat_tests, e)) utf8) (λ no. fits_end none)

  unclosed_fits : (inside : Inside) → FitsIn indentation t (unclosed inside)
  unfolding unclosed
  unclosed_fits (insides.Delimiter opened line) = fits_open _
  unclosed_fits insides.Interpolation = fits_open _
  unclosed_fits (insides.FormatString quote) = fits_open _

  enclosed_fits : (inside : Inside) → IsUtf8 t → FitsIn indentation t (lexed_inside inside t)
  unfolding lexed_inside
  enclosed_fits inside utf8 =
      by_test (eqb (length t) 0) _ _ (λ e. unclosed_fits inside)
      (λ e. fits_weak (lexed_expression (Some inside) t) (expression_fits (Some inside) t utf8 (grind (arith, nat_tests, e))))

  in_line_fits : IsUtf8 t → 0 < length t → FitsIn indentation t (lexed_line indentation t)
  unfolding lexed_line
  in_line_fits utf8 some =
      by_test (ltb 0 (length indentation)) _ _ (λ e. body_line_fits utf8 some)
      (λ no. fits_weak (lexed_expression None t) (expression_fits None t utf8 some))

outside_fits : (s : State) (t : Text) → IsUtf8 t → FitsIn s.indentation t (outside s t)
unfolding outside
outside_fits s t utf8 =
    by_test s.indentation t (eqb (length t) 0) _ _ (λ e. text_end_fits s.indentation t utf8 e)
    (λ e.
    let some : 0 < length t = grind (arith, nat_tests, e) in
    by_test s.indentation t s.in_line _ _ (λ e. in_line_fits s.indentation t utf8 some)
    (λ no. line_start_fits s.indentation t s.place.offset s.has_colon utf8 some))

inside_fits : (o : Option Inside) (s : State) (t : Text) → IsUtf8 t → FitsIn s.indentation t (next_inside o s t)
unfolding next_inside
inside_fits None s t utf8 = outside_fits s t utf8
inside_fits (Some inside) s t utf8 = enclosed_fits s.indentation t inside utf8

pub next_fits : (s : State) (t : Text) → IsUtf8 t → FitsIn s.indentation t (next s t)
unfolding next
next_fits s t utf8 = inside_fits (innermost_open s.openings) s t utf8
