-- The tokens of a text: they are its pieces, in their places, and there is one list of them.
use Rattle.std.proofs.Common.{◌≡◌, ℕ, zero, suc, ◌+◌, ◌*◌, ◌<◌, ◌≤◌, Bool, true, false, cond, eqb, List, [], ◌∷◌, ◌++◌, length, drop, take, refl, ap, sym, ◌∙◌}
use Rattle.std.proofs.Common.{subst, arith, min, append_assoc, Option, Some, None}
use Rattle.std.proofs.lemmas.List.Sums.{sum_by-cons}
use Rattle.std.proofs.lemmas.List.{take-append-drop}
use Rattle.std.proofs.lemmas.Str.{IsUtf8-drop}
use Rattle.std.specs.List.{AllByRecursion}
use Rattle.std.specs.Prelude.{count_by}
use Rattle.std.specs.Str.{IsUtf8}
use Rattle.just_syntax.specs.Plain.{Text, Place, Token}
use Rattle.just_syntax.specs.Place.{start_of, token_at}
use Rattle.just_lexer.specs.Advances.{Advances, FitsIn}
use Rattle.just_lexer.specs.Laws.{AreTokensPlaced, IsTokenPlaced, OneResult, PlacesCount, SomeResult, text_of_tokens}
use Rattle.just_lexer.specs.Lexes.{Ending, Faulty, Whole, IsFault, IsLexed, IsToken, Lexes, state_after, closes, indentation_after, lexeme_at}
use Rattle.just_lexer.specs.Lexes.{opened, place_after, place_past, with_opened}
use Rattle.just_lexer.specs.Line.{next}
use Rattle.just_lexer.specs.State.{Lexeme, Opening, State, opening_token, start_state}
use Rattle.just_lexer.specs.declared.fault.FaultKind.{FaultKind}
use Rattle.just_lexer.specs.declared.inside.Inside.{Inside}
use Rattle.just_lexer.specs.declared.kind.TokenKind.{TokenKind}
use Rattle.just_lexer.specs.declared.kind.TokenKind.TheVariants as kinds
use Rattle.just_lexer.specs.declared.step.Step.{Step}
use Rattle.just_lexer.specs.declared.step.Step.TheVariants as steps
use Rattle.just_lexer.proofs.FitsLine.{next_fits}
use Rattle.just_lexer.proofs.Steps.{smaller}

-- ---- the tokens are the text

whole_step : (step : Step) (s : State) (t : Text) (l : Lexeme) (ls : List Lexeme) (Follows : State → Text → Type 0) → FitsIn s.indentation t step
    → ((later : State) (rest : Text) → IsUtf8 rest → Follows later rest → text_of_tokens ls ≡ rest) → IsUtf8 t
    → IsToken step s t l Follows ((ls ≡ []) × (Whole ≡ Whole)) → text_of_tokens (l ∷ ls) ≡ t
unfolding FitsIn
whole_step (steps.Token kind n) s t l ls Follows fits later utf8 is =
    ap (λ (x : Lexeme). x.token.lexeme ++ text_of_tokens ls) is.0
    ∙ ap (λ xs. take n t ++ xs) (later (state_after kind (take n t) s) (drop n t) (IsUtf8-drop t n utf8 fits.1) is.1)
    ∙ take-append-drop n t
whole_step (steps.Fault fault n) s t l ls Follows fits later utf8 is = absurd is
whole_step (steps.OpenFault fault) s t l ls Follows fits later utf8 is = absurd is
whole_step steps.End s t l ls Follows fits later utf8 is =
    ap (λ (x : Lexeme). x.token.lexeme ++ text_of_tokens ls) is.0 ∙ ap text_of_tokens is.1.0 ∙ sym fits

no_fault_is_whole : (step : Step) (s : State) (t : Text) → IsFault step s t Whole → ⊥
no_fault_is_whole (steps.Token kind n) s t is = is
no_fault_is_whole (steps.Fault fault n) s t is = cc
no_fault_is_whole (steps.OpenFault fault) s t is = cc
no_fault_is_whole steps.End s t is = is

whole_text : (ls : List Lexeme) (s : State) (t : Text) → IsUtf8 t → Lexes s t ls Whole → text_of_tokens ls ≡ t
whole_text [] s t utf8 lexes = absurd (no_fault_is_whole (next s t) s t lexes)
whole_text (l ∷ ls) s t utf8 lexes =
    whole_step (next s t) s t l ls (λ later rest. Lexes later rest ls Whole) (next_fits s t utf8) (λ later rest. whole_text ls later rest) utf8 lexes

pub lexed_text : (path source : Text) (ls : List Lexeme) → IsUtf8 source → IsLexed path source ls Whole → text_of_tokens ls ≡ source
lexed_text path source ls utf8 lexed = whole_text ls (start_state path) source utf8 lexed

-- ---- places

place_after-append : (a : Text) (p : Place) (b : Text) → place_after p (a ++ b) ≡ place_after (place_after p a) b
place_after-append [] p b = refl
place_after-append (byte ∷ a) p b = place_after-append a (place_past byte p) b

pub place_after-offset : (t : Text) (p : Place) → (place_after p t).offset ≡ p.offset + length t
place_after-offset [] p = omega arith
place_after-offset (byte ∷ t) p = omega (arith, place_after-offset t (place_past byte p))

take_front : (a b : Text) → take (length a) (a ++ b) ≡ a
take_front [] b = refl
take_front (x ∷ a) b = ap (λ xs. x ∷ xs) (take_front a b)

-- a state after the front of a text
record IsStateAfter (path source : Text) (s : State) (t front : Text) : Type 0 where
  text : source ≡ front ++ t
  place : s.place ≡ place_after (start_of path) front
  openings : AllByRecursion (λ (o : Opening). IsTokenPlaced path source o.token) s.openings

module _ (path source : Text) where
  -- a token at the place of such a state
  placed_here : (s : State) (t front text : Text) → IsStateAfter path source s t front → IsTokenPlaced path source (token_at s.place text)
  placed_here s t front text reached =
      let offset : s.place.offset ≡ length front = ap (λ (p : Place). p.offset) reached.place ∙ place_after-offset front (start_of path) ∙ omega arith in
      reached.place ∙ ap (place_after (start_of path))
      (sym (ap (λ xs. take s.place.offset xs) reached.text ∙ ap (λ k. take k (front ++ t)) offset ∙ take_front front t))

  placed_first : (s : State) (openings : List Opening) → IsTokenPlaced path source (token_at s.place []) → AllByRecursion
      (λ (o : Opening). IsTokenPlaced path source o.token) openings
      → IsTokenPlaced path source (opening_token s openings)
  placed_first s [] here placed = here
  placed_first s (o ∷ openings) here placed = placed.0

  placed_fewer : (openings : List Opening) → AllByRecursion (λ (o : Opening). IsTokenPlaced path source o.token) openings
      → AllByRecursion (λ (o : Opening). IsTokenPlaced path source o.token) (drop 1 openings)
  placed_fewer [] placed = tt
  placed_fewer (o ∷ openings) placed = placed.1

  placed_more : (inside : Option Inside) (token : Token) (openings : List Opening) → IsTokenPlaced path source token
      → AllByRecursion (λ (o : Opening). IsTokenPlaced path source o.token) openings → AllByRecursion (λ (o : Opening). IsTokenPlaced path source o.token)
      (with_opened inside token openings)
  placed_more None token openings here placed = placed
  placed_more (Some inside) token openings here placed = (here, placed)

  placed_after : (b : Bool) (kind : TokenKind) (token : Token) (openings : List Opening) → IsTokenPlaced path source token
      → AllByRecursion (λ (o : Opening). IsTokenPlaced path source o.token) openings
      → AllByRecursion (λ (o : Opening). IsTokenPlaced path source o.token) (cond b (drop 1 openings) (with_opened (opened kind token) token openings))
  placed_after true kind token openings here placed = placed_fewer openings placed
  placed_after false kind token openings here placed = placed_more (opened kind token) token openings here placed

  reached_after : (s : State) (t front : Text) (kind : TokenKind) (n : ℕ) → IsStateAfter path source s t front → IsStateAfter path source
      (state_after kind (take n t) s) (drop n t) (front ++ take n t)
  reached_after s t front kind n reached = record {
    text = reached.text ∙ ap (λ xs. front ++ xs) (sym (take-append-drop n t)) ∙ sym (append_assoc front (take n t) (drop n t));
    place = ap (λ (p : Place). place_after p (take n t)) reached.place ∙ sym (place_after-append front (start_of path) (take n t));
    openings = placed_after (closes kind) kind (token_at s.place (take n t)) s.openings (placed_here s t front (take n t) reached) reached.openings;
  }

  -- the tokens are in their places, and a fault's token is
  abbrev AreAllPlaced : List Lexeme → Ending → Type 0
  AreAllPlaced ls Whole = AreTokensPlaced path source ls
  AreAllPlaced ls (Faulty fault token) = AreTokensPlaced path source ls × IsTokenPlaced path source token

  with_first : (l : Lexeme) (ls : List Lexeme) (ending : Ending) → IsTokenPlaced path source l.token → AreAllPlaced ls ending → AreAllPlaced (l ∷ ls) ending
  with_first l ls Whole here placed = (here, placed)
  with_first l ls (Faulty fault token) here placed = ((here, placed.0), placed.1)

  fault_placed : (step : Step) (s : State) (t front : Text) (ending : Ending) → IsStateAfter path source s t front → IsFault step s t ending → AreAllPlaced []
      ending
  fault_placed (steps.Token kind n) s t front ending reached is = absurd is
  fault_placed (steps.Fault fault n) s t front ending reached is =
      subst (AreAllPlaced []) (sym is) (tt, placed_here s t front (take n t) reached)
  fault_placed (steps.OpenFault fault) s t front ending reached is =
      subst (AreAllPlaced []) (sym is) (tt, placed_first s s.openings (placed_here s t front [] reached) reached.openings)
  fault_placed steps.End s t front ending reached is = absurd is

  token_placed : (step : Step) (s : State) (t front : Text) (l : Lexeme) (ls : List Lexeme) (ending : Ending) (Follows : State → Text → Type 0) → IsStateAfter
      path source s t front
      → ((later : State) (rest more : Text) → IsStateAfter path source later rest more → Follows later rest → AreAllPlaced ls ending)
      → IsToken step s t l Follows ((ls ≡ []) × (ending ≡ Whole)) → AreAllPlaced (l ∷ ls) ending
  token_placed (steps.Token kind n) s t front l ls ending Follows reached later is =
      let here : IsTokenPlaced path source l.token =
      subst (λ (x : Lexeme). IsTokenPlaced path source x.token) (sym is.0) (placed_here s t front (take n t) reached) in
      with_first l ls ending here (later (state_after kind (take n t) s) (drop n t) (front ++ take n t) (reached_after s t front kind n reached) is.1)
  token_placed (steps.Fault fault n) s t front l ls ending Follows reached later is = absurd is
  token_placed (steps.OpenFault fault) s t front l ls ending Follows reached later is = absurd is
  token_placed steps.End s t front l ls ending Follows reached later is =
      let here : IsTokenPlaced path source l.token =
      subst (λ (x : Lexeme). IsTokenPlaced path source x.token) (sym is.0) (placed_here s t front [] reached) in
      let none : AreAllPlaced [] Whole = tt in
      with_first l ls ending here (subst (λ xs. AreAllPlaced xs ending) (sym is.1.0) (subst (AreAllPlaced []) (sym is.1.1) none))

  all_placed : (ls : List Lexeme) (s : State) (t front : Text) (ending : Ending) → IsStateAfter path source s t front → Lexes s t ls ending → AreAllPlaced ls
      ending
  all_placed [] s t front ending reached lexes = fault_placed (next s t) s t front ending reached lexes
  all_placed (l ∷ ls) s t front ending reached lexes =
      token_placed (next s t) s t front l ls ending (λ later rest. Lexes later rest ls ending) reached
      (λ later rest more. all_placed ls later rest more ending) lexes

  reached_start : IsStateAfter path source (start_state path) source []
  reached_start = record { text = refl; place = refl; openings = tt }

  pub tokens_placed : (ls : List Lexeme) → IsLexed path source ls Whole → AreTokensPlaced path source ls
  tokens_placed ls lexed = all_placed ls (start_state path) source [] Whole reached_start lexed

  pub fault_token_placed : (ls : List Lexeme) (fault : FaultKind) (token : Token) → IsLexed path source ls (Faulty fault token)
      → IsTokenPlaced path source token
  fault_token_placed ls fault token lexed = (all_placed ls (start_state path) source [] (Faulty fault token) reached_start lexed).1

-- ---- one result

one_fault : (step : Step) (s : State) (t : Text) (x y : Ending) → IsFault step s t x → IsFault step s t y → x ≡ y
one_fault (steps.Token kind n) s t x y a b = absurd a
one_fault (steps.Fault fault n) s t x y a b = a ∙ sym b
one_fault (steps.OpenFault fault) s t x y a b = a ∙ sym b
one_fault steps.End s t x y a b = absurd a

no_both : (step : Step) (s : State) (t : Text) (x : Ending) (l : Lexeme) (Follows : State → Text → Type 0) (Nothing : Type 0) → IsFault step s t x
    → IsToken step s t l Follows Nothing → ⊥
no_both (steps.Token kind n) s t x l Follows Nothing a b = a
no_both (steps.Fault fault n) s t x l Follows Nothing a b = b
no_both (steps.OpenFault fault) s t x l Follows Nothing a b = b
no_both steps.End s t x l Follows Nothing a b = a

one_token : (step : Step) (s : State) (t : Text) (l m : Lexeme) (ls ms : List Lexeme) (x y : Ending) (F G : State → Text → Type 0)
    → ((later : State) (rest : Text) → F later rest → G later rest → (ls ≡ ms) × (x ≡ y))
    → IsToken step s t l F ((ls ≡ []) × (x ≡ Whole)) → IsToken step s t m G ((ms ≡ []) × (y ≡ Whole)) → (l ∷ ls ≡ m ∷ ms) × (x ≡ y)
one_token (steps.Token kind n) s t l m ls ms x y F G later a b =
    let rest = later (state_after kind (take n t) s) (drop n t) a.1 b.1 in
    (ap (λ z. z ∷ ls) (a.0 ∙ sym b.0) ∙ ap (λ zs. m ∷ zs) rest.0, rest.1)
one_token (steps.Fault fault n) s t l m ls ms x y F G later a b = absurd a
one_token (steps.OpenFault fault) s t l m ls ms x y F G later a b = absurd a
one_token steps.End s t l m ls ms x y F G later a b =
    (ap (λ z. z ∷ ls) (a.0 ∙ sym b.0) ∙ ap (λ zs. m ∷ zs) (a.1.0 ∙ sym b.1.0), a.1.1 ∙ sym b.1.1)

one_list : (ls ms : List Lexeme) (s : State) (t : Text) (x y : Ending) → Lexes s t ls x → Lexes s t ms y → (ls ≡ ms) × (x ≡ y)
one_list [] [] s t x y a b = (refl, one_fault (next s t) s t x y a b)
one_list [] (m ∷ ms) s t x y a b = absurd (no_both (next s t) s t x m (λ later rest. Lexes later rest ms y) ((ms ≡ []) × (y ≡ Whole)) a b)
one_list (l ∷ ls) [] s t x y a b = absurd (no_both (next s t) s t y l (λ later rest. Lexes later rest ls x) ((ls ≡ []) × (x ≡ Whole)) b a)
one_list (l ∷ ls) (m ∷ ms) s t x y a b =
    one_token (next s t) s t l m ls ms x y (λ later rest. Lexes later rest ls x) (λ later rest. Lexes later rest ms y)
    (λ later rest. one_list ls ms later rest x y) a b

pub one_result : OneResult
one_result path source first second ends stops a b = one_list first second (start_state path) source ends stops a b

-- ---- some result

abbrev HasResult : State → Text → Type 0
HasResult s t = (ls : List Lexeme) × (ending : Ending) × Lexes s t ls ending

result_of : (step : Step) (s : State) (t : Text) → step ≡ next s t → FitsIn s.indentation t step → IsUtf8 t
    → ((kind : TokenKind) (n : ℕ) → Advances s.indentation kind n → n ≤ length t → IsUtf8 (drop n t) → HasResult (state_after kind (take n t) s) (drop n t))
    → HasResult s t
unfolding FitsIn
result_of (steps.Token kind n) s t e fits utf8 later =
    let rest = later kind n fits.0 fits.1.0 (IsUtf8-drop t n utf8 fits.1) in
    (lexeme_at s kind (take n t) ∷ rest.0, rest.1, rw (sym e) (refl, rest.2))
result_of (steps.Fault fault n) s t e fits utf8 later = ([], Faulty fault (token_at s.place (take n t)), rw (sym e) refl)
result_of (steps.OpenFault fault) s t e fits utf8 later = ([], Faulty fault (opening_token s s.openings), rw (sym e) refl)
result_of steps.End s t e fits utf8 later = (lexeme_at s kinds.Eof [] ∷ [], Whole, rw (sym e) (refl, (refl, refl)))

results : (m : ℕ) (s : State) (t : Text) → 2 * length t + min 1 (length s.indentation) < m → IsUtf8 t → HasResult s t
results zero s t few utf8 = absurd (omega arith)
results (suc m) s t few utf8 =
    result_of (next s t) s t refl (next_fits s t utf8) utf8 (λ kind n advances within rest.
    results m (state_after kind (take n t) s) (drop n t)
    (let less = smaller s.indentation t (indentation_after kind (take n t) s.indentation) (drop n t) kind n advances within refl refl in omega
    (arith, less, few))
    rest)

pub some_result : SomeResult
some_result path source utf8 =
    results (suc (2 * length source + min 1 (length (start_state path).indentation))) (start_state path) source (omega arith) utf8

-- ---- lines and offsets

line_step : (b : Bool) (n k : ℕ) → cond {A = ℕ} b (n + 1) n + k ≡ n + (cond {A = ℕ} b 1 0 + k)
line_step true n k = omega arith
line_step false n k = omega arith

lines_counted : (t : Text) (p : Place) → (place_after p t).line ≡ p.line + count_by (λ byte. eqb byte 10) t
lines_counted [] p = omega arith
lines_counted (byte ∷ t) p =
    lines_counted t (place_past byte p) ∙ line_step (eqb byte 10) p.line (count_by (λ byte. eqb byte 10) t)
    ∙ ap (λ (n : ℕ). p.line + n) (sym (sum_by-cons (λ (b : ℕ). cond {A = ℕ} (eqb b 10) 1 0) byte t))

pub places_count : PlacesCount
places_count path t = (lines_counted t (start_of path) ∙ omega arith, place_after-offset t (start_of path) ∙ omega arith)
