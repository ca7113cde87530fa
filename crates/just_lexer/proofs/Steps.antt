-- One step of lexing.
use Rattle.std.proofs.Common.{◌≡◌, ℕ, zero, suc, ◌+◌, ◌*◌, ◌<◌, ◌≤◌, Bool, true, false, cond, eqb, List, [], ◌∷◌, ◌++◌, length, drop, take, ap, sym, ◌∙◌, subst}
use Rattle.std.proofs.Common.{arith, inl, inr, min, append_assoc}
use Rattle.std.proofs.lemmas.List.{length-drop}
use Rattle.just_syntax.specs.Plain.{Text, Place, Token}
use Rattle.just_syntax.specs.Place.{token_at}
use Rattle.just_lexer.specs.Advances.{Advances, PlaceFits}
use Rattle.just_lexer.specs.Lexes.{Ending, Faulty, Whole, IsLexed, IsToken, Lexes, state_after, indentation_after, lexeme_at, place_after, place_past}
use Rattle.just_lexer.specs.Line.{next}
use Rattle.just_lexer.specs.State.{Lexeme, State, opening_token}
use Rattle.just_lexer.specs.declared.fault.FaultKind.{FaultKind}
use Rattle.just_lexer.specs.declared.kind.TokenKind.{TokenKind}
use Rattle.just_lexer.specs.declared.step.Step.TheVariants as steps

-- ---- places

-- the place after a byte
past_room : (byte : ℕ) (p : Place) (t : Text) → PlaceFits p (byte ∷ t) → PlaceFits (place_past byte p) t
past_room byte p t room =
    let both : (newline : Bool) → (cond {A = ℕ} newline (p.line + 1) p.line ≤ p.offset + 1) × (cond {A = ℕ} newline 0 (p.column + 1) ≤ p.offset + 1) =
    λ newline. elim newline as (λ b. (cond {A = ℕ} b (p.line + 1) p.line ≤ p.offset + 1) × (cond {A = ℕ} b 0 (p.column + 1) ≤ p.offset + 1)) [
      | true ↦ (omega (arith, room.line), omega arith)
      | false ↦ (omega (arith, room.line), omega (arith, room.column))
    ] in
    record { line = (both (eqb byte 10)).0; column = (both (eqb byte 10)).1; offset = omega (arith, room.offset) }

-- the place after some bytes
pub room_after : (n : ℕ) (p : Place) (t : Text) → PlaceFits p t → PlaceFits (place_after p (take n t)) (drop n t)
room_after zero p t room = room
room_after (suc n) p [] room = room
room_after (suc n) p (byte ∷ t) room = room_after n (place_past byte p) t (past_room byte p t room)

-- ---- steps

-- The measure falls: a token takes a byte, or it ends a body.
pub smaller : (indentation t later rest : Text) (kind : TokenKind) (n : ℕ) → Advances indentation kind n → n ≤ length t → rest ≡ drop n t
    → later ≡ indentation_after kind (take n t) indentation
    → 2 * length rest + min 1 (length later) < 2 * length t + min 1 (length indentation)
smaller indentation t later rest kind n (inl some) within is_rest is_later = omega (arith, ap length is_rest, length-drop n t)
smaller indentation t later rest kind n (inr (dedent, some)) within is_rest is_later =
    let none : later ≡ [] = is_later ∙ ap (λ k. indentation_after k (take n t) indentation) dedent in
    omega (arith, ap length is_rest, length-drop n t, ap length none)

module _ (path source t : Text) (s : State) (front : List Lexeme)
    (same : (rest : List Lexeme) (ending : Ending) → Lexes s t rest ending → IsLexed path source (front ++ rest) ending) where
  -- one more token
  pub more_lexed : (kind : TokenKind) (n : ℕ) (lexeme : Lexeme) (later : State) (u : Text) (all : List Lexeme) → steps.Token kind n ≡ next s t
      → lexeme ≡ lexeme_at s kind (take n t) → later ≡ state_after kind (take n t) s → u ≡ drop n t → all ≡ front ++ lexeme ∷ []
      → (rest : List Lexeme) (ending : Ending) → Lexes later u rest ending → IsLexed path source (all ++ rest) ending
  more_lexed kind n lexeme later u all step is_lexeme is_later is_rest is_all rest ending lexes =
      let follows : Lexes (state_after kind (take n t) s) (drop n t) rest ending = rw is_later at (rw is_rest at lexes) in
      let token : IsToken (steps.Token kind n) s t lexeme (λ a b. Lexes a b rest ending) ((rest ≡ []) × (ending ≡ Whole)) = (is_lexeme, follows) in
      let whole : Lexes s t (lexeme ∷ rest) ending =
      subst (λ x. IsToken x s t lexeme (λ a b. Lexes a b rest ending) ((rest ≡ []) × (ending ≡ Whole))) step token in
      let joined : all ++ rest ≡ front ++ lexeme ∷ rest = ap (λ xs. xs ++ rest) is_all ∙ append_assoc front (lexeme ∷ []) rest in
      subst (λ xs. IsLexed path source xs ending) (sym joined) (same (lexeme ∷ rest) ending whole)

  -- a fault at the next bytes
  pub fault_found : (fault : FaultKind) (n : ℕ) (token : Token) → steps.Fault fault n ≡ next s t → token ≡ token_at s.place (take n t)
      → (lexemes : List Lexeme) × IsLexed path source lexemes (Faulty fault token)
  fault_found fault n token step is = (front ++ [], same [] (Faulty fault token) (rw (sym step) (ap (Faulty fault) is)))

  -- a fault at the token that opened the innermost of what is open
  pub open_fault_found : (fault : FaultKind) (token : Token) → steps.OpenFault fault ≡ next s t → token ≡ opening_token s s.openings
      → (lexemes : List Lexeme) × IsLexed path source lexemes (Faulty fault token)
  open_fault_found fault token step is = (front ++ [], same [] (Faulty fault token) (rw (sym step) (ap (Faulty fault) is)))
