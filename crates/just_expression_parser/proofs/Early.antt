-- Reading ends at a token whatever comes after it.
use Rattle.std.specs.Prelude.{◌≡◌, List, [], ◌∷◌, ◌++◌}
use Rattle.std.proofs.Common.{◌∙◌, ap, refl, sym}
use Rattle.just_syntax.specs.Plain.{Expr}
use Rattle.just_lexer.specs.State.{Lexeme}
use Rattle.std.proofs.lemmas.List.{append-nil}
use Rattle.just_expression_parser.proofs.Derived.{reads_what_is_derived}
use Rattle.just_expression_parser.proofs.Runs.{frame_passes, frame_passes_end, frame_refuses, frame_refuses_end, frame_takes, passes, passes_end, refuses}
use Rattle.just_expression_parser.proofs.Runs.{refuses_end, takes}
use Rattle.just_expression_parser.proofs.Sound.{not_read}
use Rattle.just_expression_parser.proofs.Steps.{read_all}
use Rattle.just_expression_parser.specs.Machine as machine
use Rattle.just_expression_parser.specs.Machine.{Action, Done, MachineFrame, Next, Passes, Read, Refused, Refuses, Result, Takes, begins, ends, ends_with}
use Rattle.just_expression_parser.specs.Machine.{parse, takes_it}
use Rattle.just_expression_parser.specs.Parsed.{BeginsNone, IsNoExpression, IsRefused}
use Rattle.just_expression_parser.specs.Tokens.{Tokens}
use Rattle.just_expression_parser.specs.declared.parse_error.ParseError.{ParseError}
use Rattle.just_expression_parser.specs.declared.parse_error.ParseError.TheVariants.{OutOfMemory, Unexpected}
use Rattle.just_expression_parser.specs.declared.parse_error.Fault.{Fault}

-- how reading ends
pub data Ending : Type 0 where
  Reading : Expr → Ending
  Refusing : Fault → Ending

-- at these tokens
abbrev pub ending_at : Ending → Tokens → Result
ending_at (Reading e) ts = Read e ts
ending_at (Refusing fault) ts = Refused fault ts

-- the tokens before the last one that is looked at, with which reading ends so whatever comes after that one
abbrev pub Early : Tokens → Next → List MachineFrame → Ending → Lexeme → Tokens → Type 0
Early ts next frames ending t later =
    (front : Tokens) × (ts ≡ front ++ t ∷ later) × ((us : Tokens) → parse (front ++ t ∷ us) next frames ≡ ending_at ending (t ∷ us))

same_ending : (own ending : Ending) (at ts : Tokens) → ending_at own at ≡ ending_at ending ts → (own ≡ ending) × (at ≡ ts)
same_ending (Reading e) (Reading f) at ts same = (cc, cc)
same_ending (Reading e) (Refusing fault) at ts same = absurd (cc)
same_ending (Refusing f) (Reading e) at ts same = absurd (cc)
same_ending (Refusing f) (Refusing fault) at ts same = (cc, cc)

same_first : (u t : Lexeme) (ts later : Tokens) → u ∷ ts ≡ t ∷ later → (u ≡ t) × (ts ≡ later)
same_first u t ts later same = (cc, cc)

no_first : (t : Lexeme) (later : Tokens) → [] ≡ t ∷ later → ⊥
no_first t later same = cc

-- ---- at the end, reading ends at the end

takes_nothing : (frame : MachineFrame) (e : Expr) (next : Next) (inner : List MachineFrame) → ends_with frame e ≡ Takes next inner → ⊥
takes_nothing (machine.Assertion name) e next inner is = absurd (cc)
takes_nothing machine.Condition e next inner is = absurd (cc)
takes_nothing (machine.Consequence condition) e next inner is = absurd (cc)
takes_nothing (machine.ElseIf condition consequence) e next inner is = absurd (cc)
takes_nothing (machine.Element form es) e next inner is = absurd (cc)
takes_nothing machine.Group e next inner is = absurd (cc)
takes_nothing (machine.Interpolation start ps style) e next inner is = absurd (cc)
takes_nothing (machine.Message condition name) e next inner is = absurd (cc)
takes_nothing machine.Not e next inner is = absurd (cc)
takes_nothing (machine.Operators least below) e next inner is = absurd (cc)
takes_nothing (machine.Otherwise condition consequence) e next inner is = absurd (cc)
takes_nothing (machine.Root token) e next inner is = absurd (cc)
takes_nothing (machine.Side lhs operator token) e next inner is = absurd (cc)

end_of_frame : (frame : MachineFrame) (frames : List MachineFrame) (e : Expr) (ending : Ending) (at : Tokens) (a : Action) → ends_with frame e ≡ a
    → ((after : Expr) → parse [] (Done after) frames ≡ ending_at ending at → at ≡ []) → parse [] (Done e) (frame ∷ frames) ≡ ending_at ending at → at ≡ []
end_of_frame frame frames e ending at (Takes next inner) is outer r = absurd (takes_nothing frame e next inner is)
end_of_frame frame frames e ending at (Passes after) is outer r = outer after (sym (frame_passes_end frame frames e after is) ∙ r)
end_of_frame frame frames e ending at (Refuses f) is outer r = sym (same_ending (Refusing f) ending [] at (sym (frame_refuses_end frame frames e f is) ∙ r)).1

end_of_frames : (frames : List MachineFrame) (e : Expr) (ending : Ending) (at : Tokens) → parse [] (Done e) frames ≡ ending_at ending at → at ≡ []
end_of_frames [] e ending at r = sym (same_ending (Reading e) ending [] at (read_all [] e [] refl ∙ r)).1
end_of_frames (frame ∷ frames) e ending at r =
    end_of_frame frame frames e ending at (ends_with frame e) refl (λ after r. end_of_frames frames after ending at r) r

refused_end : (next : Next) (frames : List MachineFrame) (f : Fault) (ending : Ending) (at : Tokens) → ends next ≡ Refuses f
    → parse [] next frames ≡ ending_at ending at → at ≡ []
refused_end next frames f ending at is r = sym (same_ending (Refusing f) ending [] at (sym (refuses_end next frames f is) ∙ r)).1

passed_end : (next : Next) (frames : List MachineFrame) (e : Expr) (ending : Ending) (at : Tokens) → ends next ≡ Passes e
    → parse [] next frames ≡ ending_at ending at
    → at ≡ []
passed_end next frames e ending at is r = end_of_frames frames e ending at (sym (passes_end next frames e is) ∙ r)

end_is : (next : Next) (frames : List MachineFrame) (ending : Ending) (at : Tokens) → parse [] next frames ≡ ending_at ending at → at ≡ []
end_is (machine.Branch condition consequence) frames ending at r = refused_end (machine.Branch condition consequence) frames _ ending at refl r
end_is (Done e) frames ending at r = end_of_frames frames e ending at r
end_is (machine.Elements form es) frames ending at r = refused_end (machine.Elements form es) frames _ ending at refl r
end_is (machine.Expression least) frames ending at r = refused_end (machine.Expression least) frames _ ending at refl r
end_is (machine.Named name) frames ending at r = passed_end (machine.Named name) frames _ ending at refl r
end_is (machine.Else condition consequence) frames ending at r = passed_end (machine.Else condition consequence) frames _ ending at refl r
end_is machine.Value frames ending at r = refused_end machine.Value frames _ ending at refl r

-- ---- at a token

-- reading ends at once
at_once : (u t : Lexeme) (ts later : Tokens) (next : Next) (frames : List MachineFrame) (own ending : Ending)
    → ((us : Tokens) → parse (u ∷ us) next frames ≡ ending_at own (u ∷ us)) → parse (u ∷ ts) next frames ≡ ending_at ending (t ∷ later)
    → Early (u ∷ ts) next frames ending t later
at_once u t ts later next frames own ending here r =
    let same = same_ending own ending (u ∷ ts) (t ∷ later) (sym (here ts) ∙ r) in
    let first = same_first u t ts later same.1 in
    ([], same.1, λ us. rw (← first.0, ← same.0) (here us))

-- the token is taken
after_it : (u t : Lexeme) (ts later : Tokens) (next : Next) (frames : List MachineFrame) (then : Next) (inner : List MachineFrame) (ending : Ending)
    → ((us : Tokens) → parse (u ∷ us) next frames ≡ parse us then inner) → Early ts then inner ending t later → Early (u ∷ ts) next frames ending t later
after_it u t ts later next frames then inner ending step (front, parts, early) = (u ∷ front, ap (λ us. u ∷ us) parts, λ us. step (front ++ t ∷ us) ∙ early us)

-- a step that takes nothing
as_it : (ts : Tokens) (u t : Lexeme) (later : Tokens) (next : Next) (frames : List MachineFrame) (then : Next) (inner : List MachineFrame) (ending : Ending)
    → ((us : Tokens) → parse (u ∷ us) next frames ≡ parse (u ∷ us) then inner) → Early (u ∷ ts) then inner ending t later
    → Early (u ∷ ts) next frames ending t later
as_it ts u t later next frames then inner ending step ([], parts, early) =
    let first = same_first u t ts later parts in
    ([], parts, λ us. rw (← first.0) (step us ∙ (rw (← first.0) at (early us))))
as_it ts u t later next frames then inner ending step (v ∷ front, parts, early) =
    let first = same_first u v ts (front ++ t ∷ later) parts in
    (v ∷ front, parts, λ us. rw (← first.0) (step (front ++ t ∷ us) ∙ (rw (← first.0) at (early us))))

module _ (u t : Lexeme) (ts later : Tokens) (ending : Ending)
    (rest : (next : Next) (frames : List MachineFrame) → parse ts next frames ≡ ending_at ending (t ∷ later) → Early ts next frames ending t later) where
  early_frame : (frame : MachineFrame) (frames : List MachineFrame) (e : Expr) (a : Action) → takes_it frame e u ≡ a
      → ((after : Expr) → parse (u ∷ ts) (Done after) frames ≡ ending_at ending (t ∷ later) → Early (u ∷ ts) (Done after) frames ending t later)
      → parse (u ∷ ts) (Done e) (frame ∷ frames) ≡ ending_at ending (t ∷ later) → Early (u ∷ ts) (Done e) (frame ∷ frames) ending t later
  early_frame frame frames e (Takes next inner) is outer r =
      after_it u t ts later (Done e) (frame ∷ frames) next (inner ++ frames) ending (λ us. frame_takes u us frame frames e next inner is)
      (rest next (inner ++ frames) (sym (frame_takes u ts frame frames e next inner is) ∙ r))
  early_frame frame frames e (Passes after) is outer r =
      as_it ts u t later (Done e) (frame ∷ frames) (Done after) frames ending (λ us. frame_passes u us frame frames e after is)
      (outer after (sym (frame_passes u ts frame frames e after is) ∙ r))
  early_frame frame frames e (Refuses f) is outer r =
      at_once u t ts later (Done e) (frame ∷ frames) (Refusing f) ending (λ us. frame_refuses u us frame frames e f is) r

  early_frames : (frames : List MachineFrame) (e : Expr) → parse (u ∷ ts) (Done e) frames ≡ ending_at ending (t ∷ later)
      → Early (u ∷ ts) (Done e) frames ending t later
  early_frames [] e r = at_once u t ts later (Done e) [] (Reading e) ending (λ us. sym (read_all (u ∷ us) e [] refl)) r
  early_frames (frame ∷ frames) e r = early_frame frame frames e (takes_it frame e u) refl (λ after r. early_frames frames after r) r

  early_next : (next : Next) (frames : List MachineFrame) (a : Action) → begins next u ≡ a → parse (u ∷ ts) next frames ≡ ending_at ending (t ∷ later)
      → Early (u ∷ ts) next frames ending t later
  early_next next frames (Takes then inner) is r =
      after_it u t ts later next frames then (inner ++ frames) ending (λ us. takes u us next frames then inner is)
      (rest then (inner ++ frames) (sym (takes u ts next frames then inner is) ∙ r))
  early_next next frames (Passes e) is r =
      as_it ts u t later next frames (Done e) frames ending (λ us. passes u us next frames e is)
      (early_frames frames e (sym (passes u ts next frames e is) ∙ r))
  early_next next frames (Refuses f) is r = at_once u t ts later next frames (Refusing f) ending (λ us. refuses u us next frames f is) r

pub early : (ts : Tokens) (next : Next) (frames : List MachineFrame) (ending : Ending) (t : Lexeme) (later : Tokens)
    → parse ts next frames ≡ ending_at ending (t ∷ later)
    → Early ts next frames ending t later
early [] next frames ending t later r = absurd (no_first t later (sym (end_is next frames ending (t ∷ later) r)))
early (u ∷ ts) next frames ending t later r =
    early_next u t ts later ending (λ next frames r. early ts next frames ending t later r) next frames (begins next u) refl r

-- ---- what refused tokens are

none : (fault : Fault) (at : Tokens) (ts : Tokens) → parse ts (machine.Expression 0) [] ≡ Refused fault at → BeginsNone ts
none fault at ts r e rest derived ended = not_read fault at e rest (sym r ∙ reads_what_is_derived e ts rest derived ended)

pub no_expression : (ts : Tokens) (error : ParseError) → IsRefused (parse ts (machine.Expression 0) []) error → IsNoExpression ts error
no_expression ts (Unexpected fault token) ([], is, first) =
    (ts, [], sym (append-nil ts), first, λ us nothing. rw (nothing, append-nil ts) (none fault [] ts is), is)
no_expression ts (Unexpected fault token) (t ∷ later, is, first) =
    let soon = early ts (machine.Expression 0) [] (Refusing fault) t later is in
    (soon.0, t ∷ later, soon.1, first, λ us begins. rw begins.1 (none fault (t ∷ begins.0) (soon.0 ++ t ∷ begins.0) (soon.2 begins.0)), is)
no_expression ts OutOfMemory so = tt
