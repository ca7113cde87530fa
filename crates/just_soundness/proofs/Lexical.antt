-- Soundness of lexical scoping: on a resolved module dynamic scope means what lexical scope does, so pending calls do
-- not matter.
use Rattle.std.proofs.Common.{◌≡◌, ⊎_elim, inl, inr, ℕ, zero, suc, Bool, true, false, List, [], ◌∷◌, length, map, Option, Some, None, nat_eq, if◌then◌else◌}
use Rattle.std.proofs.Common.{◌&&◌, not, refl, sym, ap, ◌∙◌, subst, arith}
use Rattle.std.specs.Option.{is_some}
use Rattle.std.proofs.lemmas.Bool.Decides.{nat_tests}
use Rattle.just_syntax.specs.Plain.{Text, Token, Assignment, Function, Expr, Call, Exprs, count}
use Rattle.just_syntax.specs.Lists.{IsIn}
use Rattle.just_value.specs.Value.{Value, Names}
use Rattle.just_value.specs.Frames.{Frames, innermost, value_in}
use Rattle.just_value.specs.Refusal.{Internal}
use Rattle.just_host.specs.Interaction.{Read, Entered, done, note, bind, refuses}
use Rattle.just_builtins.specs.Table.{function_named, is_left_out}
use Rattle.just_builtins.specs.declared.function.Function as built_in
use Rattle.just_meaning.specs.Callee.{Callee, Defined, BuiltIn, LeftOut, built_in_or_unknown, callee, defined_or, undefined}
use Rattle.just_meaning.specs.Callee as callees
use Rattle.just_meaning.specs.Assignments.{Assignments, assignment_at}
use Rattle.just_syntax.specs.Occurrences.{CallOf, CommandOf, Mention, VariableOf}
use Rattle.just_meaning.specs.Reaches.{function_at, IsAmong, Occurs, Reaches, Here, ReadsBeyond}
use Rattle.just_meaning.specs.Resolved.{IsResolved, AreInOrder, parameter_numbers, with_taken}
use Rattle.just_meaning.specs.Messages.{miscounted_text}
use Rattle.just_meaning.specs.Meaning.{Program, Situation, Deeper, Row, as_it_is, called, eval, eval_row, named, variable}
use Rattle.just_meaning.specs.Closings.{lexical, dynamic, inside}
use Rattle.just_meaning.specs.Module.{IsResolvedModule, Module, assigned, dynamically, lexically, or_override, situation_at, turn, turn_of}
use Rattle.just_interaction.proofs.Ends.{AllEnd, ends_same}
use Rattle.just_soundness.proofs.Counts.{HasCount, row_counts}
use Rattle.just_soundness.proofs.Forms.{AreRowsRelated, equality, related_eval}
use Rattle.just_soundness.proofs.Overlays.{parameters_other, parameters_same}
use Rattle.just_soundness.proofs.Turns.{turn_by}
use Rattle.just_meaning.proofs.Reached.{reaches_on}
use Rattle.just_soundness.proofs.Reached.{among_all, apart_numbers, taken_assigned}

-- ---- what an expression means depends only on what it reads and calls

abbrev situation_with_names : Names → Situation → Situation
situation_with_names names s =
    record { names = names; environment = s.environment; recipe = s.recipe; is_dependency = s.is_dependency; lists = s.lists; shown = s.shown; below = s.below }

-- the condition on everything that occurs in an expression
abbrev ReadsSame : (Text → Type 0) → Names → Names → Mention → Type 0
ReadsSame C names names' (CommandOf text) = Unit {0}
ReadsSame C names names' (VariableOf None) = Unit {0}
ReadsSame C names names' (VariableOf (Some n)) = names n ≡ names' n
ReadsSame C names names' (CallOf f n) = C f

-- the row has this many values, if they are passed to no function
abbrev IsRowOf : ℕ → Row → Type 0
IsRowOf n row = AllEnd (HasCount n) (row as_it_is)

module _ (c : Program) (d d' : Deeper) (C : Text → Type 0) (s : Situation) (names : Names)
    (same_call : (t : Token) (n : ℕ) (row : Row) → C t.lexeme → IsRowOf n row → called c t (callee c.functions t.lexeme) d s n row
    ≡ called c t (callee c.functions t.lexeme) d' (situation_with_names names s) n row) where
  same_variable : (number : Option ℕ) → ReadsSame C s.names names (VariableOf number) → (t : Token) → variable t number s.names ≡ variable t number names
  same_variable None h t = refl
  same_variable (Some n) h t = ap (λ o. note (Read t n) (done (named t o))) h

  same_call_of : (t : Token) (es : Exprs) → C t.lexeme
      → AreRowsRelated (λ A t u. t ≡ u) (eval_row c d s 0 es) (eval_row c d' (situation_with_names names s) 0 es)
      → eval c d s (Call t es) ≡ eval c d' (situation_with_names names s) (Call t es)
  same_call_of t es reached h =
      (λ i. note (Entered t) (called c t (callee c.functions t.lexeme) d s (count es) (λ look. h look (λ k v. refl) i)))
      ∙ ap (note (Entered t))
      (same_call t (count es) (eval_row c d' (situation_with_names names s) 0 es) reached (row_counts c d' (situation_with_names names s) 0 es as_it_is))

  same_eval : (e : Expr) → ((x : Mention) → Occurs e x → ReadsSame C s.names names x) → eval c d s e ≡ eval c d' (situation_with_names names s) e
  same_eval =
      related_eval (λ A t u. t ≡ u) equality (record { assertion = λ message t. refl; operation = λ l o r t. refl; regex = λ t. refl })
      c c d d' s (situation_with_names names s) refl (ReadsSame C s.names names) (λ text t. refl) same_call_of same_variable

-- a name that the file does not define has a meaning that reads no names
same_undefined : (c : Program) (d d' : Deeper) (s : Situation) (names : Names) (t : Token) (n : ℕ) (row : Row) (out : Bool) (found : Option built_in.Function) →
    let other = if out then LeftOut else built_in_or_unknown found in called c t other d s n row ≡ called c t other d' (situation_with_names names s) n row
same_undefined c d d' s names t n row true found = refl
same_undefined c d d' s names t n row false None = refl
same_undefined c d d' s names t n row false (Some f) = refl

-- ---- by the number of calls left

-- what the bodies read beyond their own parameters is no function's parameter
abbrev pub IsApart : List Function → Expr → Type 0
IsApart functions e = (n : ℕ) → ReadsBeyond functions e n → IsIn (parameter_numbers functions) n → ⊥

module _ (c : Program) (C : Text → Type 0)
    (closed : (name further : Text) (f : Function) (n : ℕ) → C name → function_at c.functions name ≡ Some f → Occurs f.body (CallOf further n) → C further)
    (apart : (name : Text) (f : Function) (n : ℕ) → C name → function_at c.functions name ≡ Some f → Occurs f.body (VariableOf (Some n))
    → (IsAmong f.parameters n → ⊥) → IsIn (parameter_numbers c.functions) n → ⊥) where
  -- except for parameters, the names are those of the base
  abbrev IsOnBase : Names → Names → Type 0
  IsOnBase names base = (n : ℕ) → (IsIn (parameter_numbers c.functions) n → ⊥) → names n ≡ base n

  abbrev IsLexical : ℕ → Type 0
  IsLexical k = (s : Situation) (base names : Names) (e : Expr) → ((x : Mention) → Occurs e x → ReadsSame C s.names names x) → IsOnBase (value_in s.below) base
      → eval c (dynamic c k) s e ≡ eval c (lexical c base k) (situation_with_names names s) e

  same_body : (k : ℕ) → IsLexical k → (s : Situation) (base names : Names) → IsOnBase (value_in s.below) base → (name : Text) (f : Function) (vs : List Value)
      → C name → function_at c.functions name ≡ Some f → length f.parameters ≡ length vs →
      eval c (dynamic c k) (inside (value_in s.below) s f vs) f.body ≡ eval c (lexical c base k) (inside base (situation_with_names names s) f vs) f.body
  same_body k again s base names on name f vs reached found fits =
      again (inside (value_in s.below) s f vs) base (inside base (situation_with_names names s) f vs).names f.body same_reads
      (λ n free. parameters_other f.parameters vs (value_in s.below) n fits (λ among. free (among_all c.functions name f n found among)) ∙ on n free)
    where
      same_reads : (x : Mention) → Occurs f.body x
          → ReadsSame C (inside (value_in s.below) s f vs).names (inside base (situation_with_names names s) f vs).names x
      same_reads (CommandOf text) h = tt
      same_reads (VariableOf None) h = tt
      same_reads (VariableOf (Some n)) h =
          parameters_same f.parameters vs (value_in s.below) n fits base (λ beyond. on n (apart name f n reached found h beyond))
      same_reads (CallOf further n) h = closed name further f n reached found h

  same_called : (k : ℕ) → IsLexical k → (s : Situation) (base names : Names) → IsOnBase (value_in s.below) base → (t : Token) (n : ℕ) (row : Row) → C t.lexeme
      → IsRowOf n row → (found : Option Function) → function_at c.functions t.lexeme ≡ found →
      called c t (defined_or found (undefined t.lexeme)) (dynamic c (suc k)) s n row
      ≡ called c t (defined_or found (undefined t.lexeme)) (lexical c base (suc k)) (situation_with_names names s) n row
  same_called k again s base names on t n row reached counted None e =
      same_undefined c (dynamic c (suc k)) (lexical c base (suc k)) s names t n row (is_left_out t.lexeme) (function_named t.lexeme)
  same_called k again s base names on t n row reached counted (Some f) e = test (nat_eq n (length f.parameters)) refl
    where
      test : (b : Bool) → nat_eq n (length f.parameters) ≡ b →
          (if b then bind (row as_it_is) (λ vs. eval c (dynamic c k) (inside (value_in s.below) s f vs) f.body)
          else refuses (Internal (miscounted_text t.lexeme) t))
          ≡ (if b then bind (row as_it_is) (λ vs. eval c (lexical c base k) (inside base (situation_with_names names s) f vs) f.body)
          else refuses (Internal (miscounted_text t.lexeme) t))
      test false is = refl
      test true is =
          ends_same (HasCount n) (row as_it_is) _ _ counted
          (λ vs l. same_body k again s base names on t.lexeme f vs reached e (let same : n ≡ length f.parameters =
          grind (arith, nat_tests) in sym same ∙ sym l))

  dynamic_lexical : (k : ℕ) → IsLexical k
  dynamic_lexical zero s base names e same_reads on =
      same_eval c (dynamic c 0) (lexical c base 0) C s names (λ t n row reached counted. at_limit (callee c.functions t.lexeme) t n row) e same_reads
    where
      at_limit : (found : Callee) (t : Token) (n : ℕ) (row : Row) → called c t found (dynamic c 0) s n row
          ≡ called c t found (lexical c base 0) (situation_with_names names s) n row
      at_limit (Defined f) t n row = refl
      at_limit (BuiltIn f) t n row = refl
      at_limit LeftOut t n row = refl
      at_limit callees.Unknown t n row = refl
  dynamic_lexical (suc k) s base names e same_reads on =
      same_eval c (dynamic c (suc k)) (lexical c base (suc k)) C s names
      (λ t n row reached counted. same_called k (λ s base names e. dynamic_lexical k s base names e) s base names on t n row reached counted
      (function_at c.functions t.lexeme) refl) e same_reads

-- if bodies read no other function's parameters, dynamic scope means what lexical scope does
pub dynamic_is_lexical : (c : Program) (k : ℕ) (s : Situation) (e : Expr) → IsApart c.functions e
    → eval c (dynamic c k) s e ≡ eval c (lexical c (value_in s.below) k) s e
dynamic_is_lexical c k s e apart =
    dynamic_lexical c (Reaches c.functions e)
    (λ name further f n reached found occurs. reaches_on c.functions f n reached found occurs)
    (λ name f n reached found occurs beyond. apart n (record { name = name; function = f; reached = reached; found = found; occurs = occurs; beyond = beyond }))
    k s (value_in s.below) s.names e same_reads (λ n free. refl)
  where
    same_reads : (x : Mention) → Occurs e x → ReadsSame (Reaches c.functions e) s.names s.names x
    same_reads (CommandOf text) h = tt
    same_reads (VariableOf None) h = tt
    same_reads (VariableOf (Some n)) h = refl
    same_reads (CallOf f n) h = Here n h

-- ---- a run

-- the assignment with this name, if it is referenced, reads no parameter through a body of another function
abbrev pub IsApartAt : List Function → Assignments → Token → Type 0
IsApartAt functions assignments t = (a : Assignment) → assignment_at assignments t.lexeme ≡ Some a → assignments.referenced a.number ≡ true
    → IsApart functions a.value

module _ (functions : List Function) (assignments : Assignments) (outer : Frames) (resolved : IsResolved functions assignments outer) where
  are_apart : (taken : List ℕ) (left : List Token) → ((n : ℕ) → IsIn taken n → IsIn (map (λ a. a.number) assignments.all) n)
      → AreInOrder functions assignments outer taken left → (t : Token) → IsIn left t → IsApartAt functions assignments t
  are_apart taken [] assigned h t none = absurd none
  are_apart taken (u ∷ left) assigned h t (inl same) =
      subst (IsApartAt functions assignments) same
      (λ a found referenced n beyond parameter. ⊎_elim (λ one. apart_numbers _ _ n resolved.distinct (assigned n one) parameter)
      (λ bound. resolved.unbound n parameter bound) (h.0 a found referenced n (inr beyond)))
  are_apart taken (u ∷ left) assigned h t (inr later) =
      are_apart (with_taken assignments (assignment_at assignments u.lexeme) taken) left (λ n one. taken_assigned assignments u.lexeme taken n assigned one)
      h.1 t later

module _ (m : Module) where
  assigned_same : (frames : Frames) (a : Assignment) → IsApart m.program.functions a.value → assigned dynamically m frames a ≡ assigned lexically m frames a
  assigned_same frames a apart =
      ap (or_override (m.overrides a.number)) (dynamic_is_lexical m.program _ (situation_at m.program.fixed.settings.lists frames) a.value apart)

  turn_same : (frames : Frames) (t : Token) (x : Option Assignment) → ((a : Assignment) → x ≡ Some a → m.assignments.referenced a.number ≡ true
      → IsApart m.program.functions a.value) → turn_of dynamically m frames t x ≡ turn_of lexically m frames t x
  turn_same frames t None apart = refl
  turn_same frames t (Some a) apart = by (m.assignments.referenced a.number) refl
    where
      taken : Bool → Bool
      taken r = r && not (is_some (innermost a.number frames))

      by : (r : Bool) → m.assignments.referenced a.number ≡ r
          → turn_by m frames a (taken r) (assigned dynamically m frames a) ≡ turn_by m frames a (taken r) (assigned lexically m frames a)
      by true e = ap (turn_by m frames a (taken true)) (assigned_same frames a (apart a refl e))
      by false e = refl

-- the turns of a resolved module are the same under dynamic and under lexical scope
pub resolved_turn : (m : Module) (outer : Frames) → IsResolvedModule m outer → (t : Token) → IsIn m.assignments.order t → (frames : Frames)
    → turn dynamically m frames t ≡ turn lexically m frames t
resolved_turn m outer resolved t among frames =
    turn_same m frames t (assignment_at m.assignments t.lexeme)
    (are_apart m.program.functions m.assignments outer resolved [] m.assignments.order (λ n none. absurd none) resolved.in_order t among)
