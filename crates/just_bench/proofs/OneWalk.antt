-- A scripted host determines a name-by-name run.
use Rattle.std.proofs.Common.{◌≡◌, ◌≢◌, ℕ, List, [], ◌∷◌, ◌++◌, Option, Some, None, refl, sym, ap, subst, ◌∙◌, append_assoc, flat_map}
use Rattle.just_bench.specs.Prelude.{AreLines, BothPrint, Compared, Extends, FirstRefused, Frames, Gave, Goes, HadMemory, Kept, Module, OrderPrints, Outcome}
use Rattle.just_bench.specs.Prelude.{Refusal, RunResult, Script, SecondRefused, Stopped, Text, Token, Turn, Turns, and_then, block_lines, blocks_in, by_script}
use Rattle.just_bench.specs.Prelude.{const_refusal_line, dynamically, end_line, found_by, grown, names_of, order_line, own_frame, recording}
use Rattle.just_bench.specs.Prelude.{refusal_line, taken_in, with_blocks, without_value}
use Rattle.std.specs.Map.{values_of}
use Rattle.just_laws.proofs.Decide.{answers_decide}
use Rattle.just_bench.specs.Blocks.{Finished, Breaks}
use Rattle.just_bench.proofs.Decided.{chains_one}
use Rattle.just_bench.proofs.Heeded.{run_answered}
use Rattle.just_bench.proofs.Lines.{are_blocks, are_end, is_order, lines_after}

-- the state of a name-by-name run: its host with the questions so far, and the frames
abbrev WalkState : Type 0
WalkState = (Script × List Kept) × Frames

-- one name, from the same state
extends_here : (h : Script × List Kept) (m : Module) (frames : Frames) (o p : Outcome Frames) (s t : Script × List Kept)
    (one : Extends dynamically (recording by_script) h m frames o s) (other : Extends dynamically (recording by_script) h m frames p t)
    → o ≢ Stopped → p ≢ Stopped → (o ≡ p) × (s ≡ t)
extends_here h m frames o p s t one other here there =
    let x = one.ran in
    let y = other.ran in
    let go = λ (own : Frames). Gave (grown frames (values_of (own_frame own))) in
    let whole : one.given ≢ Stopped = λ e. here (one.bound ∙ ap (λ g. and_then g go) e) in
    let also : other.given ≢ Stopped = λ e. there (other.bound ∙ ap (λ g. and_then g go) e) in
    let (same, ends) = chains_one (one.given ≡ other.given) h h x.events y.events s t refl (run_answered m ([] ∷ frames) m.assignments.order x.path whole)
    (run_answered m ([] ∷ frames) m.assignments.order y.path also) x.chain y.chain
    (answers_decide.runs dynamically m ([] ∷ frames) m.assignments.order x.events y.events one.given other.given x.path y.path whole also) in
    (one.bound ∙ ap (λ g. and_then g go) same ∙ sym other.bound, ends)

no_value : {A : Type 0} (v : A) (r : Option Refusal) → Gave v ≡ without_value r → ⊥
no_value v (Some r) e = absurd (cc)
no_value v None e = absurd (cc)

never_stopped : {A : Type 0} {v : A} → ◌≢◌ {A = Outcome A} (Gave v) Stopped
never_stopped e = absurd (cc)

gave_one : {A : Type 0} {v w : A} → ◌≡◌ {A = Outcome A} (Gave v) (Gave w) → v ≡ w
gave_one e = cc

-- two name-by-name runs with the same end
abbrev HaveSameEnd : List Turn → List Turn → Outcome Frames → Outcome Frames → Script × List Kept → Script × List Kept → Type 0
HaveSameEnd us vs o p s t = (us ≡ vs) × (o ≡ p) × (s ≡ t)

module _ (m : Module) where
  abbrev From : WalkState → List Token → List Turn → Outcome Frames → Script × List Kept → Type 0
  From x names us o s = Turns dynamically by_script m x.0 x.1 names us o s

  turns_one : {h : Script × List Kept} {frames : Frames} {names : List Token} {us vs : List Turn} {o p : Outcome Frames} {s t : Script × List Kept}
      → Turns dynamically by_script m h frames names us o s → Turns dynamically by_script m h frames names vs p t
      → o ≢ Stopped → p ≢ Stopped → HaveSameEnd us vs o p s t
  turns_one Finished Finished here there = (refl, refl, refl)
  turns_one {h = h} {frames = frames} (Goes {mid = a} {new = s} {more = f} {t = name} {left = left} {turns = us} {o = o} e rest)
      (Goes {mid = b} {new = t} {more = g} {turns = vs} {o = p} d more) here there =
      let (same, ends) = extends_here h _ frames (Gave f) (Gave g) a b e d never_stopped never_stopped in
      let place : (a, f) ≡ (b, g) = rw (ends, gave_one same) refl in
      let (turns, out, last) = subst (λ x. From x left vs p t → HaveSameEnd us vs o p s t) place (λ w. turns_one rest w here there) more in
      (rw (ends, turns) refl, out, last)
  turns_one {h = h} {frames = frames} (Goes {mid = a} {more = f} e rest) (Breaks {new = b} r d) here there =
      absurd (no_value f r (extends_here h _ frames (Gave f) (without_value r) a b e d never_stopped there).0)
  turns_one {h = h} {frames = frames} (Breaks {new = a} r e) (Goes {mid = b} {more = f} d rest) here there =
      absurd (no_value f r (sym (extends_here h _ frames (without_value r) (Gave f) a b e d here never_stopped).0))
  turns_one {h = h} {frames = frames} (Breaks {new = a} r e) (Breaks {new = b} q d) here there =
      let (same, ends) = extends_here h _ frames (without_value r) (without_value q) a b e d here there in
      (rw ends refl, same, ends)

-- the output and the result for an order
order_here : (h : Script) (m : Module) (outer : Frames) (p q : Text) (f g : Option RunResult) (one : OrderPrints by_script h m outer p f)
    (other : OrderPrints by_script h m outer q g) → one.walks.outcome ≢ Stopped → other.walks.outcome ≢ Stopped → (p ≡ q) × (f ≡ g)
order_here h m outer p q f g one other here there =
    let (turns, out, last) = turns_one m one.walks.walk other.walks.walk here there in
    let lines : one.lines ≡ other.lines = one.walks.text ∙ rw (turns, out) (sym other.walks.text) in
    (one.text ∙ rw lines (sym other.text), one.walks.finds ∙ rw (turns, out) (sym other.walks.finds))

order_one : (h k : Script) (from : h ≡ k) (m : Module) (outer : Frames) (p q : Text) (f g : Option RunResult) (one : OrderPrints by_script h m outer p f)
    (other : OrderPrints by_script k m outer q g) → one.walks.outcome ≢ Stopped → other.walks.outcome ≢ Stopped → (p ≡ q) × (f ≡ g)
order_one h k from m outer p q f g one other here there =
    subst (λ x. (d : OrderPrints by_script x m outer q g) → d.walks.outcome ≢ Stopped → (p ≡ q) × (f ≡ g)) from
    (λ d whole. order_here h m outer p q f g one d here whole) other there

never_found : {A B : Type 0} {f : A} → (Some f ≡ None) → B
never_found e = absurd (cc)

some_one : {A : Type 0} {f g : A} → Some f ≡ Some g → f ≡ g
some_one e = cc

-- a run with a result was not stopped
found_whole : {h : Script} {m : Module} {outer : Frames} {p : Text} (f : RunResult) (one : OrderPrints by_script h m outer p (Some f))
    → one.walks.outcome ≢ Stopped
found_whole {m = m} f one e =
    never_found (one.walks.finds ∙ ap (λ o. found_by o (with_blocks (λ n. None) (blocks_in one.walks.turns (taken_in m.assignments m.assignments.order)))) e)

-- a run that does not report `OutOfMemory` was not stopped
order_whole : {h : Script} {m : Module} {outer : Frames} {found : Option RunResult} (p : Text) (one : OrderPrints by_script h m outer p found) → HadMemory p
    → one.walks.outcome ≢ Stopped
order_whole {m = m} p one had e =
    let taken = taken_in m.assignments m.assignments.order in
    let first = order_line (names_of taken) in
    let blocks = flat_map block_lines (blocks_in one.walks.turns taken) in
    (had (first ++ blocks) (lines_after first blocks (is_order (names_of taken)) (are_blocks (blocks_in one.walks.turns taken)))).0
    (one.text ∙ ap (λ lines. first ++ lines) (one.walks.text ∙ ap (λ o. blocks ++ end_line o) e) ∙ sym (append_assoc first blocks (refusal_line None)))

-- the text after other lines does not report it either
pub had_after : (before text : Text) → AreLines before → HadMemory (before ++ text) → HadMemory text
had_after before text lines had front are =
    let both = had (before ++ front) (lines_after before front lines are) in (
      λ e. both.0 (ap (λ t. before ++ t) e ∙ sym (append_assoc before front (refusal_line None))),
      λ e. both.1 (ap (λ t. before ++ t) e ∙ sym (append_assoc before front (const_refusal_line None))),
    )

-- the output for an order consists of lines
order_lines : {h : Script} {m : Module} {outer : Frames} {p : Text} {f : Option RunResult} → OrderPrints by_script h m outer p f → AreLines p
order_lines {m = m} one =
    let blocks = blocks_in one.walks.turns (taken_in m.assignments m.assignments.order) in
    let names = names_of (taken_in m.assignments m.assignments.order) in
    let lines : AreLines one.lines =
    subst AreLines (sym one.walks.text) (lines_after (flat_map block_lines blocks) (end_line one.walks.outcome) (are_blocks blocks)
    (are_end one.walks.outcome)) in
    subst AreLines (sym one.text) (lines_after (order_line names) one.lines (is_order names) lines)

-- the output of two runs
pub both_one : (h k i j : Script) (from : h ≡ k) (other_from : i ≡ j) (first second : Module) (outer : Frames) (p q : Text) (s t : ℕ)
    → BothPrint by_script h i first second outer p s → BothPrint by_script k j first second outer q t → HadMemory p → HadMemory q → (p ≡ q) × (s ≡ t)
both_one h k i j from other_from first second outer p q s t (FirstRefused a) (FirstRefused b) here there =
    ((order_one h k from first outer p q None None a b (order_whole p a here) (order_whole q b there)).0, refl)
both_one h k i j from other_from first second outer p q s t (FirstRefused a) (SecondRefused {one = f} b more) here there =
    never_found (sym (order_one h k from first outer p _ None (Some f) a b (order_whole p a here) (found_whole f b)).1)
both_one h k i j from other_from first second outer p q s t (FirstRefused a) (Compared {one = f} b more) here there =
    never_found (sym (order_one h k from first outer p _ None (Some f) a b (order_whole p a here) (found_whole f b)).1)
both_one h k i j from other_from first second outer p q s t (SecondRefused {one = f} a rest) (FirstRefused b) here there =
    never_found (order_one h k from first outer _ q (Some f) None a b (found_whole f a) (order_whole q b there)).1
both_one h k i j from other_from first second outer p q s t (Compared {one = f} a rest) (FirstRefused b) here there =
    never_found (order_one h k from first outer _ q (Some f) None a b (found_whole f a) (order_whole q b there)).1
both_one h k i j from other_from first second outer p q s t (SecondRefused {text = x} {more = y} {one = f} a rest)
    (SecondRefused {text = v} {more = w} {one = g} b more) here there = (
      rw (
        (order_one h k from first outer x v (Some f) (Some g) a b (found_whole f a) (found_whole g b)).0,
        (order_one i j other_from second outer y w None None rest more (order_whole y rest (had_after x y (order_lines a) here))
            (order_whole w more (had_after v w (order_lines b) there))).0,
      ) refl,
      refl,
    )
both_one h k i j from other_from first second outer p q s t (SecondRefused {text = x} {more = y} a rest) (Compared {more = w} {other = g} b more) here there =
    never_found
    (sym (order_one i j other_from second outer y w None (Some g) rest more (order_whole y rest (had_after x y (order_lines a) here))
    (found_whole g more)).1)
both_one h k i j from other_from first second outer p q s t (Compared {more = y} {other = g} a rest) (SecondRefused {text = v} {more = w} b more) here there =
    never_found (order_one i j other_from second outer y w (Some g) None rest more (found_whole g rest)
    (order_whole w more (had_after v w (order_lines b) there))).1
both_one h k i j from other_from first second outer p q s t (Compared {text = x} {more = y} {one = f} {other = g} a rest)
    (Compared {text = v} {more = w} {one = f'} {other = g'} b more) here there =
    let (text, found) = order_one h k from first outer x v (Some f) (Some f') a b (found_whole f a) (found_whole f' b) in
    let (lines, other) = order_one i j other_from second outer y w (Some g) (Some g') rest more (found_whole g rest) (found_whole g' more) in
    (rw (text, lines, some_one found, some_one other) refl, refl)
