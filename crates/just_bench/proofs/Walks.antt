-- Composition of name-by-name runs.
use Rattle.std.proofs.Common.{◌≡◌, ◌≤◌, ◌<◌, ◌+◌, ℕ, List, [], ◌∷◌, ◌++◌, Option, Some, None, refl, sym, ap, ◌∙◌, subst, add-one, append_assoc, drop, drop-cons}
use Rattle.std.proofs.Common.{get_or, length, map, nat_eq, string_bytes, flat_map, option_map}
use Rattle.std.proofs.lemmas.List.{append-nil, drop_all}
use Rattle.std.proofs.lemmas.Grind.{flat_map-append}
use Rattle.std.proofs.lemmas.Simd.{map-map}
use Rattle.std.specs.HashMap.{HashMap}
use Rattle.std.specs.Map.{lookup}
use Rattle.std.specs.declared.string.String.{String}
use Rattle.std.specs.Borrow.{Bor}
use Rattle.just_bench.specs.Prelude.{Added, Extends, Frames, Gave, Goes, Kept, Module, OrderPrints, Outcome, PrintedBlock, Refusal, RunResult, Step, Text}
use Rattle.just_bench.specs.Prelude.{Token, Walks, block_lines, block_of, blocks_in, dynamically, end_line, found_by, in_order, name_view, names_of}
use Rattle.just_bench.specs.Prelude.{next_number, order_line, recording, refusal_line, still_coming, taken_in, taken_view, text_numbered, turn_between}
use Rattle.just_bench.specs.Prelude.{with_block, with_blocks, without_value}
use Rattle.just_syntax.specs.declared.name.Name.{Name}
use Rattle.just_bench.specs.Blocks.{Breaks, Finished}
use Rattle.just_bench.proofs.Lexical.{turns_lexical}

with_more : (asked : ℕ → Option Text) (bs cs : List PrintedBlock) → with_blocks asked (bs ++ cs) ≡ with_blocks (with_blocks asked bs) cs
with_more asked [] cs = refl
with_more asked (b ∷ bs) cs = with_more (with_block asked b) bs cs

end_of : (r : Option Refusal) → refusal_line r ≡ end_line (without_value r)
end_of None = refl
end_of (Some r) = refl

found_none : (r : Option Refusal) (asked : ℕ → Option Text) → None ≡ found_by (without_value r) asked
found_none None asked = refl
found_none (Some r) asked = refl

lines_more : (bs cs : List PrintedBlock) (end : Text) → flat_map block_lines bs ++ (flat_map block_lines cs ++ end) ≡ flat_map block_lines (bs ++ cs) ++ end
lines_more bs cs end =
    sym (ap (λ lines. lines ++ end) (flat_map-append block_lines bs cs) ∙ append_assoc (flat_map block_lines bs) (flat_map block_lines cs) end)

-- the rest begins with the item
front : {X Y : Type 0} (view : X → Y) (items : List X) (i : ℕ) (d : X) → i < length items
    → map view (drop i items) ≡ view (get_or items i d) ∷ map view (drop (i + 1) items)
front view items i d fits = ap (map view) (drop-cons items i d fits) ∙ ap (λ j. view (get_or items i d) ∷ map view (drop j items)) (sym (add-one i))

-- the block of a name that is evaluated between two states, if there is one
abbrev own : {S : Type 0} → Token → S × List Kept → S × List Kept → List (Token × ℕ) → List PrintedBlock
own t old new coming = block_of (turn_between t old new) (next_number coming t)

module _ {S : Type 0} {step : Step S} {m : Module} where
  finished : (h : S × List Kept) (frames : Frames) (coming : List (Token × ℕ)) (asked : ℕ → Option Text)
      → Walks step m h frames [] coming asked [] (Some (record { frames = frames; asked = asked }))
  finished h frames coming asked = record { turns = []; outcome = Gave frames; new = h; walk = Finished; text = refl; finds = refl }

  on : (h mid : S × List Kept) (frames next : Frames) (t : Token) (left : List Token) (coming : List (Token × ℕ)) (asked : ℕ → Option Text) (more : Text)
      (found : Option RunResult)
      → Extends dynamically (recording step) h (in_order m (t ∷ [])) frames (Gave next) mid
      → Walks step m mid next left (still_coming coming (next_number coming t)) (with_blocks asked (own t h mid coming)) more found
      → Walks step m h frames (t ∷ left) coming asked (flat_map block_lines (own t h mid coming) ++ more) found
  on h mid frames next t left coming asked more found e w =
      let bs = own t h mid coming in
      let cs = blocks_in w.turns (still_coming coming (next_number coming t)) in
      record {
        turns = turn_between t h mid ∷ w.turns;
        outcome = w.outcome;
        new = w.new;
        walk = Goes e w.walk;
        text = ap (λ more. flat_map block_lines bs ++ more) w.text ∙ lines_more bs cs (end_line w.outcome);
        finds = w.finds ∙ ap (found_by w.outcome) (sym (with_more asked bs cs));
      }

  refused : (h new : S × List Kept) (frames : Frames) (t : Token) (left : List Token) (coming : List (Token × ℕ)) (asked : ℕ → Option Text) (r : Option Refusal)
      → Extends dynamically (recording step) h (in_order m (t ∷ [])) frames (without_value r) new
      → Walks step m h frames (t ∷ left) coming asked (flat_map block_lines (own t h new coming) ++ refusal_line r) None
  refused h new frames t left coming asked r e =
      let bs = own t h new coming in
      record {
        turns = turn_between t h new ∷ [];
        outcome = without_value r;
        new = new;
        walk = Breaks r e;
        text = ap (λ end. flat_map block_lines bs ++ end) (end_of r) ∙ ap (λ bs. flat_map block_lines bs ++ end_line (without_value r)) (sym (append-nil bs));
        finds = found_none r (with_blocks asked (bs ++ []));
      }

  module _ (other : Module) (same : in_order other [] ≡ in_order m []) (Is : Text → Option RunResult → Type 0) (old now : Text) (h : S × List Kept)
      (frames : Frames) {X : Type 0} (view : X → Token) (items : List X) (i : ℕ)
      (coming : List (Token × ℕ)) (asked : ℕ → Option Text)
      (so_far : Added old now (λ printed. (more : Text) (found : Option RunResult) → Walks step m h frames (map view (drop i items)) coming asked more found
      → Is (printed ++ more) found)) where
    moved : {new : S × List Kept} {outcome : Outcome Frames} (t : Token) → Extends dynamically (recording step) h (in_order other (t ∷ [])) frames outcome new
        → Extends dynamically (recording step) h (in_order m (t ∷ [])) frames outcome new
    moved {new} {outcome} t e = subst (λ m. Extends dynamically (recording step) h (in_order m (t ∷ [])) frames outcome new) same e

    -- one more name
    pub walked_on : (d : X) → i < length items → (mid : S × List Kept) (next : Frames)
        → Extends dynamically (recording step) h (in_order other (view (get_or items i d) ∷ [])) frames (Gave next) mid
        → (rest : List (Token × ℕ)) (asked' : ℕ → Option Text) (now' : Text) → rest ≡ still_coming coming (next_number coming (view (get_or items i d)))
        → asked' ≡ with_blocks asked (own (view (get_or items i d)) h mid coming)
        → now' ≡ now ++ flat_map block_lines (own (view (get_or items i d)) h mid coming)
        → Added old now' (λ printed. (more : Text) (found : Option RunResult) → Walks step m mid next (map view (drop (i + 1) items)) rest asked' more found
        → Is (printed ++ more) found)
    walked_on d fits mid next e rest asked' now' rest_is asked_is now_is =
        let t = view (get_or items i d) in
        let bs = own t h mid coming in
        record {
          printed = so_far.printed ++ flat_map block_lines bs;
          after = now_is ∙ ap (λ now. now ++ flat_map block_lines bs) so_far.after ∙ append_assoc old so_far.printed (flat_map block_lines bs);
          is = λ more found w. subst (λ printed. Is printed found) (sym (append_assoc so_far.printed (flat_map block_lines bs) more))
              (so_far.is (flat_map block_lines bs ++ more) found
              (subst (λ order. Walks step m h frames order coming asked (flat_map block_lines bs ++ more) found) (sym (front view items i d fits))
              (on h mid frames next t (map view (drop (i + 1) items)) coming asked more found (moved t e) (rw (rest_is, asked_is) at w))));
        }

    -- the last name, which is refused
    pub walked_refused : (d : X) → i < length items → (new : S × List Kept) (r : Option Refusal)
        → Extends dynamically (recording step) h (in_order other (view (get_or items i d) ∷ [])) frames (without_value r) new
        → (mid now' : Text) → mid ≡ now ++ flat_map block_lines (own (view (get_or items i d)) h new coming) → now' ≡ mid ++ refusal_line r
        → Added old now' (λ printed. Is printed None)
    walked_refused d fits new r e mid now' mid_is now_is =
        let t = view (get_or items i d) in
        let bs = flat_map block_lines (own t h new coming) in
        let lines = bs ++ refusal_line r in
        record {
          printed = so_far.printed ++ lines;
          after = now_is ∙ ap (λ mid. mid ++ refusal_line r) mid_is ∙ append_assoc now bs (refusal_line r) ∙ ap (λ now. now ++ lines) so_far.after
              ∙ append_assoc old so_far.printed lines;
          is = so_far.is lines None (subst (λ order. Walks step m h frames order coming asked lines None) (sym (front view items i d fits))
              (refused h new frames t (map view (drop (i + 1) items)) coming asked r (moved t e)));
        }

    -- no name is left
    pub walked_whole : length items ≤ i → Added old now (λ printed. Is printed (Some (record { frames = frames; asked = asked })))
    walked_whole none = record {
      printed = so_far.printed;
      after = so_far.after;
      is = subst (λ printed. Is printed (Some (record { frames = frames; asked = asked }))) (append-nil so_far.printed)
          (so_far.is [] _ (subst (λ items. Walks step m h frames (map view items) coming asked [] (Some (record { frames = frames; asked = asked })))
          (sym (drop_all i items none)) (finished h frames coming asked)));
    }

-- an empty map has no text
pub none_asked : {A S : Type 0} (m : HashMap ℕ (String A) S) → m.entries ≡ [] → text_numbered m ≡ (λ n. None)
none_asked {A} m none = ap {B = ℕ → Option Text} (λ (entries : List (ℕ × String A)) (n : ℕ). option_map string_bytes (lookup (nat_eq n) entries)) none

-- the names of the taken variables
pub same_names : (taken others : List (Bor Name × ℕ)) → taken ≡ others → map (λ variable. name_view variable.0.now) taken ≡ names_of (map taken_view others)
same_names taken others same = ap (map (λ variable. name_view variable.0.now)) same ∙ sym (map-map (λ variable. variable.0) taken_view others)

-- a walk of the whole order, after the line of taken variables
pub order_prints : {S : Type 0} {step : Step S} {m : Module} {found : Option RunResult} (old mid new : Text) (host : S) (kept : List Kept)
    (outer frames : Frames) (coming : List (Token × ℕ)) (asked : ℕ → Option Text)
    → kept ≡ [] → frames ≡ [] ∷ outer → coming ≡ taken_in m.assignments m.assignments.order → asked ≡ (λ n. None) → mid ≡ old ++ order_line (names_of coming)
    → Added mid new (λ printed. Walks step m (host, kept) frames m.assignments.order coming asked printed found)
    → Added old new (λ printed. OrderPrints step host m outer printed found)
order_prints {m = m} old mid new host kept outer frames coming asked kept_is frames_are coming_is asked_is mid_is added =
    let first = order_line (names_of coming) in
    let walks : Walks _ m (host, []) ([] ∷ outer) m.assignments.order (taken_in m.assignments m.assignments.order) (λ n. None) added.printed _ =
    rw (kept_is, frames_are, coming_is, asked_is) at added.is in
    record {
      printed = first ++ added.printed;
      after = added.after ∙ ap (λ mid. mid ++ added.printed) mid_is ∙ append_assoc old first added.printed;
      is = record {
        lines = added.printed;
        walks = walks;
        lexical = λ resolved. turns_lexical outer resolved walks.walk;
        text = ap (λ coming. order_line (names_of coming) ++ added.printed) coming_is;
      };
    }
