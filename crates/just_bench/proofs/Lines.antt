-- The text printed before the end of an answer consists of whole lines.
use Rattle.std.proofs.Common.{inl, inr, Bool, true, false, List, [], ◌∷◌, ◌++◌, Option, Some, None, codes, refl, sym, ap, subst, ◌∙◌, append_assoc, flat_map}
use Rattle.std.proofs.lemmas.List.{append-nil}
use Rattle.just_bench.specs.Prelude.{AreLines, Frames, Gave, Kept, Outcome, PrintedBlock, Refusal, Refused, Stopped, Text, Token, block_lines, end_line}
use Rattle.just_bench.specs.Prelude.{name_words, order_line, question_lines, refusal_line, space_between, unresolved_line, with_newline}
use Rattle.just_host.specs.Printed.{kept_printed}
use Rattle.just_bench.specs.Printed.{question_line, refused_text}

are_line : (text : Text) → AreLines (with_newline text)
are_line text = inr (text, refl)

pub is_order : (names : List Token) → AreLines (order_line names)
is_order names = are_line (codes "order" ++ name_words names)

are_refused : (r : Option Refusal) → AreLines (refusal_line r)
are_refused r = are_line (space_between (codes "refused") (refused_text r))

-- lines followed by lines
pub lines_after : (a b : Text) → AreLines a → AreLines b → AreLines (a ++ b)
lines_after a b h (inr (front, e)) = inr (a ++ front, ap (λ t. a ++ t) e ∙ sym (append_assoc a front (codes "\n")))
lines_after a b h (inl e) = subst AreLines (sym (ap (λ t. a ++ t) e ∙ append-nil a)) h

flat_lines : {X : Type 0} (f : X → Text) → ((x : X) → AreLines (f x)) → (xs : List X) → AreLines (flat_map f xs)
flat_lines f h [] = inl refl
flat_lines f h (x ∷ xs) = lines_after (f x) (flat_map f xs) (h x) (flat_lines f h xs)

pub are_questions : (kept : List Kept) → AreLines (question_lines kept)
are_questions = flat_lines question_line (λ k. are_line (codes "? " ++ kept_printed k))

pub are_blocks : (blocks : List PrintedBlock) → AreLines (flat_map block_lines blocks)
are_blocks = flat_lines block_lines (λ b. let name = codes "block " ++ b.name.lexeme in lines_after (with_newline name) (question_lines b.asked) (are_line name)
    (are_questions b.asked))

pub are_unresolved : (resolved : Bool) → AreLines (unresolved_line resolved)
are_unresolved true = inl refl
are_unresolved false = inr (codes "unresolved", refl)

pub are_end : (o : Outcome Frames) → AreLines (end_line o)
are_end (Gave frames) = inl refl
are_end (Refused r) = are_refused (Some r)
are_end Stopped = are_refused None
