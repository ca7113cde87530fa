-- A scripted host determines a run.
use Rattle.std.proofs.Common.{◌≡◌, ◌≢◌, inl, inr, Option, Some, None, List, [], ◌∷◌, refl, sym, subst, ◌∙◌}
use Rattle.just_bench.specs.Prelude.{Answer, AnswersByScript, Asked, Blind, Chain, Checked, CommandOf, Event, ExistsAt, Kept, NoMemory, Noted, NumberOf}
use Rattle.just_bench.specs.Prelude.{Question, Script, Text, TextOf, by_script, recording, unchecked}
use Rattle.just_host.specs.Question.{Failed, UnlessNoMemory}
use Rattle.just_script.specs.Script.{AnswersCommand, IsNextReply, text_for}
use Rattle.just_laws.specs.Decided.{AgreeUpToAnswers}
use Rattle.just_bench.proofs.Heeded.{AllAnswered}

-- the answer is the expected one, if it is not `NoMemory`
wanted : (a w : Answer) → UnlessNoMemory a w → a ≢ Failed NoMemory → a ≡ w
wanted a w (inl is) some = is
wanted a w (inr none) some = absurd (some none)

-- two expected answers are equal
both_wanted : (a b w : Answer) → UnlessNoMemory a w → UnlessNoMemory b w → a ≢ Failed NoMemory → b ≢ Failed NoMemory → a ≡ b
both_wanted a b w p q here there = wanted a w p here ∙ sym (wanted b w q there)

next_one : (replies : List Answer) (a b : Answer) → IsNextReply replies a → IsNextReply replies b → a ≢ Failed NoMemory → b ≢ Failed NoMemory → a ≡ b
next_one [] a b p q here there = both_wanted a b _ p q here there
next_one (reply ∷ replies) a b p q here there = p ∙ sym q

command_one : (text : Option Text) (old : Script) (a b : Answer) (s t : Script) → AnswersCommand text old a s → AnswersCommand text old b t
    → a ≢ Failed NoMemory → b ≢ Failed NoMemory → (a ≡ b) × (s ≡ t)
command_one (Some text) old a b s t (p, same) (q, also) here there = (both_wanted a b _ p q here there, same ∙ sym also)
command_one None old a b s t (p, same) (q, also) here there = (next_one old.replies a b p q here there, same ∙ sym also)

-- a script has only one answer to a question
script_one : (old : Script) (q : Blind) (a b : Answer) (s t : Script) → AnswersByScript old q a s → AnswersByScript old q b t → a ≢ Failed NoMemory
    → b ≢ Failed NoMemory → (a ≡ b) × (s ≡ t)
script_one old (CommandOf c) a b s t p r here there = command_one (text_for c.command old.always) old a b s t p r here there
script_one old (TextOf q) a b s t (p, same) (r, also) here there = (p ∙ sym r, same ∙ sym also)
script_one old (ExistsAt path) a b s t (p, same) (r, also) here there = (p ∙ sym r, same ∙ sym also)
script_one old (NumberOf q) a b s t (p, same) (r, also) here there = (p ∙ sym r, same ∙ sym also)

-- and only one record is kept of the question
recorded_one : (old : Script × List Kept) (q : Question) (a b : Answer) (s t : Script × List Kept) → recording by_script old q a s
    → recording by_script old q b t → a ≢ Failed NoMemory → b ≢ Failed NoMemory → (a ≡ b) × (s ≡ t)
recorded_one old q a b (s, k) (t, l) (inr (none, same, kept)) r here there = absurd (here none)
recorded_one old q a b (s, k) (t, l) p (inr (none, same, kept)) here there = absurd (there none)
recorded_one old q a b (s, k) (t, l) (inl (p, kept)) (inl (r, also)) here there = let (same, on) =
    script_one old.0 q.blind a b s t p r here there in (same, rw (on, kept, also) refl)

-- Two chains from the same state that agree up to answers end in the same state, if no answer is `NoMemory`.
pub chains_one : (E : Type 0) (x y : Script × List Kept) (es fs : List Event) (s t : Script × List Kept) → x ≡ y → AllAnswered es → AllAnswered fs
    → Chain (recording by_script) unchecked x es s → Chain (recording by_script) unchecked y fs t → AgreeUpToAnswers es fs E → E × (s ≡ t)
chains_one E x y [] [] s t from here there p q agree = (agree, sym p ∙ from ∙ q)
chains_one E x y (Asked i a ∷ es) (Asked j b ∷ fs) s t from (here, on) (there, more) (m, p, c) (n, q, d) (same, inl other) =
    absurd (other (recorded_one y i a b m n (subst (λ z. recording by_script z i a m) from p) (subst (λ k. recording by_script y k b n) (sym same) q) here
    there).0)
chains_one E x y (Asked i a ∷ es) (Asked j b ∷ fs) s t from (here, on) (there, more) (m, p, c) (n, q, d) (same, inr (one, rest)) =
    chains_one E m n es fs s t (recorded_one y i a b m n (subst (λ z. recording by_script z i a m) from p)
    (subst (λ k. recording by_script y k b n) (sym same) q) here there).1 on more c d rest
chains_one E x y (Noted i ∷ es) (Noted j ∷ fs) s t from here there p q (same, rest) = chains_one E x y es fs s t from here there p q rest
chains_one E x y (Checked i v a ∷ es) fs s t from here there p q agree = absurd p.0
chains_one E x y es (Checked i v a ∷ fs) s t from here there p q agree = absurd q.0
chains_one E x y [] (Asked j b ∷ fs) s t from here there p q agree = absurd agree
chains_one E x y [] (Noted j ∷ fs) s t from here there p q agree = absurd agree
chains_one E x y (Asked i a ∷ es) [] s t from here there p q agree = absurd agree
chains_one E x y (Asked i a ∷ es) (Noted j ∷ fs) s t from here there p q agree = absurd agree
chains_one E x y (Noted i ∷ es) [] s t from here there p q agree = absurd agree
chains_one E x y (Noted i ∷ es) (Asked j b ∷ fs) s t from here there p q agree = absurd agree
