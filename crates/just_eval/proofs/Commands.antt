-- Evaluating a recipe's lines to commands.
use Rattle.std.proofs.Common.{◌≡◌, ℕ, ◌+◌, ◌<◌, ◌≤◌, Bool, List, [], ◌∷◌, length, get_or, drop, map, ap, sym, subst, ◌∙◌, Option}
use Rattle.std.specs.List.{AllByRecursion}
use Rattle.std.proofs.lemmas.List.{drop_all}
use Rattle.just_eval.specs.Prelude.{Behaves, Expr, Gave, Outcome, Refusal, Step, Stopped, Text, Tree, Value, bind, commands, commands_of, dynamic_meaning}
use Rattle.just_eval.specs.Prelude.{gives, unchecked}
use Rattle.just_eval.specs.Prelude.{line, line_expressions, line_view, lines_expressions, rules_of, unjoined, with_further_line, without_value}
use Rattle.just_syntax.specs.Plain.{Fragment}
use Rattle.just_syntax.specs.declared.line.Line.{Line}
use Rattle.just_syntax.proofs.Lists.{all_append}
use Rattle.just_interaction.proofs.Paths.{runs_ends, runs_gives, runs_on, runs_stopped}
use Rattle.just_soundness.proofs.Constants.{AllConst, const_congruence}
use Rattle.just_soundness.proofs.ConstInternal.{IsOther}
use Rattle.just_soundness.proofs.Final.{AllFinal}
use Rattle.just_soundness.proofs.Forms.{IsCongruence, equality, related_bind}
use Rattle.just_soundness.proofs.Here.{all_such, line_const, line_final, line_never, same_line}
use Rattle.just_soundness.proofs.Refused.{AllRefused, refused_congruence}
use Rattle.just_meaning.specs.Internal.{IsFinal}
use Rattle.just_eval.specs.Commands.{Joined, commands_after}
use Rattle.just_eval.specs.declared.evaluator.Evaluator.{Evaluator}
use Rattle.just_eval.proofs.Here.{IsMadeOf}
use Rattle.just_eval.proofs.Module.{front}

-- Commands are related if the lines are, whatever is joined before them.
related_commands : (R : (A : Type 0) → Tree A → Tree A → Type 0) → IsCongruence R → (means other : Expr → Tree Value)
    → (P : Expr → Type 0)
    → ((continues : Bool) (l : List Fragment) → AllByRecursion P (line_expressions l) → R Text (line means continues l) (line other continues l))
    → (j : Joined) (ls : List (List Fragment)) → AllByRecursion P (lines_expressions ls)
    → R (List Text) (commands_after means j ls) (commands_after other j ls)
related_commands R congruence means other P lined j [] h = congruence.gave _ _
related_commands R congruence means other P lined j (l ∷ ls) h =
    let both = (all_append P (line_expressions l) (lines_expressions ls)).0 h in
    related_bind R congruence (lined j.continues l both.0)
    (λ text. related_commands R congruence means other P lined (with_further_line j l text) ls both.1)

pub commands_made : (ls : List (List Fragment)) → IsMadeOf (λ means. commands means ls) (lines_expressions ls)
commands_made ls = record {
  same = λ means other h. related_commands (λ A t u. t ≡ u) equality means other _ (same_line means other) unjoined ls h;
  never = λ means h. related_commands (λ A t u. AllRefused IsOther t) (refused_congruence IsOther) means means _ (line_never means) unjoined ls h;
  final = λ means h. related_commands (λ A t u. AllFinal t) (refused_congruence IsFinal) means means (λ e. AllFinal (means e))
      (λ continues l all. line_final means continues l h) unjoined ls (all_such _ h (lines_expressions ls));
  const = λ P is_open means lists h. related_commands (λ A t u. AllConst P is_open t) (const_congruence P is_open) means means _
      (line_const P lists is_open means) unjoined ls h;
}

-- what lines mean, after those that are joined
abbrev commands_in : Evaluator → Joined → List Line → Tree (List Text)
commands_in e j ls = commands_after (dynamic_meaning e) j (map line_view ls)

-- Of these lines those from an index on are left, after those that are joined.
pub record LinesLeft {S : Type 0} (step : Step S) (e : Evaluator) (start : S) (ls : List Line) (i : ℕ) (here : S) (j : Joined) : Type 0 where
  pub rest : (o : Outcome (List Text)) (last : S) → Behaves (rules_of e) step unchecked here (commands_in e j (drop i ls)) o last
      → Behaves (rules_of e) step unchecked start (commands_in e unjoined ls) o last

module _ {S : Type 0} {step : Step S} {e : Evaluator} {start : S} {ls : List Line} where
  pub lines_start : LinesLeft step e start ls 0 start unjoined
  lines_start = record { rest = λ o last r. r }

  module _ {i : ℕ} {here : S} {j : Joined} (left : LinesLeft step e start ls i here j) where
    -- after the last line
    pub lines_end : length ls ≤ i → (o : Outcome (List Text)) → Behaves (rules_of e) step unchecked here (gives (commands_of j)) o here
        → Behaves (rules_of e) step unchecked start (commands_in e unjoined ls) o here
    lines_end over o r = left.rest o here (subst (λ gs. Behaves (rules_of e) step unchecked here (commands_in e j gs) o here) (sym (drop_all i ls over)) r)

    pub lines_all : length ls ≤ i → Behaves (rules_of e) step unchecked start (commands_in e unjoined ls) (Gave (commands_of j)) here
    lines_all over = lines_end over (Gave (commands_of j)) (runs_gives (commands_of j))

    pub lines_cut_off : length ls ≤ i → Behaves (rules_of e) step unchecked start (commands_in e unjoined ls) Stopped here
    lines_cut_off over = lines_end over Stopped (runs_stopped (gives (commands_of j)))

    module _ {l : Line} (fits : i < length ls) (is : l ≡ get_or ls i l) where
      abbrev first_line_text : Tree Text
      first_line_text = line (dynamic_meaning e) j.continues (line_view l)

      abbrev further_commands : Text → Tree (List Text)
      further_commands text = commands_in e (with_further_line j (line_view l) text) (drop (i + 1) ls)

      fronted : {o : Outcome (List Text)} {last : S} → Behaves (rules_of e) step unchecked here (bind first_line_text further_commands) o last
          → Behaves (rules_of e) step unchecked start (commands_in e unjoined ls) o last
      fronted {o = o} {last = last} r =
          let split = front line_view ls i l fits ∙ ap (λ g. line_view g ∷ map line_view (drop (i + 1) ls)) (sym is) in
          left.rest o last (subst (λ gs. Behaves (rules_of e) step unchecked here (commands_after (dynamic_meaning e) j gs) o last) (sym split) r)

      pub lines_next : {mid : S} (text : Text) → Behaves (rules_of e) step unchecked here first_line_text (Gave text) mid
          → LinesLeft step e start ls (i + 1) mid (with_further_line j (line_view l) text)
      lines_next text r = record { rest = λ o last q. fronted (runs_on first_line_text further_commands r q) }

      pub lines_ends : {new : S} (r : Option Refusal) → Behaves (rules_of e) step unchecked here first_line_text (without_value r) new
          → Behaves (rules_of e) step unchecked start (commands_in e unjoined ls) (without_value r) new
      lines_ends r q = fronted (runs_ends first_line_text further_commands r q)

      pub lines_cut : {new : S} (text : Text) → Behaves (rules_of e) step unchecked here first_line_text (Gave text) new
          → Behaves (rules_of e) step unchecked start (commands_in e unjoined ls) Stopped new
      lines_cut text r = fronted (runs_on first_line_text further_commands r (runs_stopped (further_commands text)))
