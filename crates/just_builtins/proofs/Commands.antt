-- Commands, and tests for existence.
use Rattle.std.proofs.Common.{◌≡◌, ◌<◌, Bool, true, false, nat_eq, if◌then◌else◌, List, [], ◌∷◌, Some, Result, Ok, Err, refl, sym, ap, subst, ◌∙◌, arith}
use Rattle.std.proofs.Common.{length, drop, map}
use Rattle.std.proofs.lemmas.Bool.Decides.{nat_tests}
use Rattle.just_builtins.specs.Prelude.{Answer, Answers, Asked, Asks, AsksOnce, Context, ExistsAt, Frames, Internal, IsReply, Step, Text, Value, argument_at}
use Rattle.just_builtins.specs.Prelude.{existence_answered, first, in_working_directory, says}
use Rattle.just_host.specs.Question.{command_question}
use Rattle.just_builtins.specs.Asking.{asks_existence, asks_shell, command_answered, shell_call}
use Rattle.just_builtins.specs.Reply.{Stops}
use Rattle.just_builtins.specs.declared.call_fault.CallFault.{CallFault}
use Rattle.just_builtins.specs.declared.call_fault.CallFault.TheVariants.{Message, OutOfMemory}
use Rattle.just_builtins.proofs.Calls.{asked_once, unasked}

-- the host is asked for a path that is not empty
pub existence_is : (c : Context) (truth : Bool → Value) (path : Text) (b : Bool) → b ≡ nat_eq (length path) 0 → b ≡ false
    → asks_existence c truth path ≡ Asks (ExistsAt (in_working_directory c path)) (existence_answered truth)
existence_is c truth [] b is other = absurd (cc)
existence_is c truth (x ∷ xs) b is other = refl

-- the host is asked for a command, except in a dry run
shell_is : (c : Context) (vs : List Value) (command : Text) → 0 < length vs → argument_at vs 0 ≡ command ∷ [] → c.fixed.config.dry_run ≡ false
    → asks_shell c (map first vs) ≡ Asks (command_question c.fixed c.environment [] command (Some (map first (drop 1 vs)))).blind command_answered
shell_is c [] command some is dry = absurd (omega arith)
shell_is c (v ∷ vs) command some is dry =
    ap (λ b. if b then says (shell_call (first v ∷ map first vs)) else Asks (command_question c.fixed c.environment [] (first v) (Some (map first vs))).blind
    command_answered) dry
    ∙ ap (λ w. Asks (command_question c.fixed c.environment [] (first w) (Some (map first vs))).blind command_answered) is

-- a stopped result is `OutOfMemory`
stops : (result : Result Value CallFault) → IsReply Stops result → result ≡ Err OutOfMemory
stops (Ok v) is = absurd (cc)
stops (Err (Message message)) is = absurd (cc)
stops (Err OutOfMemory) is = refl
stops (Err Internal) is = absurd is

module _ {S : Type 0} {step : Step S} where
  pub shell_asked : {old new : S} (shown : Frames) (c : Context) (vs : List Value) (command : Text) (words : List Text) (a : Answer)
      (result : Result Value CallFault)
      → 0 < length vs → argument_at vs 0 ≡ command ∷ [] → c.fixed.config.dry_run ≡ false → words ≡ map first (drop 1 vs)
      → AsksOnce step old (command_question c.fixed c.environment shown command (Some words)) a new → IsReply (command_answered a) result
      → Asked step old shown (asks_shell c (map first vs)) result new
  shell_asked {old = old} {new = new} shown c vs command words a result some is dry same taken gave =
      subst (λ r. Asked step old shown r result new) (sym (shell_is c vs command some is dry))
      (asked_once shown (command_question c.fixed c.environment [] command (Some (map first (drop 1 vs)))).blind command_answered a result
      (subst (λ ws. AsksOnce step old (command_question c.fixed c.environment shown command (Some ws)) a new) same taken) gave
      (λ none. stops result (subst (λ x. IsReply (command_answered x) result) none gave)))

  -- in a dry run nothing is asked
  pub shell_unasked : {h : S} (shown : Frames) (c : Context) (vs : List Value) (result : Result Value CallFault) → 0 < length vs → c.fixed.config.dry_run ≡ true
      → IsReply (says (shell_call (map first vs))) result → Asked step h shown (asks_shell c (map first vs)) result h
  shell_unasked shown c [] result some dry gave = absurd (omega arith)
  shell_unasked shown c (v ∷ vs) result some dry gave = rw dry (unasked shown (says (shell_call (map first (v ∷ vs)))) result gave)

  -- the host is not asked for the empty path
  pub existence_unasked : {h : S} (shown : Frames) (c : Context) (truth : Bool → Value) (path : Text) (b : Bool) (result : Result Value CallFault)
      → b ≡ nat_eq (length path) 0 → b ≡ true → IsReply (Answers (truth false)) result → Asked step h shown (asks_existence c truth path) result h
  existence_unasked shown c truth [] b result is empty gave = unasked shown (Answers (truth false)) result gave
  existence_unasked shown c truth (x ∷ xs) b result is empty gave = let full : nat_eq (length (x ∷ xs)) 0 ≡ false = grind (arith, nat_tests) in absurd (cc)
