-- The output of two runs.
use Rattle.std.proofs.Common.{◌≡◌, ℕ, List, [], ◌++◌, Option, Some, None, Result, Ok, Err, IfOk, ap, ◌∙◌, subst, append_assoc}
use Rattle.just_bench.specs.Prelude.{Added, BlocksPrints, BothPrint, BothResolvedPrint, Case, Compared, FirstRefused, Frames, MadeOf, Module, OrderPrints}
use Rattle.just_bench.specs.Prelude.{RunResult, ScriptedHost, SecondRefused, Step, Text, Token, agree, agreement_line, case_module, case_script, in_order}
use Rattle.just_bench.specs.Prelude.{script_view, without_answers}

module _ {S : Type 0} {step : Step S} {one_host : S} {first : Module} {outer : Frames} where
  pub first_refused : {other_host : S} {second : Module} (old new : Text) → Added old new (λ printed. OrderPrints step one_host first outer printed None)
      → Added old new (λ printed. BothPrint step one_host other_host first second outer printed 2)
  first_refused old new one = record { printed = one.printed; after = one.after; is = FirstRefused one.is }

  module _ {other_host : S} (m other : Module) (second : List Token) (same : in_order other [] ≡ in_order m []) (one : RunResult) (old mid new : Text)
      (first_added : Added old mid (λ printed. OrderPrints step one_host first outer printed (Some one))) where
    moved : (printed : Text) (found : Option RunResult) → OrderPrints step other_host (in_order other second) outer printed found
        → OrderPrints step other_host (in_order m second) outer printed found
    moved printed found prints = subst (λ m. OrderPrints step other_host (in_order m second) outer printed found) same prints

    pub second_refused : Added mid new (λ printed. OrderPrints step other_host (in_order other second) outer printed None)
        → Added old new (λ printed. BothPrint step one_host other_host first (in_order m second) outer printed 2)
    second_refused added = record {
      printed = first_added.printed ++ added.printed;
      after = added.after ∙ ap (λ mid. mid ++ added.printed) first_added.after ∙ append_assoc old first_added.printed added.printed;
      is = SecondRefused first_added.is (moved added.printed None added.is);
    }

    pub compared : (two : RunResult) (last : Text) → Added mid new (λ printed. OrderPrints step other_host (in_order other second) outer printed (Some two))
        → last ≡ new ++ agreement_line (agree one two)
        → Added old last (λ printed. BothPrint step one_host other_host first (in_order m second) outer printed 0)
    compared two last added is =
        let line = agreement_line (agree one two) in
        record {
          printed = first_added.printed ++ (added.printed ++ line);
          after = is ∙ ap (λ new. new ++ line) added.after ∙ append_assoc mid added.printed line ∙ ap (λ mid. mid ++ (added.printed ++ line)) first_added.after
              ∙ append_assoc old first_added.printed (added.printed ++ line);
          is = Compared first_added.is (moved added.printed (Some two) added.is);
        }

-- the output for a case, given that of its module's two runs with hosts around its own
pub blocks_printed : {E S : Type 0} (step : Step S) (gives : ScriptedHost → S → Type 0) (c rest : Case) (second : List Token) (outer : Frames)
    (one other : ScriptedHost) (one_made other_made one_old other_old : S) (m : Module) (a b : Text) (result : Result ℕ E)
    → script_view one ≡ case_script c → gives one one_made → one_old ≡ one_made → script_view other ≡ case_script c → gives other other_made
    → other_old ≡ other_made → rest ≡ without_answers c → m ≡ case_module rest
    → IfOk result (λ status. Added a b (λ printed. BothResolvedPrint step one_old other_old m (in_order m second) outer printed status))
    → IfOk result (λ status. Added a b (λ printed. BlocksPrints step (MadeOf gives) c second outer printed status))
blocks_printed step gives c rest second outer one other one_made other_made one_old other_old m a b (Err e) one_says one_given one_same other_says other_given
    other_same without is printed = tt
blocks_printed step gives c rest second outer one other one_made other_made one_old other_old m a b (Ok status) one_says one_given one_same other_says
    other_given other_same without is p = record {
      printed = p.printed;
      after = p.after;
      is = record {
        one_host = one_made;
        other_host = other_made;
        one_starts = (one, one_says, one_given);
        other_starts = (other, other_says, other_given);
        prints = subst (λ h. BothResolvedPrint step h other_made (case_module c) (in_order (case_module c) second) outer p.printed status) one_same
            (subst (λ h. BothResolvedPrint step one_old h (case_module c) (in_order (case_module c) second) outer p.printed status) other_same
            (subst (λ n. BothResolvedPrint step one_old other_old n (in_order n second) outer p.printed status) (is ∙ ap case_module without) p.is));
      };
    }
