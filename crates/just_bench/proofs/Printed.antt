-- The output of a run.
use Rattle.std.proofs.Common.{◌≡◌, ◌↔◌, ℕ, Bool, IsTrue, List, [], ◌∷◌, ◌++◌, Result, Ok, Err, IfOk, OnOk, append_assoc, refl, subst, ◌∙◌, ap}
use Rattle.just_bench.specs.Prelude.{Added, Behaves, Case, CaseRuns, Frames, IsResolvedModule, Kept, MadeOf, Module, Outcome, RunPrints, ScriptedHost, Step}
use Rattle.just_bench.specs.Prelude.{Text}
use Rattle.just_bench.specs.Prelude.{case_module, case_script, dynamically, freely, lexically, outcome_lines, question_lines, recording, run, script_view}
use Rattle.just_bench.specs.Prelude.{status_of, unchecked, unresolved_line, without_answers}

-- three texts in a row
pub three : (a b c d x y z : Text) → b ≡ a ++ x → c ≡ b ++ y → d ≡ c ++ z → d ≡ a ++ (x ++ (y ++ z))
three a b c d x y z p q r = r ∙ ap (λ t. t ++ z) (q ∙ ap (λ t. t ++ y) p) ∙ append_assoc (a ++ x) y z ∙ append_assoc a x (y ++ z)

-- the output of a run, by its parts
pub run_printed : {E S : Type 0} (step : Step S) (old : S) (m : Module) (outer : Frames) (resolved : Bool) (kept : List Kept) (outcome : Outcome Frames)
    (new : S) (asked : List Kept) (a b c d : Text) (result : Result ℕ E)
    → (IsTrue resolved ↔ IsResolvedModule m outer)
    → (IsResolvedModule m outer
    → Behaves freely (recording step) unchecked (old, []) (run lexically m ([] ∷ outer) m.assignments.order) outcome (new, kept))
    → Behaves freely (recording step) unchecked (old, []) (run dynamically m ([] ∷ outer) m.assignments.order) outcome (new, kept)
    → b ≡ a ++ unresolved_line resolved → c ≡ b ++ question_lines asked → asked ≡ kept → OnOk result (d ≡ c ++ outcome_lines outcome)
    → IfOk result (λ status. status ≡ status_of outcome)
    → IfOk result (λ status. Added a d (λ printed. RunPrints step old m outer printed status))
run_printed step old m outer resolved kept outcome new asked a b c d (Err e) test lexical dynamic p q same r ends = tt
run_printed step old m outer resolved kept outcome new asked a b c d (Ok status) test lexical dynamic p q same r ends = record {
  printed = unresolved_line resolved ++ (question_lines kept ++ outcome_lines outcome);
  after = three a b c d (unresolved_line resolved) (question_lines kept) (outcome_lines outcome) p (q ∙ ap (λ kept. b ++ question_lines kept) same) r;
  is = record {
    resolved = resolved;
    test = test;
    kept = kept;
    outcome = outcome;
    new = new;
    lexical = λ true. lexical (test.0 true);
    dynamic = dynamic;
    text = refl;
    ends = ends;
  };
}

-- the output for a case, given that of its module's run with a host around its own
pub case_printed : {E S : Type 0} (step : Step S) (gives : ScriptedHost → S → Type 0) (c rest : Case) (outer : Frames) (host : ScriptedHost) (made old : S)
    (m : Module) (a b : Text) (result : Result ℕ E)
    → script_view host ≡ case_script c → gives host made → old ≡ made → rest ≡ without_answers c → m ≡ case_module rest
    → IfOk result (λ status. Added a b (λ printed. RunPrints step old m outer printed status))
    → IfOk result (λ status. Added a b (λ printed. CaseRuns step (MadeOf gives) c outer printed status))
case_printed step gives c rest outer host made old m a b (Err e) says given same without is printed = tt
case_printed step gives c rest outer host made old m a b (Ok status) says given same without is p = record {
  printed = p.printed;
  after = p.after;
  is = record {
    host = made;
    starts = (host, says, given);
    prints = subst (λ h. RunPrints step h (case_module c) outer p.printed status) same
        (subst (λ n. RunPrints step old n outer p.printed status) (is ∙ ap case_module without) p.is);
  };
}
