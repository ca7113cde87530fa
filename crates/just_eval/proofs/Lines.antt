-- Evaluating the rest of a line.
use Rattle.std.proofs.Common.{◌≡◌, ℕ, ◌+◌, ◌<◌, ◌≤◌, Bool, false, List, [], ◌∷◌, ◌++◌, length, get_or, drop, map, ap, sym, subst, ◌∙◌, Option}
use Rattle.std.proofs.lemmas.List.{drop_all}
use Rattle.just_eval.specs.Prelude.{Behaves, Gave, Refusal, Step, Stopped, Text, Tree, bind, dynamic_meaning, fragment_view, gives, line, rules_of, unchecked}
use Rattle.just_eval.specs.Prelude.{without_value}
use Rattle.just_syntax.specs.declared.fragment.Fragment.{Fragment}
use Rattle.just_host.proofs.Left.{Left, left_all, left_cut, left_ends, left_next, left_none}
use Rattle.just_meaning.specs.Line.{fragment}
use Rattle.just_eval.specs.declared.evaluator.Evaluator.{Evaluator}
use Rattle.just_eval.proofs.Module.{front}

-- what fragments mean
abbrev fragments_of : Evaluator → Bool → List Fragment → Tree Text
fragments_of e continues gs = line (dynamic_meaning e) continues (map fragment_view gs)

-- Of these fragments those from an index on are left, after this text.
pub record LineLeft {S : Type 0} (step : Step S) (e : Evaluator) (start : S) (continued : Bool) (fs : List Fragment) (continues : Bool) (i : ℕ) (here : S)
    (made : Text) : Type 0 where
  pub rest : Left (rules_of e) step (fragments_of e continued fs) start (fragments_of e continues (drop i fs)) here made

module _ {S : Type 0} {step : Step S} {e : Evaluator} {start : S} {continued : Bool} {fs : List Fragment} where
  pub line_start : LineLeft step e start continued fs continued 0 start []
  line_start = record { rest = left_all (fragments_of e continued fs) }

  module _ {continues : Bool} {i : ℕ} {here : S} {made : Text} (left : LineLeft step e start continued fs continues i here made) where
    pub line_all : length fs ≤ i → Behaves (rules_of e) step unchecked start (fragments_of e continued fs) (Gave made) here
    line_all over =
        left_none (fragments_of e continued fs) made
        (subst (λ gs. Left (rules_of e) step (fragments_of e continued fs) start (fragments_of e continues gs) here made) (drop_all i fs over) left.rest)

    module _ {f : Fragment} (fits : i < length fs) (is : f ≡ get_or fs i f) where
      abbrev first_fragment : Tree Text
      first_fragment = fragment (dynamic_meaning e) continues (fragment_view f)

      fronted : Left (rules_of e) step (fragments_of e continued fs) start
          (bind first_fragment (λ text. bind (fragments_of e false (drop (i + 1) fs)) (λ rest. gives (text ++ rest)))) here made
      fronted = subst (λ gs. Left (rules_of e) step (fragments_of e continued fs) start (line (dynamic_meaning e) continues gs) here made)
          (front fragment_view fs i f fits ∙ ap (λ g. fragment_view g ∷ map fragment_view (drop (i + 1) fs)) (sym is)) left.rest

      pub line_next : {mid : S} (text : Text) → Behaves (rules_of e) step unchecked here first_fragment (Gave text) mid
          → LineLeft step e start continued fs false (i + 1) mid (made ++ text)
      line_next text r = record { rest = left_next (fragments_of e continued fs) first_fragment _ (λ text. text) made fronted text r }

      pub line_ends : {new : S} (r : Option Refusal) → Behaves (rules_of e) step unchecked here first_fragment (without_value r) new
          → Behaves (rules_of e) step unchecked start (fragments_of e continued fs) (without_value r) new
      line_ends r q = left_ends (fragments_of e continued fs) first_fragment _ (λ text. text) made fronted r q

      pub line_cut : {new : S} (text : Text) → Behaves (rules_of e) step unchecked here first_fragment (Gave text) new
          → Behaves (rules_of e) step unchecked start (fragments_of e continued fs) Stopped new
      line_cut text r = left_cut (fragments_of e continued fs) first_fragment _ (λ text. text) made fronted text r
