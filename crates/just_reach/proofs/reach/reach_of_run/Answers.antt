use Rattle.std.proofs.Common.{◌≡◌, ◌∙◌, List, [], ap, map}
use Rattle.just_reach.specs.Prelude.{PlainMember, assignment_view, function_view, is_referenced_in, members_of_values, members_view}
use Rattle.just_reach.proofs.Reaching.{reached_in_run, values_listed}
use Rattle.just_reach.proofs.reach.reach_of_run.Goals as goal

pub returns : goal.returns
returns c =
    let known = map function_view c.args.«module».now.functions in
    let all = map assignment_view c.args.«module».now.assignments in
    let is_referenced = is_referenced_in c.args.references in
    let starts : members_view c.add_values.new.all.items ≡ members_of_values known is_referenced [] all =
    c.in_ok-add_values.ensures ∙ ap (λ (ms : List PlainMember). members_of_values known is_referenced ms all) (ap members_view c.new-all.ensures.items) in
    record {
      exact = λ x.
          let walked = c.in_ok-add_bodies.ensures.exact x in
          let reached = reached_in_run known (members_view c.add_values.new.all.items) all is_referenced
          (λ y. rw starts (values_listed known is_referenced y all)) x in
          ((λ h. reached.0 (walked.0 h)), (λ r. walked.1 (reached.1 r)));
      begins = rw starts at c.in_ok-add_bodies.ensures.begins;
      once = rw starts at c.in_ok-add_bodies.ensures.once;
    }
