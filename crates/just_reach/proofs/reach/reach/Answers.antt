use Rattle.std.proofs.Common.{◌≡◌, ◌∙◌, List, [], ap, map}
use Rattle.just_reach.specs.Prelude.{PlainMember, function_view, members, members_view, view}
use Rattle.just_reach.proofs.Listed.{listed}
use Rattle.just_reach.proofs.Reaching.{reached_by}
use Rattle.just_reach.proofs.reach.reach.Goals as goal

pub returns : goal.returns
returns c =
    let known = map function_view c.args.functions.now in
    let e = view c.args.expression.now in
    let starts : members_view c.add.new.all.items ≡ members known [] e =
    c.in_ok-add.ensures ∙ ap (λ (ms : List PlainMember). members known ms e) (ap members_view c.new-all.ensures.items) in
    record {
      exact = λ x.
          let walked = c.in_ok-add_bodies.ensures.exact x in
          let reached = reached_by known (members_view c.add.new.all.items) e (λ y. rw starts (listed known e y)) x in
          ((λ h. reached.0 (walked.0 h)), (λ r. walked.1 (reached.1 r)));
      begins = rw starts at c.in_ok-add_bodies.ensures.begins;
      once = rw starts at c.in_ok-add_bodies.ensures.once;
    }
