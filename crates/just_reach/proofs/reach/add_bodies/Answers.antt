use Rattle.std.proofs.Common.{arith, ◌≡◌, ◌∙◌, ◌+◌, ◌++◌, ◌∷◌, [], ap, drop, false, map, option_map, sym, Bor, IsTrue, None, Some}
use Rattle.std.proofs.lemmas.Bool.{not-false, not-true}
use Rattle.std.proofs.lemmas.List.{drop_all}
use Rattle.just_syntax.proofs.Lists.{rest_from}
use Rattle.just_syntax.specs.NameSet.{is_name_in}
use Rattle.just_reach.specs.Prelude.{Text, body_members, function_at, function_view, member_view, members_view, name_of_call}
use Rattle.just_reach.proofs.Listed.{body_appended}
use Rattle.just_meaning.proofs.Names.{name_added, no_name}
use Rattle.just_reach.proofs.Walk.{AreMembersWalked, begins, ends, goes_on, once, passes, repeats}
use Rattle.just_reach.proofs.Work.{falls, rest_added}
use Rattle.just_reach.proofs.reach.add_bodies.Goals.{In-Some, In_ok-add_body}
use Rattle.just_reach.proofs.reach.add_bodies.Goals as goal

-- the pending members begin with the next one
module _ (c : In-Some) where
  front : members_view (drop c.loop-next.next c.loop-next.all.items)
      ≡ member_view c.index.result.now ∷ members_view (drop (c.loop-next.next + 1) c.loop-next.all.items)
  front = rest_from member_view c.loop-next.all.items c.loop-next.next c.index.result.now (omega arith) c.index.ensures

  calls : name_of_call (member_view c.index.result.now) ≡ Some c.in-Some.name.now
  calls = sym c.called_name-name.ensures ∙ ap (option_map (λ (v : Bor Text). v.now)) c.in-Some.is

pub loop-next-init : goal.loop-next-init
loop-next-init c = begins _ _ (is_name_in c.new-called.result) (no_name c.new-called.result c.new-called.ensures.empty)

pub loop-next-preserved-in_default : goal.loop-next-preserved-in_default
loop-next-preserved-in_default c =
    let begins = rest_from member_view c.loop-next.all.items c.loop-next.next c.index.result.now (omega arith) c.index.ensures in
    let none : name_of_call (member_view c.index.result.now) ≡ None =
    sym c.called_name-name.ensures ∙ ap (option_map (λ (v : Bor Text). v.now)) c.in_default.is in
    passes (map function_view c.args.functions.now) (members_view c.args.all.now.items) (is_name_in c.loop-next.called) (members_view c.loop-next.all.items)
    (members_view (drop (c.loop-next.next + 1) c.loop-next.all.items)) (member_view c.index.result.now) (rw begins at c.loop-next.invariant) none

pub loop-next-preserved-then-not-is_new : goal.loop-next-preserved-then-not-is_new
loop-next-preserved-then-not-is_new c =
    let here = (goal.at.loop-next-preserved-then-not-is_new c).In-Some in
    let there : IsTrue (is_name_in c.loop-next.called c.in-Some.name.now) =
    not-false (is_name_in c.loop-next.called c.in-Some.name.now) (sym c.in_ok-is_new.ensures.added ∙ c.if-not-is_new.true) in
    repeats (map function_view c.args.functions.now) (members_view c.args.all.now.items) (is_name_in c.loop-next.called) (members_view c.loop-next.all.items)
    (members_view (drop (c.loop-next.next + 1) c.loop-next.all.items)) (member_view c.index.result.now) (rw (front here) at c.loop-next.invariant)
    (is_name_in c.insert.new.self) c.in-Some.name.now (calls here)
    (name_added c.loop-next.called c.insert.new.self c.in-Some.name c.in_ok-is_new.ensures.updates.0) there

-- the members in the body are added to all, and to the pending ones
module _ (c : In_ok-add_body) where
  all_added : members_view c.add_body.new.all.items ≡ members_view c.loop-next.all.items ++ body_members
      (map function_view c.args.functions.now) c.in-Some.name.now
  all_added =
      c.in_ok-add_body.ensures ∙ body_appended (map function_view c.args.functions.now)
      (function_at (map function_view c.args.functions.now) c.in-Some.name.now) (members_view c.loop-next.all.items)

  pending_added : members_view (drop (c.loop-next.next + 1) c.add_body.new.all.items)
      ≡ members_view (drop (c.loop-next.next + 1) c.loop-next.all.items) ++ body_members (map function_view c.args.functions.now) c.in-Some.name.now
  pending_added =
      rest_added member_view c.loop-next.all.items c.add_body.new.all.items (body_members (map function_view c.args.functions.now) c.in-Some.name.now)
      (c.loop-next.next + 1) all_added (omega arith)

pub loop-next-smaller : goal.loop-next-smaller
loop-next-smaller c =
    let at = goal.at.loop-next-smaller c in
    let out : is_name_in c.loop-next.called c.in-Some.name.now ≡ false =
    not-true (is_name_in c.loop-next.called c.in-Some.name.now) (sym c.in_ok-is_new.ensures.added ∙ c.if-not-is_new.false) in
    falls (map function_view c.args.functions.now) (is_name_in c.loop-next.called) (is_name_in c.insert.new.self) c.in-Some.name.now
    (name_added c.loop-next.called c.insert.new.self c.in-Some.name c.in_ok-is_new.ensures.updates.0) (member_view c.index.result.now)
    (members_view (drop c.loop-next.next c.loop-next.all.items)) (members_view (drop (c.loop-next.next + 1) c.loop-next.all.items))
    (members_view (drop (c.loop-next.next + 1) c.add_body.new.all.items)) out (front at.In-Some) (pending_added at.In_ok-add_body)

pub loop-next-preserved : goal.loop-next-preserved
loop-next-preserved c =
    let at = goal.at.loop-next-preserved c in
    let out : is_name_in c.loop-next.called c.in-Some.name.now ≡ false =
    not-true (is_name_in c.loop-next.called c.in-Some.name.now) (sym c.in_ok-is_new.ensures.added ∙ c.if-not-is_new.false) in
    rw (all_added at.In_ok-add_body, pending_added at.In_ok-add_body)
    (goes_on (map function_view c.args.functions.now) (members_view c.args.all.now.items) (is_name_in c.loop-next.called) (members_view c.loop-next.all.items)
    (members_view (drop (c.loop-next.next + 1) c.loop-next.all.items)) (member_view c.index.result.now) (rw (front at.In-Some) at c.loop-next.invariant)
    (is_name_in c.insert.new.self) c.in-Some.name.now (calls at.In-Some)
    (name_added c.loop-next.called c.insert.new.self c.in-Some.name c.in_ok-is_new.ensures.updates.0) out)

pub returns : goal.returns
returns c =
    let none : members_view (drop c.loop-next.next c.loop-next.all.items) ≡ [] =
    ap members_view (drop_all c.loop-next.next c.loop-next.all.items (omega arith)) in
    let known = map function_view c.args.functions.now in
    let walked : AreMembersWalked known (members_view c.args.all.now.items) (is_name_in c.loop-next.called) (members_view c.loop-next.all.items) [] =
    rw none at c.loop-next.invariant in
    record {
      exact = ends known (members_view c.args.all.now.items) (is_name_in c.loop-next.called) (members_view c.loop-next.all.items) walked;
      begins = walked.begun;
      once = once known (members_view c.args.all.now.items) (is_name_in c.loop-next.called) (members_view c.loop-next.all.items) walked;
    }
