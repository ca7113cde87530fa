use Rattle.std.proofs.Common.{◌≡◌, ◌++◌, ◌∙◌, map, true, false, sym, ap}
use Rattle.std.proofs.lemmas.Bool.{not-false, not-true}
use Rattle.std.proofs.lemmas.List.{map-append}
use Rattle.just_bench.specs.Prelude.{is_member, name_view, taken_view}
use Rattle.just_bench.proofs.Places.{known_place, new_place}
use Rattle.just_bench.proofs.taken.take_once.Goals as goal

pub returns-then-not-branch : goal.returns-then-not-branch
returns-then-not-branch c = λ rest.
    let seen = is_member c.args.seen.now in
    let known : seen c.args.number ≡ true = not-false (seen c.args.number) (sym c.in_ok-insert.ensures.new ∙ c.if-not-branch.true) in
    ap (λ xs. map taken_view c.args.taken.now.items ++ xs)
    (known_place rest (name_view c.args.name.now, c.args.number) seen (is_member c.insert.new.self) known c.in_ok-insert.ensures.members)

pub returns-in-Ok : goal.returns-in-Ok
returns-in-Ok c = λ rest.
    let seen = is_member c.args.seen.now in
    let fresh : seen c.args.number ≡ false = not-true (seen c.args.number) (sym c.in_ok-insert.ensures.new ∙ c.if-not-branch.false) in
    rw (c.in-Ok.ensures.items, map-append taken_view c.args.taken.now.items)
    (new_place (map taken_view c.args.taken.now.items) rest (name_view c.args.name.now, c.args.number) seen (is_member c.insert.new.self) fresh
    c.in_ok-insert.ensures.members)
