use Rattle.std.proofs.Common.{ℕ, ap, map, subst, sym}
use Rattle.just_resolve.specs.Prelude.{AreTaken, Token, frames_view, parameter_view}
use Rattle.just_resolve.proofs.Numbering.{none_taken, taken_more}
use Rattle.just_resolve.proofs.Unused.{names_more, numbers_more}
use Rattle.just_resolve.proofs.free_numbers.numbers_from.Goals as goal

pub loop-name-init : goal.loop-name-init
loop-name-init c =
    let outer = frames_view c.args.outer.now in
    let start = c.args.free.next in record {
      names = ap (λ ps. map (λ (p : Token × ℕ). p.0) (map parameter_view ps)) c.in_ok-all.ensures.items;
      taken = subst (λ ps. AreTaken outer start (map (λ (p : Token × ℕ). p.1) (map parameter_view ps)) start) (sym c.in_ok-all.ensures.items)
          (none_taken outer start);
    }

pub loop-name-preserved : goal.loop-name-preserved
loop-name-preserved c =
    let outer = frames_view c.args.outer.now in
    let start = c.args.free.next in
    let end = c.take.new.self.next in
    let old = map parameter_view c.loop-name.all.items in
    let names = c.args.names.now in
    let i = c.loop-name.name-index in
    let n = c.in_ok-take.field-0 in
    let added = c.in_ok-add_pair.ensures in record {
      names = names_more names i _ old _ n added c.loop-name-test.true c.loop-name.invariant.names;
      taken = subst (λ ns. AreTaken outer start ns end) (sym (numbers_more names i _ old _ n added))
          (taken_more outer start c.loop-name.free.next n end (map (λ (p : Token × ℕ). p.1) old) c.loop-name.invariant.taken c.in_ok-take.ensures.first
          c.in_ok-take.ensures.next);
    }

pub returns-clause-free : goal.returns-clause-free
returns-clause-free c = c.loop-name.invariant.taken.free
