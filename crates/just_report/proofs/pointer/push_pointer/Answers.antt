use Rattle.std.proofs.Common.{◌≡◌, ◌++◌, ap, arith, sym, ◌∙◌, string_bytes}
use Rattle.std.proofs.lemmas.Iterator.{YieldsList-from_chars}
use Rattle.std.proofs.lemmas.Iterator.Consumers.{YieldsList-end}
use Rattle.std.proofs.lemmas.List.{append-nil, map-id}
use Rattle.just_report.specs.Report.{pointer}
use Rattle.just_report.proofs.Pointers.{before_it, grown, in_it, marks_more, past_it, walk_more}
use Rattle.just_report.proofs.pointer.push_pointer.Goals as goal

pub loop-character-preserved-then-before-gt0 : goal.loop-character-preserved-then-before-gt0
loop-character-preserved-then-before-gt0 c =
    let so_far = c.loop-character.invariant in
    let one = before_it c.loop-character.before c.loop-character.left c.in-Some.character c.if-before-gt0.true in
    let more = marks_more c.args.start c.args.length c.loop-character.yielded c.in-Some.character c.loop-character.before c.loop-character.left so_far.1 in
    let left = walk_more c.args.start c.args.length c.loop-character.yielded c.in-Some.character c.loop-character.before c.loop-character.left so_far.1 in
    let pushed = rw c.columns.ensures at c.in_ok-push_repeated.ensures in (
      grown _ _ _ _ _ _ pushed so_far.0 (more ∙ ap (λ x. pointer c.args.start c.args.length c.loop-character.yielded ++ x) one.0),
      rw (c.saturating_sub-before.ensures, c.len_utf8.ensures.len) (left ∙ one.1),
    )

pub loop-character-preserved-then-left-gt0 : goal.loop-character-preserved-then-left-gt0
loop-character-preserved-then-left-gt0 c =
    let left = c.loop-character.left in
    let none : c.loop-character.before ≡ 0 = omega (arith, c.if-before-gt0.false) in
    let state = c.loop-character.invariant.1 ∙ ap (λ n. (n, left)) none in
    let one = in_it left c.in-Some.character c.if-left-gt0.true in
    let more = marks_more c.args.start c.args.length c.loop-character.yielded c.in-Some.character 0 left state in
    let after = walk_more c.args.start c.args.length c.loop-character.yielded c.in-Some.character 0 left state in
    let pushed = rw c.columns-then-left-gt0.ensures at c.in_ok-push_repeated-2.ensures in (
      grown _ _ _ _ _ _ pushed c.loop-character.invariant.0 (more ∙ ap (λ x. pointer c.args.start c.args.length c.loop-character.yielded ++ x) one.0),
      rw (none, c.saturating_sub-left.ensures, c.len_utf8-then-left-gt0.ensures.len) (after ∙ one.1),
    )

pub loop-character-preserved : goal.loop-character-preserved
loop-character-preserved c =
    let before : c.loop-character.before ≡ 0 = omega (arith, c.if-before-gt0.false) in
    let left : c.loop-character.left ≡ 0 = omega (arith, c.if-left-gt0.false) in
    let state = rw (before, left) at c.loop-character.invariant.1 in
    let one = past_it c.in-Some.character in
    let more = marks_more c.args.start c.args.length c.loop-character.yielded c.in-Some.character 0 0 state in
    let after = walk_more c.args.start c.args.length c.loop-character.yielded c.in-Some.character 0 0 state in
    let so_far = pointer c.args.start c.args.length c.loop-character.yielded in
    let same = more ∙ append-nil so_far in
    (c.loop-character.invariant.0 ∙ ap (λ x. string_bytes c.args.text.now ++ x) (sym same), rw (before, left) (after ∙ one.1))

pub returns : goal.returns
returns c =
    let all = YieldsList-end (YieldsList-from_chars c.args.line.now c.utf8.line cc) c.loop-character.yielded _ c.loop-character.yielded_by _ _ c.in-None.is
    c.next.ensures.steps in
    c.loop-character.invariant.0
    ∙ ap (λ cs. string_bytes c.args.text.now ++ pointer c.args.start c.args.length cs) (sym (map-id c.loop-character.yielded) ∙ all.0)
