use Rattle.std.proofs.Common.{ap, get_or, map, sym, take, ◌==◌, ◌∙◌}
use Rattle.std.proofs.lemmas.List.{length-map, map_push, take_more}
use Rattle.just_syntax.specs.View.{fragment_view, line_view}
use Rattle.just_parser.proofs.Trimmed.{with_full, without_empty}
use Rattle.just_parser.specs.Recipes.{trimmed}
use Rattle.just_parser.proofs.body.kept.Goals as goal
use Rattle.just_parser.proofs.body.kept.Goals.{else-not-is_empty, then-not-is_empty}

pub loop-index-preserved : goal.loop-index-preserved
loop-index-preserved c =
    let lines = c.args.lines.now in
    let i = c.loop-index.index in
    let line = get_or lines i c.index-lines-index.result in
    let before = map line_view (take i lines) in
    let seen = ap (map line_view) (take_more lines i c.index-lines-index.result c.loop-index-test.true) ∙ map_push line_view (take i lines) line in
    let size = c.is_empty.ensures ∙ ap (λ n. n == 0) (line.fragments.ok.0 ∙ sym (length-map line.fragments.items fragment_view)) in
    elim c.if-not-is_empty.branch [
      | then-not-is_empty w ↦
          rw w.kept-is (seen ∙ sym (with_full before (line_view line) (sym size ∙ w.if-not-is_empty.true)) ∙ sym (ap trimmed seen))
      | else-not-is_empty w ↦
          rw w.kept-is (c.loop-index.invariant ∙ sym (without_empty before (line_view line) (sym size ∙ w.if-not-is_empty.false)) ∙ sym (ap trimmed seen))
    ]
