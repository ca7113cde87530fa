use Rattle.std.proofs.Common.{[], ap, map, sym, ◌++◌, ◌∙◌, ◌∷◌, arith, length, suc, ◌≡◌}
use Rattle.std.proofs.lemmas.List.{map_push}
use Rattle.std.proofs.lemmas.Result.{IfErr-weaker}
use Rattle.just_syntax.specs.Plain as plain
use Rattle.just_syntax.specs.Plain.{Expr, Literal}
use Rattle.just_syntax.specs.View.{literal_view, piece_view, view}
use Rattle.just_expression_parser.proofs.Interpolations.{last_here, last_refused, last_taken, pieces_seen, refused_by, text_of}
use Rattle.just_expression_parser.specs.Machine as machine
use Rattle.just_expression_parser.specs.Parsed.{IsLastText, IsRefused, goes, left, style_view, waiting}
use Rattle.just_expression_parser.specs.declared.machine.Machine.{Machine}
use Rattle.just_expression_parser.proofs.machine.Machine.after_last_interpolation.Goals as goal

-- the format string is read
pub returns-in-Ok : goal.returns-in-Ok
returns-in-Ok c no_more =
    let old = c.args.self.now in
    let new : Machine = record { alloc = old.alloc; cursor = c.last_text-text.new.cursor; frames = old.frames } in
    let style = style_view c.args.style in
    let before = map piece_view c.args.pieces.items in
    let found = text_of c.last_text-text.result c.in-Ok.pieces.items c.args.pieces.items c.args.value
    (λ t. IsLastText style (left old) (literal_view t) (left new)) c.in-Ok.ensures.ok.1 c.last_text-text.ensures.ok in
    let less : length (left old) ≡ suc (length (left new)) = last_taken style (left old) (literal_view found.0) (left new) found.2 in
    let piece : Expr × Literal = (view c.args.value, literal_view found.0) in
    let all = ap (map piece_view) found.1 ∙ map_push piece_view c.args.pieces.items (c.args.value, found.0) in
    let made = c.format_string.ensures ∙ ap (plain.FormatString (literal_view c.in-Ok.start)) (pieces_seen c.in-Ok.pieces.items ∙ ap machine.format_pieces all)
    ∙ ap (λ s. plain.FormatString (literal_view s) (machine.format_pieces (before ++ piece ∷ []))) c.in-Ok.ensures.ok.0 in (
      (
        ap (λ e. (goes new (machine.Done e) []).result) made
            ∙ sym (last_here (literal_view c.args.start) before style (view c.args.value) (literal_view found.0) (left old) (left new) (waiting old) found.2),
        omega (arith, less),
      ),
      tt,
    )

pub returns-in-Err : goal.returns-in-Err
returns-in-Err c no_more =
    let old = c.args.self.now in
    let start = literal_view c.args.start in
    let before = map piece_view c.args.pieces.items in
    let style = style_view c.args.style in
    let e = view c.args.value in
    let refused = IfErr-weaker c.last_text-text.result _ (IsRefused (goes old (machine.Done e) (machine.Interpolation start before style ∷ [])).result)
    (λ refusal so. last_refused start before style e (left old) (waiting old) refusal no_more so) c.last_text-text.ensures.refused in (
      tt,
      refused_by c.last_text-text.result c.in-Err.refusal (IsRefused (goes old (machine.Done e) (machine.Interpolation start before style ∷ [])).result)
          c.in-Err.ensures.refused tt refused,
    )
