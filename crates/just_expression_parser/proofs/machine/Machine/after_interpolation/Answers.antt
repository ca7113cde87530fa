use Rattle.std.proofs.Common.{[], Some, ap, map, sym, ◌++◌, ◌≡◌, ◌∙◌, ◌∷◌, arith, length}
use Rattle.std.proofs.lemmas.List.{map_push}
use Rattle.std.proofs.lemmas.Result.{IfErr-weaker}
use Rattle.just_syntax.specs.Plain.{Expr, Literal}
use Rattle.just_syntax.specs.View.{literal_view, piece_view, token_view, view}
use Rattle.just_expression_parser.proofs.Interpolations.{middle_here, middle_refused, refused_by, text_of}
use Rattle.just_expression_parser.proofs.Steps.{goes_on}
use Rattle.just_expression_parser.specs.Literal.{middle_of_format}
use Rattle.just_expression_parser.specs.Machine as machine
use Rattle.just_expression_parser.specs.Parsed.{IsRefused, goes, left, style_view, tokens, waiting}
use Rattle.just_expression_parser.proofs.machine.Machine.after_interpolation.Goals as goal

-- another interpolation comes
pub returns-in-Ok : goal.returns-in-Ok
returns-in-Ok c =
    let old = c.args.self.now in
    let rest = tokens c.take.new.self in
    let style = style_view c.args.style in
    let start = literal_view c.args.start in
    let before = map piece_view c.args.pieces.items in
    let token = token_view c.in-Some.token in
    let found = text_of c.middle_of_format-text.result c.in-Ok.pieces.items c.args.pieces.items c.args.value
    (λ t. middle_of_format style token.lexeme ≡ Some (literal_view t)) c.in-Ok.ensures.ok.1 c.middle_of_format-text.ensures.ok in
    let piece : Expr × Literal = (view c.args.value, literal_view found.0) in
    let all = ap (map piece_view) found.1 ∙ map_push piece_view c.args.pieces.items (c.args.value, found.0) in
    goes_on _ _ c.wait.result c.wait.new.self
    (ap (λ ps. machine.parse rest (machine.Expression 0) (machine.Interpolation (literal_view c.in-Ok.start) ps style ∷ waiting old)) all
    ∙ ap (λ s. machine.parse rest (machine.Expression 0)
    (machine.Interpolation (literal_view s) (before ++ piece ∷ []) style ∷ waiting old)) c.in-Ok.ensures.ok.0
    ∙ sym (middle_here start before style (view c.args.value) token (literal_view found.0) (left old) rest (waiting old) c.in-Some.ensures.some found.2))
    (omega (arith, ap length c.in-Some.ensures.some)) c.wait.ensures

pub returns-in-Err : goal.returns-in-Err
returns-in-Err c =
    let old = c.args.self.now in
    let start = literal_view c.args.start in
    let before = map piece_view c.args.pieces.items in
    let style = style_view c.args.style in
    let e = view c.args.value in
    let whole = (goes old (machine.Done e) (machine.Interpolation start before style ∷ [])).result in
    let refused = IfErr-weaker c.middle_of_format-text.result _ (IsRefused whole) (λ refusal so. middle_refused start before style e
    (token_view c.in-Some.token) (left old) (tokens c.take.new.self) (waiting old) refusal c.in-Some.ensures.some so)
    c.middle_of_format-text.ensures.refused in
    (tt, refused_by c.middle_of_format-text.result c.in-Err.refusal (IsRefused whole) c.in-Err.ensures.refused tt refused)
