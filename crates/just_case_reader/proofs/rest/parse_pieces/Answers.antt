use Rattle.std.proofs.Common.{[], map, ◌∙◌, sym, arith, rules}
use Rattle.std.proofs.lemmas.Str.Pattern.{split_once_first}
use Rattle.just_case_reader.specs.Prelude.{spaced_pieces}
use Rattle.just_case_reader.proofs.Names.{match_none, lent_more, names_none, lent_last, pieces_first, pieces_only}
use Rattle.just_case_reader.proofs.rest.parse_pieces.Goals as goal

pub returns-then-not-is_name : goal.returns-then-not-is_name
returns-then-not-is_name c =
    let parts = split_once_first 32 c.loop-name.rest.now c.split_once.result c.split_once.ensures.cases (omega arith) in
    let p = rw c.in-Some.is at parts in
    names_none (map (λ name. name.now) c.loop-name.names.items) c.in-Some.name.now (spaced_pieces c.loop-name.rest.now) (spaced_pieces c.in-Some.after.now)
    (spaced_pieces c.args.text.now) (pieces_first c.loop-name.rest.now c.in-Some.name.now c.in-Some.after.now p.0 p.1 p.2)
    (sym c.is_name.ensures ∙ c.if-not-is_name.true) c.loop-name.invariant.same

pub loop-name-preserved : goal.loop-name-preserved
loop-name-preserved c =
    let parts = split_once_first 32 c.loop-name.rest.now c.split_once.result c.split_once.ensures.cases (omega arith) in
    let p = rw c.in-Some.is at parts in
    let more = lent_more c.loop-name.names.items c.in-Some.name (spaced_pieces c.loop-name.rest.now) (spaced_pieces c.in-Some.after.now)
    (spaced_pieces c.args.text.now)
    (pieces_first c.loop-name.rest.now c.in-Some.name.now c.in-Some.after.now p.0 p.1 p.2) (sym c.is_name.ensures ∙ c.if-not-is_name.false)
    c.loop-name.invariant.same in
    record { text = search rules; same = rw c.in_ok-push.ensures.items more }

pub returns-then-not-is_name-2 : goal.returns-then-not-is_name-2
returns-then-not-is_name-2 c =
    let parts = split_once_first 32 c.loop-name.rest.now c.split_once.result c.split_once.ensures.cases (omega arith) in
    names_none (map (λ name. name.now) c.loop-name.names.items) c.loop-name.rest.now (spaced_pieces c.loop-name.rest.now) [] (spaced_pieces c.args.text.now)
    (pieces_only c.loop-name.rest.now (match_none _ c.split_once.result c.in_default.not-Some parts)) (sym c.is_name-2.ensures ∙ c.if-not-is_name-2.true)
    c.loop-name.invariant.same

pub returns : goal.returns
returns c =
    let parts = split_once_first 32 c.loop-name.rest.now c.split_once.result c.split_once.ensures.cases (omega arith) in
    let last = lent_last c.loop-name.names.items c.loop-name.rest (spaced_pieces c.loop-name.rest.now) (spaced_pieces c.args.text.now)
    (pieces_only c.loop-name.rest.now (match_none _ c.split_once.result c.in_default.not-Some parts)) (sym c.is_name-2.ensures ∙ c.if-not-is_name-2.false)
    c.loop-name.invariant.same in
    rw c.in_ok-push-2.ensures.items last
