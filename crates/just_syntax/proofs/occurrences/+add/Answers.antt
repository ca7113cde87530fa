use Rattle.std.proofs.Common.{◌≡◌, ◌∙◌, [], ◌∷◌, ◌++◌, ap, sym, subst, OnOk}
use Rattle.just_syntax.specs.Prelude.{CallAt, name_view, occurrences_view, occurring_in_row, views}
use Rattle.just_syntax.proofs.Rows.{count_views, occurring_call, occurring_format_string, occurring_list}
use Rattle.just_syntax.proofs.occurrences.+add.Goals as goal

pub add-returns-in-FormatString : goal.add-returns-in-FormatString
add-returns-in-FormatString t c = rw (c.in-FormatString.is, occurring_format_string, ← c.deref-in-FormatString.ensures.value) c.add_pieces.ensures

pub add-returns-in-Call : goal.add-returns-in-Call
add-returns-in-Call t c = rw (c.in-Call.is, occurring_call, ← c.deref-in-Call.ensures.value) c.add_call.ensures

pub add-returns-in-List : goal.add-returns-in-List
add-returns-in-List t c = rw (c.in-List.is, occurring_list, ← c.deref-in-List.ensures.value) c.add_row.ensures

pub add_call-returns : goal.add_call-returns
add_call-returns t c =
    let before = occurrences_view c.args.all.now.items in
    let call = c.in_ok-add_one_call.ensures ∙ ap (λ n. before ++ CallAt (name_view c.args.name.now) n ∷ []) (sym (count_views c.args.arguments.now)) in
    subst (λ os. OnOk c.add_row.result (occurrences_view c.add_row.new.all.items ≡ occurring_in_row os (views c.args.arguments.now))) call c.add_row.ensures
