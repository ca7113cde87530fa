use Rattle.std.proofs.Common.{◌≡◌, List, [], map, string_bytes, option_map, None, Some, sym, ap, ◌∙◌, arith, rules}
use Rattle.std.proofs.lemmas.Bool.{eqb-true}
use Rattle.std.proofs.lemmas.List.{nil_from_length}
use Rattle.just_value.specs.Prelude.{Positional, Text, override_of, positional_view}
use Rattle.just_value.proofs.Cuts.{first_missed, first_split, first_next, override_push}
use Rattle.just_value.proofs.positional.Positional.add.Goals as goal

pub returns-in_ok-push-in-Some : goal.returns-in_ok-push-in-Some
returns-in_ok-push-in-Some c =
    let none : option_map string_bytes c.args.self.now.search_directory ≡ None = search rules in
    let empty : map string_bytes c.args.self.now.arguments.items ≡ [] =
    ap (map string_bytes)
    (nil_from_length c.args.self.now.arguments.items
    (omega (arith, eqb-true _ 0 (sym c.is_empty.ensures ∙ c.if-not-is_empty.false), c.args.self.now.arguments.ok.0))) in
    let cut = first_split 61 c.args.word.now c.in-Some.ensures.cases.0 c.in-Some.ensures.cases.1 (omega arith) c.in-Some.ensures.cases.2 in
    let here : override_of c.args.word.now ≡ Some (c.in-Some.name.now, c.in-Some.value.now) = rw (c.in-Some.ensures.cases.3, c.in-Some.ensures.cases.4) cut in
    let more = override_push string_bytes c.args.self.now.overrides.items c.push-in-Some.new.self.items c.in_ok-name-in-Some.name c.in_ok-value-in-Some.value
    c.in-Some.name.now c.in-Some.value.now c.in_ok-push-in-Some.ensures.items c.in_ok-name-in-Some.ensures.ok c.in_ok-value-in-Some.ensures.ok in
    sym (first_next (positional_view c.args.self.now) c.args.word.now (Some (c.in-Some.name.now, c.in-Some.value.now)) none empty here
    ∙ ap (λ (o : List (Text × Text)). let p : Positional = record (positional_view c.args.self.now) { overrides = o } in p) more)

pub returns-in-None : goal.returns-in-None
returns-in-None c =
    let none : option_map string_bytes c.args.self.now.search_directory ≡ None = search rules in
    let empty : map string_bytes c.args.self.now.arguments.items ≡ [] =
    ap (map string_bytes)
    (nil_from_length c.args.self.now.arguments.items
    (omega (arith, eqb-true _ 0 (sym c.is_empty.ensures ∙ c.if-not-is_empty.false), c.args.self.now.arguments.ok.0))) in
    let cut = first_missed 61 c.args.word.now (omega arith) c.in-None.ensures.cases in
    let e = first_next (positional_view c.args.self.now) c.args.word.now None none empty cut in
    rw e c.add_after_overrides.ensures
