use Rattle.std.proofs.Common.{◌≡◌, ◌≢◌, ◌∷◌, [], ◌++◌, false, map, string_bytes, length, Some, sym, ◌∙◌, arith, rules, refl}
use Rattle.std.proofs.lemmas.Bool.{eqb-true, eqb-false}
use Rattle.std.proofs.lemmas.List.{map_push}
use Rattle.just_value.specs.Prelude.{directory_and_tail, is_dots, tail_before}
use Rattle.just_value.proofs.Cuts.{last_missed, last_split, with_slash, without_slash, some_tail, no_tail}
use Rattle.just_value.proofs.positional.Positional.add_after_overrides.Goals as goal

pub returns-in_ok-push-in-Some : goal.returns-in_ok-push-in-Some
returns-in_ok-push-in-Some c =
    let dots : is_dots c.args.word.now ≡ false = search rules in
    let cut = last_split 47 c.args.word.now c.in-Some.ensures.cases.0 c.in-Some.ensures.cases.1 (omega arith) c.in-Some.ensures.cases.2 in
    let here : directory_and_tail c.args.word.now ≡ Some (c.in-Some.front.now ++ 47 ∷ [], c.in-Some.tail.now) =
    rw (c.in-Some.ensures.cases.3, c.in-Some.ensures.cases.4) cut in
    let filled : length c.in-Some.tail.now ≢ 0 = eqb-false _ 0 (sym c.is_empty.ensures ∙ c.if-not-is_empty.true) in
    let more : map string_bytes c.push.new.self.items ≡ tail_before c.in-Some.tail.now [] =
    rw (c.in_ok-push-in-Some.ensures.items, map_push, c.requires.no_argument, c.in_ok-from_str-in-Some.ensures.ok) (some_tail c.in-Some.tail.now filled) in
    sym (with_slash c.args.word.now c.in-Some.front.now c.in-Some.tail.now (string_bytes c.in_ok-directory-in-Some.field-0)
    (map string_bytes c.push.new.self.items) _ dots here c.in_ok-directory-in-Some.ensures more)

pub returns-else-not-is_empty : goal.returns-else-not-is_empty
returns-else-not-is_empty c =
    let dots : is_dots c.args.word.now ≡ false = search rules in
    let cut = last_split 47 c.args.word.now c.in-Some.ensures.cases.0 c.in-Some.ensures.cases.1 (omega arith) c.in-Some.ensures.cases.2 in
    let here : directory_and_tail c.args.word.now ≡ Some (c.in-Some.front.now ++ 47 ∷ [], c.in-Some.tail.now) =
    rw (c.in-Some.ensures.cases.3, c.in-Some.ensures.cases.4) cut in
    let empty : length c.in-Some.tail.now ≡ 0 = eqb-true _ 0 (sym c.is_empty.ensures ∙ c.if-not-is_empty.false) in
    sym (with_slash c.args.word.now c.in-Some.front.now c.in-Some.tail.now (string_bytes c.in_ok-directory-in-Some.field-0)
    (map string_bytes c.args.self.now.arguments.items) _ dots here c.in_ok-directory-in-Some.ensures
    (c.requires.no_argument ∙ no_tail c.in-Some.tail.now empty))

pub returns-in_ok-push-in-None : goal.returns-in_ok-push-in-None
returns-in_ok-push-in-None c =
    let dots : is_dots c.args.word.now ≡ false = search rules in
    let cut = last_missed 47 c.args.word.now (omega arith) c.in-None.ensures.cases in
    let more : map string_bytes c.push-in-None.new.self.items ≡ c.args.word.now ∷ [] =
    rw (c.in_ok-push-in-None.ensures.items, map_push, c.requires.no_argument, c.in_ok-from_str-in-None.ensures.ok) refl in
    sym (without_slash c.args.word.now (map string_bytes c.push-in-None.new.self.items) _ _ dots cut c.requires.no_directory more)
