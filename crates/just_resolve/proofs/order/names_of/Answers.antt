use Rattle.std.proofs.Common.{◌≡◌, ◌∙◌, ◌+◌, ◌++◌, ◌∷◌, [], ℕ, List, Some, None, IfSome, ap, false, is_some, map, option_map, subst, sym, take, true}
use Rattle.std.specs.Option.{option_copied}
use Rattle.just_resolve.specs.Prelude.{HasNames, IsNameOf, Token, assignment_view, name_numbered, name_view}
use Rattle.just_resolve.proofs.Indexing.{item_in, names_more, taken_plain, number_named_there}
use Rattle.just_resolve.proofs.order.names_of.Goals as goal

pub loop-number-preserved-in_default : goal.loop-number-preserved-in_default
loop-number-preserved-in_default c =
    let numbers = c.args.numbers.now in
    let n = c.number-item.result in
    let names = c.in_ok-by_number.by_number in
    let none : name_numbered names n ≡ None = ap (option_map name_view) (sym c.get.ensures.value ∙ ap option_copied c.in_default.is) in
    let some : is_some (name_numbered names n) ≡ true =
    number_named_there (map assignment_view c.args.assignments.now) names n c.in_ok-by_number.ensures.known
    (c.requires n (item_in numbers c.loop-number.number-index n c.loop-number-test.true c.number-item.is)) in
    absurd (let bad : false ≡ true = ap is_some (sym none) ∙ some in cc)

pub loop-number-preserved : goal.loop-number-preserved
loop-number-preserved c =
    let all = map assignment_view c.args.assignments.now in
    let numbers = c.args.numbers.now in
    let i = c.loop-number.number-index in
    let n = c.number-item.result in
    let name = name_view c.in-Some.name.now in
    let names = c.in_ok-by_number.by_number in
    let found : name_numbered names n ≡ Some name = ap (option_map name_view) (sym c.in-Some.ensures.value) in
    let is : IsNameOf all n name = subst (λ o. IfSome o (IsNameOf all n)) found (c.in_ok-by_number.ensures.named n) in
    let more : take (i + 1) numbers ≡ take i numbers ++ n ∷ [] = taken_plain numbers i n c.loop-number-test.true c.number-item.is in
    subst (λ (ns : List ℕ). HasNames all ns (map name_view c.add_name.new.names.items)) (sym more)
    (subst (λ (ts : List Token). HasNames all (take i numbers ++ n ∷ []) ts) (sym c.in_ok-add_name.ensures)
    (names_more all (take i numbers) (map name_view c.loop-number.names.items) n name c.loop-number.invariant is))
