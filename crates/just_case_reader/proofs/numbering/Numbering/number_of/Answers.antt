use Rattle.std.proofs.Common.{◌≡◌, ◌∙◌, ℕ, List, Bor, BuildHasherDefault, FoldHasher, ap, rules}
use Rattle.std.specs.HashMap.{HashMap}
use Rattle.just_syntax.specs.declared.number.Number.{Number}
use Rattle.std.specs.HashMap.Entry.{map_with_value}
use Rattle.std.proofs.lemmas.Map.Text.{hash_map_updates_str}
use Rattle.just_case_reader.specs.Prelude.{KnownNames, number_of, numbering_view}
use Rattle.just_case_reader.proofs.Numbers.{numbered}
use Rattle.just_case_reader.proofs.numbering.Numbering.number_of.Goals as goal

pub returns-in-Ok-clause-number : goal.returns-in-Ok-clause-number
returns-in-Ok-clause-number c = rw (c.in-Ok.ensures.value, c.new-next.ensures, c.len.ensures.len) at c.or_insert.ensures.value

-- the map that is left is what the entry wrote
written : (left put : HashMap (Bor (List ℕ)) Number (BuildHasherDefault FoldHasher)) (names : KnownNames) → left ≡ put
    → numbering_view (record { numbers = put }) ≡ names → numbering_view (record { numbers = left }) ≡ names
written left put names same is = ap (λ numbers. numbering_view (record { numbers = numbers })) same ∙ is

pub returns-in-Ok-clause-ok : goal.returns-in-Ok-clause-ok
returns-in-Ok-clause-ok c =
    let names = numbering_view c.args.self.now in
    let number = c.or_insert.result.now in
    let given : number ≡ number_of names c.args.name.now =
    rw (c.in-Ok.ensures.value, c.new-next.ensures, c.len.ensures.len) at c.or_insert.ensures.value in
    let put = hash_map_updates_str c.args.name.now c.args.self.now.numbers (map_with_value c.in-Ok.entry number) _ (c.in-Ok.ensures.update.0 number) in
    let numbers = map_with_value c.in-Ok.entry number in
    let counted = rw (c.in-Ok.ensures.value) at (c.in-Ok.ensures.len number) in
    let whole = numbered names c.args.name.now _ _ number given put counted in
    let at = λ (left : HashMap (Bor (List ℕ)) Number (BuildHasherDefault FoldHasher)) (same : left ≡ numbers). written left numbers _ same whole in
    search (rules, at)
