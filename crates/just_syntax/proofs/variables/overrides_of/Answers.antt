use Rattle.std.proofs.Common.{◌≡◌, List, Some, cond, map, string_bytes, nat_eq, ap, sym, ◌∙◌, option_map, rules}
use Rattle.std.specs.Map.{lookup}
use Rattle.just_syntax.specs.Prelude.{Assignment, assignment_view, number_named, pair_view}
use Rattle.just_syntax.proofs.Names.{given_more, known_on}
use Rattle.just_syntax.proofs.Tables.{map_cond}
use Rattle.just_syntax.proofs.variables.overrides_of.Goals as goal

pub loop-name-preserved : goal.loop-name-preserved
loop-name-preserved c =
    let assignments : List Assignment = map assignment_view c.args.assignments.now in
    let pair = c.loop-name-item.result in
    let i = c.loop-name.name-index in
    let k = c.in-Some.number in
    let known : number_named assignments (string_bytes pair.0) ≡ Some k = search rules in
    let same : string_bytes c.in_ok-from_str.field-0 ≡ string_bytes pair.1 = search rules in
    record {
      given = λ n.
          ap (option_map string_bytes) (c.in_ok-insert.ensures.updates.0 n)
          ∙ map_cond string_bytes (nat_eq k n) (Some c.in_ok-from_str.field-0) (lookup (nat_eq n) c.loop-name.overrides.entries)
          ∙ ap (λ text. cond (nat_eq k n) (Some text) (option_map string_bytes (lookup (nat_eq n) c.loop-name.overrides.entries))) same
          ∙ ap (cond (nat_eq k n) (Some (string_bytes pair.1))) (c.loop-name.invariant.given n)
          ∙ sym (given_more pair_view assignments c.args.pairs.now i pair k n (search rules) (search rules) known);
      known = known_on (λ p. string_bytes p.0) assignments c.args.pairs.now i pair k (search rules) (search rules) known c.loop-name.invariant.known;
    }
