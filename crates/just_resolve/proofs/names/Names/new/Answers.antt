use Rattle.std.proofs.Common.{◌∙◌, ◌++◌, ap, map}
use Rattle.std.specs.Option.{option_or}
use Rattle.just_resolve.specs.Prelude.{bound_names, first_named, frames_view, number_in, parameter_view}
use Rattle.just_resolve.proofs.Lookups.{looked_more, nothing_named}
use Rattle.just_resolve.proofs.names.Names.new.Goals as goal

pub returns-clause-named : goal.returns-clause-named
returns-clause-named c = λ t.
    let old = number_in c.new-all.result t in
    let ps = map parameter_view c.args.variables.now in
    let qs = bound_names (frames_view c.args.outer.now) in
    ap (λ o. option_or o (number_in c.add_scope.new.all t)) (nothing_named c.new.result.entries t c.new.ensures.empty)
    ∙ c.in_ok-add_scope.ensures t
    ∙ looked_more old (number_in c.add_pairs.new.all t) ps qs t (c.in_ok-add_pairs.ensures t)
    ∙ ap (λ o. option_or o (first_named (ps ++ qs) t)) (nothing_named c.new-all.result.entries t c.new-all.ensures.empty)
