use Rattle.std.proofs.Common.{ap, map, sym, ◌∙◌}
use Rattle.std.proofs.lemmas.List.{length-map}
use Rattle.just_syntax.specs.View.{recipe_parameter_view}
use Rattle.just_parser.specs.View.{arg_option_view, arg_view}
use Rattle.just_analyzer.proofs.Places.{changed, places_kept, within}
use Rattle.just_analyzer.specs.Outcome.{Grown}
use Rattle.just_analyzer.specs.Parameters.{at_place, parameter_place, with_options}
use Rattle.just_analyzer.specs.View.{place_in}
use Rattle.just_analyzer.proofs.parameters.apply.Goals as goal

pub index_mut-requires : goal.index_mut-requires
index_mut-requires c =
    let ps = map recipe_parameter_view c.args.parameters.now.items in
    let name = c.args.arg.parameter.cooked in
    let there = sym (c.requires name) ∙ ap (place_in c.args.places.now) (sym c.as_str.ensures) ∙ sym c.in-Some.ensures.value in
    rw c.args.parameters.now.ok.0 (rw (length-map c.args.parameters.now.items recipe_parameter_view) at (within name c.in-Some.place.now ps there))

pub returns-in-Some-clause-places : goal.returns-in-Some-clause-places
returns-in-Some-clause-places c = λ t.
    let xs = c.args.parameters.now.items in
    let ps = map recipe_parameter_view xs in
    let name = c.args.arg.parameter.cooked in
    let place = c.in-Some.place.now in
    let os = map arg_option_view c.args.arg.options.items in
    let there = sym (c.requires name) ∙ ap (place_in c.args.places.now) (sym c.as_str.ensures) ∙ sym c.in-Some.ensures.value in
    let less = rw (length-map xs recipe_parameter_view) at (within name place ps there) in
    let one = c.set_options.ensures ∙ ap (λ p. with_options (recipe_parameter_view p) os) c.index_mut.ensures.value in
    c.requires t ∙ sym (places_kept t place os ps)
    ∙ ap (parameter_place t) (sym (changed recipe_parameter_view xs place c.index_mut.result.now c.set_options.new.parameter os less one))

pub returns-in-Some-clause-ok : goal.returns-in-Some-clause-ok
returns-in-Some-clause-ok c =
    let xs = c.args.parameters.now.items in
    let ps = map recipe_parameter_view xs in
    let name = c.args.arg.parameter.cooked in
    let place = c.in-Some.place.now in
    let os = map arg_option_view c.args.arg.options.items in
    let there = sym (c.requires name) ∙ ap (place_in c.args.places.now) (sym c.as_str.ensures) ∙ sym c.in-Some.ensures.value in
    let less = rw (length-map xs recipe_parameter_view) at (within name place ps there) in
    let one = c.set_options.ensures ∙ ap (λ p. with_options (recipe_parameter_view p) os) c.index_mut.ensures.value in
    ap (at_place (arg_view c.args.arg) ps) there
    ∙ ap Grown (sym (changed recipe_parameter_view xs place c.index_mut.result.now c.set_options.new.parameter os less one))
