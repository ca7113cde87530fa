use Rattle.std.proofs.Common.{◌≡◌, map, refl, ap, ◌∙◌}
use Rattle.just_case_reader.specs.Prelude.{numbering_view, parameters_with_numbers, token_of, view, with_value}
use Rattle.just_syntax.specs.View.{function_view}
use Rattle.just_syntax.specs.declared.function_definition.FunctionDefinition.{FunctionDefinition}
use Rattle.just_case_reader.specs.Reading.{defined_name}
use Rattle.just_case_reader.proofs.Counts.{seen_in}
use Rattle.just_case_reader.proofs.Stacks.{done_new}
use Rattle.just_syntax.proofs.Maps.{seen_with}
use Rattle.just_case_reader.proofs.builder.Builder.define.Goals as goal

pub returns : goal.returns
returns c = λ text are.
    let old = c.args.self.now.case.functions in
    let f : FunctionDefinition = record { body = c.in_ok-body.body; name = c.name.result; parameters = c.in_ok-parameters.parameters } in
    let seen : function_view f ≡ record {
      body = view c.in_ok-body.body;
      name = token_of c.args.lexeme.now;
      parameters = parameters_with_numbers (numbering_view c.args.self.now.numbering) (map (λ name. name.now) c.args.parameters.now);
    } =
    rw (c.name.ensures, c.in_ok-parameters.ensures.parameters) refl in
    let named = ap defined_name seen in
    let was = seen_in function_view defined_name (defined_name (function_view f)) old in
    done_new c.insert_new.result _ _ c.insert_new.ensures.inserted c.insert_new.ensures.new c.insert_new.ensures.bad
    (λ inserted new.
    let defined = ap (map function_view) inserted ∙ seen_with function_view defined_name old f ∙ ap (with_value defined_name (map function_view old)) seen in
    rw (are, rw (named) at (was ∙ new), c.in_ok-body.ensures.ok, defined, c.in_ok-parameters.ensures.ok, are) refl)
    (λ there. rw (are, rw (named) at (was ∙ there)) refl)
