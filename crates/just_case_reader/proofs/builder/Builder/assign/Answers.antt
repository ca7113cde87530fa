use Rattle.std.proofs.Common.{◌≡◌, false, [], ◌∷◌, ◌++◌, map, refl, ap, ◌∙◌}
use Rattle.std.proofs.lemmas.List.{map-append}
use Rattle.just_case_reader.specs.Prelude.{name_view, number_of, numbering_view, token_of, view, with_value}
use Rattle.just_syntax.specs.View.{assignment_view}
use Rattle.just_syntax.specs.declared.assignment.Assignment.{Assignment}
use Rattle.just_case_reader.specs.Reading.{assigned_name}
use Rattle.just_case_reader.proofs.Counts.{seen_in}
use Rattle.just_case_reader.proofs.Stacks.{done_new}
use Rattle.just_syntax.proofs.Maps.{seen_with}
use Rattle.just_case_reader.proofs.builder.Builder.assign.Goals as goal

pub returns : goal.returns
returns c =
    let old = c.args.self.now.case in
    let a : Assignment = record {
      eager = false;
      export = c.args.export;
      name = c.name-name.result;
      number = c.in_ok-number.number;
      private = false;
      value = c.in_ok-value.value;
    } in
    let seen : assignment_view a ≡ record {
      eager = false;
      export = c.args.export;
      name = token_of c.args.lexeme.now;
      number = number_of (numbering_view c.args.self.now.numbering) c.args.lexeme.now;
      private = false;
      value = view c.in_ok-value.value;
    } =
    rw (c.name-name.ensures, c.in_ok-number.ensures.number) refl in
    let named = ap assigned_name seen in
    let was = seen_in assignment_view assigned_name (assigned_name (assignment_view a)) old.assignments in
    let ordered = ap (map name_view) c.in_ok-push.ensures.items ∙ map-append name_view old.evaluation_order.items (c.name-name.result ∷ [])
    ∙ ap (λ t. map name_view old.evaluation_order.items ++ t ∷ []) c.name-name.ensures in
    done_new c.insert_new.result _ _ c.insert_new.ensures.inserted c.insert_new.ensures.new c.insert_new.ensures.bad
    (λ inserted new.
    let assigned = ap (map assignment_view) inserted ∙ seen_with assignment_view assigned_name old.assignments a
    ∙ ap (with_value assigned_name (map assignment_view old.assignments)) seen in
    rw (rw (named) at (was ∙ new), c.in_ok-value.ensures.ok, assigned, ordered, c.in_ok-number.ensures.ok) refl)
    (λ there. rw (rw (named) at (was ∙ there)) refl)
