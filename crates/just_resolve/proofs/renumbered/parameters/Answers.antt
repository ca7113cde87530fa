use Rattle.std.proofs.Common.{◌∙◌, ◌++◌, ◌∷◌, [], ℕ, List, ap, map, subst, sym, take}
use Rattle.std.proofs.lemmas.List.{map-append}
use Rattle.just_resolution.proofs.Sets.{taken_more as visited}
use Rattle.just_resolve.specs.Prelude.{AreTaken, Token, frames_view, parameter_view}
use Rattle.just_resolve.proofs.Numbering.{taken_more}
use Rattle.just_resolve.proofs.renumbered.parameters.Goals as goal

pub loop-name-preserved : goal.loop-name-preserved
loop-name-preserved c =
    let outer = frames_view c.args.outer.now in
    let start = c.args.free.now.next in
    let end = c.take.new.self.next in
    let old = map parameter_view c.loop-name.all.items in
    let given = c.args.parameters.now in
    let i = c.loop-name.name-index in
    let item = parameter_view c.loop-name-item.result in
    let n = c.in_ok-take.field-0 in
    let names = λ (ps : List (Token × ℕ)). map (λ (p : Token × ℕ). p.0) ps in
    let numbers = λ (ps : List (Token × ℕ)). map (λ (p : Token × ℕ). p.1) ps in
    let added = c.in_ok-add_pair.ensures in
    let more = visited parameter_view given i c.loop-name-item.result c.loop-name-test.true c.loop-name-item.is in record {
      names = ap names added ∙ map-append (λ (p : Token × ℕ). p.0) old ((item.0, n) ∷ []) ∙ ap (λ xs. xs ++ item.0 ∷ []) c.loop-name.invariant.names
          ∙ sym (ap names more ∙ map-append (λ (p : Token × ℕ). p.0) (map parameter_view (take i given)) (item ∷ []));
      taken = subst (λ ps. AreTaken outer start (numbers ps) end) (sym added)
          (subst (λ ns. AreTaken outer start ns end) (sym (map-append (λ (p : Token × ℕ). p.1) old ((item.0, n) ∷ [])))
          (taken_more outer start c.loop-name.free.next n end (numbers old) c.loop-name.invariant.taken c.in_ok-take.ensures.first c.in_ok-take.ensures.next));
    }
