use Rattle.std.proofs.Common.{◌≡◌, ◌∙◌, ◌++◌, ◌∷◌, [], ℕ, List, ap, map, subst, sym}
use Rattle.std.specs.Cmp.Lexicographic.{slice_cmp}
use Rattle.std.specs.List.Sorted.{IsStrictlySortedBy}
use Rattle.std.specs.Ordering.{nat_cmp}
use Rattle.std.proofs.lemmas.List.{append_assoc, append-nil, map-append}
use Rattle.std.proofs.lemmas.List.Concat.{flat_map-append}
use Rattle.just_syntax.specs.declared.function_definition.FunctionDefinition.{FunctionDefinition}
use Rattle.just_resolve.specs.Prelude.{AreTaken, Function, IsRenumberedFunction, Pairwise, Text, Token, frames_view, function_view, parameter_numbers}
use Rattle.just_resolve.proofs.Appending.{map_map, pairwise_more, viewed_at_end}
use Rattle.just_resolve.proofs.Numbering.{taken_append}
use Rattle.just_resolve.proofs.renumbered.add_functions.Goals as goal

pub loop-function-preserved : goal.loop-function-preserved
loop-function-preserved c =
    let outer = frames_view c.args.outer.now in
    let start = c.args.free.now.next in
    let end = c.function_with_numbers.new.free.next in
    let w = c.loop-function.invariant in
    let key : Function → Text = λ f. f.name.lexeme in
    let all = c.args.functions.now in
    let f = function_view c.in-Some.function.now in
    let copy = c.in_ok-copy.copy in
    let g = function_view copy in
    let made = c.loop-function.made in
    let done = w.done in
    let rest = map function_view c.next.new.self in
    let left : map function_view c.loop-function.function-iterator ≡ f ∷ rest =
    ap (λ (xs : List FunctionDefinition). map function_view xs) c.in-Some.ensures.steps in
    let same : done ++ f ∷ rest ≡ map function_view all = ap (λ (xs : List Function). done ++ xs) (sym left) ∙ w.same in
    let name : key g ≡ key f = ap (λ (t : Token). t.lexeme) c.in_ok-copy.ensures.name in
    let keys : map (λ (h : FunctionDefinition). key (function_view h)) all ≡ map key (map function_view made) ++ key g ∷ map key rest =
    sym (map_map key function_view all) ∙ ap (map key) (sym same) ∙ map-append key done (f ∷ rest)
    ∙ ap (λ (ks : List Text). ks ++ key f ∷ map key rest) (sym w.keys)
    ∙ ap (λ (k : Text). map key (map function_view made) ++ k ∷ map key rest) (sym name) in
    let added : map function_view c.insert.new.self ≡ map function_view made ++ g ∷ [] =
    ap (map function_view) c.in_ok-insert.ensures.ok
    ∙ viewed_at_end key function_view made copy (map key rest)
    (subst (λ (ks : List Text). IsStrictlySortedBy (slice_cmp nat_cmp) ks) keys c.iter-function-items.ensures.in_order) in
    let numbers : parameter_numbers (map function_view made ++ g ∷ [])
    ≡ parameter_numbers (map function_view made) ++ map (λ (p : Token × ℕ). p.1) g.parameters =
    flat_map-append (λ (h : Function). map (λ (p : Token × ℕ). p.1) h.parameters) (map function_view made) (g ∷ [])
    ∙ ap (λ (ns : List ℕ). parameter_numbers (map function_view made) ++ ns) (append-nil (map (λ (p : Token × ℕ). p.1) g.parameters)) in record {
      done = done ++ f ∷ [];
      same = append_assoc done (f ∷ []) rest ∙ same;
      keys = ap (map key) added ∙ map-append key (map function_view made) (g ∷ []) ∙ ap (λ (ks : List Text). ks ++ key g ∷ []) w.keys
          ∙ ap (λ (k : Text). map key done ++ k ∷ []) name ∙ sym (map-append key done (f ∷ []));
      variables = λ t. c.in_ok-copy.ensures.names t ∙ w.variables t;
      pairs = λ others p. subst (λ (ms : List Function). Pairwise (IsRenumberedFunction others) (done ++ f ∷ []) ms) (sym added)
          (pairwise_more (IsRenumberedFunction others) done (map function_view made) f g (w.pairs others p)
          (c.in_ok-copy.ensures.function others (λ t. w.variables t ∙ p t)));
      taken = subst (λ (ms : List Function). AreTaken outer start (parameter_numbers ms) end) (sym added)
          (subst (λ (ns : List ℕ). AreTaken outer start ns end) (sym numbers)
          (taken_append outer start c.loop-function.free.next end (parameter_numbers (map function_view made))
          (map (λ (p : Token × ℕ). p.1) g.parameters) w.taken
          c.in_ok-copy.ensures.taken));
    }
