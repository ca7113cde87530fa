use Rattle.std.proofs.Common.{◌≡◌, List, [], ◌∷◌, map, refl, ap₂, string_bytes}
use Rattle.std.specs.List.{AllZip}
use Rattle.std.specs.declared.string.String.{String}
use Rattle.just_syntax.specs.View.{pair_view}
use Rattle.just_host.proofs.recorded.env_copy.Goals as goal

copied : {A B : Type 0} (es fs : List (String A × String B))
    → AllZip (λ e f. (string_bytes f.0 ≡ string_bytes e.0) × (string_bytes f.1 ≡ string_bytes e.1)) es fs → map pair_view fs ≡ map pair_view es
copied [] [] h = refl
copied [] (f ∷ fs) h = absurd h
copied (e ∷ es) [] h = absurd h
copied (e ∷ es) (f ∷ fs) h = ap₂ (λ x xs. x ∷ xs) (ap₂ (λ x y. (x, y)) h.0.0 h.0.1) (copied es fs h.1)

pub returns : goal.returns
returns c = copied c.args.env.now.entries c.in_ok-clone.field-0.entries c.in_ok-clone.ensures.cases
