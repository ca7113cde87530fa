-- The nodes of a graph.
use Rattle.std.proofs.Common.{◌≡◌, ◌⊎◌, inl, inr, ⊎_elim, ℕ, Bool, true, false, cond, is_some, List, [], ◌∷◌, map, Option, Some, None, Vec, refl}
use Rattle.std.proofs.Common.{ap, sym, nat_eq}
use Rattle.std.specs.HashMap.{HashMap}
use Rattle.std.specs.List.{flat_map}
use Rattle.std.specs.Map.{lookup}
use Rattle.std.specs.Str.{bytes_eq}
use Rattle.std.specs.declared.string.String.{String}
use Rattle.std.proofs.lemmas.Bool.{eqb-true}
use Rattle.std.proofs.lemmas.Slice.Eq.{bytes_eq-Decides}
use Rattle.just_syntax.proofs.Lists.{in_first, in_second}
use Rattle.just_needs.specs.declared.numbered.Valued.{Valued}
use Rattle.just_needs.specs.Prelude.{AreAll, Expr, Function, IsIn, OfFunction, OfVariable, PlainNode, Text, function_at, function_view, graph_nodes}
use Rattle.just_needs.specs.Prelude.{graph_view, nodes_in, read_by, read_by_body, read_in, text_numbered, unless_overridden, values_looked_up}
use Rattle.just_needs.specs.declared.graph.Graph.{Graph}

abbrev variables : Graph → List PlainNode
variables g = map (λ e. OfVariable e.0) g.numbered.entries

abbrev functions : Graph → List PlainNode
functions g = map (λ f. OfFunction f.name.lexeme) (map function_view g.functions.now)

-- a number that has no entry reads nothing
variable_known : {A : Type 0} (is_followed : ℕ → Bool) (es : List (ℕ × Vec Valued A)) (n : ℕ)
    → IsIn (map (λ e. OfVariable e.0) es) (OfVariable n) ⊎ (flat_map (nodes_in is_followed) (values_looked_up (lookup (nat_eq n) es)) ≡ [])
variable_known is_followed [] n = inr refl
variable_known is_followed (e ∷ es) n = by (nat_eq n e.0) refl (variable_known is_followed es n)
  where
    by : (b : Bool) → nat_eq n e.0 ≡ b
        → IsIn (map (λ e. OfVariable e.0) es) (OfVariable n) ⊎ (flat_map (nodes_in is_followed) (values_looked_up (lookup (nat_eq n) es)) ≡ [])
        → IsIn (map (λ e. OfVariable e.0) (e ∷ es)) (OfVariable n)
        ⊎ (flat_map (nodes_in is_followed) (values_looked_up (cond b (Some e.1) (lookup (nat_eq n) es))) ≡ [])
    by true is rest = inl (inl (ap OfVariable (sym (eqb-true n e.0 is))))
    by false is rest = ⊎_elim (λ h. inl (inr h)) (λ none. inr none) rest

-- a name that no function has reads nothing
function_known : (is_followed : ℕ → Bool) (fs : List Function) (t : Text)
    → IsIn (map (λ f. OfFunction f.name.lexeme) fs) (OfFunction t) ⊎ (read_by_body is_followed (function_at fs t) ≡ [])
function_known is_followed [] t = inr refl
function_known is_followed (f ∷ fs) t = by (bytes_eq t f.name.lexeme) refl (function_known is_followed fs t)
  where
    by : (b : Bool) → bytes_eq t f.name.lexeme ≡ b
        → IsIn (map (λ f. OfFunction f.name.lexeme) fs) (OfFunction t) ⊎ (read_by_body is_followed (function_at fs t) ≡ [])
        → IsIn (map (λ f. OfFunction f.name.lexeme) (f ∷ fs)) (OfFunction t) ⊎ (read_by_body is_followed (cond b (Some f) (function_at fs t)) ≡ [])
    by true is rest = inl (inl (ap OfFunction (sym ((bytes_eq-Decides t f.name.lexeme).0 is))))
    by false is rest = ⊎_elim (λ h. inl (inr h)) (λ none. inr none) rest

pub are_all : (g : Graph) → AreAll (read_by (graph_view g)) (graph_nodes g)
are_all g (OfVariable n) =
    ⊎_elim (λ h. inl (in_first (variables g) (functions g) (OfVariable n) h)) (λ none. inr none)
    (variable_known (graph_view g).is_followed g.numbered.entries n)
are_all g (OfFunction t) =
    ⊎_elim (λ h. inl (in_second (variables g) (functions g) (OfFunction t) h)) (λ none. inr none)
    (function_known (graph_view g).is_followed (map function_view g.functions.now) t)

-- the same if some of it is overridden
unless_known : {A : Type 0} (f : Expr → List PlainNode) (o : Option Text) (es : List Expr) → A ⊎ (flat_map f es ≡ [])
    → A ⊎ (flat_map f (unless_overridden o es) ≡ [])
unless_known f None es known = known
unless_known f (Some text) es known = inr refl

pub are_all_in : {A S : Type 0} (overrides : HashMap ℕ (String A) S) (g : Graph) → AreAll (read_in overrides g) (graph_nodes g)
are_all_in overrides g (OfVariable n) =
    unless_known (nodes_in (graph_view g).is_followed) (text_numbered overrides n) ((graph_view g).values n) (are_all g (OfVariable n))
are_all_in overrides g (OfFunction t) = are_all g (OfFunction t)

-- what is not overridden reads the same
pub read_unless : (o : Option Text) (f : Expr → List PlainNode) (es : List Expr) → o ≡ None → flat_map f (unless_overridden o es) ≡ flat_map f es
read_unless None f es none = refl
read_unless (Some text) f es none = let bad : Some text ≡ None = none in absurd (cc)

pub none_read : (o : Option Text) (f : Expr → List PlainNode) (es : List Expr) → is_some o ≡ true → flat_map f (unless_overridden o es) ≡ []
none_read None f es some = let bad : false ≡ true = some in absurd (cc)
none_read (Some text) f es some = refl
