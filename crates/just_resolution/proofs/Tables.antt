-- Look-ups in tables.
use Rattle.std.proofs.Common.{◌≡◌, ℕ, nat_eq, length, List, map, Option, Some, Bor, sym, ap, ◌∙◌, option_map}
use Rattle.std.proofs.lemmas.List.{length-map}
use Rattle.just_resolution.specs.Prelude.{Assignment, Function, Text, accepts, assignment_view, defined_or, function_view, parameter_view}
use Rattle.just_resolution.specs.Prelude.{value_at}
use Rattle.just_syntax.specs.declared.assignment.Assignment as assignment
use Rattle.just_syntax.specs.declared.function_definition.FunctionDefinition.{FunctionDefinition}
use Rattle.just_meaning.proofs.Tables.{found_at}
use Rattle.just_meaning.specs.Callee.{Callee}

pub assignment_found : (name : Text) (vs : List assignment.Assignment) (r : Option (Bor assignment.Assignment))
    → option_map (λ v. v.now) r ≡ value_at (λ a. a.name.token.lexeme.now) name vs
    → value_at (λ a. a.name.lexeme) name (map assignment_view vs) ≡ option_map (λ v. assignment_view v.now) r
assignment_found name vs r is = found_at assignment_view (λ a. a.name.lexeme) name vs r is

pub assignment_seen : (text name : Text) (vs : List assignment.Assignment) (r : Option (Bor assignment.Assignment)) (o : Option (Bor assignment.Assignment))
    → text ≡ name → r ≡ o
    → option_map (λ v. v.now) r ≡ value_at (λ a. a.name.token.lexeme.now) text vs → value_at (λ a. a.name.lexeme) name (map assignment_view vs)
    ≡ option_map (λ v. assignment_view v.now) o
assignment_seen text name vs r o same is found =
    ap (λ (t : Text). value_at (λ (a : Assignment). a.name.lexeme) t (map assignment_view vs)) (sym same) ∙ assignment_found text vs r found
    ∙ ap (option_map (λ (v : Bor assignment.Assignment). assignment_view v.now)) is

-- whether a function that was found has this many parameters
pub accepts_found : (o : Option Function) (f : FunctionDefinition) (other : Callee) (k n : ℕ) → o ≡ Some (function_view f) → k ≡ length f.parameters.items
    → nat_eq k n ≡ accepts (defined_or o other) n
accepts_found o f other k n found is =
    ap (λ j. nat_eq j n) (is ∙ sym (length-map f.parameters.items parameter_view)) ∙ ap (λ p. accepts (defined_or p other) n) (sym found)
