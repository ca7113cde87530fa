-- What values are to settings.
use Rattle.std.specs.Prelude.{◌≡◌, List, [], ◌∷◌, map, Option, Some, None, IfSome, IfNone, option_map}
use Rattle.std.proofs.Common.{◌∙◌, ap, refl, sym}
use Rattle.just_syntax.specs.Plain as plain
use Rattle.just_syntax.specs.Plain.{Expr, Token}
use Rattle.just_syntax.specs.View.{expression_interpreter_view, view, views}
use Rattle.just_syntax.specs.declared.expression.Expression.{Expression}
use Rattle.just_syntax.specs.declared.interpreter.Interpreter.{Interpreter}
use Rattle.just_expression_parser.specs.Machine.{expression_list}
use Rattle.just_parser.specs.Settings.{interpreter_of}

listed_views : (es : List Expression) → expression_list (views es) ≡ map view es
listed_views [] = refl
listed_views (e ∷ es) = ap (λ es. view e ∷ es) (listed_views es)

abbrev found_with : Expr → List Expr → Option (plain.Interpreter Expr)
found_with command arguments = Some (record { arguments = arguments; command = command })

-- a list is the command and the arguments that its elements are
pub interpreter_found : (es : List Expression) (t : Token) (found : Option (Interpreter Expression))
    → IfSome found (λ i. es ≡ i.command ∷ i.arguments.items) → IfNone found (es ≡ [])
    → option_map expression_interpreter_view found ≡ interpreter_of (plain.ListOf (views es) t)
interpreter_found es t (Some i) some none =
    ap (found_with (view i.command)) (sym (listed_views i.arguments.items)) ∙ sym (ap (λ es. interpreter_of (plain.ListOf (views es) t)) some)
interpreter_found es t None some none = sym (ap (λ es. interpreter_of (plain.ListOf (views es) t)) none)
