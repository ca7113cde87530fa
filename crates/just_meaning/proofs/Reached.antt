-- What expressions reach.
use Rattle.std.proofs.Common.{◌≡◌, ℕ, List, Some}
use Rattle.just_syntax.specs.Plain.{Text, Function, Expr}
use Rattle.just_syntax.specs.Occurrences.{CallOf}
use Rattle.just_meaning.specs.Reaches.{function_at, Occurs, Reaches, Here, Later}

-- what a reached function's body calls is reached
pub reaches_on : (functions : List Function) {e : Expr} {name further : Text} (f : Function) (n : ℕ) → Reaches functions e name
    → function_at functions name ≡ Some f → Occurs f.body (CallOf further n) → Reaches functions e further
reaches_on functions f n (Here {name = name} m h) found occurs = Later name m h f found (Here n occurs)
reaches_on functions f n (Later name m h g q r) found occurs = Later name m h g q (reaches_on functions f n r found occurs)
