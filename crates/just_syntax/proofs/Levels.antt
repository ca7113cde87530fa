-- How many levels fit into a stack budget.
use Rattle.std.proofs.Common.{◌≡◌, ℕ, ◌*◌, ◌-◌, ◌<◌, ◌≤◌, Bool, true, false, IsTrue, max, suc, refl, ap, arith}
use Rattle.just_syntax.specs.declared.expression.Expression.TheViews as expressions
use Rattle.just_syntax.specs.Prelude.{Call, FormatString, ListOf, levels, levels_of_pieces, levels_of_row, piece_views, view, views}
use Rattle.just_syntax.specs.Plain.{Expr, And, Assert, AssertOnly, Backtick, Comparison, Concatenation, Conditional, ConditionalOnly, Group, Join, JoinOnly}
use Rattle.just_syntax.specs.Plain.{ListConcatenation, Not, Or, StringLiteral, Variable}
use Rattle.just_syntax.proofs.Rows.{view_call, view_format_string, view_list}

pub has_level : (e : Expr) → 1 ≤ levels e
has_level (And l r) = omega arith
has_level (Assert e m t) = omega arith
has_level (AssertOnly e t) = omega arith
has_level (Backtick text t) = omega arith
has_level (Call t es) = omega arith
has_level (Comparison l o r t) = omega arith
has_level (Concatenation l t r) = omega arith
has_level (Conditional e a b) = omega arith
has_level (ConditionalOnly e a) = omega arith
has_level (FormatString start pieces) = omega arith
has_level (Group e) = omega arith
has_level (Join l t r) = omega arith
has_level (JoinOnly t r) = omega arith
has_level (ListOf es t) = omega arith
has_level (ListConcatenation l t r) = omega arith
has_level (Not e) = omega arith
has_level (Or l r) = omega arith
has_level (StringLiteral literal) = omega arith
has_level (Variable t number) = omega arith

pub levels_call : (es : _) (name : _) → levels (view (expressions.Call es name)) ≡ suc (levels_of_row (views es.items))
levels_call es name = ap levels (view_call es name)

pub levels_list : (es : _) (t : _) → levels (view (expressions.List es t)) ≡ suc (levels_of_row (views es.items))
levels_list es t = ap levels (view_list es t)

pub levels_format_string : (start : _) (es : _) → levels (view (expressions.FormatString start es)) ≡ suc (levels_of_pieces (piece_views es.items))
levels_format_string start es = ap levels (view_format_string start es)

-- a test that holds exactly if n levels fit into the budget
abbrev pub Decides : Bool → ℕ → ℕ → Type 0
Decides b n budget = (IsTrue b → 416 * n ≤ budget) × (416 * n ≤ budget → IsTrue b)

-- no expression fits if one level does not
pub none_fits : (e : Expr) (budget : ℕ) → budget < 416 → Decides false (levels e) budget
none_fits e budget small = let one = has_level e in ((λ none. absurd (cc none)), (λ fits. absurd (omega (arith, one))))

-- one level around parts
pub one_more : (b : Bool) (n budget : ℕ) → 416 ≤ budget → Decides b n (budget - 416) → Decides b (suc n) budget
one_more b n budget big h = ((λ is. let fits = h.0 is in omega arith), (λ fits. h.1 (omega arith)))

-- n levels fit exactly if m levels do
abbrev pub FitAlike : ℕ → ℕ → ℕ → Type 0
FitAlike n m budget = (416 * n ≤ budget → 416 * m ≤ budget) × (416 * m ≤ budget → 416 * n ≤ budget)

-- an expression that fits, followed by others
pub next_alike : (x n m budget : ℕ) → 416 * x ≤ budget → FitAlike (max x n) m budget → FitAlike n m budget
next_alike x n m budget fits h = ((λ k. h.0 (omega arith)), (λ k. let both = h.1 k in omega arith))

-- an expression that does not fit, followed by others
pub none_alike : (x n m budget : ℕ) → (416 * x ≤ budget → IsTrue false) → FitAlike (max x n) m budget → Decides false m budget
none_alike x n m budget fails h = ((λ none. absurd (cc none)), (λ k. fails (let both = h.1 k in omega arith)))

-- no expression is left
pub all_alike : (n m budget : ℕ) → n ≡ 0 → FitAlike n m budget → Decides true m budget
all_alike n m budget none h = ((λ is. h.0 (omega arith)), (λ k. refl))
