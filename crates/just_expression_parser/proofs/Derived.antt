-- What the grammar derives, the machine reads.
use Rattle.std.specs.Prelude.{◌≡◌, [], ◌∷◌}
use Rattle.std.proofs.Common.{◌∙◌, refl, sym}
use Rattle.just_syntax.specs.Plain as plain
use Rattle.just_syntax.specs.Plain.{Expr, Exprs, Pieces}
use Rattle.just_expression_parser.proofs.Steps.{read_all}
use Rattle.just_expression_parser.proofs.Boundaries.{IsEnd}
use Rattle.just_expression_parser.proofs.ReadOperators.{IsRead, and_read, branch_only_is_read, comparison_read, concatenation_read, conditional_is_read}
use Rattle.just_expression_parser.proofs.ReadOperators.{join_read, list_concatenation_read, or_read, root_read, whole}
use Rattle.just_expression_parser.proofs.ReadValues.{ReadsElements, ReadsMore, ReadsPieces, another_element, another_piece, as_read, assertion_value}
use Rattle.just_expression_parser.proofs.ReadValues.{backtick_value, call_value, format_value, group_value, last_element, last_piece, list_value, message_value}
use Rattle.just_expression_parser.proofs.ReadValues.{no_elements, not_value, some_elements, string_value, variable_value, whole_format_value}
use Rattle.just_expression_parser.specs.Laws.{IsEnded, OneReading, ReadsWhatIsDerived}
use Rattle.just_expression_parser.specs.Machine as machine
use Rattle.just_expression_parser.specs.Tokens.{Tokens}

-- ---- all forms

mutual
  is_read : (e : Expr) → IsRead e
  is_read (plain.Or l r) = or_read l r (is_read l) (is_read r)
  is_read (plain.And l r) = and_read l r (is_read l) (is_read r)
  is_read (plain.Comparison l o r t) = comparison_read l o r t (is_read l) (is_read r)
  is_read (plain.Concatenation l t r) = concatenation_read l t r (is_read l) (is_read r)
  is_read (plain.ListConcatenation l t r) = list_concatenation_read l t r (is_read l) (is_read r)
  is_read (plain.Join l t r) = join_read l t r (is_read l) (is_read r)
  is_read (plain.JoinOnly t r) = root_read t r (is_read r)
  is_read (plain.Conditional c a b) = conditional_is_read c a b (is_read c) (is_read a) (is_read b)
  is_read (plain.ConditionalOnly c a) = branch_only_is_read c a (is_read c) (is_read a)
  is_read (plain.Not e) = as_read (plain.Not e) (not_value e (is_read e)) refl refl (λ n ts rest d. d)
  is_read (plain.Group e) = as_read (plain.Group e) (group_value e (is_read e)) refl refl (λ n ts rest d. d)
  is_read (plain.ListOf es t) = as_read (plain.ListOf es t) (list_value es t (elements_read es)) refl refl (λ n ts rest d. d)
  is_read (plain.Call t es) = as_read (plain.Call t es) (call_value t es (elements_read es)) refl refl (λ n ts rest d. d)
  is_read (plain.AssertOnly e t) = as_read (plain.AssertOnly e t) (assertion_value e t (is_read e)) refl refl (λ n ts rest d. d)
  is_read (plain.Assert e message t) = as_read (plain.Assert e message t) (message_value e message t (is_read e) (is_read message)) refl refl (λ n ts rest d. d)
  is_read (plain.Backtick text t) = as_read (plain.Backtick text t) (backtick_value text t) refl refl (λ n ts rest d. d)
  is_read (plain.StringLiteral literal) = as_read (plain.StringLiteral literal) (string_value literal) refl refl (λ n ts rest d. d)
  is_read (plain.FormatString start plain.NoPiece) =
      as_read (plain.FormatString start plain.NoPiece) (whole_format_value start) refl refl (λ n ts rest d. d)
  is_read (plain.FormatString start (plain.Piece e text ps)) =
      as_read (plain.FormatString start (plain.Piece e text ps)) (format_value start e text ps (pieces_read (plain.Piece e text ps))) refl refl
      (λ n ts rest d. d)
  is_read (plain.Variable t number) = as_read (plain.Variable t number) (variable_value t number) refl refl (λ n ts rest d. d)

  elements_read : (es : Exprs) → ReadsElements es
  elements_read plain.Nil = no_elements
  elements_read (plain.Cons e es) = some_elements e es (is_read e) (more_read es)

  more_read : (es : Exprs) → ReadsMore es
  more_read plain.Nil = last_element
  more_read (plain.Cons e es) = another_element e es (is_read e) (more_read es)

  pieces_read : (ps : Pieces) → ReadsPieces ps
  pieces_read plain.NoPiece = tt
  pieces_read (plain.Piece e text plain.NoPiece) = last_piece e text (is_read e)
  pieces_read (plain.Piece e text (plain.Piece e2 text2 ps)) = another_piece e text e2 text2 ps (is_read e) (pieces_read (plain.Piece e2 text2 ps))

ended_is : (ts : Tokens) → IsEnded ts → IsEnd 0 ts
ended_is [] end = tt
ended_is (t ∷ ts) (no_else, no_paren, none) = (no_else, no_paren, rw none tt)

pub reads_what_is_derived : ReadsWhatIsDerived
reads_what_is_derived e ts rest derived end =
    whole e (is_read e) ts rest [] derived (ended_is rest end) ∙ sym (read_all rest e [] refl)

pub same_reading : (e f : Expr) (rest more : Tokens) → machine.Read e rest ≡ machine.Read f more → (e ≡ f) × (rest ≡ more)
same_reading e f rest more same = (cc, cc)

pub one_reading : OneReading
one_reading e f ts rest more first ended second over =
    same_reading e f rest more (sym (reads_what_is_derived e ts rest first ended) ∙ reads_what_is_derived f ts more second over)
