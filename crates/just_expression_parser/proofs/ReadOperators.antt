-- How operators and conditionals are read, if their parts are.
use Rattle.std.specs.Prelude.{ℕ, ◌≡◌, ◌<◌, ◌≤◌, ◌⊎◌, Bool, false, true, codes, drop, List, [], ◌∷◌, Some}
use Rattle.std.proofs.Common.{◌∙◌, ap, arith, inl, inr, refl}
use Rattle.just_syntax.specs.Plain as plain
use Rattle.just_syntax.specs.Plain.{Expr, Text, Token}
use Rattle.just_lexer.specs.declared.kind.TokenKind.{TokenKind}
use Rattle.just_lexer.specs.declared.kind.TokenKind.TheVariants as kinds
use Rattle.just_expression_parser.proofs.Actions.{expected_after, operator_here}
use Rattle.just_expression_parser.proofs.Runs.{frame_completes}
use Rattle.just_expression_parser.proofs.Starts.{braced_here, chained_here, else_here, if_here, no_else_here, root_here}
use Rattle.just_expression_parser.proofs.Boundaries.{IsClosing, IsEnd, brace_closes, comparison_of, end_brace_closes, end_more, ends_at, ends_before, levels}
use Rattle.just_expression_parser.proofs.Boundaries.{no_more, no_word, open_at, top, value_begins, word_here}
use Rattle.just_expression_parser.specs.Grammar as grammar
use Rattle.just_expression_parser.specs.Grammar.{BeginsIf, reads}
use Rattle.just_expression_parser.specs.Machine as machine
use Rattle.just_expression_parser.specs.Machine.{Done, MachineFrame, Operators, Side, parse}
use Rattle.just_expression_parser.specs.Operator.{comparison_kind, level, operation, operator_of}
use Rattle.just_expression_parser.specs.Parsed.{is_at_word}
use Rattle.just_expression_parser.specs.Tokens.{Mark, One, Then, Tokens, Word, code}
use Rattle.just_expression_parser.specs.declared.operator.Operator.{Operator}
use Rattle.just_expression_parser.specs.declared.operator.Operator.TheVariants as operators

-- ---- what is read

-- a value is read as a value, each expression from a level on, and a conditional after its `if`
abbrev pub IsRead : Expr → Type 0
IsRead e =
    ((ts rest : Tokens) (frames : List MachineFrame) → reads e 4 ts rest → IsEnd 4 rest → parse ts machine.Value frames ≡ parse rest (Done e) frames)
    × ((n least : ℕ) (ts rest : Tokens) (frames : List MachineFrame) → n ≤ 4 → least ≤ n → reads e n ts rest → IsEnd (open_at e) rest
    → parse ts (machine.Expression least) frames ≡ parse rest (Done e) (Operators least (top e) ∷ frames))
    × ((ts rest : Tokens) (frames : List MachineFrame) → reads e 3 ts rest → is_at_word (codes "if") ts ≡ true → IsEnd 4 rest
    → parse (drop 1 ts) (machine.Expression 0) (machine.Condition ∷ frames) ≡ parse rest (Done e) frames)

-- an expression up to a token that goes on with none
pub whole : (e : Expr) → IsRead e → (ts rest : Tokens) (frames : List MachineFrame) → reads e 0 ts rest → IsEnd 0 rest
    → parse ts (machine.Expression 0) frames ≡ parse rest (Done e) frames
whole e read ts rest frames derived end =
    read.1 0 0 ts rest frames (omega arith) (omega arith) derived (end_more 0 (open_at e) rest (omega arith) end)
    ∙ no_more 0 (top e) rest e frames end

-- an expression up to a token of a kind that is no operator
pub up_to : (kind : TokenKind) (e : Expr) → IsRead e → (ts m rest : Tokens) (frames : List MachineFrame) → IsClosing kind
    → reads e 0 ts m → Mark kind m rest → parse ts (machine.Expression 0) frames ≡ parse m (Done e) frames
up_to kind e read ts m rest frames closes derived mark = whole e read ts m frames derived (ends_at kind 0 m rest closes mark)

-- an operator between two expressions
binary : (o : Operator) (kind : TokenKind) (l r : Expr) (t : Token) → IsRead l → IsRead r → operator_of kind ≡ Some o
    → (above n least : ℕ) (ts m m2 rest : Tokens) (frames : List MachineFrame) → above ≤ 4 → level o < above → level o ≤ 3 → n ≤ level o → least ≤ n
    → reads l above ts m → One kind t m m2 → reads r (level o) m2 rest → IsEnd (level o) rest
    → parse ts (machine.Expression least) frames ≡ parse rest (Done (operation l o t r)) (Operators least (level o) ∷ frames)
binary o kind l r t left right is above n least ts m m2 rest frames most higher three low lower dl taken dr end =
    let ll = levels l above ts m most dl in
    let lr = levels r (level o) m2 rest (omega (arith, three)) dr in
    let inner = Side l o t ∷ Operators least (level o) ∷ frames in
    left.1 above least ts m frames most (omega (arith, higher, low, lower)) dl
    (ends_before o kind (open_at l) t m m2 is (omega (arith, higher, ll.1)) taken)
    ∙ operator_here least (top l) m m2 kind t o l frames is (omega (arith, low, lower)) (omega (arith, higher, ll.0)) taken
    ∙ right.1 (level o) (level o) m2 rest inner (omega (arith, three)) (omega arith) dr (end_more (level o) (open_at r) rest lr.1 end)
    ∙ no_more (level o) (top r) rest r inner end
    ∙ frame_completes rest (Side l o t) (Operators least (level o) ∷ frames) r (operation l o t r) (λ t. refl) refl

-- a branch after `if`, up to what comes after it
branch_read : (c a : Expr) → IsRead c → IsRead a → (m0 m1 m2 m3 m4 : Tokens) (frames : List MachineFrame) → reads c 0 m0 m1 → Mark kinds.BraceL m1 m2
    → reads a 0 m2 m3
    → Mark kinds.BraceR m3 m4 → parse m0 (machine.Expression 0) (machine.Condition ∷ frames) ≡ parse m4 (machine.Else c a) frames
branch_read c a rc ra m0 m1 m2 m3 m4 frames dc opening da ending =
    up_to kinds.BraceL c rc m0 m1 m2 (machine.Condition ∷ frames) brace_closes dc opening
    ∙ expected_after m1 m2 machine.Condition frames c kinds.BraceL (machine.Expression 0) (machine.Consequence c ∷ []) (λ t. refl) opening
    ∙ up_to kinds.BraceR a ra m2 m3 m4 (machine.Consequence c ∷ frames) end_brace_closes da ending
    ∙ expected_after m3 m4 (machine.Consequence c) frames a kinds.BraceR (machine.Else c a) [] (λ t. refl) ending

-- a conditional after its `if`
conditional_read : (c a b : Expr) → IsRead c → IsRead a → IsRead b → (ts rest : Tokens) (frames : List MachineFrame) → reads (plain.Conditional c a b) 3 ts rest
    → IsEnd 4 rest → parse (drop 1 ts) (machine.Expression 0) (machine.Condition ∷ frames) ≡ parse rest (Done (plain.Conditional c a b)) frames
conditional_read c a b rc ra rb ts rest frames (low, (m4, (m0, (t, is, taken), (m1, dc, (m2, opening, (m3, da, ending)))), (m5, word, other))) end =
    ap (λ us. parse us (machine.Expression 0) (machine.Condition ∷ frames)) (ap (drop 1) taken)
    ∙ branch_read c a rc ra m0 m1 m2 m3 m4 frames dc opening da ending
    ∙ else_here c a m4 frames (word_here (codes "else") m4 m5 word)
    ∙ ap (λ us. parse us (machine.Branch c a) frames) (after_word (codes "else") m4 m5 word)
    ∙ other_read m5 rest other end
  where
    after_word : (word : Text) (ts rest : Tokens) → Word word ts rest → drop 1 ts ≡ rest
    after_word word ts rest (t, is, taken) = ap (drop 1) taken

    no_if : (ts rest : Tokens) → Mark kinds.BraceL ts rest → is_at_word (codes "if") ts ≡ false
    no_if ts rest (t, taken) = rw taken (no_word (codes "if") kinds.BraceL t brace_closes.0)

    other_read : (ts rest : Tokens) → grammar.Between kinds.BraceL (reads b 0) kinds.BraceR ts rest ⊎ (BeginsIf ts × reads b 3 ts rest) → IsEnd 4 rest
        → parse ts (machine.Branch c a) frames ≡ parse rest (Done (plain.Conditional c a b)) frames
    other_read ts rest (inl (m, opening, (m', db, ending))) end =
        braced_here c a ts m frames (no_if ts m opening) opening
        ∙ up_to kinds.BraceR b rb m m' rest (machine.Otherwise c a ∷ frames) end_brace_closes db ending
        ∙ expected_after m' rest (machine.Otherwise c a) frames b kinds.BraceR (Done (plain.Conditional c a b)) [] (λ t. refl) ending
    other_read ts rest (inr ((m, word), db)) end =
        let there = word_here (codes "if") ts m word in
        chained_here c a ts frames there
        ∙ rb.2 ts rest (machine.ElseIf c a ∷ frames) db there end
        ∙ frame_completes rest (machine.ElseIf c a) frames b (plain.Conditional c a b) (λ t. refl) refl

-- one without another branch
branch_only_read : (c a : Expr) → IsRead c → IsRead a → (ts rest : Tokens) (frames : List MachineFrame) → reads (plain.ConditionalOnly c a) 3 ts rest
    → IsEnd 4 rest → parse (drop 1 ts) (machine.Expression 0) (machine.Condition ∷ frames) ≡ parse rest (Done (plain.ConditionalOnly c a)) frames
branch_only_read c a rc ra ts rest frames (low, (m0, (t, is, taken), (m1, dc, (m2, opening, (m3, da, ending))))) end =
    ap (λ us. parse us (machine.Expression 0) (machine.Condition ∷ frames)) (ap (drop 1) taken)
    ∙ branch_read c a rc ra m0 m1 m2 m3 rest frames dc opening da ending
    ∙ no_else_here c a rest frames (no_else rest end)
  where
    no_else : (ts : Tokens) → IsEnd 4 ts → is_at_word (codes "else") ts ≡ false
    no_else [] end = refl
    no_else (t ∷ ts) end = end.0

-- ---- the forms

pub never : (b : Bool) → b ≡ false → b ≡ true → ⊥
never b is_not is = cc

abbrev pub ReadsValue : Expr → Type 0
ReadsValue e = (ts rest : Tokens) (frames : List MachineFrame) → reads e 4 ts rest → IsEnd 4 rest → parse ts machine.Value frames ≡ parse rest (Done e) frames

pub or_read : (l r : Expr) → IsRead l → IsRead r → IsRead (plain.Or l r)
or_read l r left right = (value, from, after_if) where
  value : ReadsValue (plain.Or l r)
  value ts rest frames (low, later) end = absurd (omega (arith, low))

  from : (n least : ℕ) (ts rest : Tokens) (frames : List MachineFrame) → n ≤ 4 → least ≤ n → reads (plain.Or l r) n ts rest → IsEnd 0 rest
      → parse ts (machine.Expression least) frames ≡ parse rest (Done (plain.Or l r)) (Operators least 0 ∷ frames)
  from n least ts rest frames most lower (low, (m, dl, (m2, (t, taken), dr))) end =
      binary operators.Or kinds.BarBar l r t left right refl 1 n least ts m m2 rest frames (omega arith) (omega arith) (omega arith) low lower dl taken dr end

  after_if : (ts rest : Tokens) (frames : List MachineFrame) → reads (plain.Or l r) 3 ts rest → is_at_word (codes "if") ts ≡ true → IsEnd 4 rest
      → parse (drop 1 ts) (machine.Expression 0) (machine.Condition ∷ frames) ≡ parse rest (Done (plain.Or l r)) frames
  after_if ts rest frames (low, later) there end = absurd (omega (arith, low))

pub and_read : (l r : Expr) → IsRead l → IsRead r → IsRead (plain.And l r)
and_read l r left right = (value, from, after_if) where
  value : ReadsValue (plain.And l r)
  value ts rest frames (low, later) end = absurd (omega (arith, low))

  from : (n least : ℕ) (ts rest : Tokens) (frames : List MachineFrame) → n ≤ 4 → least ≤ n → reads (plain.And l r) n ts rest → IsEnd 1 rest
      → parse ts (machine.Expression least) frames ≡ parse rest (Done (plain.And l r)) (Operators least 1 ∷ frames)
  from n least ts rest frames most lower (low, (m, dl, (m2, (t, taken), dr))) end =
      binary operators.And kinds.AmpersandAmpersand l r t left right refl 2 n least ts m m2 rest frames (omega arith) (omega arith) (omega arith) low lower dl
      taken dr end

  after_if : (ts rest : Tokens) (frames : List MachineFrame) → reads (plain.And l r) 3 ts rest → is_at_word (codes "if") ts ≡ true → IsEnd 4 rest
      → parse (drop 1 ts) (machine.Expression 0) (machine.Condition ∷ frames) ≡ parse rest (Done (plain.And l r)) frames
  after_if ts rest frames (low, later) there end = absurd (omega (arith, low))

pub comparison_read : (l : Expr) (o : _) (r : Expr) (t : Token) → IsRead l → IsRead r → IsRead (plain.Comparison l o r t)
comparison_read l o r t left right = (value, from, after_if) where
  value : ReadsValue (plain.Comparison l o r t)
  value ts rest frames (low, later) end = absurd (omega (arith, low))

  from : (n least : ℕ) (ts rest : Tokens) (frames : List MachineFrame) → n ≤ 4 → least ≤ n → reads (plain.Comparison l o r t) n ts rest → IsEnd 2 rest
      → parse ts (machine.Expression least) frames ≡ parse rest (Done (plain.Comparison l o r t)) (Operators least 2 ∷ frames)
  from n least ts rest frames most lower (low, (m, dl, (m2, taken, dr))) end =
      binary (operators.Comparison o) (comparison_kind o) l r t left right (comparison_of o) 3 n least ts m m2 rest frames (omega arith) (omega arith)
      (omega arith) low lower dl taken dr end

  after_if : (ts rest : Tokens) (frames : List MachineFrame) → reads (plain.Comparison l o r t) 3 ts rest → is_at_word (codes "if") ts ≡ true → IsEnd 4 rest
      → parse (drop 1 ts) (machine.Expression 0) (machine.Condition ∷ frames) ≡ parse rest (Done (plain.Comparison l o r t)) frames
  after_if ts rest frames (low, later) there end = absurd (omega (arith, low))

-- `+`, `++` or `/` between two expressions, which are this expression
module _ (o : Operator) (kind : TokenKind) (l r : Expr) (t : Token) (left : IsRead l) (right : IsRead r) (is : operator_of kind ≡ Some o)
    (three : level o ≡ 3) where
  abbrev Sum : ℕ → Tokens → Tokens → Type 0
  Sum n = grammar.Within n 3 (Then (reads l 4) (Then (One kind t) (reads r 3)))

  sum_from : (n least : ℕ) (ts rest : Tokens) (frames : List MachineFrame) → n ≤ 4 → least ≤ n → Sum n ts rest → IsEnd 3 rest
      → parse ts (machine.Expression least) frames ≡ parse rest (Done (operation l o t r)) (Operators least 3 ∷ frames)
  sum_from n least ts rest frames most lower (low, (m, dl, (m2, taken, dr))) end =
      rw (← three) (binary o kind l r t left right is 4 n least ts m m2 rest frames (omega arith) (omega (arith, three)) (omega (arith, three))
      (rw three low) lower dl taken (rw three dr) (rw three end))

  sum_after_if : (ts rest : Tokens) → Sum 3 ts rest → is_at_word (codes "if") ts ≡ true → ⊥
  sum_after_if ts rest (low, (m, dl, later)) there = never (is_at_word (codes "if") ts) (value_begins l ts m dl).0 there

pub concatenation_read : (l : Expr) (t : Token) (r : Expr) → IsRead l → IsRead r → IsRead (plain.Concatenation l t r)
concatenation_read l t r left right = (value, from, after_if) where
  value : ReadsValue (plain.Concatenation l t r)
  value ts rest frames (low, later) end = absurd (omega (arith, low))

  from : (n least : ℕ) (ts rest : Tokens) (frames : List MachineFrame) → n ≤ 4 → least ≤ n → reads (plain.Concatenation l t r) n ts rest → IsEnd 3 rest
      → parse ts (machine.Expression least) frames ≡ parse rest (Done (plain.Concatenation l t r)) (Operators least 3 ∷ frames)
  from = sum_from operators.Concatenation kinds.Plus l r t left right refl refl

  after_if : (ts rest : Tokens) (frames : List MachineFrame) → reads (plain.Concatenation l t r) 3 ts rest → is_at_word (codes "if") ts ≡ true → IsEnd 4 rest
      → parse (drop 1 ts) (machine.Expression 0) (machine.Condition ∷ frames) ≡ parse rest (Done (plain.Concatenation l t r)) frames
  after_if ts rest frames derived there end = absurd (sum_after_if operators.Concatenation kinds.Plus l r t left right refl refl ts rest derived there)

pub list_concatenation_read : (l : Expr) (t : Token) (r : Expr) → IsRead l → IsRead r → IsRead (plain.ListConcatenation l t r)
list_concatenation_read l t r left right = (value, from, after_if) where
  value : ReadsValue (plain.ListConcatenation l t r)
  value ts rest frames (low, later) end = absurd (omega (arith, low))

  from : (n least : ℕ) (ts rest : Tokens) (frames : List MachineFrame) → n ≤ 4 → least ≤ n → reads (plain.ListConcatenation l t r) n ts rest → IsEnd 3 rest
      → parse ts (machine.Expression least) frames ≡ parse rest (Done (plain.ListConcatenation l t r)) (Operators least 3 ∷ frames)
  from = sum_from operators.ListConcatenation kinds.PlusPlus l r t left right refl refl

  after_if : (ts rest : Tokens) (frames : List MachineFrame) → reads (plain.ListConcatenation l t r) 3 ts rest → is_at_word (codes "if") ts ≡ true
      → IsEnd 4 rest
      → parse (drop 1 ts) (machine.Expression 0) (machine.Condition ∷ frames) ≡ parse rest (Done (plain.ListConcatenation l t r)) frames
  after_if ts rest frames derived there end = absurd (sum_after_if operators.ListConcatenation kinds.PlusPlus l r t left right refl refl ts rest derived there)

pub join_read : (l : Expr) (t : Token) (r : Expr) → IsRead l → IsRead r → IsRead (plain.Join l t r)
join_read l t r left right = (value, from, after_if) where
  value : ReadsValue (plain.Join l t r)
  value ts rest frames (low, later) end = absurd (omega (arith, low))

  from : (n least : ℕ) (ts rest : Tokens) (frames : List MachineFrame) → n ≤ 4 → least ≤ n → reads (plain.Join l t r) n ts rest → IsEnd 3 rest
      → parse ts (machine.Expression least) frames ≡ parse rest (Done (plain.Join l t r)) (Operators least 3 ∷ frames)
  from = sum_from operators.Join kinds.Slash l r t left right refl refl

  after_if : (ts rest : Tokens) (frames : List MachineFrame) → reads (plain.Join l t r) 3 ts rest → is_at_word (codes "if") ts ≡ true → IsEnd 4 rest
      → parse (drop 1 ts) (machine.Expression 0) (machine.Condition ∷ frames) ≡ parse rest (Done (plain.Join l t r)) frames
  after_if ts rest frames derived there end = absurd (sum_after_if operators.Join kinds.Slash l r t left right refl refl ts rest derived there)

slash_is_no_name : kinds.Slash ≡ kinds.Identifier → ⊥
unfolding code
slash_is_no_name same = absurd (omega (arith, ap code same))

pub root_read : (t : Token) (r : Expr) → IsRead r → IsRead (plain.JoinOnly t r)
root_read t r right = (value, from, after_if) where
  value : ReadsValue (plain.JoinOnly t r)
  value ts rest frames (low, later) end = absurd (omega (arith, low))

  from : (n least : ℕ) (ts rest : Tokens) (frames : List MachineFrame) → n ≤ 4 → least ≤ n → reads (plain.JoinOnly t r) n ts rest → IsEnd 3 rest
      → parse ts (machine.Expression least) frames ≡ parse rest (Done (plain.JoinOnly t r)) (Operators least 3 ∷ frames)
  from n least ts rest frames most lower (low, (m, taken, dr)) end =
      let inner = machine.Root t ∷ Operators least 3 ∷ frames in
      root_here least ts m t frames (omega (arith, low, lower)) taken
      ∙ right.1 3 3 m rest inner (omega arith) (omega arith) dr (end_more 3 (open_at r) rest (levels r 3 m rest (omega arith) dr).1 end)
      ∙ no_more 3 (top r) rest r inner end
      ∙ frame_completes rest (machine.Root t) (Operators least 3 ∷ frames) r (plain.JoinOnly t r) (λ t. refl) refl

  after_if : (ts rest : Tokens) (frames : List MachineFrame) → reads (plain.JoinOnly t r) 3 ts rest → is_at_word (codes "if") ts ≡ true → IsEnd 4 rest
      → parse (drop 1 ts) (machine.Expression 0) (machine.Condition ∷ frames) ≡ parse rest (Done (plain.JoinOnly t r)) frames
  after_if ts rest frames (low, (m, taken, dr)) there end =
      let no_if : is_at_word (codes "if") ts ≡ false = rw taken (no_word (codes "if") kinds.Slash t slash_is_no_name) in
      absurd (never (is_at_word (codes "if") ts) no_if there)

-- the first token of a conditional
at_if : (ts m : Tokens) → Word (codes "if") ts m → is_at_word (codes "if") ts ≡ true
at_if ts m word = word_here (codes "if") ts m word

pub conditional_is_read : (c a b : Expr) → IsRead c → IsRead a → IsRead b → IsRead (plain.Conditional c a b)
conditional_is_read c a b rc ra rb = (value, from, after_if) where
  value : ReadsValue (plain.Conditional c a b)
  value ts rest frames (low, later) end = absurd (omega (arith, low))

  from : (n least : ℕ) (ts rest : Tokens) (frames : List MachineFrame) → n ≤ 4 → least ≤ n → reads (plain.Conditional c a b) n ts rest → IsEnd 4 rest
      → parse ts (machine.Expression least) frames ≡ parse rest (Done (plain.Conditional c a b)) (Operators least 3 ∷ frames)
  from n least ts rest frames most lower (low, (m4, (m0, word, later), other)) end =
      if_here least ts frames (omega (arith, low, lower)) (at_if ts m0 word)
      ∙ conditional_read c a b rc ra rb ts rest (Operators least 3 ∷ frames) (omega arith, (m4, (m0, word, later), other)) end

  after_if : (ts rest : Tokens) (frames : List MachineFrame) → reads (plain.Conditional c a b) 3 ts rest → is_at_word (codes "if") ts ≡ true → IsEnd 4 rest
      → parse (drop 1 ts) (machine.Expression 0) (machine.Condition ∷ frames) ≡ parse rest (Done (plain.Conditional c a b)) frames
  after_if ts rest frames derived there end = conditional_read c a b rc ra rb ts rest frames derived end

pub branch_only_is_read : (c a : Expr) → IsRead c → IsRead a → IsRead (plain.ConditionalOnly c a)
branch_only_is_read c a rc ra = (value, from, after_if) where
  value : ReadsValue (plain.ConditionalOnly c a)
  value ts rest frames (low, later) end = absurd (omega (arith, low))

  from : (n least : ℕ) (ts rest : Tokens) (frames : List MachineFrame) → n ≤ 4 → least ≤ n → reads (plain.ConditionalOnly c a) n ts rest → IsEnd 4 rest
      → parse ts (machine.Expression least) frames ≡ parse rest (Done (plain.ConditionalOnly c a)) (Operators least 3 ∷ frames)
  from n least ts rest frames most lower (low, (m0, word, later)) end =
      if_here least ts frames (omega (arith, low, lower)) (at_if ts m0 word)
      ∙ branch_only_read c a rc ra ts rest (Operators least 3 ∷ frames) (omega arith, (m0, word, later)) end

  after_if : (ts rest : Tokens) (frames : List MachineFrame) → reads (plain.ConditionalOnly c a) 3 ts rest → is_at_word (codes "if") ts ≡ true → IsEnd 4 rest
      → parse (drop 1 ts) (machine.Expression 0) (machine.Condition ∷ frames) ≡ parse rest (Done (plain.ConditionalOnly c a)) frames
  after_if ts rest frames derived there end = branch_only_read c a rc ra ts rest frames derived end
