-- Settings are predictive.
use Rattle.std.specs.Prelude.{◌≡◌, ◌⊎◌, Bool, true, false, [], ◌∷◌, ◌++◌, drop, length, take, ◌≤◌, codes, Option, Some, None, option_map}
use Rattle.std.proofs.Common.{◌∙◌, ap, arith, inl, inr, refl, subst, sym}
use Rattle.just_lexer.specs.State.{Lexeme}
use Rattle.just_lexer.specs.declared.kind.TokenKind.{TokenKind}
use Rattle.just_lexer.specs.declared.kind.TokenKind.TheVariants as kinds
use Rattle.just_syntax.specs.Plain as plain
use Rattle.just_syntax.specs.Plain.{Expr, Set, Text, Token}
use Rattle.just_syntax.specs.SettingName.{expression_named, flag_named, interpreter_named}
use Rattle.just_expression_parser.specs.Grammar.{reads}
use Rattle.just_expression_parser.specs.Machine as machine
use Rattle.just_expression_parser.specs.Machine.{Operators}
use Rattle.just_expression_parser.specs.Parsed.{is_at_word}
use Rattle.just_expression_parser.specs.Tokens.{Tokens, is_kind, lexeme}
use Rattle.just_expression_parser.proofs.Starts.{elements_end}
use Rattle.just_expression_parser.proofs.Values.{list_here}
use Rattle.just_parser.specs.Items.{boolean, flag, indentation_setting, set, setting, setting_with_form}
use Rattle.just_parser.specs.Phrase.{Parsed, Phrase, Read, Refused, ◌>>=◌, ◌>>◌, after_read, give, give_if, in_line, one, value, value_as}
use Rattle.just_parser.specs.Settings.{form_of, indentation_of, interpreter_of}
use Rattle.just_parser.specs.declared.parse_error.Fault.{Fault}
use Rattle.just_parser.specs.declared.parse_error.Fault.TheVariants.{ExpectedBoolean, ExpectedCommand, ExpectedIndentation, UnknownSetting}
use Rattle.just_parser.specs.declared.setting_form.SettingForm.{SettingForm}
use Rattle.just_parser.specs.declared.setting_form.SettingForm.TheVariants as forms
use Rattle.just_parser.proofs.ReadAttributes.{reads_string}
use Rattle.just_parser.proofs.ReadExpressions.{complete, derived, reads_expression, reads_value}
use Rattle.just_parser.proofs.ReadForms.{IsOfStrings, reads_form, reads_string_as}
use Rattle.just_parser.proofs.Predictive.{IsPredictive, ReadsAgain, IsRefusal, RefusesAgain, any, by_test, follows, gives, refused_at, refuses_next}
use Rattle.just_parser.proofs.Predictive.{same_read, still_refused}
use Rattle.just_parser.proofs.ReadTokens.{Begins, after_one, begins, by_kind, ends_its_line, one_here, takes_one}

-- ---- flags

reads_boolean : IsPredictive 0 boolean
unfolding boolean
reads_boolean = by_test (is_at_word (codes "true")) (λ t rest us. refl) (any (after_one kinds.Identifier true))
    (by_test (is_at_word (codes "false")) (λ t rest us. refl) (any (after_one kinds.Identifier false)) (refuses_next ExpectedBoolean))

reads_flag : IsPredictive 0 flag
unfolding flag
reads_flag = by_kind kinds.ColonEquals (any (follows (takes_one kinds.ColonEquals) (λ mark. reads_boolean))) (gives true)

gives_if : {A : Type 0} (fault : Fault) (o : Option A) → IsPredictive 0 (give_if fault o)
gives_if fault None = refuses_next fault
gives_if fault (Some a) = gives a

-- ---- commands

-- a command is a list of something
command_is_list : (e : Expr) → ((command : Expr) × (arguments : plain.Exprs) × (token : Token) × (e ≡ plain.ListOf (plain.Cons command arguments) token))
    ⊎ (interpreter_of e ≡ None)
command_is_list (plain.ListOf (plain.Cons command arguments) token) = inl (command, arguments, token, refl)
command_is_list (plain.ListOf plain.Nil token) = inr refl
command_is_list e = inr refl

-- a list is empty, if its second token ends it
empty_list : (token end : Token) (rest : Tokens)
    → value (lexeme kinds.BracketL token ∷ lexeme kinds.BracketR end ∷ rest) ≡ Read (plain.ListOf plain.Nil token) rest
empty_list token end rest =
    complete (lexeme kinds.BracketL token ∷ lexeme kinds.BracketR end ∷ rest) rest (plain.ListOf plain.Nil token)
    (list_here kinds.BracketL token (lexeme kinds.BracketR end ∷ rest) (Operators 4 4 ∷ []) refl
    ∙ elements_end (machine.ListOf token) [] (lexeme kinds.BracketR end ∷ rest) rest end (Operators 4 4 ∷ []) refl)

abbrev first_kind : Tokens → TokenKind
first_kind [] = kinds.Eof
first_kind (t ∷ ts) = t.kind

other_kind : (kind : TokenKind) (token t : Token) (rest m : Tokens) → (kinds.BracketL ≡ kind → ⊥) → lexeme kinds.BracketL token ∷ rest ≡ lexeme kind t ∷ m → ⊥
other_kind kind token t rest m other same = other (ap first_kind same)

-- a value that begins with a bracket is a list
bracket_is_list : (e : Expr) (token : Token) (rest more : Tokens) → reads e 4 (lexeme kinds.BracketL token ∷ rest) more
    → (es : plain.Exprs) × (t : Token) × (e ≡ plain.ListOf es t)
bracket_is_list (plain.ListOf es t) token rest more d = (es, t, refl)
bracket_is_list (plain.Or l r) token rest more (low, d) = absurd (omega (arith, low))
bracket_is_list (plain.And l r) token rest more (low, d) = absurd (omega (arith, low))
bracket_is_list (plain.Comparison l o r t) token rest more (low, d) = absurd (omega (arith, low))
bracket_is_list (plain.Concatenation l t r) token rest more (low, d) = absurd (omega (arith, low))
bracket_is_list (plain.ListConcatenation l t r) token rest more (low, d) = absurd (omega (arith, low))
bracket_is_list (plain.Join l t r) token rest more (low, d) = absurd (omega (arith, low))
bracket_is_list (plain.JoinOnly t r) token rest more (low, d) = absurd (omega (arith, low))
bracket_is_list (plain.Conditional c a b) token rest more (low, d) = absurd (omega (arith, low))
bracket_is_list (plain.ConditionalOnly c a) token rest more (low, d) = absurd (omega (arith, low))
bracket_is_list (plain.Not e) token rest more (m, (t, taken), d) = absurd (other_kind kinds.Bang token t rest m (λ same. cc) taken)
bracket_is_list (plain.Group e) token rest more (m, (t, taken), d) = absurd (other_kind kinds.ParenL token t rest m (λ same. cc) taken)
bracket_is_list (plain.Call t es) token rest more (m, (no_assert, (no_if, taken)), d) = absurd (other_kind kinds.Identifier token t rest m (λ same. cc) taken)
bracket_is_list (plain.AssertOnly e t) token rest more (m, (is, (no_if, taken)), d) = absurd (other_kind kinds.Identifier token t rest m (λ same. cc) taken)
bracket_is_list (plain.Assert e f t) token rest more (m, (is, (no_if, taken)), d) = absurd (other_kind kinds.Identifier token t rest m (λ same. cc) taken)
bracket_is_list (plain.Backtick text t) token rest more (is, taken) = absurd (other_kind kinds.Backtick token t rest more (λ same. cc) taken)
bracket_is_list (plain.StringLiteral l) token rest more (t, no_format, is, taken) =
    absurd (other_kind kinds.StringToken token t rest more (λ same. cc) taken)
bracket_is_list (plain.FormatString l plain.NoPiece) token rest more (t, format, is, taken) =
    absurd (other_kind kinds.StringToken token t rest more (λ same. cc) taken)
bracket_is_list (plain.FormatString l (plain.Piece e text ps)) token rest more (t, is, (m, taken, d)) =
    absurd (other_kind kinds.FormatStringStart token t rest m (λ same. cc) taken)
bracket_is_list (plain.Variable t number) token rest more (none, (no_if, taken)) =
    absurd (other_kind kinds.Identifier token t rest more (λ same. cc) taken)

abbrev first_lexeme_or : Lexeme → Tokens → Lexeme
first_lexeme_or x [] = x
first_lexeme_or x (t ∷ ts) = t

abbrev first_token : Tokens → Option Token
first_token [] = None
first_token (t ∷ ts) = Some t.token

-- the first of tokens that begin alike
first_alike : (us rest more : Tokens) (x : Lexeme) → take 1 us ≡ take 1 rest → rest ≡ x ∷ more → (later : Tokens) × (us ≡ x ∷ later)
first_alike [] rest more x alike is = let none : [] ≡ x ∷ [] = alike ∙ ap (take 1) is in absurd (cc)
first_alike (u ∷ us) rest more x alike is = let one : u ∷ [] ≡ x ∷ [] = alike ∙ ap (take 1) is in (us, cc)

same_token : (s t : Token) → Some s ≡ Some t → s ≡ t
same_token s t same = cc

-- a list without elements is one with any end
no_command : (token : Token) (us : Tokens) (b : Expr) (later : Tokens) (es : plain.Exprs) (rest more : Tokens) → take 1 us ≡ take 1 rest
    → reads (plain.ListOf es token) 4 (lexeme kinds.BracketL token ∷ rest) more → interpreter_of (plain.ListOf es token) ≡ None
    → value (lexeme kinds.BracketL token ∷ us) ≡ Read b later → interpreter_of b ≡ None
no_command token us b later (plain.Cons e es) rest more alike d none second = absurd (cc)
no_command token us b later plain.Nil rest more alike (m, taken, (end, ended)) none second =
    let left : rest ≡ lexeme kinds.BracketR end ∷ more = ap (drop 1) taken ∙ ended in
    let same = first_alike us rest more (lexeme kinds.BracketR end) alike left in
    let list = same_read (plain.ListOf plain.Nil token) b same.0 later
    (sym (empty_list token end same.0) ∙ ap (λ xs. value (lexeme kinds.BracketL token ∷ xs)) (sym same.1) ∙ second) in
    ap interpreter_of (sym list.0)

by_list : (t : Lexeme) (rest us : Tokens) (a b : Expr) (more later : Tokens) → take 1 us ≡ take 1 rest → value (t ∷ rest) ≡ Read a more
    → interpreter_of a ≡ None → value (t ∷ us) ≡ Read b later
    → ((command : Expr) × (arguments : plain.Exprs) × (token : Token) × (b ≡ plain.ListOf (plain.Cons command arguments) token)) ⊎ (interpreter_of b ≡ None)
    → interpreter_of b ≡ None
by_list t rest us a b more later alike first none second (inr other) = other
by_list t rest us a b more later alike first none second (inl (command, arguments, token, is)) =
    let d = derived (t ∷ us) (plain.ListOf (plain.Cons command arguments) token) later (second ∙ ap (λ b. Read b later) is) in
    let bracket : t ≡ lexeme kinds.BracketL token = ap (first_lexeme_or t) d.1 in
    let own = subst (λ t. reads a 4 (t ∷ rest) more) bracket (derived (t ∷ rest) a more first) in
    let list = bracket_is_list a token rest more own in
    let listed = subst (λ a. reads a 4 (lexeme kinds.BracketL token ∷ rest) more) list.2 own in
    let same : list.1 ≡ token = same_token list.1 token (sym (ap first_token listed.1)) in
    no_command token us b later list.0 rest more alike (subst (λ t. reads (plain.ListOf list.0 t) 4 (lexeme kinds.BracketL token ∷ rest) more) same listed)
    (ap (λ t. interpreter_of (plain.ListOf list.0 t)) (sym same) ∙ ap interpreter_of (sym list.2) ∙ none)
    (ap (λ t. value (t ∷ us)) (sym bracket) ∙ second)

pub reads_command : IsPredictive 1 (value_as ExpectedCommand interpreter_of)
unfolding value_as
reads_command = reads_form ExpectedCommand value reads_value interpreter_of
    (λ t rest us a b more later alike first none second. by_list t rest us a b more later alike first none second (command_is_list b))

-- ---- indentations

of_strings : IsOfStrings indentation_of
of_strings (plain.StringLiteral l) = inl (l, refl)
of_strings e = inr refl

-- a phrase, with the first token that it takes
module _ {A B : Type 0} (phrase : Phrase A) (one : IsPredictive 1 phrase) (made : Phrase B) (make : Token → A → B) (none : Fault)
    (nothing : made [] ≡ Refused none [])
    (something : (t : Lexeme) (ts : Tokens) → made (t ∷ ts) ≡ after_read (phrase (t ∷ ts)) (λ a. give (make t.token a))) where
  made_again : (a : A) (b : B) (x y : Lexeme) (t : Lexeme) (used us : Tokens) → x ≡ y → make x.token a ≡ b → phrase (y ∷ used ++ t ∷ us) ≡ Read a (t ∷ us)
      → made (y ∷ used ++ t ∷ us) ≡ Read b (t ∷ us)
  made_again a b x y t used us first same again =
      something y (used ++ t ∷ us) ∙ ap (λ o. after_read o (λ a. give (make y.token a))) again
      ∙ ap (λ x. Read (make x.token a) (t ∷ us)) (sym first) ∙ ap (λ b. Read b (t ∷ us)) same

  made_read : (x : Lexeme) (xs : Tokens) (a : A) (b : B) (t : Lexeme) (rest : Tokens) → make x.token a ≡ b → (used : Tokens) → 1 ≤ length used
      → x ∷ xs ≡ used ++ t ∷ rest → ((us : Tokens) → phrase (used ++ t ∷ us) ≡ Read a (t ∷ us)) → ReadsAgain 1 made (x ∷ xs) b t rest
  made_read x xs a b t rest same [] enough parts again = absurd (omega (arith, enough))
  made_read x xs a b t rest same (y ∷ used) enough parts again =
      let first : x ≡ y = cc in
      record { used = y ∷ used; parts = parts; enough = enough; again = λ us. made_again a b x y t used us first same (again us) }

  made_refused : (us : Tokens) → IsRefusal (phrase us) → IsRefusal (made us)
  made_refused [] refused = subst IsRefusal (sym nothing) tt
  made_refused (x ∷ us) refused = subst IsRefusal (sym (something x us)) (still_refused (phrase (x ∷ us)) (λ a. give (make x.token a)) refused)

  read_with : (ts : Tokens) (b : B) (t : Lexeme) (rest : Tokens) → made ts ≡ Read b (t ∷ rest) → ReadsAgain 1 made ts b t rest
  read_with [] b t rest h = absurd (cc)
  read_with (x ∷ xs) b t rest h = outcome (phrase (x ∷ xs)) refl (sym (something x xs) ∙ h) where
    outcome : (o : Parsed A) → phrase (x ∷ xs) ≡ o → after_read o (λ a. give (make x.token a)) ≡ Read b (t ∷ rest) → ReadsAgain 1 made (x ∷ xs) b t rest
    outcome (Refused fault at) is h = absurd (cc)
    outcome (Read a mid) is h =
        let same = same_read (make x.token a) b mid (t ∷ rest) h in
        let r = one.reads (x ∷ xs) a t rest (is ∙ ap (Read a) same.1) in
        made_read x xs a b t rest same.0 r.used r.enough r.parts r.again

  refused_with : (ts : Tokens) (fault : Fault) (t : Lexeme) (rest : Tokens) → made ts ≡ Refused fault (t ∷ rest) → RefusesAgain made ts fault t rest
  refused_with [] fault t rest h = absurd (cc)
  refused_with (x ∷ xs) fault t rest h = outcome (phrase (x ∷ xs)) refl (sym (something x xs) ∙ h) where
    outcome : (o : Parsed A) → phrase (x ∷ xs) ≡ o → after_read o (λ a. give (make x.token a)) ≡ Refused fault (t ∷ rest)
        → RefusesAgain made (x ∷ xs) fault t rest
    outcome (Read a mid) is h = absurd (cc)
    outcome (Refused f at) is h =
        let same = refused_at f fault at (t ∷ rest) h in
        let r = one.refuses (x ∷ xs) fault t rest (is ∙ ap (λ f. Refused f at) same.0 ∙ ap (Refused fault) same.1) in
        record { front = r.front; parts = r.parts; again = λ us alike. made_refused (r.front ++ t ∷ us) (r.again us alike) }

  pub with_first : IsPredictive 1 made
  with_first = record { reads = read_with; refuses = refused_with }

reads_indentation : IsPredictive 1 indentation_setting
unfolding indentation_setting
reads_indentation = with_first (value_as ExpectedIndentation indentation_of) (reads_string_as ExpectedIndentation indentation_of of_strings) indentation_setting
    (λ token i. plain.Indentation token i) _ refl (λ t ts. refl)

-- ---- names

name_read : (t : Lexeme) (rest : Tokens) (a : Token) (more : Tokens) (b : Bool) → is_kind kinds.Identifier t ≡ b
    → one kinds.Identifier (t ∷ rest) ≡ Read a more → t.token ≡ a
name_read t rest a more true is h = let e = one_here kinds.Identifier t rest true is in cc
name_read t rest a more false is h = let e = one_here kinds.Identifier t rest false is in absurd (cc)

abbrev pub with_form : Token → Option (Token × SettingForm)
with_form name = option_map (λ form. (name, form)) (form_of name.lexeme)

pub reads_setting_name : IsPredictive 1 setting_with_form
unfolding setting_with_form
reads_setting_name = reads_form UnknownSetting (one kinds.Identifier) (takes_one kinds.Identifier) with_form
    (λ t rest us a b more later alike first none second.
    ap with_form (sym (name_read t us b later (is_kind kinds.Identifier t) refl second) ∙ name_read t rest a more (is_kind kinds.Identifier t) refl first)
    ∙ none)

-- ---- whole settings

reads_setting : (form : SettingForm) (name : Text) → IsPredictive 0 (setting form name)
unfolding setting
reads_setting forms.Expression name =
    any (follows (follows (takes_one kinds.ColonEquals) (λ mark. reads_expression)) (λ e. gives_if UnknownSetting (expression_named name e)))
reads_setting forms.Flag name = follows reads_flag (λ on. gives_if UnknownSetting (flag_named name on))
reads_setting forms.Indentation name = any (follows (takes_one kinds.ColonEquals) (λ mark. reads_indentation))
reads_setting forms.Interpreter name =
    any (follows (follows (takes_one kinds.ColonEquals) (λ mark. reads_command)) (λ i. gives_if UnknownSetting (interpreter_named name i)))
reads_setting forms.Version name = any (follows (follows (takes_one kinds.ColonEquals) (λ mark. reads_string)) (λ literal. gives _))

abbrev pub set_value : Token × SettingForm → Phrase Set
set_value named = do
  value ← in_line (setting named.1 named.0.lexeme)
  give (record { name = named.0; value = value })

pub reads_set_value : (named : Token × SettingForm) → IsPredictive 0 (set_value named)
reads_set_value named = follows (ends_its_line (reads_setting named.1 named.0.lexeme)) (λ value. gives _)

pub reads_set : Begins 2 kinds.Identifier set
unfolding set
reads_set = begins kinds.Identifier (λ keyword. follows reads_setting_name (λ named. reads_set_value named))
