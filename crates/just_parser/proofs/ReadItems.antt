-- Items are predictive.
use Rattle.std.specs.Prelude.{ℕ, suc, ◌≡◌, ◌≤◌, ◌⊎◌, Bool, true, false, ◌||◌, ◌==◌, List, [], ◌∷◌, ◌++◌, codes, length, take, if◌then◌else◌, Option, Some, None}
use Rattle.std.proofs.Common.{◌∙◌, ap, arith, inl, inr, refl, subst, sym}
use Rattle.std.proofs.lemmas.List.{append-nil}
use Rattle.just_lexer.specs.State.{Lexeme}
use Rattle.just_lexer.specs.declared.kind.TokenKind.TheVariants as kinds
use Rattle.just_syntax.specs.Plain.{Token}
use Rattle.just_expression_parser.specs.Tokens.{Tokens, is_at, is_kind}
use Rattle.just_expression_parser.proofs.Codes.{of_one_kind}
use Rattle.just_parser.specs.Attributes.{are_private, attributes}
use Rattle.just_parser.specs.Items.{after_keyword, alias, assignment, assignment_item, function, function_parameter, item, item_after, item_line, item_of}
use Rattle.just_parser.specs.Items.{items, set, setting_with_form, unexport}
use Rattle.just_parser.specs.Phrase.{Parsed, Phrase, Read, Refused, ◌>>=◌, ◌>>◌, after_read, found_at, give, in_line, one}
use Rattle.just_parser.specs.Plain.{Alias, Assigns, Defines, Item, Recipes, Sets, Unexports, WrittenAttribute}
use Rattle.just_parser.specs.Recipes.{recipe}
use Rattle.just_parser.specs.Start.{ends_with_name, gives_name, is_unsupported, start_of_item, start_of_keyword, start_of_name, takes_attributes}
use Rattle.just_parser.specs.declared.parse_error.Fault.{Fault}
use Rattle.just_parser.specs.declared.parse_error.Fault.TheVariants.{ExpectedItem, ExtraneousAttributes, UnknownSetting, Unsupported}
use Rattle.just_parser.specs.declared.setting_form.SettingForm.{SettingForm}
use Rattle.just_parser.specs.declared.start.Start.{Start}
use Rattle.just_parser.specs.declared.start.Start.TheVariants as starts
use Rattle.just_parser.specs.Laws.{HasNoItems, RefusesEarly, lookahead}
use Rattle.just_parser.proofs.ReadAttributes.{reads_attributes}
use Rattle.just_parser.proofs.ReadExpressions.{reads_expression}
use Rattle.just_parser.proofs.Predictive.{IsPredictive, IsRefusal, ReadsAgain, RefusesAgain, TakesToken, any, at_least, follows, gives, refused_at}
use Rattle.just_parser.proofs.Predictive.{refuses_next}
use Rattle.just_parser.proofs.Predictive.{reads_some, refused_first, takes_then}
use Rattle.just_parser.proofs.ReadRecipes.{reads_recipe, recipe_takes, second_is_taken}
use Rattle.just_parser.proofs.Turns.{many_of}
use Rattle.just_parser.proofs.ReadSettings.{reads_set, reads_set_value, reads_setting_name, set_value, with_form}
use Rattle.just_parser.proofs.ReadTokens.{Begins, accepts, at_looks, at_one, begins, begins_with, by_kind, ends_element, ends_its_line, ends_line}
use Rattle.just_parser.proofs.ReadTokens.{one_here, takes_one}

-- ---- each item

reads_assignment : (private eager export : Bool) → Begins 3 kinds.Identifier (assignment private eager export)
unfolding assignment
reads_assignment private eager export = begins kinds.Identifier (λ name. follows (takes_one kinds.ColonEquals) (λ mark.
    follows (ends_its_line reads_expression) (λ value. gives _)))

reads_assignment_item : (private eager export : Bool) → Begins 3 kinds.Identifier (assignment_item private eager export)
reads_assignment_item private eager export = begins_with (reads_assignment private eager export) (λ a. gives (Assigns a))

reads_keyword_item : (private eager export : Bool) → Begins 4 kinds.Identifier (after_keyword (assignment_item private eager export))
reads_keyword_item private eager export = begins kinds.Identifier (λ keyword. (reads_assignment_item private eager export).predictive)

reads_function_parameter : IsPredictive 1 function_parameter
unfolding function_parameter
reads_function_parameter = follows (takes_one kinds.Identifier) (λ name. follows (ends_element kinds.ParenR) (λ comma. gives _))

reads_function : Begins 5 kinds.Identifier function
unfolding function
reads_function = begins kinds.Identifier (λ name. follows (takes_one kinds.ParenL) (λ mark.
    follows (many_of (is_at 0 kinds.ParenR) (at_looks kinds.ParenR) reads_function_parameter) (λ parameters. follows (takes_one kinds.ParenR) (λ end.
    follows (takes_one kinds.ColonEquals) (λ mark. follows (ends_its_line reads_expression) (λ value. gives _))))))

abbrev aliased : Phrase Item
aliased = do
  name ← one kinds.Identifier
  one kinds.ColonEquals
  target ← in_line (one kinds.Identifier)
  give (Alias name target)

reads_aliased : Begins 3 kinds.Identifier aliased
reads_aliased = begins kinds.Identifier (λ name. follows (takes_one kinds.ColonEquals) (λ mark.
    follows (ends_its_line (takes_one kinds.Identifier)) (λ target. gives (Alias name target))))

reads_alias : Begins 4 kinds.Identifier alias
unfolding alias
reads_alias = begins kinds.Identifier (λ keyword. reads_aliased.predictive)

abbrev unexported : Phrase Item
unexported = do
  name ← in_line (one kinds.Identifier)
  give (Unexports name)

reads_unexported : Begins 1 kinds.Identifier unexported
reads_unexported = begins_with (begins_with (at_one kinds.Identifier) (λ name. follows ends_line (λ end. gives name))) (λ name. gives (Unexports name))

reads_unexport : Begins 2 kinds.Identifier unexport
unfolding unexport
reads_unexport = begins kinds.Identifier (λ keyword. reads_unexported.predictive)

-- ---- an item that begins so

-- it is refused at once
abbrev IsRefusing : Start → Type 0
IsRefusing starts.Other = Unit {0}
IsRefusing starts.Unsupported = Unit {0}
IsRefusing _ = ⊥

reads_item_of : (all : List WrittenAttribute) (start : Start) → IsPredictive 2 (item_of all start)
unfolding item_of
reads_item_of all starts.Alias = at_least (omega arith) reads_alias.predictive
reads_item_of all starts.Assignment = at_least (omega arith) (reads_assignment_item (are_private all) false false).predictive
reads_item_of all starts.Eager = at_least (omega arith) (reads_keyword_item (are_private all) true false).predictive
reads_item_of all starts.Export = at_least (omega arith) (reads_keyword_item (are_private all) false true).predictive
reads_item_of all starts.Function = at_least (omega arith) (follows reads_function.predictive (λ f. gives (Defines f)))
reads_item_of all starts.Other = refuses_next ExpectedItem
reads_item_of all starts.Recipe = follows (reads_recipe all) (λ r. gives (Recipes r))
reads_item_of all starts.Set = follows reads_set.predictive (λ s. gives (Sets s))
reads_item_of all starts.Unexport = reads_unexport.predictive
reads_item_of all starts.Unsupported = refuses_next Unsupported

-- the name that it begins with is taken
item_takes : (all : List WrittenAttribute) (start : Start) (t : Lexeme) → is_kind kinds.Identifier t ≡ true → (IsRefusing start → ⊥)
    → TakesToken (item_of all start) t
unfolding item_of
item_takes all starts.Alias t is goes = reads_alias.takes t is
item_takes all starts.Assignment t is goes = (reads_assignment_item (are_private all) false false).takes t is
item_takes all starts.Eager t is goes = (reads_keyword_item (are_private all) true false).takes t is
item_takes all starts.Export t is goes = (reads_keyword_item (are_private all) false true).takes t is
item_takes all starts.Function t is goes = (begins_with reads_function (λ f. gives (Defines f))).takes t is
item_takes all starts.Other t is goes = absurd (goes tt)
item_takes all starts.Recipe t is goes = takes_then t (any (reads_recipe all)) (λ r. gives (Recipes r)) (recipe_takes all t is)
item_takes all starts.Set t is goes = (begins_with reads_set (λ s. gives (Sets s))).takes t is
item_takes all starts.Unexport t is goes = reads_unexport.takes t is
item_takes all starts.Unsupported t is goes = absurd (goes tt)

-- ---- the second token

-- after a name, what follows is refused at the next token
after_first : {A : Type 0} (next : Token → Phrase A) (x : Lexeme) (ts : Tokens) → is_kind kinds.Identifier x ≡ true
    → (one kinds.Identifier >>= next) (x ∷ ts) ≡ next x.token ts
after_first next x ts is = ap (λ o. after_read o next) (one_here kinds.Identifier x ts true is)

refused_alone : {A B : Type 0} (o : Parsed A) (make : A → B) (fault : Fault) (at : Tokens) → after_read o (λ a. give (make a)) ≡ Refused fault at
    → o ≡ Refused fault at
refused_alone (Read a ts) make fault at is = absurd (cc)
refused_alone (Refused f ts) make fault at is = cc

name_refused : (fault : Fault) (t : Lexeme) (rest at : Tokens) (o : Option (Token × SettingForm)) → found_at UnknownSetting (t ∷ rest) o rest ≡ Refused fault at
    → fault ≡ UnknownSetting
name_refused fault t rest at None is = cc
name_refused fault t rest at (Some named) is = absurd (cc)

-- only the name of a setting is refused there
setting_refused : (t : Lexeme) (rest : Tokens) (fault : Fault) → is_kind kinds.Identifier t ≡ true → setting_with_form (t ∷ rest) ≡ Refused fault (t ∷ rest)
    → fault ≡ UnknownSetting
unfolding setting_with_form
setting_refused t rest fault is h =
    name_refused fault t rest (t ∷ rest) (with_form t.token)
    (sym (ap (λ o. after_read o (λ name. found_at UnknownSetting (t ∷ rest) (with_form name))) (one_here kinds.Identifier t rest true is)) ∙ h)

set_refused : (x t : Lexeme) (rest : Tokens) (fault : Fault) → is_kind kinds.Identifier x ≡ true → is_kind kinds.Identifier t ≡ true
    → set (x ∷ t ∷ rest) ≡ Refused fault (t ∷ rest) → fault ≡ UnknownSetting
unfolding set
set_refused x t rest fault first second h =
    setting_refused t rest fault second
    (refused_first t (any reads_setting_name) (λ named. reads_set_value named) (reads_some reads_setting_name t) rest fault
    (sym (after_first (λ keyword. setting_with_form >>= set_value) x (t ∷ rest) first) ∙ h))

-- an item that begins with a keyword takes a name after it, but for that of a setting
abbrev IsOfKeyword : Start → Type 0
IsOfKeyword starts.Assignment = ⊥
IsOfKeyword starts.Function = ⊥
IsOfKeyword starts.Other = ⊥
IsOfKeyword _ = Unit {0}

longer : (x t : Lexeme) (rest : Tokens) → x ∷ t ∷ rest ≡ t ∷ rest → ⊥
longer x t rest same = omega (arith, ap length same)

name_taken : (all : List WrittenAttribute) (start : Start) (x t : Lexeme) (rest : Tokens) (fault : Fault) → is_kind kinds.Identifier x ≡ true
    → is_kind kinds.Identifier t ≡ true → IsOfKeyword start → item_of all start (x ∷ t ∷ rest) ≡ Refused fault (t ∷ rest) → fault ≡ UnknownSetting
unfolding item_of alias unexport
name_taken all starts.Alias x t rest fault first second so h =
    absurd ((reads_aliased.takes t second).never_refused rest fault (sym (after_first (λ keyword. aliased) x (t ∷ rest) first) ∙ h))
name_taken all starts.Eager x t rest fault first second so h =
    absurd (((reads_assignment_item (are_private all) true false).takes t second).never_refused rest fault
    (sym (after_first (λ keyword. assignment_item (are_private all) true false) x (t ∷ rest) first) ∙ h))
name_taken all starts.Export x t rest fault first second so h =
    absurd (((reads_assignment_item (are_private all) false true).takes t second).never_refused rest fault
    (sym (after_first (λ keyword. assignment_item (are_private all) false true) x (t ∷ rest) first) ∙ h))
name_taken all starts.Recipe x t rest fault first second so h =
    absurd (second_is_taken all x t rest fault first second (refused_alone (recipe all (x ∷ t ∷ rest)) Recipes fault (t ∷ rest) h))
name_taken all starts.Set x t rest fault first second so h =
    set_refused x t rest fault first second (refused_alone (set (x ∷ t ∷ rest)) Sets fault (t ∷ rest) h)
name_taken all starts.Unexport x t rest fault first second so h =
    absurd ((reads_unexported.takes t second).never_refused rest fault (sym (after_first (λ keyword. unexported) x (t ∷ rest) first) ∙ h))
name_taken all starts.Unsupported x t rest fault first second so h = absurd (longer x t rest (refused_at Unsupported fault (x ∷ t ∷ rest) (t ∷ rest) h).1)
name_taken all starts.Assignment x t rest fault first second so h = absurd so
name_taken all starts.Function x t rest fault first second so h = absurd so
name_taken all starts.Other x t rest fault first second so h = absurd so

-- ---- how an item begins, by three tokens at most

same_start : (x y z : Lexeme) (rest us : Tokens) → start_of_item (x ∷ y ∷ z ∷ rest) ≡ start_of_item (x ∷ y ∷ z ∷ us)
unfolding start_of_item start_of_name start_of_keyword
same_start x y z rest us = refl

-- by the first, if that is no name
start_by_one : (t : Lexeme) (rest us : Tokens) → is_kind kinds.Identifier t ≡ false → start_of_item (t ∷ us) ≡ start_of_item (t ∷ rest)
unfolding start_of_item
start_by_one t rest us is = rw is refl

-- by the first two, if the second is no name
start_by_two : (x t : Lexeme) (rest us : Tokens) → is_kind kinds.Identifier t ≡ false → start_of_item (x ∷ t ∷ us) ≡ start_of_item (x ∷ t ∷ rest)
unfolding start_of_item start_of_name start_of_keyword
start_by_two x t rest us is = rw is refl

start_after : (x y : Lexeme) (front : Tokens) (t : Lexeme) (rest us : Tokens)
    → start_of_item (x ∷ y ∷ front ++ t ∷ us) ≡ start_of_item (x ∷ y ∷ front ++ t ∷ rest)
start_after x y [] t rest us = same_start x y t us rest
start_after x y (z ∷ front) t rest us = same_start x y z (front ++ t ∷ us) (front ++ t ∷ rest)

one_more : (x t : Lexeme) (us rest : Tokens) → take 1 us ≡ take 1 rest → start_of_item (x ∷ t ∷ us) ≡ start_of_item (x ∷ t ∷ rest)
one_more x t [] [] alike = refl
one_more x t [] (b ∷ rest) alike = absurd (cc)
one_more x t (a ∷ us) [] alike = absurd (cc)
one_more x t (a ∷ us) (b ∷ rest) alike =
    let same : a ≡ b = cc in
    ap (λ c. start_of_item (x ∷ t ∷ c ∷ us)) same ∙ same_start x t b us rest

two_more : (t : Lexeme) (us rest : Tokens) → take 2 us ≡ take 2 rest → start_of_item (t ∷ us) ≡ start_of_item (t ∷ rest)
two_more t [] [] alike = refl
two_more t [] (b ∷ rest) alike = absurd (cc)
two_more t (a ∷ us) [] alike = absurd (cc)
two_more t (a ∷ us) (b ∷ rest) alike =
    let same : a ≡ b = cc in
    let others : take 1 us ≡ take 1 rest = cc in
    ap (λ c. start_of_item (t ∷ c ∷ us)) same ∙ one_more t b us rest others

-- ---- what names begin

starts_other : (b : Bool) (s r : Start) → (IsRefusing s → s ≡ starts.Unsupported) → (IsRefusing r → r ≡ starts.Unsupported)
    → IsRefusing (if b then s else r) → (if b then s else r) ≡ starts.Unsupported
starts_other true s r one other is = one is
starts_other false s r one other is = other is

keyword_refuses : (ts : Tokens) → IsRefusing (start_of_keyword ts) → start_of_keyword ts ≡ starts.Unsupported
unfolding start_of_keyword
keyword_refuses ts =
    starts_other (gives_name (codes "alias") ts) _ _ (λ no. absurd no) (starts_other (gives_name (codes "eager") ts) _ _ (λ no. absurd no)
    (starts_other (gives_name (codes "export") ts) _ _ (λ no. absurd no)
    (starts_other (gives_name (codes "set") ts || ends_with_name (codes "set") ts) _ _ (λ no. absurd no)
    (starts_other (ends_with_name (codes "unexport") ts) _ _ (λ no. absurd no)
    (starts_other (is_unsupported ts) starts.Unsupported starts.Recipe (λ yes. refl) (λ no. absurd no))))))

-- an item that begins with a name, and is refused at once, is an unsupported one
name_refuses : (t : Lexeme) (rest : Tokens) → is_kind kinds.Identifier t ≡ true → IsRefusing (start_of_item (t ∷ rest))
    → start_of_item (t ∷ rest) ≡ starts.Unsupported
unfolding start_of_item start_of_name
name_refuses t rest is = rw is (starts_other (is_at 1 kinds.ColonEquals (t ∷ rest)) _ _ (λ no. absurd no)
    (starts_other (is_at 1 kinds.ParenL (t ∷ rest)) _ _ (λ no. absurd no) (keyword_refuses (t ∷ rest))))

of_keyword : (b : Bool) (s r : Start) → IsOfKeyword s → IsOfKeyword r → IsOfKeyword (if b then s else r)
of_keyword true s r one other = one
of_keyword false s r one other = other

keyword_is : (ts : Tokens) → IsOfKeyword (start_of_keyword ts)
unfolding start_of_keyword
keyword_is ts =
    of_keyword (gives_name (codes "alias") ts) _ _ tt (of_keyword (gives_name (codes "eager") ts) _ _ tt
    (of_keyword (gives_name (codes "export") ts) _ _ tt
    (of_keyword (gives_name (codes "set") ts || ends_with_name (codes "set") ts) _ _ tt
    (of_keyword (ends_with_name (codes "unexport") ts) _ _ tt
    (of_keyword (is_unsupported ts) starts.Unsupported starts.Recipe tt tt)))))

-- two names begin what a keyword begins
names_begin : (x t : Lexeme) (rest : Tokens) → is_kind kinds.Identifier x ≡ true → is_kind kinds.Identifier t ≡ true
    → IsOfKeyword (start_of_item (x ∷ t ∷ rest))
unfolding start_of_item start_of_name
names_begin x t rest first second =
    let no_mark : is_kind kinds.ColonEquals t ≡ false = of_one_kind kinds.Identifier kinds.ColonEquals t second (λ same. cc) in
    let no_open : is_kind kinds.ParenL t ≡ false = of_one_kind kinds.Identifier kinds.ParenL t second (λ same. cc) in
    rw (first, no_mark, no_open) (keyword_is (x ∷ t ∷ rest))

-- ---- an item after its attributes

module _ (all : List WrittenAttribute) where
  abbrev is_fit : Start → Bool
  is_fit start = (length all == 0) || takes_attributes start

  item_after_is : (ts : Tokens) (start : Start) (b : Bool) → start_of_item ts ≡ start → is_fit start ≡ b
      → item_after all ts ≡ (if b then item_of all start ts else Refused ExtraneousAttributes ts)
  unfolding item_after
  item_after_is ts start b same is = rw (same, is) refl

  fits_again : (used : Tokens) (t : Lexeme) (rest us ts : Tokens) → 2 ≤ length used → ts ≡ used ++ t ∷ rest → start_of_item (used ++ t ∷ us) ≡ start_of_item ts
  fits_again [] t rest us ts enough parts = absurd (omega (arith, enough))
  fits_again (x ∷ []) t rest us ts enough parts = absurd (omega (arith, enough))
  fits_again (x ∷ y ∷ front) t rest us ts enough parts = start_after x y front t rest us ∙ ap start_of_item (sym parts)

  item_read : (ts : Tokens) (i : Item) (t : Lexeme) (rest : Tokens) (b : Bool) → is_fit (start_of_item ts) ≡ b
      → (if b then item_of all (start_of_item ts) ts else Refused ExtraneousAttributes ts) ≡ Read i (t ∷ rest) → ReadsAgain 2 (item_after all) ts i t rest
  item_read ts i t rest false is h = absurd (cc)
  item_read ts i t rest true is h =
      let r = (reads_item_of all (start_of_item ts)).reads ts i t rest h in
      record {
        used = r.used;
        parts = r.parts;
        enough = r.enough;
        again = λ us. item_after_is (r.used ++ t ∷ us) (start_of_item ts) true (fits_again r.used t rest us ts r.enough r.parts) is ∙ r.again us;
      }

  extraneous : (ts : Tokens) (fault : Fault) (t : Lexeme) (rest us : Tokens) → is_fit (start_of_item ts) ≡ false → ExtraneousAttributes ≡ fault
      → ts ≡ t ∷ rest → take (lookahead fault) us ≡ take (lookahead fault) rest → IsRefusal (item_after all (t ∷ us))
  extraneous ts fault t rest us is same parts alike =
      let three = subst (λ f. take (lookahead f) us ≡ take (lookahead f) rest) (sym same) alike in
      subst IsRefusal (sym (item_after_is (t ∷ us) (start_of_item ts) false (two_more t us rest three ∙ ap start_of_item (sym parts)) is)) tt

  refusing : (start : Start) → IsRefusing start ⊎ (IsRefusing start → ⊥)
  refusing starts.Other = inl tt
  refusing starts.Unsupported = inl tt
  refusing start = inr (λ no. no)

  unsupported_fault : (ts : Tokens) (fault : Fault) (at : Tokens) → item_of all starts.Unsupported ts ≡ Refused fault at → Unsupported ≡ fault
  unfolding item_of
  unsupported_fault ts fault at h = (refused_at {A = Item} Unsupported fault ts at h).0

  -- the first token is refused
  refused_at_first : (fault : Fault) (t : Lexeme) (rest us : Tokens) (start : Start) → start_of_item (t ∷ rest) ≡ start
      → item_of all start (t ∷ rest) ≡ Refused fault (t ∷ rest) → take (lookahead fault) us ≡ take (lookahead fault) rest
      → (b : Bool) → is_kind kinds.Identifier t ≡ b → start_of_item (t ∷ us) ≡ start_of_item (t ∷ rest)
  refused_at_first fault t rest us start begins h alike false no_name = start_by_one t rest us no_name
  refused_at_first fault t rest us start begins h alike true name =
      by_start (refusing start) where
        unsupported : start ≡ starts.Unsupported → start_of_item (t ∷ us) ≡ start_of_item (t ∷ rest)
        unsupported same =
            let fault_is : Unsupported ≡ fault = unsupported_fault (t ∷ rest) fault (t ∷ rest) (ap (λ s. item_of all s (t ∷ rest)) (sym same) ∙ h) in
            two_more t us rest (subst (λ f. take (lookahead f) us ≡ take (lookahead f) rest) (sym fault_is) alike)

        by_start : IsRefusing start ⊎ (IsRefusing start → ⊥) → start_of_item (t ∷ us) ≡ start_of_item (t ∷ rest)
        by_start (inl is) = unsupported (sym begins ∙ name_refuses t rest name (subst IsRefusing (sym begins) is))
        by_start (inr goes) = absurd ((item_takes all start t name goes).never_refused rest fault h)

  -- the second one is
  refused_at_second : (fault : Fault) (x t : Lexeme) (rest us : Tokens) (start : Start) → start_of_item (x ∷ t ∷ rest) ≡ start
      → item_of all start (x ∷ t ∷ rest) ≡ Refused fault (t ∷ rest) → take (lookahead fault) us ≡ take (lookahead fault) rest
      → (b c : Bool) → is_kind kinds.Identifier x ≡ b → is_kind kinds.Identifier t ≡ c → start_of_item (x ∷ t ∷ us) ≡ start_of_item (x ∷ t ∷ rest)
  refused_at_second fault x t rest us start begins h alike false c no_name second = start_by_one x (t ∷ rest) (t ∷ us) no_name
  refused_at_second fault x t rest us start begins h alike true false name no_name = start_by_two x t rest us no_name
  refused_at_second fault x t rest us start begins h alike true true first second =
      let fault_is = name_taken all start x t rest fault first second (subst IsOfKeyword begins (names_begin x t rest first second)) h in
      one_more x t us rest (subst (λ f. take (lookahead f) us ≡ take (lookahead f) rest) fault_is alike)

  -- a refusal is one whatever comes after it
  refused_fit : (ts : Tokens) (fault : Fault) (t : Lexeme) (rest : Tokens) → is_fit (start_of_item ts) ≡ true
      → item_of all (start_of_item ts) ts ≡ Refused fault (t ∷ rest) → (front : Tokens) → ts ≡ front ++ t ∷ rest
      → ((us : Tokens) → take (lookahead fault) us ≡ take (lookahead fault) rest → IsRefusal (item_of all (start_of_item ts) (front ++ t ∷ us)))
      → (us : Tokens) → take (lookahead fault) us ≡ take (lookahead fault) rest → start_of_item (front ++ t ∷ us) ≡ start_of_item ts
  refused_fit ts fault t rest is h [] parts again us alike =
      refused_at_first fault t rest us (start_of_item ts) (ap start_of_item (sym parts)) (sym (ap (item_of all (start_of_item ts)) parts) ∙ h) alike
      (is_kind kinds.Identifier t) refl ∙ ap start_of_item (sym parts)
  refused_fit ts fault t rest is h (x ∷ []) parts again us alike =
      refused_at_second fault x t rest us (start_of_item ts) (ap start_of_item (sym parts)) (sym (ap (item_of all (start_of_item ts)) parts) ∙ h) alike
      (is_kind kinds.Identifier x) (is_kind kinds.Identifier t) refl refl ∙ ap start_of_item (sym parts)
  refused_fit ts fault t rest is h (x ∷ y ∷ front) parts again us alike = start_after x y front t rest us ∙ ap start_of_item (sym parts)

  item_refused : (ts : Tokens) (fault : Fault) (t : Lexeme) (rest : Tokens) (b : Bool) → is_fit (start_of_item ts) ≡ b
      → (if b then item_of all (start_of_item ts) ts else Refused ExtraneousAttributes ts) ≡ Refused fault (t ∷ rest)
      → RefusesAgain (item_after all) ts fault t rest
  item_refused ts fault t rest false is h =
      let same = refused_at {A = Item} ExtraneousAttributes fault ts (t ∷ rest) h in
      record { front = []; parts = same.1; again = λ us alike. extraneous ts fault t rest us is same.0 same.1 alike }
  item_refused ts fault t rest true is h =
      let r = (reads_item_of all (start_of_item ts)).refuses ts fault t rest h in
      record {
        front = r.front;
        parts = r.parts;
        again = λ us alike. subst IsRefusal (sym (item_after_is (r.front ++ t ∷ us) (start_of_item ts) true
            (refused_fit ts fault t rest is h r.front r.parts r.again us alike) is)) (r.again us alike);
      }

  reads_item_after : IsPredictive 2 (item_after all)
  reads_item_after = record {
    reads = λ ts i t rest h.
        let b = is_fit (start_of_item ts) in
        item_read ts i t rest b refl (sym (item_after_is ts (start_of_item ts) b refl refl) ∙ h);
    refuses = λ ts fault t rest h.
        let b = is_fit (start_of_item ts) in
        item_refused ts fault t rest b refl (sym (item_after_is ts (start_of_item ts) b refl refl) ∙ h);
  }

-- ---- all items

reads_item : IsPredictive 1 item
unfolding item
reads_item = at_least (omega arith) (follows reads_attributes (λ all. reads_item_after all))

reads_item_line : IsPredictive 1 item_line
unfolding item_line
reads_item_line = by_kind kinds.Eol (follows (takes_one kinds.Eol) (λ end. gives [])) (follows reads_item (λ i. gives (i ∷ [])))

reads_items : IsPredictive 0 items
unfolding items
reads_items = follows (accepts kinds.ByteOrderMark) (λ mark. any (follows (many_of (is_at 0 kinds.Eof) (at_looks kinds.Eof) reads_item_line)
    (λ all. follows (takes_one kinds.Eof) (λ end. gives all))))

not_refused : (outcome : Parsed (List Item)) → IsRefusal outcome → (all : List Item) (rest : Tokens) → outcome ≡ Read all rest → ⊥
not_refused (Read found ts) refused all rest is = refused
not_refused (Refused fault ts) refused all rest is = cc

same_rest : (u t : Lexeme) (us rest : Tokens) (n : ℕ) → take (suc n) (u ∷ us) ≡ take (suc n) (t ∷ rest) → (u ≡ t) × (take n us ≡ take n rest)
same_rest u t us rest n alike = (cc, cc)

no_others : (n : ℕ) (others : Tokens) → take (suc n) others ≡ [] → others ≡ []
no_others n [] is = refl
no_others n (t ∷ others) is = absurd (cc)

pub refuses_early : RefusesEarly
refuses_early ts [] fault is = (
  ts,
  sym (append-nil ts),
  λ others alike all rest h.
      not_refused (items ts) (subst IsRefusal (sym is) tt) all rest
      (sym (ap items (ap (λ us. ts ++ us) (no_others (lookahead fault) others alike) ∙ append-nil ts)) ∙ h),
)
refuses_early ts (t ∷ rest) fault is =
    let r = reads_items.refuses ts fault t rest is in
    (r.front, r.parts, by_others r.front r.again) where
      by_others : (front : Tokens) → ((us : Tokens) → take (lookahead fault) us ≡ take (lookahead fault) rest → IsRefusal (items (front ++ t ∷ us)))
          → (others : Tokens) → take (suc (lookahead fault)) others ≡ take (suc (lookahead fault)) (t ∷ rest) → HasNoItems (front ++ others)
      by_others front again [] alike all others h = absurd (cc)
      by_others front again (u ∷ us) alike all others h =
          let same = same_rest u t us rest (lookahead fault) alike in
          not_refused (items (front ++ t ∷ us)) (again us same.1) all others (sym (ap (λ x. items (front ++ x ∷ us)) same.0) ∙ h)
