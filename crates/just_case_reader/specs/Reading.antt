-- Building a case from its lines.
use Rattle.std.specs.Prelude.{ℕ, suc, pos, Bool, true, false, not, List, [], ◌∷◌, ◌++◌, ◌&&◌, map, nat_eq, Option, Some}
use Rattle.std.specs.Prelude.{None, if◌then◌else◌, unwrap_or}
use Rattle.std.specs.BTreeMap.{insert_entry}
use Rattle.std.specs.Cmp.Lexicographic.{slice_cmp}
use Rattle.std.specs.List.{list_any}
use Rattle.std.specs.Option.{is_some, option_map}
use Rattle.std.specs.Ordering.{nat_cmp}
use Rattle.just_syntax.specs.Keyed.{value_at, with_value}
use Rattle.just_syntax.specs.Plain as plain
use Rattle.just_syntax.specs.Plain.{Text, Token, Expr}
use Rattle.just_value.specs.Refusal.{Code}
use Rattle.just_case_reader.specs.Case as cases
use Rattle.just_case_reader.specs.Case.{Case}
use Rattle.just_case_reader.specs.Line.{CaseLine, Bad, Command, Variable, Assign, Function, Override, Dotenv, Order}
use Rattle.just_case_reader.specs.Line.{Only, Reply, Fail, Always, Lists, Dry, Limit, Run, Const, Blocks, says_nothing}
use Rattle.just_case_reader.specs.Numbering.{KnownNames, no_names, number_of, numbers_of_names, parameters_with_numbers}
use Rattle.just_case_reader.specs.Numbering.{with_name, with_names}
use Rattle.just_case_reader.specs.Rest.{names}
use Rattle.just_case_reader.specs.Stack.{stack_after}
use Rattle.just_case_reader.specs.Token.{token_of}

-- The case so far, whether its end was read, the order given by a line, the expressions that are not yet assigned, the
-- last command, and the names.
pub record Reading : Type 0 where
  pub case : Case
  pub is_over : Bool
  pub given_order : Option (List Token)
  pub stack : List Expr
  pub last_command : Option Text
  pub names : KnownNames

-- the names in a text; empty if it is bad
abbrev pub names_in : Text → List Text
names_in text = unwrap_or (names text) []

-- all names but the first
abbrev pub parameters_in : List Text → List Text
parameters_in [] = []
parameters_in (name ∷ parameters) = parameters

-- ---- which lines are bad

abbrev pub assigned_name : plain.Assignment → Text
assigned_name a = a.name.lexeme

abbrev pub defined_name : plain.Function → Text
defined_name f = f.name.lexeme

-- there is a first name, and no function has it
abbrev pub is_new : List Text → List plain.Function → Bool
is_new [] functions = false
is_new (name ∷ parameters) functions = not (is_some (value_at defined_name name functions))

-- A line does not fit if it is not valid, if it assigns a name or defines a function a second time, if one of its names
-- is not valid, or if it answers the last command when there is none.
abbrev pub fits : CaseLine → Reading → Bool
fits Bad r = false
fits (Assign name export) r = not (is_some (value_at assigned_name name r.case.assignments))
fits (Function text) r = is_new (names_in text) r.case.functions
fits (Order text) r = is_some (names text)
fits (Only text) r = is_some (names text)
fits (Blocks text) r = is_some (names text)
fits (Always text) r = is_some r.last_command
fits _ r = true

-- ---- the changes by a line, part by part

abbrev pub names_after : CaseLine → KnownNames → KnownNames
names_after (Variable name) known = with_name known name
names_after (Assign name export) known = with_name known name
names_after (Override name text) known = with_name known name
names_after (Only text) known = with_names known (names_in text)
names_after (Function text) known = with_names known (parameters_in (names_in text))
names_after _ known = known

abbrev pub with_assigned : Text → Bool → ℕ → List Expr → List plain.Assignment → List plain.Assignment
with_assigned name export number [] assignments = assignments
with_assigned name export number (e ∷ es) assignments =
    with_value assigned_name assignments (record {
      eager = false;
      export = export;
      name = token_of name;
      number = number;
      private = false;
      value = e;
    })

-- the expression on top is assigned
abbrev pub assignments_after : CaseLine → Reading → List plain.Assignment
assignments_after (Assign name export) r = with_assigned name export (number_of r.names name) r.stack r.case.assignments
assignments_after _ r = r.case.assignments

abbrev pub order_after : CaseLine → List Token → List Token
order_after (Assign name export) order = order ++ token_of name ∷ []
order_after _ order = order

abbrev pub defines : List Text → KnownNames → List Expr → List plain.Function → List plain.Function
defines (name ∷ parameters) known (e ∷ es) functions =
    with_value defined_name functions
    (record { body = e; name = token_of name; parameters = parameters_with_numbers known parameters })
defines _ known _ functions = functions

-- the expression on top becomes the body of the function with the first name, whose parameters are the other names
abbrev pub functions_after : CaseLine → Reading → List plain.Function
functions_after (Function text) r = defines (names_in text) r.names r.stack r.case.functions
functions_after _ r = r.case.functions

abbrev pub overrides_after : CaseLine → Reading → ℕ → Option Text
overrides_after (Override name text) r =
    λ n. if nat_eq (number_of r.names name) n then Some text else r.case.overrides n
overrides_after _ r = r.case.overrides

abbrev pub references_after : CaseLine → Reading → Option (ℕ → Bool)
references_after (Only text) r =
    Some (λ n. list_any (λ number. nat_eq number n) (numbers_of_names r.names (names_in text)))
references_after _ r = r.case.references

abbrev pub dotenv_after : CaseLine → List (Text × Text) → List (Text × Text)
dotenv_after (Dotenv key text) dotenv = insert_entry (slice_cmp nat_cmp) dotenv key text
dotenv_after _ dotenv = dotenv

abbrev pub command_after : CaseLine → Option Text → Option Text
command_after (Command text lexeme) last = Some text
command_after _ last = last

-- the last command always gets this answer
abbrev pub always_after : CaseLine → Reading → List (Text × Text)
always_after (Always text) r = r.case.always ++ (unwrap_or r.last_command [], text) ∷ []
always_after _ r = r.case.always

abbrev pub replies_after : CaseLine → List cases.CommandReply → List cases.CommandReply
replies_after (Reply text) replies = replies ++ cases.Output text ∷ []
replies_after (Fail code) replies = replies ++ cases.Broken (Code (pos code)) ∷ []
replies_after _ replies = replies

abbrev pub lists_after : CaseLine → Bool → Bool
lists_after Lists on = true
lists_after _ on = on

abbrev pub dry_run_after : CaseLine → Bool → Bool
dry_run_after Dry on = true
dry_run_after _ on = on

abbrev pub limit_after : CaseLine → ℕ → ℕ
limit_after (Limit n) limit = n
limit_after _ limit = limit

abbrev pub evaluation_after : CaseLine → cases.Evaluation → cases.Evaluation
evaluation_after Run evaluation = cases.Run
evaluation_after Const evaluation = cases.Const
evaluation_after (Blocks text) evaluation = cases.Blocks (map token_of (names_in text))
evaluation_after _ evaluation = evaluation

abbrev pub given_order_after : CaseLine → Option (List Token) → Option (List Token)
given_order_after (Order text) parts = Some (map token_of (names_in text))
given_order_after _ parts = parts

abbrev pub is_over_after : CaseLine → Bool → Bool
is_over_after Run over = true
is_over_after Const over = true
is_over_after (Blocks text) over = true
is_over_after _ over = over

abbrev pub case_after : CaseLine → Reading → Case
case_after line r = record {
  assignments = assignments_after line r;
  evaluation_order = order_after line r.case.evaluation_order;
  functions = functions_after line r;
  overrides = overrides_after line r;
  references = references_after line r;
  dotenv = dotenv_after line r.case.dotenv;
  always = always_after line r;
  replies = replies_after line r.case.replies;
  lists = lists_after line r.case.lists;
  dry_run = dry_run_after line r.case.dry_run;
  recursion_limit = limit_after line r.case.recursion_limit;
  evaluation = evaluation_after line r.case.evaluation;
}

-- the state after a line that leaves these expressions
abbrev pub with_stack : CaseLine → Reading → List Expr → Reading
with_stack line r stack = record {
  case = case_after line r;
  is_over = is_over_after line r.is_over;
  given_order = given_order_after line r.given_order;
  stack = stack;
  last_command = command_after line r.last_command;
  names = names_after line r.names;
}

-- ---- the lines

-- the state after a line; `None` if the line is bad
abbrev pub read : CaseLine → Reading → Option Reading
read line r = if fits line r then option_map (with_stack line r) (stack_after line r.names r.stack) else None

-- the same, but after the end each line that is not skipped is bad
abbrev pub step : CaseLine → Reading → Option Reading
step line r = if r.is_over && not (says_nothing line) then None else read line r

-- the state before the first line
abbrev pub nothing : Reading
nothing = record {
  case = record {
    assignments = [];
    evaluation_order = [];
    functions = [];
    overrides = λ n. None;
    references = None;
    dotenv = [];
    always = [];
    replies = [];
    lists = false;
    dry_run = false;
    recursion_limit = 100;
    evaluation = cases.Run;
  };
  is_over = false;
  given_order = None;
  stack = [];
  last_command = None;
  names = no_names;
}

-- the case after its end was read; an order given by a line replaces that of the assignments
abbrev pub whole_case : Reading → Case
whole_case r = record r.case { evaluation_order = unwrap_or r.given_order r.case.evaluation_order }

-- the case, if its end was read
abbrev pub finished : Reading → Option Case
finished r = if r.is_over then Some (whole_case r) else None

-- a case, or the number of the first bad line, counted from 1
pub data Described : Type 0 where
  Describes : Case → Described
  BadLine : ℕ → Described

-- the result of the lines after a line, or that the line with number n is bad
abbrev pub or_bad : ℕ → Option Reading → (Reading → Described) → Described
or_bad n None after = BadLine n
or_bad n (Some r) after = after r

-- the result of lines, the first of which has number n; a case without an end is bad after its last line
abbrev pub described_from : ℕ → Reading → List CaseLine → Described
described_from n r [] = if r.is_over then Describes (whole_case r) else BadLine n
described_from n r (line ∷ lines) = or_bad n (step line r) (λ next. described_from (suc n) next lines)

-- the result of the lines of a case
abbrev pub described : List CaseLine → Described
described lines = described_from 1 nothing lines
