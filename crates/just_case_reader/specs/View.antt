-- Lines, stacks, the numbers of names, and cases, as plain data.
use Rattle.std.specs.Prelude.{List, map, string_bytes, reverse, ℕ, Bool, nat_eq, Result, Ok, Err}
use Rattle.std.specs.HashMap.{get_by, hash_map_len}
use Rattle.std.specs.Str.{bytes_eq}
use Rattle.just_syntax.specs.Plain.{Expr}
use Rattle.just_syntax.specs.View.{view, assignment_view, function_view, name_view, pair_view, pairs_view}
use Rattle.just_syntax.specs.View.{text_numbered}
use Rattle.just_case_reader.specs.Line as plain
use Rattle.just_case_reader.specs.Numbering.{KnownNames}
use Rattle.just_case_reader.specs.declared.numbering.Numbering.{Numbering}
use Rattle.just_case_reader.specs.declared.stack.Stack.{Stack}
use Rattle.just_case_reader.specs.declared.line.Line.{Line}
use Rattle.just_case_reader.specs.declared.line.Line.TheVariants as lines
use Rattle.std.specs.HashSet.{HashSet}
use Rattle.std.specs.List.{list_any}
use Rattle.std.specs.Option.{option_map}
use Rattle.std.specs.declared.string.String.{String}
use Rattle.just_value.specs.View.{fault_view}
use Rattle.just_value.specs.declared.error.CommandFault.{CommandFault}
use Rattle.just_case_reader.specs.Case as cases
use Rattle.just_case_reader.specs.Reading.{Reading}
use Rattle.just_case_reader.specs.declared.builder.Builder.{Builder}
use Rattle.just_case_reader.specs.declared.case.Case.{Case}
use Rattle.just_case_reader.specs.declared.evaluation.Evaluation.{Evaluation}
use Rattle.just_case_reader.specs.declared.evaluation.Evaluation.TheVariants as evaluations

abbrev pub case_line_view : Line → plain.CaseLine
case_line_view lines.Skipped = plain.Skipped
case_line_view lines.Bad = plain.Bad
case_line_view (lines.Literal text lexeme) = plain.Literal text.now lexeme.now
case_line_view (lines.Command text lexeme) = plain.Command text.now lexeme.now
case_line_view (lines.Variable name) = plain.Variable name.now
case_line_view (lines.Unary operator) = plain.Unary operator
case_line_view (lines.Binary operator) = plain.Binary operator
case_line_view lines.If = plain.If
case_line_view (lines.List count) = plain.ListOf count
case_line_view (lines.Call name count) = plain.Call name.now count
case_line_view (lines.Assign name export) = plain.Assign name.now export
case_line_view (lines.Function names) = plain.Function names.now
case_line_view (lines.Override name text) = plain.Override name.now text.now
case_line_view (lines.Dotenv name text) = plain.Dotenv name.now text.now
case_line_view (lines.Order names) = plain.Order names.now
case_line_view (lines.Only names) = plain.Only names.now
case_line_view (lines.Reply text) = plain.Reply text.now
case_line_view (lines.Fail code) = plain.Fail code
case_line_view (lines.Always text) = plain.Always text.now
case_line_view lines.Lists = plain.Lists
case_line_view lines.Dry = plain.Dry
case_line_view (lines.Limit limit) = plain.Limit limit
case_line_view lines.Run = plain.Run
case_line_view lines.Const = plain.Const
case_line_view (lines.Blocks names) = plain.Blocks names.now

-- the expressions that are not yet assigned, the last first
abbrev pub stack_view : Stack → List Expr
stack_view s = reverse (map view s.expressions.items)

abbrev pub numbering_view : Numbering → KnownNames
numbering_view numbering = record {
  number = λ name. get_by (λ key. bytes_eq name key.now) numbering.numbers;
  count = hash_map_len numbering.numbers;
}

abbrev pub number_set_view : {S : Type 0} → HashSet ℕ S → ℕ → Bool
number_set_view set n = list_any (nat_eq n) set.keys

abbrev pub command_reply_view : {A : Type 0} → Result (String A) CommandFault → cases.CommandReply
command_reply_view (Ok text) = cases.Output (string_bytes text)
command_reply_view (Err fault) = cases.Broken (fault_view fault)

abbrev pub evaluation_view : Evaluation → cases.Evaluation
evaluation_view evaluations.Run = cases.Run
evaluation_view evaluations.Const = cases.Const
evaluation_view (evaluations.Blocks order) = cases.Blocks (map name_view order.items)

abbrev pub case_view : Case → cases.Case
case_view c = record {
  assignments = map assignment_view c.assignments;
  evaluation_order = map name_view c.evaluation_order.items;
  functions = map function_view c.functions;
  overrides = text_numbered c.overrides;
  references = option_map number_set_view c.references;
  dotenv = pairs_view c.dotenv;
  always = map pair_view c.always.items;
  replies = map command_reply_view c.replies.items;
  lists = c.lists;
  dry_run = c.dry_run;
  recursion_limit = c.recursion_limit;
  evaluation = evaluation_view c.evaluation;
}

-- the state of the builder
abbrev pub reading_view : Builder → Reading
reading_view b = record {
  case = case_view b.case;
  is_over = b.is_over;
  given_order = option_map (λ order. map name_view order.items) b.order;
  stack = stack_view b.stack;
  last_command = option_map (λ text. text.now) b.last_command;
  names = numbering_view b.numbering;
}
