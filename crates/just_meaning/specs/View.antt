-- Modules, and what they are evaluated in, as plain data.
use Rattle.std.specs.Prelude.{ℕ, ◌-◌, Bool, true, List, Option, Some, None, map, nat_eq}
use Rattle.std.specs.Borrow.{Bor}
use Rattle.std.specs.BTreeMap.{BTreeMap}
use Rattle.std.specs.Global.{Global}
use Rattle.std.specs.HashMap.{HashMap}
use Rattle.std.specs.HashSet.{HashSet}
use Rattle.std.specs.List.{list_any}
use Rattle.std.specs.declared.hash.FoldHasher.{FoldHasher}
use Rattle.std.specs.declared.hash.BuildHasherDefault.{BuildHasherDefault}
use Rattle.std.specs.declared.string.String.{String}
use Rattle.just_syntax.specs.Plain.{Text, Token, Attribute, Expr, Function, Parameter}
use Rattle.just_syntax.specs.View.{assignment_view, function_view, name_view, text_numbered}
use Rattle.just_syntax.specs.declared.assignment.Assignment.{Assignment}
use Rattle.just_syntax.specs.declared.name.Name.{Name}
use Rattle.just_value.specs.declared.scope.Scope.{Scope}
use Rattle.just_host.specs.declared.config.Config.{Config}
use Rattle.just_host.specs.declared.execution_context.ExecutionContext.{ExecutionContext}
use Rattle.just_host.specs.declared.justfile.Justfile.{Justfile}
use Rattle.just_host.specs.declared.search.Search.{Search}
use Rattle.just_host.specs.View.{fixed_view}
use Rattle.just_value.specs.Frames.{Frames}
use Rattle.just_value.specs.View.{frames_view}
use Rattle.just_meaning.specs.Assignments.{Assignments}
use Rattle.just_meaning.specs.Here.{Here, IsResolvedHere, in_recipe}
use Rattle.just_meaning.specs.Meaning.{Program}
use Rattle.just_meaning.specs.Module.{Module}
use Rattle.just_meaning.specs.Stage.{Constants}

-- the functions that a module's file defines
abbrev pub functions_view : Justfile → List Function
functions_view justfile = map function_view justfile.functions

-- without a set each number is referenced
abbrev pub is_referenced_in : {S : Type 0} → Option (Bor (HashSet ℕ S)) → ℕ → Bool
is_referenced_in None n = true
is_referenced_in (Some set) n = list_any (nat_eq n) set.now.keys

-- assignments in an order; the referenced numbers are those of the set, or all
abbrev pub ordered_view : {S : Type 0} → List Assignment → List Name → Option (Bor (HashSet ℕ S)) → Assignments
ordered_view assignments order references = record {
  all = map assignment_view assignments;
  order = map name_view order;
  referenced = is_referenced_in references;
}

-- the assignments of a module; the referenced numbers are those of the set, or all
abbrev pub assignments_view : {S : Type 0} → Justfile → Option (Bor (HashSet ℕ S)) → Assignments
assignments_view justfile references = ordered_view justfile.assignments justfile.evaluation_order.items references

abbrev pub program_view : ExecutionContext → Program
program_view c = record { fixed = fixed_view c; functions = functions_view c.module.now }

-- the inputs of a run in a context; the referenced numbers are those of the set, or all
abbrev pub module_view : {S : Type 0} → ExecutionContext → Option (Bor (HashSet ℕ S)) → Module
module_view c references = record {
  program = program_view c;
  assignments = assignments_view c.module.now references;
  limit = c.recursion_limit;
  overrides = text_numbered c.overrides.now;
}

-- the inputs of a run, from the arguments of its call
abbrev pub run_of : {S : Type 0} → Bor Config → Bor (BTreeMap (String Global) (String Global)) → Bor Justfile
    → Bor (HashMap ℕ (String Global) (BuildHasherDefault FoldHasher)) → Bor Scope → Bor Search → ℕ
    → Option (Bor (HashSet ℕ S)) → Module
run_of config dotenv justfile overrides parent search limit references =
    module_view (record {
      config = config;
      dotenv = dotenv;
      «module» = justfile;
      overrides = overrides;
      recursion_limit = limit;
      scope = parent;
      search = search;
    }) references

-- the inputs of a const stage, from the arguments of its call; the referenced numbers are those of the set, or all
abbrev pub constants_of : {A S T : Type 0} → List Assignment → List Name → HashMap ℕ (String A) S
    → Option (Bor (HashSet ℕ T)) → Constants
constants_of assignments order overrides references = record {
  assignments = ordered_view assignments order references;
  overrides = text_numbered overrides;
}

-- what is evaluated for a recipe in a context, in these frames, is resolved
abbrev pub IsResolvedWith : ExecutionContext → Frames → List (Attribute × Token) → List Parameter → List Expr → Type 0
IsResolvedWith c frames attributes parameters expressions = IsResolvedHere (functions_view c.module.now)
    (map assignment_view c.module.now.assignments) (frames_view c.scope.now) frames attributes parameters expressions

-- the program, the pending calls and the situation of a recipe in a context, in these frames
abbrev pub recipe_in : ExecutionContext → List (Text × Text) → Bool → Option Text → Frames → Here
recipe_in c environment is_dependency recipe frames =
    in_recipe (program_view c) (c.recursion_limit - 1) (frames_view c.scope.now) environment is_dependency recipe frames
