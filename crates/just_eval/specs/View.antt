-- Evaluators as plain data, and what expressions and assignments mean in them.
use Rattle.std.specs.Prelude.{◌≡◌, ℕ, Bool, true, false, ◌-◌, ◌<◌, List, [], ◌∷◌, Option, Some, None, Vec, map, nat_eq}
use Rattle.std.specs.Prelude.{string_bytes}
use Rattle.std.specs.BTreeMap.{BTreeMap, IsEmpty}
use Rattle.std.specs.Borrow.{Bor}
use Rattle.std.specs.List.{list_any}
use Rattle.std.specs.Option.{ForSome, is_some, option_map}
use Rattle.std.specs.declared.string.String.{String}
use Rattle.just_syntax.specs.Plain.{Expr, Assignment}
use Rattle.just_syntax.specs.View.{assignment_view, name_view, pairs_view, recipe_view}
use Rattle.just_syntax.specs.declared.name.Name.{Name}
use Rattle.just_syntax.specs.declared.recipe.Recipe.{Recipe}
use Rattle.just_value.specs.Value.{Value}
use Rattle.just_value.specs.Frames.{Bound, Frames, innermost, bound_innermost, value_in}
use Rattle.just_value.specs.ConstRefusal.{ConstRefusal}
use Rattle.just_value.specs.Refusal.{Refusal, Const}
use Rattle.just_value.specs.Outcome.{Outcome, Gave, Refused, Stopped, UnlessStopped, without_value}
use Rattle.just_value.specs.View.{frames_view}
use Rattle.just_value.specs.declared.scope.Scope.{Scope}
use Rattle.just_host.specs.Interaction.{Rules, Tree, Step, Behaves, unchecked}
use Rattle.just_host.specs.declared.execution_context.ExecutionContext.{ExecutionContext}
use Rattle.just_meaning.specs.Closings.{dynamic}
use Rattle.just_meaning.specs.Meaning.{Situation, eval}
use Rattle.just_meaning.specs.Here.{Here, IsResolvedHere, meanings}
use Rattle.just_meaning.specs.Internal.{IsFinal}
use Rattle.just_meaning.specs.Module.{bound_of}
use Rattle.just_meaning.specs.Parameters.{Arguments, Meanings}
use Rattle.just_meaning.specs.Stage.{StageState, with_open}
use Rattle.just_meaning.specs.View.{functions_view, recipe_in}
use Rattle.just_expression.specs.View.{program_of, rules_in}
use Rattle.just_eval.specs.declared.evaluator.Evaluator.{Evaluator}

-- With a context at least one call may be pending.
abbrev pub MayCallIn : Option ExecutionContext → Type 0
MayCallIn (Some c) = 0 < c.recursion_limit
MayCallIn None = Unit {0}

abbrev pub MayCall : Evaluator → Type 0
MayCall e = MayCallIn e.context

-- The evaluator is one of assignments: for no recipe, with an empty environment. A called body's frame is put on its
-- own frames.
pub record IsAtStart (e : Evaluator) : Type 0 where
  pub base : e.base ≡ None
  pub environment : IsEmpty e.env
  pub dependency : e.is_dependency ≡ false
  pub recipe : e.recipe ≡ None
  pub may_call : MayCall e

-- It evaluates before any run: it has no context.
pub record IsConst (e : Evaluator) : Type 0 where
  pub start : IsAtStart e
  pub context : e.context ≡ None

-- It evaluates in a run: it has a context.
abbrev pub IsInRun : Evaluator → Type 0
IsInRun e = is_some e.context ≡ true

-- the same except for the scope
pub record IsSameButScope (e f : Evaluator) : Type 0 where
  pub context : f.context ≡ e.context
  pub lists : f.lists ≡ e.lists
  pub open_numbers : f.non_const_assignments ≡ e.non_const_assignments

-- the same except for the scope and the environment
pub record IsSameButScopeAndEnvironment (e f : Evaluator) : Type 0 where
  pub base : f.base ≡ e.base
  pub context : f.context ≡ e.context
  pub dependency : f.is_dependency ≡ e.is_dependency
  pub lists : f.lists ≡ e.lists
  pub open_numbers : f.non_const_assignments ≡ e.non_const_assignments
  pub recipe : f.recipe ≡ e.recipe

-- the results of evaluating parameters: the scope, the positional words and the environment
abbrev pub arguments_view : {A B C D : Type 0} → Scope × Vec (String A) B × BTreeMap (String C) (String D) → Arguments
arguments_view given =
    record { frames = frames_view given.0; words = map string_bytes given.1.items; environment = pairs_view given.2 }

-- the context with another recursion limit
abbrev pub with_limit : ℕ → ExecutionContext → ExecutionContext
with_limit limit c = record {
  config = c.config;
  dotenv = c.dotenv;
  «module» = c.module;
  overrides = c.overrides;
  recursion_limit = limit;
  scope = c.scope;
  search = c.search;
}

-- how many calls may be pending
abbrev pub calls_left_in : Option ExecutionContext → ℕ
calls_left_in (Some c) = c.recursion_limit - 1
calls_left_in None = 0

abbrev pub calls_left_of : Evaluator → ℕ
calls_left_of e = calls_left_in e.context

-- which variables are bound, and which are open
abbrev pub stage_state_of : Evaluator → StageState
stage_state_of e = record {
  lists = e.lists;
  frames = frames_view e.scope;
  is_open = λ n. list_any (nat_eq n) e.non_const_assignments.keys;
}

abbrev pub rules_of : Evaluator → Rules
rules_of e = rules_in e.context (stage_state_of e).is_open

-- the frames that a called body's frame is put on: the evaluator's own, if it has no base
abbrev pub below_of : Option (Bor Scope) → Frames → Frames
below_of (Some base) frames = frames_view base.now
below_of None frames = frames

-- the situation in which it evaluates
abbrev pub situation_of : Evaluator → Situation
situation_of e = record {
  names = value_in (frames_view e.scope);
  environment = pairs_view e.env;
  recipe = option_map (λ (n : Name). (name_view n).lexeme) e.recipe;
  is_dependency = e.is_dependency;
  lists = e.lists;
  shown = frames_view e.scope;
  below = below_of e.base (frames_view e.scope);
}

-- where the attributes and the parameters of a recipe are evaluated, in a child of a scope
abbrev pub recipe_start : ExecutionContext → Bool → Recipe → Scope → Here
recipe_start c is_dependency recipe scope =
    recipe_in c [] is_dependency (Some (recipe_view recipe).name.lexeme) ([] ∷ frames_view scope)

-- the program, the pending calls and the situation of its expressions
abbrev pub here : Evaluator → Here
here e = record { program = program_of e.context; calls = calls_left_of e; situation = situation_of e }

-- what expressions mean under dynamic scope
abbrev pub dynamic_meanings : Option ExecutionContext → Meanings
dynamic_meanings context s x = let p = program_of context in eval p (dynamic p (calls_left_in context)) s x

-- what an expression means here under dynamic scope
abbrev pub dynamic_meaning : Evaluator → Expr → Tree Value
dynamic_meaning e = dynamic_meanings e.context (situation_of e)

-- what an expression means here under lexical scope
abbrev pub lexical_meaning : Evaluator → Expr → Tree Value
lexical_meaning e = let h = here e in meanings h h.situation

-- It evaluates in a run, and what these expressions reach is resolved here.
abbrev pub IsResolvedIn : Option ExecutionContext → Situation → List Expr → Type 0
IsResolvedIn (Some c) s es =
    IsResolvedHere (functions_view c.module.now) (map assignment_view c.module.now.assignments) s.below s.shown [] [] es
IsResolvedIn None s es = ⊥

abbrev pub Resolves : Evaluator → List Expr → Type 0
Resolves e es = IsResolvedIn e.context (situation_of e) es

-- whether a setting exports every variable
abbrev pub exports_all_in : Option ExecutionContext → Bool
exports_all_in (Some c) = c.module.now.settings.export
exports_all_in None = false

abbrev pub exports_all : Evaluator → Bool
exports_all e = exports_all_in e.context

-- The evaluation of an assignment whose value is this tree. If its number is bound, nothing happens; otherwise its
-- value is bound, or evaluation ends without one.
pub data Assigned {S : Type 0} (rules : Rules) (step : Step S) (old : S) (tree : Tree Value) (export : Bool)
    (a : Assignment) (frames : Frames) : Outcome Frames → S → Type 0 where
  WasBound : (b : Bound) → innermost a.number frames ≡ Some b
      → Assigned rules step old tree export a frames (Gave frames) old
  IsBound : {new : S} → (v : Value) → innermost a.number frames ≡ None
      → Behaves rules step unchecked old tree (Gave v) new
      → Assigned rules step old tree export a frames (Gave (bound_innermost frames (bound_of export a v))) new
  IsRefused : {new : S} → (r : Refusal) → innermost a.number frames ≡ None
      → Behaves rules step unchecked old tree (Refused r) new
      → Assigned rules step old tree export a frames (Refused r) new
  IsStopped : {new : S} → innermost a.number frames ≡ None → Behaves rules step unchecked old tree Stopped new
      → Assigned rules step old tree export a frames Stopped new

-- How a stage goes on after a refused assignment. If only a run can lift the refusal, the number is open; any other
-- refusal ends the stage.
pub data OpensOrEnds (e : Option Refusal) (s : StageState) (number : ℕ) (o : Outcome StageState) : Type 0 where
  Opens : (c : ConstRefusal) → e ≡ Some (Const c) → UnlessStopped o (Gave (with_open s number))
      → OpensOrEnds e s number o
  Ends : ForSome e IsFinal → o ≡ without_value e → OpensOrEnds e s number o
