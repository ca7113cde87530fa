-- Bindings, frames, scopes and refusals as plain data.
use Rattle.std.specs.Prelude.{◌≡◌, ℕ, List, [], ◌∷◌, map, Option, Some, None, string_bytes, option_map, Result, Ok, Err}
use Rattle.std.specs.Borrow.{Bor}
use Rattle.std.specs.Str.{bytes_eq}
use Rattle.just_syntax.specs.Plain.{Text, Token}
use Rattle.just_syntax.specs.View.{token_view, name_view, string_context_view, attributes_view}
use Rattle.std.specs.Map.{lookup, values_of}
use Rattle.std.specs.Map.Iter.{TakesFirst, deref}
use Rattle.just_value.specs.declared.binding.Binding.{Binding}
use Rattle.just_value.specs.declared.bindings.Bindings.{Bindings}
use Rattle.just_value.specs.declared.expression_context.ExpressionContext.{ExpressionContext}
use Rattle.just_value.specs.declared.frame.Frame.{Frame}
use Rattle.just_value.specs.declared.frames.Frames as declared_frames
use Rattle.just_value.specs.declared.list.List as list
use Rattle.just_value.specs.declared.positional.Positional as declared_positional
use Rattle.just_value.specs.declared.scope.Scope.{Scope, Scope', Held-Scope-outer, None', Some'}
use Rattle.just_value.specs.declared.check_fault.CheckFault.{CheckFault}
use Rattle.just_value.specs.declared.check_fault.CheckFault.TheVariants as checks
use Rattle.just_value.specs.declared.compile_error.CompileError.{CompileError}
use Rattle.just_value.specs.declared.compile_error.CompileError.TheVariants as compiles
use Rattle.just_value.specs.declared.const_error.ConstError.{ConstError}
use Rattle.just_value.specs.declared.const_error.ConstError.TheVariants as consts
use Rattle.just_value.specs.declared.const_eval_error.ConstEvalError.{ConstEvalError}
use Rattle.just_value.specs.declared.const_eval_error.ConstEvalError.TheVariants as const_evals
use Rattle.just_value.specs.declared.error.CommandFault.{CommandFault}
use Rattle.just_value.specs.declared.error.CommandFault.TheVariants as faults
use Rattle.just_value.specs.declared.error.Error.{Error}
use Rattle.just_value.specs.declared.error.Error.TheVariants as errors
use Rattle.just_value.specs.Frames as plain
use Rattle.just_value.specs.Frames.{Bound, Frames}
use Rattle.just_value.specs.ConstEval.{const_eval_token}
use Rattle.just_value.specs.ConstRefusal as constant
use Rattle.just_value.specs.Placed.{ArePlaced, elements_at}
use Rattle.just_value.specs.Positional.{Positional}
use Rattle.just_value.specs.Refusal.{Fault, Code, Message, NoMemory, Refusal, Assert, Backtick, Check, Const}
use Rattle.just_value.specs.Refusal.{EmptyInterpreter, EmptyListArgument, FunctionCall, Internal, LeftOut, LeftOutRegex}
use Rattle.just_value.specs.Refusal.{ListInStringContext, ListOperation, RecursionLimit}
use Rattle.just_value.specs.Outcome.{Outcome, Gave, without_value}

abbrev pub bound_view : Binding → Bound
bound_view b = record {
  attributes = attributes_view b.attributes;
  eager = b.eager;
  export = b.export;
  file_depth = b.file_depth;
  name = name_view b.name;
  number = b.number;
  prelude = b.prelude;
  private = b.private;
  value = b.value;
}

-- the bindings of a frame, in ascending order of number
abbrev pub frame_view : Frame → plain.Frame
frame_view f = map (λ b. (b.number, bound_view b)) f

-- bindings and places show a frame: at the places, in this order, are its bindings
abbrev pub ShowsFrame : plain.Frame → List Binding → List (ℕ × ℕ) → Type 0
ShowsFrame frame bindings places =
    ArePlaced bindings places × (frame_view (elements_at bindings (values_of places)) ≡ frame)

-- the bindings that are still to come
abbrev pub bindings_left : Bindings → List Binding
bindings_left b = b

-- the first of them comes next
abbrev pub bindings_steps : Bindings → Option (Bor Binding) → Bindings → Type 0
bindings_steps s next t = TakesFirst deref (bindings_left s) next (bindings_left t)

-- the frames of a scope, innermost first
abbrev mutual
  pub frames_view : Scope → Frames
  frames_view (Scope' frame outer) = frame_view frame ∷ outer_view outer

  pub outer_view : Held-Scope-outer → Frames
  outer_view None' = []
  outer_view (Some' pointer outer) = frames_view outer

-- the frames of a scope, if there is one
abbrev pub enclosing_view : Option (Bor Scope) → Frames
enclosing_view None = []
enclosing_view (Some scope) = frames_view scope.now

-- the frames that a scope holds, innermost first
abbrev mutual
  pub frames_in : Scope → List Frame
  frames_in (Scope' frame outer) = frame ∷ outer_frames_in outer

  pub outer_frames_in : Held-Scope-outer → List Frame
  outer_frames_in None' = []
  outer_frames_in (Some' pointer outer) = frames_in outer

-- the frames that a scope holds, if there is one
abbrev pub enclosing_frames : Option (Bor Scope) → List Frame
enclosing_frames None = []
enclosing_frames (Some scope) = frames_in scope.now

-- the frames that are still to come
abbrev pub frames_left : declared_frames.Frames → List Frame
frames_left f = enclosing_frames f.left

-- the first of them comes next
abbrev pub frames_steps : declared_frames.Frames → Option (Bor Frame) → declared_frames.Frames → Type 0
frames_steps s next t = TakesFirst deref (frames_left s) next (frames_left t)

-- a key and a text, as the caller passes them
abbrev pub constant_view : Bor Text × Bor Text → Text × Text
constant_view c = (c.0.now, c.1.now)

abbrev pub fault_view : CommandFault → Fault
fault_view (faults.Code n) = Code n
fault_view (faults.Fault text) = Message (string_bytes text)
fault_view faults.OutOfMemory = NoMemory

-- the message of a check that refused; `None` for `OutOfMemory`
abbrev pub check_refusal : CheckFault → Option Text
check_refusal (checks.Refused message) = Some (string_bytes message)
check_refusal checks.OutOfMemory = None

abbrev pub const_refusal : ConstError → constant.ConstRefusal
const_refusal (consts.Backtick t) = constant.Backtick (token_view t)
const_refusal (consts.FunctionCall name) = constant.FunctionCall (name_view name)
const_refusal (consts.Variable name) = constant.Variable (name_view name)

-- the refusal of an error of constant evaluation
abbrev pub const_eval_refusal : ConstEvalError → Refusal
const_eval_refusal (const_evals.Assert message name) = Assert (string_bytes message) (name_view name)
const_eval_refusal (const_evals.Const e) = Const (const_refusal e)
const_eval_refusal (const_evals.EmptyInterpreter setting) = EmptyInterpreter (name_view setting)
const_eval_refusal (const_evals.Internal message t) = Internal (string_bytes message) (token_view t)
const_eval_refusal (const_evals.LeftOutRegex t) = LeftOutRegex (token_view t)
const_eval_refusal (const_evals.ListInStringContext context value) =
    ListInStringContext (string_context_view context) value
const_eval_refusal (const_evals.ListOperation l o r t) = ListOperation l o r (token_view t)

-- the refusal of an error before any run; `None` for `OutOfMemory`
abbrev pub compile_refusal : CompileError → Option Refusal
compile_refusal (compiles.ConstEval t e) = Some (const_eval_refusal e)
compile_refusal compiles.OutOfMemory = None

-- the token of such an error; `None` for `OutOfMemory`
abbrev pub compile_token : CompileError → Option Token
compile_token (compiles.ConstEval t e) = Some (token_view t)
compile_token compiles.OutOfMemory = None

-- the error's token is that of its refusal
abbrev pub HasOwnToken : CompileError → Type 0
HasOwnToken e = compile_token e ≡ option_map const_eval_token (compile_refusal e)

-- the refusal of an error; `None` for `OutOfMemory`
abbrev pub refusal : Error → Option Refusal
refusal (errors.Assert message name) = Some (Assert (string_bytes message) (name_view name))
refusal (errors.Backtick t f) = Some (Backtick (token_view t) (fault_view f))
refusal (errors.Check parameter message) = Some (Check parameter.now (string_bytes message))
refusal (errors.Const e) = Some (Const (const_refusal e))
refusal (errors.EmptyListArgument parameter recipe) = Some (EmptyListArgument parameter.now recipe.now)
refusal (errors.FunctionCall function message) = Some (FunctionCall (name_view function) (string_bytes message))
refusal (errors.Internal message t) = Some (Internal (string_bytes message) (token_view t))
refusal (errors.LeftOut function) = Some (LeftOut (name_view function))
refusal (errors.LeftOutRegex t) = Some (LeftOutRegex (token_view t))
refusal (errors.ListInStringContext context value) = Some (ListInStringContext (string_context_view context) value)
refusal (errors.ListOperation l o r t) = Some (ListOperation l o r (token_view t))
refusal (errors.RecursionLimit last) = Some (RecursionLimit (name_view last))
refusal errors.OutOfMemory = None

-- the outcome of a call, its value viewed by f
abbrev pub ended : {X A : Type 0} → (X → A) → Result X Error → Outcome A
ended f (Ok x) = Gave (f x)
ended f (Err e) = without_value (refusal e)

-- the outcome of a call before any run, its value viewed by f
abbrev pub const_ended : {X A : Type 0} → (X → A) → Result X CompileError → Outcome A
const_ended f (Ok x) = Gave (f x)
const_ended f (Err e) = without_value (compile_refusal e)

-- the word before the last item of a list
abbrev pub conjunction_of : {T : Type 0} → list.List T → Text
conjunction_of l = l.conjunction.now

abbrev pub items_of : {T : Type 0} → list.List T → List T
items_of l = l.items.items

-- the number of a name
abbrev pub looked_up : ExpressionContext → Text → Option ℕ
looked_up context name = lookup (λ key. bytes_eq name key.now) context.bindings.items

abbrev pub positional_view : declared_positional.Positional → Positional
positional_view p = record {
  arguments = map string_bytes p.arguments.items;
  overrides = map (λ o. (string_bytes o.0, string_bytes o.1)) p.overrides.items;
  search_directory = option_map string_bytes p.search_directory;
}
