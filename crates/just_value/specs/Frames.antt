-- Bindings; frames, which are bindings in ascending order of number; and lists of frames, innermost first.
use Rattle.std.specs.Prelude.{◌≡◌, ◌==◌, if◌then◌else◌, ℕ, suc, Bool, true, false, List, [], ◌∷◌, Option, Some, None}
use Rattle.std.specs.Prelude.{map, codes}
use Rattle.std.specs.Option.{option_map, option_or}
use Rattle.std.specs.Ordering.{nat_cmp}
use Rattle.std.specs.List.Sorted.{IsStrictlySortedBy}
use Rattle.std.specs.Map.{lookup}
use Rattle.std.specs.BTreeMap.{insert_entry, is_at}
use Rattle.just_syntax.specs.Plain.{Text, Token, Attribute}
use Rattle.just_value.specs.Value.{Value, Names}

pub record Bound : Type 0 where
  pub attributes : List (Attribute × Token)
  pub eager : Bool
  pub export : Bool
  pub file_depth : ℕ
  pub name : Token
  pub number : ℕ
  pub prelude : Bool
  pub private : Bool
  pub value : Value

abbrev pub Frame : Type 0
Frame = List (ℕ × Bound)

abbrev pub Frames : Type 0
Frames = List Frame

abbrev pub bound_at : ℕ → Frame → Option Bound
bound_at n frame = lookup (is_at (nat_cmp n)) frame

-- the frame with one more binding, which replaces one with the same number
abbrev pub with_bound : Frame → Bound → Frame
with_bound frame b = insert_entry nat_cmp frame b.number b

-- the binding of a number in the first frame that has one
abbrev pub innermost : ℕ → Frames → Option Bound
innermost n [] = None
innermost n (frame ∷ outer) = option_or (bound_at n frame) (innermost n outer)

abbrev pub value_of : Option Bound → Option Value
value_of bound = option_map (λ b. b.value) bound

-- a frame's values; they shadow those of `names`
abbrev pub over : Frame → Names → Names
over frame names n = option_or (value_of (bound_at n frame)) (names n)

-- the values of frames; an inner frame shadows an outer one
abbrev pub value_in : Frames → Names
value_in [] = λ n. None
value_in (frame ∷ outer) = over frame (value_in outer)

-- the frames with a binding added to the first
abbrev pub bound_innermost : Frames → Bound → Frames
bound_innermost [] b = []
bound_innermost (frame ∷ outer) b = with_bound frame b ∷ outer

-- the first of some frames
abbrev pub own_frame : Frames → Frame
own_frame [] = []
own_frame (frame ∷ outer) = frame

-- the frames outside the first, if there are any
abbrev pub outer_frames : Frames → Option Frames
outer_frames (frame ∷ other ∷ outer) = Some (other ∷ outer)
outer_frames frames = None

-- each number is greater than the one before
abbrev pub IsRising : List Bound → Type 0
IsRising bounds = IsStrictlySortedBy nat_cmp (map (λ b. b.number) bounds)

-- a binding whose flags are all false, with no attribute
abbrev pub plainly_bound : Token → ℕ → Value → Bound
plainly_bound name n v = record {
  attributes = [];
  eager = false;
  export = false;
  file_depth = 0;
  name = name;
  number = n;
  prelude = false;
  private = false;
  value = v;
}

-- a constant of the prelude, by its key and text
abbrev pub constant_bound : ℕ → Text → Value → Bound
constant_bound n key v = record {
  attributes = [];
  eager = false;
  export = false;
  file_depth = 0;
  name = record { column = 0; line = 0; offset = 0; lexeme = key; path = codes "PRELUDE" };
  number = n;
  prelude = true;
  private = false;
  value = v;
}

-- a frame with constants added, which are keys and texts, numbered consecutively from n
abbrev pub with_constants : Frame → ℕ → List (Text × Text) → Frame
with_constants frame n [] = frame
with_constants frame n (c ∷ cs) = with_constants (with_bound frame (constant_bound n c.0 (c.1 ∷ []))) (suc n) cs

-- after a binding is added to the first frame, its number has that binding, and each other number keeps its own
abbrev pub BindsOneNumber : Type 0
BindsOneNumber = (frame : Frame) (outer : Frames) (b : Bound) (n : ℕ) → innermost n (bound_innermost (frame ∷ outer) b)
    ≡ (if n == b.number then Some b else innermost n (frame ∷ outer))

-- an empty frame as the new innermost one changes no look-up
abbrev pub ChildAnswersAsParent : Type 0
ChildAnswersAsParent = (frames : Frames) (n : ℕ) → innermost n ([] ∷ frames) ≡ innermost n frames

-- the value of a number is that of its innermost binding
abbrev pub ValueIsOfBinding : Type 0
ValueIsOfBinding = (frames : Frames) (n : ℕ) → value_in frames n ≡ value_of (innermost n frames)
