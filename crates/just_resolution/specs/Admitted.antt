-- Functions that need no second scan, and the next name of an order.
use Rattle.std.specs.Prelude.{◌≡◌, ◌⊎◌, ℕ, Bool, true, List, [], ◌∷◌, Option, Some, None, is_some, IsTrue, MatchOption}
use Rattle.std.specs.List.{AllByRecursion}
use Rattle.just_syntax.specs.Plain.{Text, Token, Assignment, Expr, Function, Parameter}
use Rattle.just_value.specs.Frames.{Frames, value_in}
use Rattle.just_meaning.specs.Assignments.{Assignments, assignment_at}
use Rattle.just_meaning.specs.Here.{expressions_of}
use Rattle.just_meaning.specs.Resolved.{AllKnown, HasValue, MentionsKnown}
use Rattle.just_syntax.specs.Occurrences.{CallAt, CallOf, CommandAt, Occurrence, VariableAt, VariableOf, occurrences_in}
use Rattle.just_meaning.specs.Reaches.{IsAmong, Reads, ReadsBeyond, Occurs, function_at}
use Rattle.just_resolution.specs.Fault.{BoundParameter, HasFault, IsKnownAt, IsMisplaced, MayComeNext, ModuleFault}
use Rattle.just_resolution.specs.First.{Finds}
use Rattle.just_resolution.specs.Unreadable.{IsUnreadable, IsUnreadableAt, MayBeRead}

-- whether a number, if there is one, passes a test
abbrev pub may_be_read : (ℕ → Bool) → Option ℕ → Bool
may_be_read test None = true
may_be_read test (Some n) = test n

-- whether it is no variable, or one whose number, if it has one, passes a test
abbrev pub may_occur : (ℕ → Bool) → Occurrence → Bool
may_occur test (CommandAt t text) = true
may_occur test (CallAt t n) = true
may_occur test (VariableAt t number) = may_be_read test number

-- whether it is no variable, or one with a number
abbrev pub is_numbered : Occurrence → Bool
is_numbered (CommandAt t text) = true
is_numbered (CallAt t n) = true
is_numbered (VariableAt t number) = is_some number

-- the result of a search among occurrences: nothing, or the fault of the first that is not known
abbrev pub FindsUnknown : List Function → List Occurrence → Option ModuleFault → Type 0
FindsUnknown functions os found = Finds (IsKnownAt functions) (HasFault functions) os found

-- the result of a search among parameters: nothing, or the first that is bound outside
abbrev pub FindsBound : Frames → List (Token × ℕ) → Option ModuleFault → Type 0
FindsBound outer ps found = Finds (λ p. HasValue (value_in outer) p.1 → ⊥) (λ p f. (BoundParameter p.0 ≡ f)
    × HasValue (value_in outer) p.1) ps found

-- the result of a search among occurrences: nothing, or the first variable that may not be read
abbrev pub FindsUnreadable : (ℕ → Type 0) → List Occurrence → Option Token → Type 0
FindsUnreadable readable os found = Finds (MayBeRead readable) (IsUnreadableAt readable) os found

-- an admitted function reads only its own parameters and what is readable, and calls only admitted functions
pub record IsAdmitted (functions : List Function) (readable : ℕ → Bool) (admitted : Text → Bool) : Type 0 where
  pub reads : (name : Text) (f : Function) → IsTrue (admitted name) → function_at functions name ≡ Some f → (n : ℕ)
      → Occurs f.body (VariableOf (Some n)) → IsAmong f.parameters n ⊎ IsTrue (readable n)
  pub calls : (name : Text) (f : Function) → IsTrue (admitted name) → function_at functions name ≡ Some f
      → (further : Text) (n : ℕ) → Occurs f.body (CallOf further n) → IsTrue (admitted further)

-- By itself an expression reads only what is readable here. Through functions it reads only what bodies may read.
abbrev pub ReadsWithin : List Function → Expr → (ℕ → Bool) → (ℕ → Bool) → Type 0
ReadsWithin functions e here readable = ((n : ℕ) → Occurs e (VariableOf (Some n)) → IsTrue (here n))
    × ((n : ℕ) → ReadsBeyond functions e n → IsTrue (readable n))

-- nothing is found if an expression reads only that; otherwise the first variable that may not be read
abbrev pub FindsBeyond : List Function → Expr → (ℕ → Bool) → (ℕ → Bool) → Option Token → Type 0
FindsBeyond functions e here readable found = MatchOption found (ReadsWithin functions e here readable)
    (λ variable. IsUnreadable functions (λ n. IsTrue (here n)) (λ n. IsTrue (readable n)) e variable)

-- the same for the body of a function, if there is one: it may read its own parameters too
abbrev pub FindsBody : Option Function → (ℕ → Type 0) → Option Token → Type 0
FindsBody None readable found = found ≡ None
FindsBody (Some f) readable found =
    FindsUnreadable (λ n. IsAmong f.parameters n ⊎ readable n) (occurrences_in f.body) found

-- By themselves these expressions read only these numbers. Through functions they read only what bodies may read.
abbrev pub AllReadBy : List Function → (ℕ → Type 0) → (ℕ → Bool) → List Expr → Type 0
AllReadBy functions here readable es =
    AllByRecursion (λ e. ((n : ℕ) → Occurs e (VariableOf (Some n)) → here n) × ((n : ℕ) → ReadsBeyond functions e n
    → IsTrue (readable n))) es

-- the same with a test of what is readable here
abbrev pub AllWithin : List Function → (ℕ → Bool) → (ℕ → Bool) → List Expr → Type 0
AllWithin functions here readable es = AllReadBy functions (λ n. IsTrue (here n)) readable es

-- everything that occurs in an expression is known, and it reads only what it may
abbrev pub MayOccur : List Function → (ℕ → Bool) → (ℕ → Bool) → Expr → Type 0
MayOccur functions here readable e = MentionsKnown functions e × ReadsWithin functions e here readable

-- the same for each of these expressions
abbrev pub MayAllOccur : List Function → (ℕ → Bool) → (ℕ → Bool) → List Expr → Type 0
MayAllOccur functions here readable es = AllKnown functions es × AllWithin functions here readable es

-- the default and the value of each parameter are known, and read only what is readable here or an earlier parameter
abbrev pub MayFollowInTurn : List Function → (ℕ → Type 0) → (ℕ → Bool) → List Parameter → Type 0
MayFollowInTurn functions here readable [] = Unit {0}
MayFollowInTurn functions here readable (p ∷ ps) =
    (AllKnown functions (expressions_of p) × AllReadBy functions here readable (expressions_of p))
    × MayFollowInTurn functions (λ n. here n ⊎ (p.number ≡ n)) readable ps

-- an assignment reads only what is readable
abbrev pub ReadsReadable : List Function → (ℕ → Bool) → Assignment → Type 0
ReadsReadable functions readable a = (n : ℕ) → Reads functions a.value n → IsTrue (readable n)

-- each taken number is that of an assignment that reads only what is readable
pub record IsTakenBy (functions : List Function) (assignments : Assignments) (taken readable : ℕ → Bool)
    (admitted : Text → Bool) : Type 0 where
  pub closed : IsAdmitted functions readable admitted
  pub origin : (n : ℕ) → IsTrue (taken n) → (name : Text) × (a : Assignment) × (assignment_at assignments name ≡ Some a)
      × (a.number ≡ n) × ReadsReadable functions readable a

-- the number of the assignment with a name, if it is referenced
abbrev pub IsNumberOf : Assignments → Token → ℕ → Type 0
IsNumberOf assignments t n = (a : Assignment) × (assignment_at assignments t.lexeme ≡ Some a)
    × (assignments.referenced a.number ≡ true) × (a.number ≡ n)

-- the result at a name: nothing if it may come next, or why it may not
abbrev pub FindsMisplaced : List Function → Assignments → (ℕ → Bool) → Token → Option ModuleFault → Type 0
FindsMisplaced functions assignments readable t found =
    MatchOption found (MayComeNext functions assignments (λ n. IsTrue (readable n)) t)
    (λ f. IsMisplaced functions assignments (λ n. IsTrue (readable n)) t f)
