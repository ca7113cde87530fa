-- Differences reach exactly the variables whose cones differ.
use Rattle.std.proofs.Common.{◌≡◌, ◌↔◌, ◌⊎◌, inl, inr, ⊎_elim, ℕ, Bool, true, false, List, [], Some, IsTrue, refl, sym, ◌∙◌, subst}
use Rattle.just_changes.specs.Prelude.{Assignment, AssignmentReads, Call, CallOf, Expr, Frames, Function, HaveSameCone, IsIn, IsReadFrom, IsUnchanged, Mentions}
use Rattle.just_changes.specs.Prelude.{Module, OfFunction, OfVariable, PlainNode, ReadsItself, Starts, Text, Version, assignment_numbered, function_at}
use Rattle.just_syntax.specs.Plain.{Nil}
use Rattle.just_meaning.specs.Reaches.{Reaches, Here, Later, ReadsBeyond, Occurs}
use Rattle.just_laws.specs.Cone.{Cone, Itself, ReadBy, IsEvaluated}
use Rattle.just_needs.specs.Graph as nodes

-- the assignments, overrides and functions of a module
abbrev pub version_of : Module → Version
version_of m = record { assignment = assignment_numbered m.assignments.all; function = function_at m.program.functions; override = m.overrides }

-- a call of a name, with no argument
abbrev call_of : Text → Expr
call_of name = Call (record { column = 0; line = 0; offset = 0; lexeme = name; path = [] }) Nil

called_name : (s t : Text) (i j : ℕ) → CallOf s i ≡ CallOf t j → s ≡ t
called_name s t i j same = cc

not_true : (b : Bool) → (b ≡ true → ⊥) → b ≡ false
not_true true h = absurd (h refl)
not_true false h = refl

both_ways : (b : Bool) → b ≡ false → b ≡ true → ⊥
both_ways b off on = let e : false ≡ true = sym off ∙ on in cc

module _ (m w : Module) (outer : Frames) where
  abbrev functions : List Function
  functions = m.program.functions

  abbrev version_before : Version
  version_before = version_of m

  abbrev version_after : Version
  version_after = version_of w

  -- ---- cones within cones

  joined : {n k j : ℕ} → Cone m outer n k → Cone m outer k j → Cone m outer n j
  joined first Itself = first
  joined first (ReadBy a more e read) = ReadBy a (joined first more) e read

  within : {n k : ℕ} → HaveSameCone m w outer n → Cone m outer n k → HaveSameCone m w outer k
  within h first = record {
    assignments = λ j more. h.assignments j (joined first more);
    overrides = λ j more. h.overrides j (joined first more);
    functions = λ a more e name reached. h.functions a (joined first more) e name reached;
  }

  -- all functions that an expression reaches are the same, and the cones of all variables that it reads through them
  abbrev IsFineFrom : Expr → Type 0
  IsFineFrom e = ((name : Text) → Reaches functions e name → function_at functions name ≡ function_at w.program.functions name)
      × ((k : ℕ) → ReadsBeyond functions e k → HaveSameCone m w outer k)

  abbrev IsFine : PlainNode → Type 0
  IsFine (OfFunction name) = IsFineFrom (call_of name)
  IsFine (OfVariable n) = HaveSameCone m w outer n

  called : {e : Expr} {name further : Text} (k : ℕ) → Occurs e (CallOf name k) → Reaches functions (call_of name) further → Reaches functions e further
  called {e} {name} {further} k occurs (Here j here) =
      ⊎_elim (λ same. Here k (subst (λ t. Occurs e (CallOf t k)) (called_name name further 0 j same) occurs)) (λ bad. absurd bad) here
  called {e} {name} {further} k occurs (Later mid j here f found rest) =
      ⊎_elim (λ same. Later mid k (subst (λ t. Occurs e (CallOf t k)) (called_name name mid 0 j same) occurs) f found rest) (λ bad. absurd bad) here

  -- a call alone is as fine as the expression in which it occurs
  narrow : {e : Expr} {name : Text} (k : ℕ) → Occurs e (CallOf name k) → IsFineFrom e → IsFineFrom (call_of name)
  narrow k occurs h = (
    (λ further reached. h.0 further (called k occurs reached)),
    (λ j b. h.1 j (record {
      name = b.name;
      function = b.function;
      reached = called k occurs b.reached;
      found = b.found;
      occurs = b.occurs;
      beyond = b.beyond;
    })),
  )

  body_fine : {name : Text} (f : Function) → function_at functions name ≡ Some f → IsFineFrom (call_of name) → IsFineFrom f.body
  body_fine {name} f found h = (
    (λ further reached. h.0 further (Later name 0 (inl refl) f found reached)),
    (λ j b. h.1 j (record {
      name = b.name;
      function = b.function;
      reached = Later name 0 (inl refl) f found b.reached;
      found = b.found;
      occurs = b.occurs;
      beyond = b.beyond;
    })),
  )

  value_fine : (a : Assignment) → IsEvaluated m outer a → HaveSameCone m w outer a.number → IsFineFrom a.value
  value_fine a e h = ((λ name reached. h.functions a Itself e name reached), (λ k b. within h (ReadBy a Itself e (inr b))))

  evaluated : (a : Assignment) → {x : PlainNode} → AssignmentReads version_before outer a x → IsEvaluated m outer a
  evaluated a reads = record { found = reads.first; free = reads.free.0; unbound = reads.free.1 }

  -- what a fine node reads is fine
  passes : (y x : PlainNode) → ReadsItself version_before outer y x → IsFine y → IsFine x
  passes (OfFunction name) (OfFunction other) r h = narrow r.reads.0 r.reads.1 (body_fine r.function r.found h)
  passes (OfFunction name) (OfVariable k) r h =
      h.1 k (record { name = name; function = r.function; reached = Here 0 (inl refl); found = r.found; occurs = r.reads.0; beyond = r.reads.1 })
  passes (OfVariable n) (OfFunction other) r h =
      narrow r.reads.mentions.0 r.reads.mentions.1 (value_fine r.assignment (evaluated r.assignment r.reads) (subst (HaveSameCone m w outer) (sym r.number) h))
  passes (OfVariable n) (OfVariable k) r h =
      within (subst (HaveSameCone m w outer) (sym r.number) h) (ReadBy r.assignment Itself (evaluated r.assignment r.reads) (inl r.reads.mentions.0))

  fine_same : (x : PlainNode) → IsFine x → IsUnchanged version_before version_after x
  fine_same (OfFunction name) h = h.0 name (Here 0 (inl refl))
  fine_same (OfVariable n) h = (h.assignments n Itself, h.overrides n Itself)

  module _ (readers : PlainNode → List PlainNode) (starts : List PlainNode) (touched : PlainNode → Bool) (reading : (x y : PlainNode) → IsIn (readers x) y
      ↔ ReadsItself version_before outer y x)
      (differ : (x : PlainNode) → IsIn starts x → IsUnchanged version_before version_after x → ⊥)
      (all : (x : PlainNode) → IsIn starts x ⊎ IsUnchanged version_before version_after x)
      (reached : (x : PlainNode) → IsTrue (touched x) ↔ IsReadFrom readers starts x) where
    never : {x : PlainNode} → IsReadFrom readers starts x → IsFine x → ⊥
    never {x} (Starts listed) h = differ x listed (fine_same x h)
    never {x} (nodes.ReadBy z there listed) h = never there (passes x z ((reading z x).0 listed) h)

    -- an untouched node reads no touched one
    down : (y x : PlainNode) → ReadsItself version_before outer y x → touched y ≡ false → touched x ≡ false
    down y x reads off = not_true (touched x) (λ on. both_ways (touched y) off ((reached y).1 (nodes.ReadBy x ((reached x).0 on) ((reading x y).1 reads))))

    untouched_same : (x : PlainNode) → touched x ≡ false → IsUnchanged version_before version_after x
    untouched_same x off = ⊎_elim (λ listed. absurd (both_ways (touched x) off ((reached x).1 (Starts listed)))) (λ same. same) (all x)

    functions_off : {e : Expr} {name : Text} → Reaches functions e name → ((t : Text) (k : ℕ) → Occurs e (CallOf t k) → touched (OfFunction t) ≡ false)
        → touched (OfFunction name) ≡ false
    functions_off {name = name} (Here k occurs) off = off name k occurs
    functions_off (Later mid k occurs f found rest) off =
        functions_off rest (λ t j there. down (OfFunction mid) (OfFunction t) (record { function = f; found = found; reads = (j, there) }) (off mid k occurs))

    value_off : (a : Assignment) → IsEvaluated m outer a → touched (OfVariable a.number) ≡ false → (x : PlainNode) → Mentions (λ k. ⊥) a.value x
        → touched x ≡ false
    value_off a e off x mentions =
        down (OfVariable a.number) x
        (record { assignment = a; number = refl; reads = record { first = e.found; free = (e.free, e.unbound); mentions = mentions } }) off

    called_off : (a : Assignment) → IsEvaluated m outer a → touched (OfVariable a.number) ≡ false → {name : Text} → Reaches functions a.value name
        → touched (OfFunction name) ≡ false
    called_off a e off reaches = functions_off reaches (λ t j there. value_off a e off (OfFunction t) (j, there))

    cone_off : {n k : ℕ} → Cone m outer n k → touched (OfVariable n) ≡ false → touched (OfVariable k) ≡ false
    cone_off Itself off = off
    cone_off {k = k} (ReadBy a more e (inl occurs)) off = value_off a e (cone_off more off) (OfVariable k) (occurs, λ bad. bad)
    cone_off {k = k} (ReadBy a more e (inr b)) off =
        down (OfFunction b.name) (OfVariable k) (record { function = b.function; found = b.found; reads = (b.occurs, b.beyond) })
        (called_off a e (cone_off more off) b.reached)

    pub exactly : (n : ℕ) → (touched (OfVariable n) ≡ false) ↔ HaveSameCone m w outer n
    exactly n = (
      (λ off. record {
        assignments = λ k c. (untouched_same (OfVariable k) (cone_off c off)).0;
        overrides = λ k c. (untouched_same (OfVariable k) (cone_off c off)).1;
        functions = λ a c e name reaches. untouched_same (OfFunction name) (called_off a e (cone_off c off) reaches);
      }),
      (λ h. not_true (touched (OfVariable n)) (λ on. never ((reached (OfVariable n)).0 on) h)),
    )
