-- Text added to a text or to a writer.
use Rattle.std.specs.Prelude.{◌≡◌, ℕ, ◌++◌, Option, Result, Ok, Err}
use Rattle.std.specs.Io.KnownBytes.{Appends, Keeps}
use Rattle.just_syntax.specs.Plain.{Text}

-- a text with a property was added after the old text
pub record Added (old new : Text) (Is : Text → Type 0) : Type 0 where
  pub printed : Text
  pub after : new ≡ old ++ printed
  pub is : Is printed

-- a prefix of a text, possibly all of it, was added after known bytes
pub record AppendsFront (old new : Option Text) (text : Text) : Type 0 where
  pub front : Text
  pub rest : Text
  pub whole : text ≡ front ++ rest
  pub added : Appends old new front

-- What a writer holds after its old contents: the whole answer; or, with the status 1, only a prefix of one, if the
-- writer failed, or nothing.
pub data Written (old new : Option Text) (status : ℕ) (Is : Text → ℕ → Type 0) : Type 0 where
  Whole : (text : Text) → Is text status → Appends old new text → Written old new status Is
  Part : (part rest : Text) (whole : ℕ) → status ≡ 1 → Is (part ++ rest) whole → Appends old new part
      → Written old new status Is
  Nothing : status ≡ 1 → Keeps old new → Written old new status Is

-- the status, or 1 if there is none
abbrev pub or_one : {E : Type 0} → Result ℕ E → ℕ
or_one (Ok status) = status
or_one (Err e) = 1
