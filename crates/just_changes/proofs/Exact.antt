-- The answer is exact, given what its parts answer.
use Rattle.std.proofs.Common.{◌≡◌, ◌↔◌, ◌⊎◌, inl, inr, ⊎_elim, ℕ, Bool, false, List, map, IsTrue, ap, sym, ◌∙◌, subst}
use Rattle.std.specs.HashMap.{HashMap}
use Rattle.std.specs.Global.{Global}
use Rattle.std.specs.declared.hash.BuildHasherDefault.{BuildHasherDefault}
use Rattle.std.specs.declared.hash.FoldHasher.{FoldHasher}
use Rattle.std.specs.declared.string.String.{String}
use Rattle.just_changes.specs.Prelude.{AreAlikeAt, Frames, HaveSameCone, IsIn, IsOver, IsReadFrom, IsUnchanged, IsWhole, Module, OfVariable, PlainNode}
use Rattle.just_changes.specs.Prelude.{ReadsItself, Version, assignment_numbered, assignment_view, function_at, function_view, version_view}
use Rattle.just_syntax.specs.View.{text_numbered}
use Rattle.just_host.specs.declared.justfile.Justfile.{Justfile}
use Rattle.just_laws.specs.Cone.{BlocksAgree}
use Rattle.just_changes.specs.declared.version.Version.{Version as Declared}
use Rattle.just_changes.proofs.Reaching.{exactly, version_of}
use Rattle.just_changes.proofs.Versions.{AreAlike, alike_back, reads_alike, same_alike}

-- a version is that of each module over its file
pub over : (v : Declared) (justfile : Justfile) (given : HashMap ℕ (String Global) (BuildHasherDefault FoldHasher)) (m : Module) → IsWhole v → v.assignments.now
    ≡ justfile.assignments → v.functions.now ≡ justfile.functions → v.overrides.now ≡ given → IsOver justfile given m → AreAlike (version_view v) (version_of m)
over v justfile given m whole assignments functions overrides h = record {
  assignments =
      λ n. whole n ∙ ap (λ all. assignment_numbered (map assignment_view all) n) assignments ∙ ap (λ all. assignment_numbered all n) (sym h.assignments);
  functions = λ t. ap (λ all. function_at (map function_view all) t) functions ∙ ap (λ all. function_at all t) (sym h.functions);
  overrides = λ n. ap (λ all. text_numbered all n) overrides ∙ sym (h.overrides n);
}

pub exact : (m w : Module) (outer : Frames) (v u : Version) (readers : PlainNode → List PlainNode) (starts : List PlainNode) (touched : PlainNode → Bool)
    → AreAlike v (version_of m) → AreAlike u (version_of w)
    → ((x y : PlainNode) → IsIn (readers x) y ↔ ReadsItself v outer y x) → ((x : PlainNode) → IsIn starts x → IsUnchanged v u x → ⊥)
    → ((x : PlainNode) → IsIn starts x ⊎ IsUnchanged v u x)
    → ((x : PlainNode) → IsTrue (touched x) ↔ IsReadFrom readers starts x) → (n : ℕ) → (touched (OfVariable n) ≡ false) ↔ HaveSameCone m w outer n
exact m w outer v u readers starts touched first second reading differ all reached =
    exactly m w outer readers starts touched
    (λ x y. (
      (λ h. reads_alike v (version_of m) outer first y x ((reading x y).0 h)),
      (λ r. (reading x y).1 (reads_alike (version_of m) v outer (alike_back v (version_of m) first) y x r)),
    ))
    (λ x listed same. differ x listed (same_alike (version_of m) (version_of w) v u (alike_back v (version_of m) first)
    (alike_back u (version_of w) second) x same))
    (λ x. ⊎_elim (λ listed. inl listed) (λ same. inr (same_alike v u (version_of m) (version_of w) first second x same)) (all x)) reached

-- the law for equal cones
pub alike : BlocksAgree → (m w : Module) (outer : Frames) (n : ℕ) → HaveSameCone m w outer n → AreAlikeAt m w outer n
alike law m w outer n same es fs o p fixed limit one other path along talk b c at at' number again here there =
    law.blocks m w outer es fs o p fixed limit one other path along talk b c at at' (number ∙ sym again) (subst (HaveSameCone m w outer) (sym number) same)
    here there
