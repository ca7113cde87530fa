-- Sets of names.
use Rattle.std.proofs.Common.{◌≡◌, ◌↔◌, ◌⊎◌, Bool, true, false, cond, [], Bor, IsTrue, ap, sym, ◌∙◌}
use Rattle.std.specs.Bool.{Decides}
use Rattle.std.specs.BTreeSet.{BTreeSet, contains}
use Rattle.std.specs.BTreeMap.{is_at}
use Rattle.std.specs.Cmp.Lexicographic.{slice_cmp}
use Rattle.std.specs.List.{list_any}
use Rattle.std.specs.declared.cmp.Ordering.{Ordering}
use Rattle.std.specs.Ordering.{is_eq, nat_cmp}
use Rattle.std.proofs.lemmas.Map.Text.{is_eq-slice_cmp}
use Rattle.std.proofs.lemmas.Slice.Eq.{bytes_eq-Decides}
use Rattle.just_syntax.specs.Plain.{Text}
use Rattle.just_syntax.proofs.Members.{added}
use Rattle.just_syntax.specs.NameSet.{is_name_in}

-- a set with one more name
abbrev pub AddsName : (Text → Bool) → (Text → Bool) → Text → Type 0
AddsName old new name = (t : Text) → IsTrue (new t) ↔ ((name ≡ t) ⊎ IsTrue (old t))

pub name_decides : (x y : Text) → Decides (is_eq (slice_cmp nat_cmp x y)) (x ≡ y)
name_decides x y =
    let both = bytes_eq-Decides x y in
    ((λ h. both.0 (sym (is_eq-slice_cmp x y) ∙ h)), (λ e. is_eq-slice_cmp x y ∙ both.1 e))

abbrev pub name_cmp : Bor Text → Bor Text → Ordering
name_cmp x y = slice_cmp nat_cmp x.now y.now

-- a set with one more name
pub name_added : (old new : BTreeSet (Bor Text)) (name : Bor Text)
    → ((q : Bor Text) → contains name_cmp new q ≡ cond (is_at (name_cmp name) q) true (contains name_cmp old q)) → (t : Text) →
    IsTrue (is_name_in new t) ↔ ((name.now ≡ t) ⊎ IsTrue (is_name_in old t))
name_added old new name updates t = added (name.now ≡ t) (is_eq (slice_cmp nat_cmp name.now t)) (is_name_in old t) (is_name_in new t) (name_decides name.now t)
    (updates (record { ref_ptr = (0, 0); now = t }))

-- nothing is in an empty set
pub no_name : (set : BTreeSet (Bor Text)) → set.keys ≡ [] → (t : Text) → is_name_in set t ≡ false
no_name set empty t = ap (list_any (λ (key : Bor Text). is_eq (slice_cmp nat_cmp t key.now))) empty
