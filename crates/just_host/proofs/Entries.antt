-- Settings by their names.
use Rattle.std.proofs.Common.{◌≡◌, ◌∙◌, ℕ, ◌+◌, ◌<◌, Bool, if◌then◌else◌, List, drop, get_or, length, map, Option, Some, refl}
use Rattle.std.proofs.lemmas.List.{at_drop_more}
use Rattle.std.specs.Borrow.{Bor}
use Rattle.std.specs.Str.{bytes_eq}
use Rattle.just_host.specs.Prelude.{Text, setting_entry_view, setting_value_view, value_named}
use Rattle.just_host.specs.SettingValue.{SettingValue}
use Rattle.just_host.specs.declared.setting_value.SettingValue as declared

-- the value with a name among entries
abbrev pub named_among : Text → List (Bor Text × declared.SettingValue) → Option SettingValue
named_among name xs = value_named name (map setting_entry_view xs)

-- whether the next entry has the name decides
pub named_more : (name : Text) (xs : List (Bor Text × declared.SettingValue)) (i : ℕ) (x : Bor Text × declared.SettingValue) → i < length xs
    → x ≡ get_or xs i x → (b : Bool) → bytes_eq x.0.now name ≡ b
    → named_among name (drop i xs) ≡ (if b then Some (setting_value_view x.1) else named_among name (drop (i + 1) xs))
named_more name xs i x within is b e = at_drop_more (named_among name) xs i x within ∙ rw (← is, e) refl
