-- Lists of copies, and settings that are made of copies.
use Rattle.std.proofs.Common.{◌≡◌, ℕ, ◌+◌, ◌<◌, List, [], ◌∷◌, ◌++◌, Option, Some, ap, ap₂, append_assoc, get_or, length, map, sym}
use Rattle.std.proofs.Common.{take, ◌∙◌}
use Rattle.std.proofs.lemmas.List.{map-append, map_more}
use Rattle.just_syntax.specs.Plain.{Expr, Interpreter, Setting, Text}
use Rattle.just_syntax.specs.SettingName.{interpreter_named, setting_name}
use Rattle.just_recipe.specs.Setting.{numbered_interpreter, numbered_setting}

-- one more copy is added to those so far
pub copied_more : {X Y A B : Type 0} (seen : Y → B) (view : X → A) (f : A → B) (xs : List X) (i : ℕ) (d x : X) (old copies : List Y) (y : Y) → i < length xs
    → x ≡ get_or xs i d → map seen copies ≡ map seen old ++ map f (map view (take i xs)) → seen y ≡ f (view x)
    → map seen (copies ++ y ∷ []) ≡ map seen old ++ map f (map view (take (i + 1) xs))
copied_more seen view f xs i d x old copies y within is so_far one =
    let views : map view (take (i + 1) xs) ≡ map view (take i xs) ++ view x ∷ [] =
    map_more view xs i d within ∙ ap (λ z. map view (take i xs) ++ view z ∷ []) (sym is) in
    let more : map f (map view (take (i + 1) xs)) ≡ map f (map view (take i xs)) ++ f (view x) ∷ [] =
    ap (map f) views ∙ map-append f (map view (take i xs)) (view x ∷ []) in
    map-append seen copies (y ∷ []) ∙ ap₂ (λ l z. l ++ z ∷ []) so_far one
    ∙ append_assoc (map seen old) (map f (map view (take i xs))) (f (view x) ∷ []) ∙ ap (λ l. map seen old ++ l) (sym more)

-- a setting that is made of a copy of its command
pub command_copied : {names : Text → Option ℕ} (make : Interpreter Expr → Setting)
    → ((v i : Interpreter Expr) → interpreter_named (setting_name (make v)) i ≡ Some (make i))
    → ((v : Interpreter Expr) → numbered_setting names (make v) ≡ Some (make (numbered_interpreter names v)))
    → {s : Setting} (v i : Interpreter Expr) {name : Text} {o : Option Setting} → s ≡ make v → name ≡ setting_name s
    → o ≡ interpreter_named name i → i ≡ numbered_interpreter names v → o ≡ numbered_setting names s
command_copied {names = names} make named copied v i is name_is made copy =
    made ∙ ap (λ n. interpreter_named n i) (name_is ∙ ap setting_name is) ∙ named v i ∙ ap (λ j. Some (make j)) copy ∙ sym (copied v)
    ∙ ap (numbered_setting names) (sym is)
