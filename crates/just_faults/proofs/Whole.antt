-- All faults of a module, from those of its parts.
use Rattle.std.proofs.Common.{◌≡◌, ◌↔◌, List, [], ◌∷◌, ◌++◌, map, refl}
use Rattle.just_faults.specs.Prelude.{AddsFaults, AddsUnknown, AreFaults, Assignments, Frames, Function, IsFaulty, IsFirstFault, IsResolved}
use Rattle.just_faults.specs.Prelude.{IsSound, ModuleFault, OccurrenceOf, all_occurrences, name_places, number_places}
use Rattle.just_faults.specs.Prelude.{numbered_assignments, numbered_parameters}
use Rattle.just_faults.specs.Prelude.{parameter_places, places}
use Rattle.just_resolution.proofs.Faults.{apart, sound_if_resolved}
use Rattle.just_resolution.proofs.Finding.{not_sound}
use Rattle.just_faults.proofs.Adding.{adds_both, adds_map, all_found, first_found, none_found}

module _ (functions : List Function) (assignments : Assignments) (outer : Frames) where
  -- the parts of a module add all that is found in it
  pub all_of : (of_numbers of_values of_bodies all : List ModuleFault)
      → AddsFaults functions assignments outer (number_places [] (numbered_assignments assignments.all ++ numbered_parameters functions)
      ++ parameter_places (numbered_parameters functions)) [] of_numbers
      → AddsUnknown functions (all_occurrences (map (λ a. a.value) assignments.all)) of_numbers of_values
      → AddsUnknown functions (all_occurrences (map (λ f. f.body) functions)) of_values of_bodies
      → AddsFaults functions assignments outer (name_places assignments [] assignments.order) of_bodies all → AreFaults functions assignments outer all
  all_of of_numbers of_values of_bodies all numbered valued embodied ordered =
      let sound = IsSound functions assignments outer in
      let faulty = IsFaulty functions assignments outer in
      all_found sound faulty (places functions assignments) all
      (adds_both sound faulty _ _ _ _ _ numbered (adds_both sound faulty _ _ _ _ _ (adds_map sound faulty OccurrenceOf _ _ _ valued)
      (adds_both sound faulty _ _ _ _ _ (adds_map sound faulty OccurrenceOf _ _ _ embodied) ordered)))

  -- there is none exactly if the module is resolved
  pub none_if_resolved : {A : Type 0} (seen : A → ModuleFault) (all : List A) → AreFaults functions assignments outer (map seen all)
      → (all ≡ []) ↔ IsResolved functions assignments outer
  none_if_resolved seen [] h =
      ((λ e. (sound_if_resolved functions assignments outer).0 (none_found _ _ (places functions assignments) h)), (λ resolved. refl))
  none_if_resolved seen (a ∷ rest) h = (
    (λ e. absurd (let off : a ∷ rest ≡ [] = e in cc)),
    (λ resolved. absurd (not_sound _ _ (apart functions assignments outer) (places functions assignments) (seen a)
        (first_found _ _ (places functions assignments) (seen a) (map seen rest) h) ((sound_if_resolved functions assignments outer).1 resolved))),
  )

  -- the first of all is the first fault
  pub first_of_all : (all : List ModuleFault) (f : ModuleFault) (rest : List ModuleFault) → AreFaults functions assignments outer all → all ≡ f ∷ rest
      → IsFirstFault functions assignments outer f
  first_of_all all f rest h is =
      first_found _ _ (places functions assignments) f rest (rw is at h)
