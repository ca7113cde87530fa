-- The stem and the extension of a file name, which `std::path` splits at its last dot.
use Rattle.std.proofs.Common.{◌≡◌, ℕ, List, ◌∷◌, ◌++◌, Option, Some, None, MatchOption, option_map, refl, ap, ◌∙◌, option_and_then}
use Rattle.std.specs.Option.{option_flatten}
use Rattle.std.specs.Path.{dot, rsplit_once, stem_of_split, extension_of_split, path_file_name, path_file_stem, path_extension}
use Rattle.just_syntax.proofs.Lists.{LacksByte}
use Rattle.just_text.specs.Prelude.{extension, file_stem}
use Rattle.just_text.specs.Path.{extension_of, stem_of}
use Rattle.just_text.proofs.Components.{file_name_is}
use Rattle.just_text.proofs.LastByte.{rsplit_once_parts, before_last_none, before_last_at, after_last_at}

extension_by : (name : List ℕ) (r : Option (List ℕ × List ℕ))
    → MatchOption r (LacksByte dot name) (λ parts. (name ≡ parts.0 ++ dot ∷ parts.1) × LacksByte dot parts.1)
    → extension_of_split r ≡ extension_of name
extension_by name None lacks = rw (before_last_none 46 name lacks) refl
extension_by name (Some parts) (e, lacks) = rw (e, before_last_at 46 parts.0 parts.1 lacks, after_last_at 46 parts.0 parts.1 lacks) refl

stem_by : (name : List ℕ) (r : Option (List ℕ × List ℕ))
    → MatchOption r (LacksByte dot name) (λ parts. (name ≡ parts.0 ++ dot ∷ parts.1) × LacksByte dot parts.1)
    → stem_of_split name r ≡ stem_of name
stem_by name None lacks = rw (before_last_none 46 name lacks) refl
stem_by name (Some parts) (e, lacks) = rw (e, before_last_at 46 parts.0 parts.1 lacks) refl

extensions : (r : Option (List ℕ)) → option_flatten (option_map (λ name. extension_of_split (rsplit_once dot name)) r) ≡ option_and_then extension_of r
extensions None = refl
extensions (Some name) = extension_by name (rsplit_once dot name) (rsplit_once_parts dot name)

stems : (r : Option (List ℕ)) → option_map (λ name. stem_of_split name (rsplit_once dot name)) r ≡ option_map stem_of r
stems None = refl
stems (Some name) = ap Some (stem_by name (rsplit_once dot name) (rsplit_once_parts dot name))

-- the results of std's `extension` and `file_stem`
pub extension_is : (path : List ℕ) → path_extension path ≡ extension path
unfolding path_extension extension
extension_is path = extensions (path_file_name path) ∙ ap (option_and_then extension_of) (file_name_is path)

pub file_stem_is : (path : List ℕ) → path_file_stem path ≡ file_stem path
unfolding path_file_stem file_stem
file_stem_is path = stems (path_file_name path) ∙ ap (option_map stem_of) (file_name_is path)
