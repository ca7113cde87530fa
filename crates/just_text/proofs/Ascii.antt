-- ASCII texts.
use Rattle.std.proofs.Common.{◌≡◌, ℕ, suc, List, [], ◌∷◌, ◌++◌, map, take, drop, true, refl, IsAscii}
use Rattle.std.specs.Char.{is_ascii, to_ascii_lowercase, to_ascii_uppercase}
use Rattle.std.specs.List.{list_all}
use Rattle.std.proofs.lemmas.Bool.{lt-ltb}
use Rattle.just_text.specs.Case.{capitalized}

pub all_ascii : (text : List ℕ) → IsAscii text → list_all is_ascii text ≡ true
all_ascii [] ascii = refl
all_ascii (b ∷ bs) ascii = rw (lt-ltb b 128 (ascii 0), all_ascii bs (λ i. ascii (suc i)))

pub capital_parts : (text : List ℕ) → capitalized text ≡ map to_ascii_uppercase (take 1 text) ++ map to_ascii_lowercase (drop 1 text)
capital_parts [] = refl
capital_parts (c ∷ cs) = refl
