-- Two texts on a line.
use Rattle.std.proofs.Common.{◌≡◌, ◌++◌, codes, sym, ◌∙◌, append_assoc}
use Rattle.just_bench.specs.Prelude.{Text, space_between, with_newline}

-- two texts with a space between them, grouped to the right and to the left
pub between : (one other : Text) → one ++ (codes " " ++ (other ++ codes "\n")) ≡ with_newline (space_between one other)
between one other = sym (append_assoc (one ++ codes " ") other (codes "\n") ∙ append_assoc one (codes " ") (other ++ codes "\n"))
