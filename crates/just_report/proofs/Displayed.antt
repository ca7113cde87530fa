-- What an error displays, within a longer text.
use Rattle.std.proofs.Common.{◌≡◌, ◌++◌, ℕ, List, Option, Some, None, IfSome}
use Rattle.std.specs.Fmt.{◌++?◌}

-- what follows from the longer text holds of what is displayed, if its text is known
pub displayed : (front back : List ℕ) (Q : List ℕ → Type 0) (said : Option (List ℕ)) (text : List ℕ)
    → IfSome (Some front ++? said ++? Some back) (λ whole. text ≡ whole) → ((message : List ℕ) → text ≡ front ++ (message ++ back) → Q message)
    → IfSome said Q
displayed front back Q None text whole follows = tt
displayed front back Q (Some message) text whole follows = follows message whole
