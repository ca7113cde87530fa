-- A step advances, and cuts the text between characters.
use Rattle.std.specs.Prelude.{ℕ, ◌+◌, ◌<◌, ◌≤◌, ◌^◌, ◌≡◌, ◌⊎◌, [], length}
use Rattle.std.specs.Str.{IsCharBoundary}
use Rattle.just_syntax.specs.Plain.{Text, Place}
use Rattle.just_lexer.specs.declared.kind.TokenKind.{TokenKind}
use Rattle.just_lexer.specs.declared.kind.TokenKind.TheVariants.{Dedent}
use Rattle.just_lexer.specs.declared.step.Step.{Step}
use Rattle.just_lexer.specs.declared.step.Step.TheVariants.{Token, Fault, OpenFault, End}

-- a token takes at least one byte, or it ends a body
abbrev pub Advances : Text → TokenKind → ℕ → Type 0
Advances indentation kind count = (0 < count) ⊎ ((kind ≡ Dedent) × (0 < length indentation))

-- a step advances, and cuts the text between characters; at the end no text is left
unfoldable pub FitsIn : Text → Text → Step → Type 0
FitsIn indentation text (Token kind count) = Advances indentation kind count × IsCharBoundary text count
FitsIn indentation text (Fault fault count) = IsCharBoundary text count
FitsIn indentation text (OpenFault fault) = Unit {0}
FitsIn indentation text End = text ≡ []

-- the numbers of the place after a text fit a `usize`
pub record PlaceFits (place : Place) (text : Text) : Type 0 where
  pub line : place.line ≤ place.offset
  pub column : place.column ≤ place.offset
  pub offset : place.offset + length text < 2 ^ 64
