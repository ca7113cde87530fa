-- The names that the contracts and proofs of this crate share, passed on from one place. Declares nothing.
unfoldable pub use Rattle.percent_encoding.specs.Percent.{percent_encode_byte}
pub use Rattle.just_text.specs.Path.{joined_paths}
unfoldable pub use Rattle.just_text.specs.Path.{extension, file_name, file_stem, parent}
pub use Rattle.just_text.specs.Pattern.{LeavesNoneAtEnd, LeavesNoneAtStart}
unfoldable pub use Rattle.just_text.specs.Pattern.{without_ends, without_starts}
pub use Rattle.just_text.specs.Quote.{single_quoted}
pub use Rattle.just_text.specs.Replace.{exchanged, replaced, substituted}
pub use Rattle.just_text.specs.Split.{NoPieceHoldsSeparator, PiecesGiveTextBack}
unfoldable pub use Rattle.just_text.specs.Split.{pieces, words}
pub use Rattle.just_text.specs.Uri.{EscapesReserved, encoded}
