use Rattle.just_text.proofs.Pieces.{pieces_free}
use Rattle.just_text.proofs.laws.no_piece_holds_separator.Goals as goal

pub returns : goal.returns
returns c = pieces_free
