use Rattle.just_text.proofs.Pieces.{pieces_joined}
use Rattle.just_text.proofs.laws.pieces_give_text_back.Goals as goal

pub returns : goal.returns
returns c = pieces_joined
