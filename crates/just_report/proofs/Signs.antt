-- The signs of a report, byte by byte.
use Rattle.std.proofs.Common.{◌≡◌, [], ◌∷◌, refl}
use Rattle.just_report.specs.Report.{arrow, bar}

pub arrow_is : arrow ≡ 226 ∷ 128 ∷ 148 ∷ 226 ∷ 128 ∷ 148 ∷ 226 ∷ 150 ∷ 182 ∷ 32 ∷ []
unfolding lib.Utf8.encode
arrow_is = refl

pub bar_is : bar ≡ 32 ∷ 226 ∷ 148 ∷ 130 ∷ []
unfolding lib.Utf8.encode
bar_is = refl
