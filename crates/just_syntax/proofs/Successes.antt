-- Results of calls that succeeded.
use Rattle.std.proofs.Common.{Result, Ok, Err, IsOk, OnOk}

-- what a success ensures
pub on_ok : {T E : Type 0} {P : Type 0} (r : Result T E) → IsOk r → OnOk r P → P
on_ok (Ok x) is h = h
on_ok (Err x) is h = absurd (cc)
