-- A text behind a reference, if there is one.
use Rattle.std.proofs.Common.{◌≡◌, Option, Some, None, Bor, List, ℕ, refl, option_map, unwrap_or}

pub unwrap_now : (r : Option (Bor (List ℕ))) (d : Bor (List ℕ)) → (unwrap_or r d).now ≡ unwrap_or (option_map (λ x. x.now) r) d.now
unwrap_now None d = refl
unwrap_now (Some x) d = refl
