-- Options that hold something, and options that do not.
use Rattle.std.proofs.Common.{◌≡◌, true, false, Option, Some, None, refl, ap, is_some, option_map}

pub none_there : {X : Type 0} (o : Option X) → is_some o ≡ false → o ≡ None
none_there None e = refl
none_there (Some x) e = absurd (cc)

pub some_there : {X : Type 0} (o : Option X) → is_some o ≡ true → (x : X) × (o ≡ Some x)
some_there None e = absurd (cc)
some_there (Some x) e = (x, refl)

pub is_there : {X Y : Type 0} (f : X → Y) (r : Option X) (i : Option Y) → option_map f r ≡ i → is_some r ≡ is_some i
is_there f None i e = ap is_some e
is_there f (Some x) i e = ap is_some e
