-- The bindings of a run have no attributes.
use Rattle.std.proofs.Common.{◌≡◌, List, [], ◌∷◌, Some, refl, sym, ap, All, option_map}
use Rattle.std.proofs.lemmas.List.Elements.{All-head, All-nil}
use Rattle.std.proofs.lemmas.Map.Views.{All-values-insert_entry}
use Rattle.std.specs.Map.{values_of}
use Rattle.std.specs.Ordering.{nat_cmp}
use Rattle.just_bench.specs.Prelude.{Behaves, Bound, Closing, Frames, Gave, Module, Outcome, Refused, Step, Stopped, Token, bound_in, bound_innermost}
use Rattle.just_bench.specs.Prelude.{first_bound, freely, own_frame, run, unchecked, without_attributes}
use Rattle.just_meaning.specs.Blocks.{Block}
use Rattle.just_soundness.proofs.Running.{Running, Finished, Stops, Unknown, Passes, Skips, Binds, Breaks, Halts, by_rules}

abbrev HasNone : Bound → Type 0
HasNone b = b.attributes ≡ []

abbrev HaveNone : Frames → Type 0
HaveNone frames = All HasNone (values_of (own_frame frames))

abbrev GivenNone : Outcome Frames → Type 0
GivenNone (Gave frames) = HaveNone frames
GivenNone (Refused r) = Unit {0}
GivenNone Stopped = Unit {0}

one_more : (frames : Frames) (b : Bound) → HasNone b → HaveNone frames → HaveNone (bound_innermost frames b)
one_more [] b e h = h
one_more (frame ∷ outer) b e h = All-values-insert_entry nat_cmp b.number b HasNone frame h e

given_none : {closing : Closing} {m : Module} {frames : Frames} {left : List Token} {bs : List Block} {o : Outcome Frames} → HaveNone frames
    → Running closing m frames left bs o → GivenNone o
given_none h Finished = h
given_none h Stops = tt
given_none h (Unknown f) = tt
given_none h (Passes a f e r) = given_none h r
given_none h (Skips a b f e g r) = given_none h r
given_none {m = m} {frames = frames} h (Binds a es v k p r) = given_none (one_more frames (bound_in m a v) refl h) r
given_none h (Breaks a es r k p) = tt
given_none h (Halts a es k p) = tt

first_none : (bs : List Bound) → All HasNone bs → option_map without_attributes (first_bound bs) ≡ first_bound bs
first_none [] h = refl
first_none (b ∷ bs) h = ap (λ attributes. Some (record b { attributes = attributes })) (sym (All-head HasNone b bs h))

-- removing the attributes from the first binding of a run in an empty scope does not change it
pub first_given : {S : Type 0} {step : Step S} {old new : S} (closing : Closing) (m : Module) (outer : Frames) (left : List Token) (given : Frames)
    → Behaves freely step unchecked old (run closing m ([] ∷ outer) left) (Gave given) new
    → option_map without_attributes (first_bound (values_of (own_frame given))) ≡ first_bound (values_of (own_frame given))
first_given closing m outer left given r =
    first_none (values_of (own_frame given)) (given_none (All-nil HasNone) (by_rules closing m ([] ∷ outer) left r.path).rules)
