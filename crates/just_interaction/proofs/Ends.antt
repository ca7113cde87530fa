-- Properties of all outcomes of a tree.
use Rattle.std.proofs.Common.{◌≡◌, List, refl, ap}
use mathlib.Core.Path.{fun_ext}
use Rattle.just_interaction.specs.Prelude.{Asks, Checks, Ends, Event, Gave, Notes, Outcome, Path, Refused, Shuts, Signature, Stopped, Stops, Tree, ask, bind}
use Rattle.just_interaction.specs.Prelude.{check, done, freely, note}

-- each outcome at which the tree may end has this property
abbrev pub AllEnd : {s : Signature} {A : Type 0} → (Outcome s.Refusal A → Type 0) → Tree s A → Type 0
AllEnd P (done o) = P o
AllEnd {s} P (ask q next) = (a : s.Answer) → AllEnd P (next a)
AllEnd P (note x rest) = AllEnd P rest
AllEnd {s} P (check p v next) = (a : s.Verdict) → AllEnd P (next a)

-- continues from each outcome
pub ends_bind : {s : Signature} {A B : Type 0} (P : Outcome s.Refusal A → Type 0) (Q : Outcome s.Refusal B → Type 0) (t : Tree s A) (go : A → Tree s B)
    → AllEnd P t → ((o : Outcome s.Refusal A) → P o → AllEnd Q (bind (done o) go)) → AllEnd Q (bind t go)
ends_bind P Q (done o) go h k = k o h
ends_bind P Q (ask q next) go h k = λ a. ends_bind P Q (next a) go (h a) k
ends_bind P Q (note x rest) go h k = ends_bind P Q rest go h k
ends_bind P Q (check p v next) go h k = λ a. ends_bind P Q (next a) go (h a) k

pub ends_both : {s : Signature} {A : Type 0} (P Q : Outcome s.Refusal A → Type 0) (t : Tree s A) → AllEnd P t → AllEnd Q t → AllEnd (λ o. P o × Q o) t
ends_both P Q (done o) h k = (h, k)
ends_both P Q (ask q next) h k = λ a. ends_both P Q (next a) (h a) (k a)
ends_both P Q (note x rest) h k = ends_both P Q rest h k
ends_both P Q (check p v next) h k = λ a. ends_both P Q (next a) (h a) (k a)

-- a trace that is not stopped ends at an outcome of the tree
pub ends_path : {s : Signature} {A : Type 0} (P : Outcome s.Refusal A → Type 0) → P Stopped → (t : Tree s A) {es : List (Event s)}
    {o : Outcome s.Refusal A} → AllEnd P t → Path (freely s) t es o → P o
ends_path P stopped t h Ends = h
ends_path P stopped t h Stops = stopped
ends_path P stopped (ask q next) h (Asks {a = a} p) = ends_path P stopped (next a) (h a) p
ends_path P stopped (note x rest) h (Notes e p) = ends_path P stopped rest h p
ends_path P stopped (check p v next) h (Checks {a = a} q) = ends_path P stopped (next a) (h a) q
ends_path P stopped t h (Shuts e) = absurd (cc)

-- outcomes with no condition
pub ends_any : {s : Signature} {A : Type 0} (t : Tree s A) → AllEnd (λ o. Unit {0}) t
ends_any (done o) = tt
ends_any (ask q next) = λ a. ends_any (next a)
ends_any (note x rest) = ends_any rest
ends_any (check p v next) = λ a. ends_any (next a)

-- two continuations that agree on the values that the tree may give
pub ends_same : {s : Signature} {A B : Type 0} (P : Outcome s.Refusal A → Type 0) (t : Tree s A) (go other : A → Tree s B)
    → AllEnd P t → ((a : A) → P (Gave a) → go a ≡ other a)
    → bind t go ≡ bind t other
ends_same P (done (Gave a)) go other h same = same a h
ends_same P (done (Refused r)) go other h same = refl
ends_same P (done Stopped) go other h same = refl
ends_same P (ask q next) go other h same = ap (ask q) (fun_ext (λ a. ends_same P (next a) go other (h a) same))
ends_same P (note x rest) go other h same = ap (note x) (ends_same P rest go other h same)
ends_same P (check p v next) go other h same = ap (check p v) (fun_ext (λ a. ends_same P (next a) go other (h a) same))
