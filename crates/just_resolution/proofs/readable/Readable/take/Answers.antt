use Rattle.std.proofs.Common.{inl, inr, ⊎_elim}
use Rattle.just_resolution.proofs.readable.Readable.take.Goals as goal

pub returns-clause-taken : goal.returns-clause-taken
returns-clause-taken c = λ n.
    let added = c.in_ok-insert.ensures.members n in
    ((λ h. ⊎_elim (λ e. inr e) (λ k. inl k) (added.0 h)), (λ h. added.1 (⊎_elim (λ k. inr k) (λ e. inl e) h)))
