use Rattle.std.proofs.Common.{◌≡◌, ◌↔◌, ◌∙◌, ℕ, Bool, false, subst, sym}
use Rattle.just_changes.specs.Prelude.{HaveSameCone, IsOver, Module, OfVariable, frames_view, is_number_in, is_reached, version_view}
use Rattle.just_changes.proofs.Exact.{alike, exact, over}
use Rattle.just_changes.proofs.changed.changed.Goals as goal

pub touched_between-requires : goal.touched_between-requires
touched_between-requires c = record { before = c.in_ok-before.ensures.whole; after = c.in_ok-after.ensures.whole }

pub returns : goal.returns
returns c =
    let outer = frames_view c.args.parent.now in
    let touched = c.in_ok-touched.ensures in
    let compared =
    λ (m w : Module) (first : IsOver c.args.before.now c.args.before_overrides.now m) (second : IsOver c.args.after.now c.args.after_overrides.now w).
    exact m w outer (version_view c.in_ok-before.before) (version_view c.in_ok-after.after) touched.readers touched.starts (is_reached c.in_ok-touched.touched)
    (over c.in_ok-before.before c.args.before.now c.args.before_overrides.now m c.in_ok-before.ensures.whole c.in_ok-before.ensures.assignments
    c.in_ok-before.ensures.functions c.in_ok-before.ensures.overrides first)
    (over c.in_ok-after.after c.args.after.now c.args.after_overrides.now w c.in_ok-after.ensures.whole c.in_ok-after.ensures.assignments
    c.in_ok-after.ensures.functions c.in_ok-after.ensures.overrides second)
    touched.read touched.differ touched.all touched.reached in
    let same : (n : ℕ) → is_number_in c.in_ok-rising.field-0 n ≡ is_reached c.in_ok-touched.touched (OfVariable n) =
    λ n. c.in_ok-rising.ensures n ∙ c.into_variables.ensures n in
    record {
      exact = λ m w first second n. subst (λ (b : Bool). (b ≡ false) ↔ HaveSameCone m w outer n) (sym (same n)) (compared m w first second n);
      alike = λ m w first second n off. alike c.blocks_agree.ensures m w outer n ((compared m w first second n).0 (sym (same n) ∙ off));
    }
