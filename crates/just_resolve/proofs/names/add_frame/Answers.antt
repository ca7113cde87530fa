use Rattle.std.proofs.Common.{◌≡◌, ◌∙◌, ℕ, ap, map}
use Rattle.std.specs.Option.{option_or}
use Rattle.just_value.specs.Frames.{Bound}
use Rattle.just_value.specs.View.{bindings_left}
use Rattle.just_value.specs.declared.bindings.Bindings.{Bindings}
use Rattle.just_resolve.specs.Prelude.{Token, bound_view, first_named, frame_names, frame_view, number_in}
use Rattle.just_resolve.proofs.Lookups.{names_of_bindings}
use Rattle.just_resolve.proofs.names.add_frame.Goals as goal

pub loop-binding-init : goal.loop-binding-init
loop-binding-init c = λ t.
    let pair : Bound → Token × ℕ = λ b. (b.name, b.number) in
    let all : map pair (map bound_view (bindings_left c.into_iter-binding-iterator.result)) ≡ frame_names (frame_view c.args.frame.now) =
    ap (λ (bs : Bindings). map pair (map bound_view (bindings_left bs))) c.into_iter-binding-iterator.ensures.into_iter_gives
    ∙ ap (map pair) c.bindings-binding-items.ensures.once ∙ names_of_bindings (frame_view c.args.frame.now) in
    ap (λ ps. option_or (number_in c.args.all.now t) (first_named ps t)) all
