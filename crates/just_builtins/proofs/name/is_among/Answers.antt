use Rattle.std.proofs.Common.{[], Bor, ◌∙◌}
use Rattle.just_builtins.specs.Prelude.{Text}
use Rattle.just_builtins.proofs.Halving.{tells}
use Rattle.just_builtins.proofs.name.is_among.Goals as goal

pub returns : goal.returns
returns c = c.is_ok.ensures.value ∙ tells (λ (name : Bor Text). name.now) (λ name. name) c.args.names.now c.requires c.args.name.now c.binary_search.result
    (record { ref_ptr = (0, 0); now = [] }) c.binary_search.ensures.bound c.binary_search.ensures.position
