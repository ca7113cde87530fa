use Rattle.std.proofs.Common.{refl, ◌∙◌, map}
use Rattle.just_builtins.specs.declared.table.TheConstants.{LEFT_OUT}
use Rattle.just_builtins.specs.Prelude.{is_left_out}
use Rattle.just_builtins.specs.Table.{left_out}
use Rattle.just_builtins.proofs.Spelled.{same_among}
use Rattle.just_builtins.proofs.function.is_left_out.Goals as goal

-- by computation on the names: each is listed, no short form is missing, and each is left out
pub returns : goal.returns
unfolding is_left_out
returns c = c.is_among.ensures ∙ same_among (map (λ name. name.now) LEFT_OUT) left_out refl refl c.args.name.now
