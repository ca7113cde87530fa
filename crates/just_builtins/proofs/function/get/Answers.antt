use Rattle.std.proofs.Common.{refl, ◌∙◌, map}
use Rattle.just_builtins.specs.declared.table.TheConstants.{TABLE}
use Rattle.just_builtins.specs.Prelude.{function_named, table}
use Rattle.just_builtins.proofs.Spelled.{same_found}
use Rattle.just_builtins.proofs.function.get.Goals as goal

-- by computation on the table: each long and short name has its entry, and each entry has its name's function
pub returns : goal.returns
unfolding function_named
returns c = c.find_function.ensures ∙ same_found (map (λ entry. (entry.0.now, entry.1)) TABLE) table refl refl c.args.name.now
