use Rattle.std.proofs.Common.{refl, map}
use Rattle.just_builtins.specs.declared.table.TheConstants.{TABLE}
use Rattle.just_builtins.specs.Prelude.{function_named, table}
use Rattle.just_builtins.proofs.Spelled.{same_found}
use Rattle.just_builtins.proofs.function.functions.Goals as goal

-- by computation on the table, as for `get`
pub returns-clause-named : goal.returns-clause-named
unfolding function_named
returns-clause-named c = same_found (map (λ entry. (entry.0.now, entry.1)) TABLE) table refl refl
