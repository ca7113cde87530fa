use Rattle.just_changes.proofs.Parts.{same_ends}
use Rattle.just_changes.proofs.Versions.{function_found}
use Rattle.just_changes.proofs.version.Version.is_same_function.Goals as goal

pub returns : goal.returns
returns c =
    same_ends _ _ _ _ (function_found c.args.name.now c.args.self.now.functions.now c.get.result c.get.ensures)
    (function_found c.args.name.now c.args.other.now.functions.now c.get-2.result c.get-2.ensures) c.is_same_function.ensures
