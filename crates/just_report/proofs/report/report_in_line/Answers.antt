use Rattle.std.proofs.Common.{◌∷◌, [], arith, codes, string_bytes}
use Rattle.std.proofs.lemmas.Grind.{common_steps}
use Rattle.just_report.proofs.Displayed.{displayed}
use Rattle.just_report.proofs.report.report_in_line.Goals as goal

pub returns : goal.returns
returns g c =
    displayed (codes "error: ") (10 ∷ []) _ (g.E.Display.output c.args.error.now) (string_bytes c.in_ok-text.text) c.in_ok-text.ensures.ok
    (λ message said. grind (arith, common_steps, said))
