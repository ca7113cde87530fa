use Rattle.std.proofs.Common.{◌∙◌, List, ap, map}
use Rattle.std.proofs.lemmas.Result.{on_ok_weaker}
use Rattle.just_syntax.proofs.Maps.{seen_with}
use Rattle.just_syntax.specs.Plain.{Function}
use Rattle.just_host.specs.Justfile.{Justfile}
use Rattle.just_host.specs.Prelude.{function_view, justfile_view}
use Rattle.just_host.proofs.justfile.Justfile.define.Goals as goal

pub returns-clause-ok : goal.returns-clause-ok
returns-clause-ok c =
    let old : Justfile = justfile_view c.args.self.now in
    on_ok_weaker c.insert.result (λ inserted. ap (λ (fs : List Function). record old { functions = fs })
    (ap (map function_view) inserted ∙ seen_with function_view (λ f. f.name.lexeme) c.args.self.now.functions c.args.function)) c.insert.ensures.ok
