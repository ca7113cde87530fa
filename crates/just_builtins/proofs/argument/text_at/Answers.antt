use Rattle.std.proofs.Common.{◌∙◌, sym, ap, length}
use Rattle.just_builtins.proofs.Arguments.{only, read_at}
use Rattle.just_builtins.proofs.argument.text_at.Goals as goal

pub returns : goal.returns
returns c =
    let there = read_at c.args.arguments.now c.args.position c.index-arguments-position.result c.requires.there c.index-arguments-position.is in
    there ∙ only c.elements-elements.result.now c.index-elements-0.result _ _ c.elements-elements.ensures (ap length (sym there) ∙ c.requires.text)
    c.index-elements-0.is c.deref.ensures
