use Rattle.std.proofs.Common.{Some, None, ap, sym, arith, ◌∙◌}
use Rattle.std.proofs.lemmas.Str.Pattern.{strip_suffix_char}
use Rattle.just_eval.specs.Prelude.{without_backslash}
use Rattle.just_eval.proofs.Backslash.{cut, kept}
use Rattle.just_eval.proofs.joined.without_backslash.Goals as goal

pub returns-in-Some : goal.returns-in-Some
returns-in-Some c =
    let split = strip_suffix_char 92 c.args.text.now (Some c.in-Some.front) c.in-Some.ensures.cases (omega arith) in
    sym (ap without_backslash split ∙ cut c.in-Some.front.now)

pub returns-in-None : goal.returns-in-None
returns-in-None c = sym (kept c.args.text.now (strip_suffix_char 92 c.args.text.now None c.in-None.ensures.cases (omega arith)))
