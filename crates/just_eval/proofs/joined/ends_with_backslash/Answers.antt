use Rattle.std.proofs.Common.{Some, None, ap, sym, arith, ◌∙◌}
use Rattle.std.proofs.lemmas.Str.Pattern.{strip_suffix_char}
use Rattle.just_eval.specs.Prelude.{ends_with_backslash}
use Rattle.just_eval.proofs.Backslash.{ends, no_end}
use Rattle.just_eval.proofs.joined.ends_with_backslash.Goals as goal

pub returns-in-Some : goal.returns-in-Some
returns-in-Some c =
    let split = strip_suffix_char 92 c.args.text.now (Some c.in-Some.field-0) c.in-Some.ensures.cases (omega arith) in
    sym (ap ends_with_backslash split ∙ ends c.in-Some.field-0.now)

pub returns-in-None : goal.returns-in-None
returns-in-None c = sym (no_end c.args.text.now (strip_suffix_char 92 c.args.text.now None c.in-None.ensures.cases (omega arith)))
