use Rattle.std.proofs.Common.{refl}
use Rattle.std.proofs.lemmas.Str.{encode_ascii}
use Rattle.just_case_reader.proofs.line.enclosed.Goals as goal

pub returns : goal.returns
returns c =
    rw (
      c.into_bump_str.ensures,
      c.in_ok-push-2.ensures.bytes,
      c.in_ok-push_str.ensures.bytes,
      c.in_ok-push.ensures.bytes,
      c.in_ok-lexeme.ensures.bytes,
      encode_ascii c.args.mark c.requires,
    ) refl
