use Rattle.std.proofs.Common.{refl, arith}
use Rattle.std.proofs.lemmas.Str.{encode_ascii}
use Rattle.just_text.proofs.quote.quote.Goals as goal

pub returns : goal.returns
returns c =
    let quote = encode_ascii 39 (omega arith) in
    rw (c.in_ok-push-2.ensures.bytes, c.in_ok-push_substituted.ensures, c.in_ok-push.ensures.bytes, c.in_ok-quoted.ensures.bytes, quote) refl
