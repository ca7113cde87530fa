use Rattle.std.proofs.Common.{◌≡◌, refl, subst, string_bytes, IfOk}
use Rattle.just_text.proofs.Exchanged.{one_byte_exchanged, one_byte_replaced}
use Rattle.just_text.proofs.Pieces.{replaced_is}
use Rattle.just_text.proofs.replace.replace.Goals as goal

pub returns-then-is_empty : goal.returns-then-is_empty
returns-then-is_empty c =
    let (n, runs) = c.in_ok-replace.ensures.ok in
    replaced_is c.args.from.now c.args.to.now n c.args.from c.args.text.now (string_bytes c.in_ok-replace.field-0) c.utf8.text refl runs

pub returns-in-Some-only_byte : goal.returns-in-Some-only_byte
returns-in-Some-only_byte c =
    let same = one_byte_exchanged c.in-Some.byte c.in-Some-only_byte.to c.args.from.now c.args.to.now c.args.text.now c.in-Some.ensures.1
    c.in-Some-only_byte.ensures.1 in
    subst (λ bytes. IfOk c.with_byte_replaced.result (λ t. string_bytes t ≡ bytes)) same c.with_byte_replaced.ensures

pub returns-in_default-only_byte : goal.returns-in_default-only_byte
returns-in_default-only_byte c =
    let same = one_byte_replaced c.in-Some.byte c.args.from.now c.args.to.now c.args.text.now c.in-Some.ensures.1 in
    subst (λ bytes. IfOk c.with_byte_substituted.result (λ t. string_bytes t ≡ bytes)) same c.with_byte_substituted.ensures
