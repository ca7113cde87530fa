use Rattle.std.proofs.Common.{sym, refl, false, ◌∙◌, ap, subst, IsAscii, IsOk, map}
use Rattle.std.proofs.lemmas.Bool.{both_ways}
use Rattle.std.proofs.lemmas.Str.{IsUtf8-from_ascii}
use Rattle.just_text.specs.Prelude.{exchanged}
use Rattle.just_text.proofs.Exchanged.{exchanged_ascii}
use Rattle.just_text.proofs.replace.with_byte_replaced.Goals as goal

pub unreachable-requires : goal.unreachable-requires
unreachable-requires c =
    let bytes = exchanged_ascii c.args.from c.args.to c.args.text.now c.requires.substitute c.requires.ascii in
    let copied = c.all_exchanged.ensures ∙ ap (map (exchanged c.args.from c.args.to)) (c.in_ok-bytes.ensures.items ∙ c.as_bytes.ensures.value) in
    both_ways false refl (subst IsOk c.in-Err.is (c.from_utf8.ensures.succeeds (IsUtf8-from_ascii _ (subst IsAscii (sym copied) bytes))))
