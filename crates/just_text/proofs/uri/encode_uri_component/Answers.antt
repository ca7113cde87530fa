use Rattle.std.proofs.Common.{◌∙◌}
use Rattle.just_text.proofs.Escapes.{encoded}
use Rattle.just_text.proofs.uri.encode_uri_component.Goals as goal

pub returns : goal.returns
returns c = c.in_ok-append_to.ensures.ok
    ∙ rw (c.new-encoded.ensures.bytes, c.utf8_percent_encode.ensures.text) (encoded c.reserved.result c.reserved.ensures c.args.text.now)
