use Rattle.std.proofs.Common.{◌∙◌, sym}
use Rattle.mqtt_packet.proofs.TextLaws.{decided, is_text-short}
use Rattle.mqtt_packet.proofs.text.is_valid.Goals as goal

pub returns-clause-text : goal.returns-clause-text
returns-clause-text c =
    let bytes = c.args.bytes.now in
    decided c.is_utf8.result bytes c.is_utf8.ensures
    ∙ is_text-short bytes c.if-bytes-ge65536.false (sym c.contains.ensures.value ∙ c.if-contains.false)
