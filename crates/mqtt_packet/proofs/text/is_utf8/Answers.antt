use Rattle.std.proofs.lemmas.Str.{IsUtf8-from_ascii}
use Rattle.mqtt_packet.proofs.text.is_utf8.Goals as goal

pub returns-then-is_ascii : goal.returns-then-is_ascii
returns-then-is_ascii c = (λ yes. IsUtf8-from_ascii c.args.bytes.now c.if-is_ascii.ensures.cases, λ utf8. c.if-is_ascii.true)
