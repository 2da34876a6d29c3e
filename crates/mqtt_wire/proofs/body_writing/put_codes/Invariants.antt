use Rattle.std.proofs.Common.{take, drop}
use Rattle.mqtt_fields.specs.Buffers.{HasRoom, Appends}
use Rattle.mqtt_wire.proofs.body_writing.put_codes.Given as goal

-- those before this one are written, and there is room for the others
abbrev pub invariant-loop-code : goal.invariant-loop-code
invariant-loop-code l = Appends l.initial.out (take l.code-index l.codes) l.out × HasRoom l.out (drop l.code-index l.codes)
