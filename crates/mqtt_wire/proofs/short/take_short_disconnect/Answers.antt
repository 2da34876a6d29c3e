use Rattle.std.proofs.Common.{◌≡◌, ◌≤◌, length, get_or, arith}
use Rattle.mqtt_wire.proofs.ShortLaws.{short_disconnect}
use Rattle.mqtt_wire.proofs.short.take_short_disconnect.Goals as goal

pub returns : goal.returns
returns c =
    let long : 2 ≤ length c.as_slice.result.now = omega arith in
    let first : get_or c.as_slice.result.now 0 0 ≡ 0xE0 = omega arith in
    let remaining : get_or c.as_slice.result.now 1 0 ≡ 0 = omega arith in
    rw (c.advance.ensures.items, ← c.as_slice.ensures, c.new.ensures)
    (short_disconnect c.as_slice.result.now long first remaining)
