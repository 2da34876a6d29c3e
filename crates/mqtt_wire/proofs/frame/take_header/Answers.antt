use Rattle.mqtt_wire.specs.Frame.{header_with}
use Rattle.mqtt_wire.proofs.FrameLaws.{rest_within, rest_of}
use Rattle.mqtt_wire.proofs.frame.take_header.Goals as goal

pub overflow_sub-size : goal.overflow_sub-size
overflow_sub-size c =
    rest_within c.as_slice-bytes.result.now (header_with c.in-Some.header c.in-Some.rest.now) (rw c.in-Some.is at c.in_ok-header.ensures)

pub returns : goal.returns
returns c =
    let read = rw c.in-Some.is at c.in_ok-header.ensures in
    rw (c.advance.ensures.items, ← c.as_slice-bytes.ensures, rest_of c.as_slice-bytes.result.now (header_with c.in-Some.header c.in-Some.rest.now) read) read
