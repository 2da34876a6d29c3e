-- Where there was no memory for a packet, all of them are more than there is room for.
use Rattle.std.proofs.Common.{vec_capacity, vec_len, Err, ap, rules}
use Rattle.conn_service.proofs.Filling.{past_room}
use Rattle.conn_service.proofs.outgoing.encode_all.Goals as goal

pub returns-in-Err-clause-full : goal.returns-in-Err-clause-full
returns-in-Err-clause-full c =
    past_room c.in-Err._fault c.packets.buffer.items c.args.buffer.now.items c.args.packets.now c.packets.packet-index c.packet-item.result (vec_capacity c.packets.buffer)
    (vec_len c.packets.buffer) c.packets-test.true c.packet-item.is c.packets.invariant.written (search rules) c.packets.invariant.room
    (λ is. c.in-Err.ensures.memory (ap Err is)) (λ is. c.in-Err.ensures.too_large.0 (ap Err is)) c.in-Err.ensures.refused
