-- What the events so far tell is put down.
use Rattle.std.proofs.Common.{◌≡◌, ◌≤◌, take, vec_len, vec_capacity}
use Rattle.tcp_edge.specs.Reactors.{readies}
use Rattle.tcp_edge.proofs.reactor.tell_all.Given as goal

abbrev pub invariant-loop-event : goal.invariant-loop-event
invariant-loop-event l =
    (l.ready.items ≡ readies l.seats (take l.event-index l.events))
    × (vec_len l.ready ≤ l.event-index)
    × (vec_capacity l.ready ≡ vec_capacity l.fn.ready)
