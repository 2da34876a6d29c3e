use Rattle.std.proofs.Common.{arith, refl}
use Rattle.std.proofs.lemmas.Option.{slice_get_read}
use Rattle.local_broker.proofs.Closed.{close_more, closed_each}
use Rattle.local_broker.proofs.groups.close_each.Goals as goal

pub groups-preserved : goal.groups-preserved
groups-preserved c =
    let all = c.groups.invariant.as_many in
    let end = c.len-slot-end.ensures in
    let test = c.groups-test.true in
    close_more _ c.groups.groups.items c.groups.slot c.index_mut.result.now c.close.new.self c.groups.invariant
    (slice_get_read c.groups.groups.items _ c.groups.slot c.index_mut.result.now refl (omega arith) c.index_mut.ensures.value) c.close.ensures

pub returns : goal.returns
returns c =
    let end = c.len-slot-end.ensures in
    closed_each c.args.groups.now.items c.groups.groups.items c.groups.slot c.groups.invariant (omega arith)
