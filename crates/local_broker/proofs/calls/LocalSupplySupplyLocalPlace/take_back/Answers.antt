-- The group is as open as it was.
use Rattle.std.proofs.Common.{◌≡◌, ◌<◌, Some, length, slice_get, ap, ◌∙◌, arith}
use Rattle.std.proofs.lemmas.Option.{slice_get_read}
use Rattle.local_broker.specs.Broker.{is_open}
use Rattle.local_broker.proofs.Visits.{open_still, handed_out_again}
use Rattle.local_broker.proofs.calls.LocalSupplySupplyLocalPlace.take_back.Goals as goal

pub returns-clause-visiting : goal.returns-clause-visiting
returns-clause-visiting c =
    let i = c.self.inside in
    let eight : 8 ≡ length i.groups.items = omega (arith, c.self.invariant.groups) in
    let within : c.from.result < 8 = grind arith in
    let there : slice_get i.groups.items c.from.result ≡ Some c.index_mut.result.now =
    slice_get_read i.groups.items 8 c.from.result c.index_mut.result.now eight within c.index_mut.ensures.value in
    open_still i.groups.items c.from.result c.index_mut.result.now c.take_back.new.group there (handed_out_again c.take_back.result c.index_mut.result.now c.take_back.new.group c.number.result c.take_back.ensures)
    ∙ ap is_open c.self.view_is
