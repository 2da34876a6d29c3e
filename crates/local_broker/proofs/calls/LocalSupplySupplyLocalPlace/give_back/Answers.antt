-- The group is as open as it was.
use Rattle.std.proofs.Common.{◌≡◌, ◌<◌, Some, length, slice_get, ap, ◌∙◌, arith}
use Rattle.std.proofs.lemmas.Option.{slice_get_read}
use Rattle.local_broker.specs.Broker.{is_open}
use Rattle.local_broker.proofs.Visits.{open_still, given_back}
use Rattle.local_broker.proofs.calls.LocalSupplySupplyLocalPlace.give_back.Goals as goal

pub returns-clause-visiting : goal.returns-clause-visiting
returns-clause-visiting c =
    let i = c.self.inside in
    let eight : 8 ≡ length i.groups.items = omega (arith, c.self.invariant.groups) in
    let within : c.from.result < 8 = grind arith in
    let there : slice_get i.groups.items c.from.result ≡ Some c.index_mut.result.now =
    slice_get_read i.groups.items 8 c.from.result c.index_mut.result.now eight within c.index_mut.ensures.value in
    open_still i.groups.items c.from.result c.index_mut.result.now c.give_back.new.group there (given_back c.index_mut.result.now c.give_back.new.group c.number.result c.args.envelope c.give_back.ensures)
    ∙ ap is_open c.self.view_is
