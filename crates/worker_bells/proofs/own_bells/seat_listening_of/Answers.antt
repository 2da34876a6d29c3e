-- One listener more.
use Rattle.std.proofs.Common.{get_or}
use Rattle.std.proofs.lemmas.Option.{slice_get-get_or}
use Rattle.std.specs.Arc.{arc_value}
use Rattle.worker_bells.proofs.Joining.{listening_seated}
use Rattle.worker_bells.proofs.own_bells.seat_listening_of.Goals as goal

pub returns-then-worker-all : goal.returns-then-worker-all
returns-then-worker-all g c =
    listening_seated c.seat_listening.result (arc_value c.args.bell.now) c.args.slot c.args.worker c.args.all.now
    (get_or c.args.all.now c.args.worker c.index-all-worker.result) c.seat_listening.new.own_bells
    (slice_get-get_or c.args.all.now c.args.worker c.index-all-worker.result c.if-worker-all.true)
    c.seat_listening.ensures.ringings c.seat_listening.ensures.listening
