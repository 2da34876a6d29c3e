-- One ringer more, until each worker has one.
use Rattle.std.proofs.Common.{◌≡◌, ◌<◌, ℕ, length, get_or, ap, subst, length-set, arith}
use Rattle.std.proofs.lemmas.Option.{slice_get-get_or}
use Rattle.std.specs.Arc.{arc_value}
use Rattle.worker_bells.specs.Joining.{HaveRingingsAt}
use Rattle.worker_bells.proofs.Joining.{ringing_more, ringings_more, joined_again}
use Rattle.worker_bells.proofs.own_bells.seat_ringings.Goals as goal

pub ringers-preserved : goal.ringers-preserved
ringers-preserved g c =
    let bell = arc_value c.args.bell.now in
    let all = c.ringers.all in
    let old = get_or all c.ringers.worker c.index-all-worker.result in
    let new = c.seat_ringing.new.own_bells in
    let left = ap length c.in-Some.ensures.steps.0 in
    let within : c.ringers.worker < length all = omega (arith, left, c.ringers.invariant.count) in
    let has = slice_get-get_or all c.ringers.worker c.index-all-worker.result within in
    record {
      count = omega (arith, left, c.ringers.invariant.count, length-set all c.ringers.worker new);
      joined = λ joined. ringing_more bell c.args.slot c.ringers.worker all old new has c.in_ok-seat_ringing.ensures.listenings c.in_ok-seat_ringing.ensures.ringing (c.ringers.invariant.joined joined);
      have = ringings_more bell c.args.slot c.ringers.worker all old new has c.in_ok-seat_ringing.ensures.ringing c.ringers.invariant.have;
    }

pub returns : goal.returns
returns g c = λ joined.
    let At : ℕ → Type 0 = λ count. HaveRingingsAt (arc_value c.args.bell.now) c.args.slot count c.ringers.all in
    let ok = c.ringers.ringer-iterator.rest.ok in
    let all : c.ringers.worker ≡ length c.ringers.all = omega (arith, ok.0, c.in-None.ensures.steps.0, c.ringers.invariant.count) in
    joined_again (arc_value c.args.bell.now) c.args.slot c.ringers.all (c.ringers.invariant.joined joined) (subst At all c.ringers.invariant.have)
