-- One bell after the other.
use Rattle.std.proofs.Common.{◌≡◌, ℕ, length, subst, ap, ◌∙◌, arith}
use Rattle.worker_bells.specs.Ringing.{WorkerBellsState}
use Rattle.worker_bells.proofs.Ringing.{IsRungBelow, all_rung, one_more}
use Rattle.worker_bells.proofs.own_bells.WorkerBells.ring.Goals as goal

pub ringings-preserved : goal.ringings-preserved
ringings-preserved g c = record {
  rung = one_more c.ringings.ringing c.args.slot c.args.wanted c.ringings.left c.ring_by-left.result c.args.self.now.ringings c.ringings.self.ringings c.ring_by-left.new.self.ringings
      c.ringings.invariant.rung c.ring_by-left.ensures.rung;
  listenings = c.ring_by-left.ensures.listenings ∙ c.ringings.invariant.listenings;
}

pub returns-clause-rung : goal.returns-clause-rung
returns-clause-rung g c =
    let ringings = ap (λ (o : WorkerBellsState). length o.ringings) c.self.view_is in
    let all : c.ringings.ringing ≡ length c.args.self.now.ringings = omega (arith, ringings) in
    let Below : ℕ → Type 0 = λ bound. IsRungBelow bound c.args.slot c.args.wanted c.ringings.left c.args.self.now.ringings c.ringings.self.ringings in
    all_rung c.args.slot c.args.wanted c.ringings.left c.args.self.now.ringings c.ringings.self.ringings (subst Below all c.ringings.invariant.rung)
