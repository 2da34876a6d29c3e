use Rattle.std.proofs.Common.{take_all, sym, subst, arith}
use Rattle.dispatch_core.specs.History.{IsRun, Fails}
use Rattle.dispatch_core.proofs.Histories.{no_events, run_more, stops}
use Rattle.dispatch_core.proofs.history.replay.Goals as goal

pub loop-at-init : goal.loop-at-init
loop-at-init c = no_events c.args.events.now c.in_ok-state.state c.in_ok-state.ensures

pub loop-at-preserved : goal.loop-at-preserved
loop-at-preserved c = run_more c.args.events.now c.loop-at.at _ c.loop-at.state c.step.new.self (omega arith) c.loop-at.invariant c.in_default.ensures.ok

pub returns-clause-run : goal.returns-clause-run
returns-clause-run c = subst (λ events. IsRun events c.loop-at.state) (take_all c.loop-at.at c.args.events.now (omega arith)) c.loop-at.invariant

pub returns-in-Err-clause-stuck : goal.returns-in-Err-clause-stuck
returns-in-Err-clause-stuck c = subst (Fails c.args.events.now) (sym c.at.ensures) (stops c.args.events.now c.loop-at.at _ c.loop-at.state c.in-Err.refusal (omega arith) c.loop-at.invariant c.in-Err.ensures.refused)
