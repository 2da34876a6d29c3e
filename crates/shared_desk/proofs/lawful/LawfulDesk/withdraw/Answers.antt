-- The call leads on, and the thread is told it.
use Rattle.std.proofs.Common.{subst}
use Rattle.session_desk.specs.Calls.{Withdraw}
use Rattle.shared_desk.specs.Histories.{AddsCall}
use Rattle.shared_desk.proofs.Histories.{lawful, noted}
use Rattle.shared_desk.proofs.lawful.LawfulDesk.withdraw.Goals as goal

pub invariant_of-self : goal.invariant_of-self
invariant_of-self g c =
    (noted g.P.HoldingPlace.has_out g.P.Place.slot_of g.P.Place.number_of c.self.inside.keeper c.note.new.keeper c.me.inside.caller c.note.new.caller c.self.inside.desk c.withdraw.new.self (Withdraw c.args.connection) c.self.invariant tt tt c.withdraw.ensures
    (c.note.ensures.added) c.note.ensures.told c.note.ensures.before).0

pub invariant_of-me : goal.invariant_of-me
invariant_of-me g c =
    (noted g.P.HoldingPlace.has_out g.P.Place.slot_of g.P.Place.number_of c.self.inside.keeper c.note.new.keeper c.me.inside.caller c.note.new.caller c.self.inside.desk c.withdraw.new.self (Withdraw c.args.connection) c.self.invariant tt tt c.withdraw.ensures
    (c.note.ensures.added) c.note.ensures.told c.note.ensures.before).1.legal

pub returns : goal.returns
returns g c = record {
  told =
      subst (λ k. AddsCall g.P.HoldingPlace.has_out g.P.Place.slot_of g.P.Place.number_of k (Withdraw c.args.connection) c.note.new.caller) c.me.view_is
      (noted g.P.HoldingPlace.has_out g.P.Place.slot_of g.P.Place.number_of c.self.inside.keeper c.note.new.keeper c.me.inside.caller c.note.new.caller c.self.inside.desk c.withdraw.new.self (Withdraw c.args.connection) c.self.invariant tt tt c.withdraw.ensures
      (c.note.ensures.added) c.note.ensures.told c.note.ensures.before).1;
}
