-- The call leads on, and the thread is told it.
use Rattle.std.proofs.Common.{subst}
use Rattle.session_desk.specs.Calls.{Sweep}
use Rattle.session_desk.specs.Places.{cell_at}
use Rattle.shared_desk.proofs.Desks.{comes_out}
use Rattle.shared_desk.specs.Histories.{AddsCall}
use Rattle.shared_desk.proofs.Histories.{lawful, noted}
use Rattle.shared_desk.proofs.lawful.LawfulDesk.sweep.Goals as goal

pub invariant_of-self : goal.invariant_of-self
invariant_of-self g c =
    (noted g.P.HoldingPlace.has_out g.P.Place.slot_of g.P.Place.number_of c.self.inside.keeper c.note.new.keeper c.me.inside.caller c.note.new.caller c.self.inside.desk c.sweep-session.new.self (Sweep c.args.now c.sweep-session.result) c.self.invariant tt tt c.sweep-session.ensures
    (c.note.ensures.added) c.note.ensures.told c.note.ensures.before).0

pub invariant_of-me : goal.invariant_of-me
invariant_of-me g c =
    (noted g.P.HoldingPlace.has_out g.P.Place.slot_of g.P.Place.number_of c.self.inside.keeper c.note.new.keeper c.me.inside.caller c.note.new.caller c.self.inside.desk c.sweep-session.new.self (Sweep c.args.now c.sweep-session.result) c.self.invariant tt tt c.sweep-session.ensures
    (c.note.ensures.added) c.note.ensures.told c.note.ensures.before).1.legal

pub returns-clause-told : goal.returns-clause-told
returns-clause-told g c =
    subst (λ k. AddsCall g.P.HoldingPlace.has_out g.P.Place.slot_of g.P.Place.number_of k (Sweep c.args.now c.sweep-session.result) c.note.new.caller) c.me.view_is
    (noted g.P.HoldingPlace.has_out g.P.Place.slot_of g.P.Place.number_of c.self.inside.keeper c.note.new.keeper c.me.inside.caller c.note.new.caller c.self.inside.desk c.sweep-session.new.self (Sweep c.args.now c.sweep-session.result) c.self.invariant tt tt c.sweep-session.ensures
    (c.note.ensures.added) c.note.ensures.told c.note.ensures.before).1

pub returns-clause-out : goal.returns-clause-out
returns-clause-out g c = comes_out g.P.HoldingPlace.has_out (λ place. cell_at (g.P.Place.slot_of place) (g.P.Place.number_of place)) c.self.inside.desk c.sweep-session.new.self (Sweep c.args.now c.sweep-session.result) (lawful g.P.HoldingPlace.has_out g.P.Place.slot_of g.P.Place.number_of _ _ c.self.invariant) tt c.sweep-session.ensures
