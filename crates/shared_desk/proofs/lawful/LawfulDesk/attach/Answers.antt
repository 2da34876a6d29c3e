-- The call leads on, and the thread is told it.
use Rattle.std.proofs.Common.{sym, subst}
use Rattle.session_desk.specs.Calls.{Attach, IsAllowed}
use Rattle.session_desk.specs.Places.{cell_at}
use Rattle.session_desk.specs.Attaching.{asked, Attaches}
use Rattle.shared_desk.proofs.Desks.{comes_out, ready}
use Rattle.shared_desk.specs.Histories.{AddsCall}
use Rattle.shared_desk.proofs.Histories.{lawful, noted}
use Rattle.shared_desk.proofs.lawful.LawfulDesk.attach.Goals as goal

pub invariant_of-self : goal.invariant_of-self
invariant_of-self g c =
    (noted g.P.HoldingPlace.has_out g.P.Place.slot_of g.P.Place.number_of c.self.inside.keeper c.note.new.keeper c.me.inside.caller c.note.new.caller c.self.inside.desk c.attach-answer.new.self (Attach c.args.newcomers g.request c.attach-answer.result) c.self.invariant (subst (λ r. IsAllowed (Attach c.args.newcomers r c.attach-answer.result)) (sym c.requires.1.1.0) (c.requires.1.1.1.0, c.requires.1.1.1.1)) tt (subst (λ r. Attaches c.args.newcomers c.self.inside.desk r c.attach-answer.result c.attach-answer.new.self) (sym c.requires.1.1.0) c.attach-answer.ensures)
    (c.note.ensures.added) c.note.ensures.told c.note.ensures.before).0

pub invariant_of-me : goal.invariant_of-me
invariant_of-me g c =
    (noted g.P.HoldingPlace.has_out g.P.Place.slot_of g.P.Place.number_of c.self.inside.keeper c.note.new.keeper c.me.inside.caller c.note.new.caller c.self.inside.desk c.attach-answer.new.self (Attach c.args.newcomers g.request c.attach-answer.result) c.self.invariant (subst (λ r. IsAllowed (Attach c.args.newcomers r c.attach-answer.result)) (sym c.requires.1.1.0) (c.requires.1.1.1.0, c.requires.1.1.1.1)) tt (subst (λ r. Attaches c.args.newcomers c.self.inside.desk r c.attach-answer.result c.attach-answer.new.self) (sym c.requires.1.1.0) c.attach-answer.ensures)
    (c.note.ensures.added) c.note.ensures.told c.note.ensures.before).1.legal

pub returns-clause-told : goal.returns-clause-told
returns-clause-told g c =
    subst (λ k. AddsCall g.P.HoldingPlace.has_out g.P.Place.slot_of g.P.Place.number_of k (Attach c.args.newcomers g.request c.attach-answer.result) c.note.new.caller) c.me.view_is
    (noted g.P.HoldingPlace.has_out g.P.Place.slot_of g.P.Place.number_of c.self.inside.keeper c.note.new.keeper c.me.inside.caller c.note.new.caller c.self.inside.desk c.attach-answer.new.self (Attach c.args.newcomers g.request c.attach-answer.result) c.self.invariant (subst (λ r. IsAllowed (Attach c.args.newcomers r c.attach-answer.result)) (sym c.requires.1.1.0) (c.requires.1.1.1.0, c.requires.1.1.1.1)) tt (subst (λ r. Attaches c.args.newcomers c.self.inside.desk r c.attach-answer.result c.attach-answer.new.self) (sym c.requires.1.1.0) c.attach-answer.ensures)
    (c.note.ensures.added) c.note.ensures.told c.note.ensures.before).1

pub returns-clause-ready : goal.returns-clause-ready
returns-clause-ready g c =
    let request = asked c.args.connection c.args.client.now c.args.clean c.args.now in
    let law = lawful g.P.HoldingPlace.has_out g.P.Place.slot_of g.P.Place.number_of _ _ c.self.invariant in
    ready g.P.HoldingPlace.has_out c.args.newcomers c.args.client.now c.self.inside.desk c.attach-answer.new.self request c.attach-answer.result law.law c.attach-answer.ensures (comes_out g.P.HoldingPlace.has_out (λ place. cell_at (g.P.Place.slot_of place) (g.P.Place.number_of place)) c.self.inside.desk c.attach-answer.new.self (Attach c.args.newcomers request c.attach-answer.result) law tt c.attach-answer.ensures)
