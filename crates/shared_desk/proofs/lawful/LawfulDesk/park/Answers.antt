-- The call leads on, and the thread is told it.
use Rattle.std.proofs.Common.{◌∷◌, ◌++◌, [], ap, ◌∙◌, subst}
use Rattle.session_desk.specs.Calls.{Park}
use Rattle.call_history.specs.Callers.{calling}
use Rattle.shared_desk.specs.Histories.{AddsCall}
use Rattle.shared_desk.proofs.Histories.{lawful, noted}
use Rattle.shared_desk.proofs.lawful.LawfulDesk.park.Goals as goal

pub invariant_of-self : goal.invariant_of-self
invariant_of-self g c =
    (noted g.P.HoldingPlace.has_out g.P.Place.slot_of g.P.Place.number_of c.self.inside.keeper c.note.new.keeper c.me.inside.caller c.note.new.caller c.self.inside.desk c.park-back.new.self (Park c.args.session c.args.now c.park-back.result) c.self.invariant c.requires.1.1.1.going c.requires.1.1.1.out c.park-back.ensures
    (c.note.ensures.added ∙ ap (λ b. c.self.inside.keeper ++ Park b c.args.now c.park-back.result ∷ []) c.requires.1.1.0) (c.note.ensures.told ∙ ap (λ b. calling c.me.inside.caller c.self.inside.keeper (Park b c.args.now c.park-back.result ∷ [])) c.requires.1.1.0) c.note.ensures.before).0

pub invariant_of-me : goal.invariant_of-me
invariant_of-me g c =
    (noted g.P.HoldingPlace.has_out g.P.Place.slot_of g.P.Place.number_of c.self.inside.keeper c.note.new.keeper c.me.inside.caller c.note.new.caller c.self.inside.desk c.park-back.new.self (Park c.args.session c.args.now c.park-back.result) c.self.invariant c.requires.1.1.1.going c.requires.1.1.1.out c.park-back.ensures
    (c.note.ensures.added ∙ ap (λ b. c.self.inside.keeper ++ Park b c.args.now c.park-back.result ∷ []) c.requires.1.1.0) (c.note.ensures.told ∙ ap (λ b. calling c.me.inside.caller c.self.inside.keeper (Park b c.args.now c.park-back.result ∷ [])) c.requires.1.1.0) c.note.ensures.before).1.legal

pub returns-clause-told : goal.returns-clause-told
returns-clause-told g c =
    subst (λ k. AddsCall g.P.HoldingPlace.has_out g.P.Place.slot_of g.P.Place.number_of k (Park c.args.session c.args.now c.park-back.result) c.note.new.caller) c.me.view_is
    (noted g.P.HoldingPlace.has_out g.P.Place.slot_of g.P.Place.number_of c.self.inside.keeper c.note.new.keeper c.me.inside.caller c.note.new.caller c.self.inside.desk c.park-back.new.self (Park c.args.session c.args.now c.park-back.result) c.self.invariant c.requires.1.1.1.going c.requires.1.1.1.out c.park-back.ensures
    (c.note.ensures.added ∙ ap (λ b. c.self.inside.keeper ++ Park b c.args.now c.park-back.result ∷ []) c.requires.1.1.0) (c.note.ensures.told ∙ ap (λ b. calling c.me.inside.caller c.self.inside.keeper (Park b c.args.now c.park-back.result ∷ [])) c.requires.1.1.0) c.note.ensures.before).1
