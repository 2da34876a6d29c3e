-- The caller knows all calls.
use Rattle.std.proofs.Common.{◌≡◌, ◌∙◌, ap, subst, sym, length}
use Rattle.std.proofs.lemmas.List.{append-nil}
use mathlib.Core.List.{IsPrefix}
use Rattle.group_jobs.specs.Stamps.{Held}
use Rattle.session_desk.specs.Calls.{Call}
use Rattle.call_history.specs.Callers.{CallerState, all_parts}
use Rattle.call_history.specs.Numbers.{IsEachOnce}
use Rattle.shared_desk.proofs.Histories.{lawful, in_full, no_more}
use Rattle.shared_desk.proofs.lawful.LawfulDesk.finish.Goals as goal

pub invariant_of-me : goal.invariant_of-me
invariant_of-me g c = (c.self.inside.desk, in_full g.P.HoldingPlace.has_out g.P.Place.slot_of g.P.Place.number_of c.self.inside.keeper c.me.inside.caller c.note.new.caller c.self.inside.desk c.self.invariant c.note.ensures.told)

pub returns : goal.returns
returns g c =
    let Caller : Type 0 = CallerState (Call Held g.row.P.Denot) in
    let all = ap (λ (k : Caller). k.calls) c.note.ensures.told ∙ append-nil c.self.inside.keeper in
    record {
      lawful = lawful g.P.HoldingPlace.has_out g.P.Place.slot_of g.P.Place.number_of c.self.inside.keeper c.self.inside.desk c.self.invariant;
      before = subst (λ (k : Caller). IsPrefix k.calls c.note.new.caller.calls) c.me.view_is (subst (IsPrefix c.me.inside.caller.calls) (sym all) c.note.ensures.before);
      same = subst (λ (k : Caller). c.note.new.caller ≡ record k { calls = c.note.new.caller.calls }) c.me.view_is (no_more g.P.HoldingPlace.has_out g.P.Place.slot_of g.P.Place.number_of c.self.inside.keeper c.me.inside.caller c.note.new.caller c.note.ensures.told);
      all = in_full g.P.HoldingPlace.has_out g.P.Place.slot_of g.P.Place.number_of c.self.inside.keeper c.me.inside.caller c.note.new.caller c.self.inside.desk c.self.invariant c.note.ensures.told;
      once = subst (λ (k : Caller). k.parts ≡ all_parts → IsEachOnce k.own (length c.note.new.caller.calls)) c.me.view_is
          (λ whole. subst (λ l. IsEachOnce c.me.inside.caller.own (length l)) (sym all) (c.note.ensures.once whole));
    }
