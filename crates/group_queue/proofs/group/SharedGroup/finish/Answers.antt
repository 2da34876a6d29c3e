-- The places are as they were while the group's ledger was taken up.
use Rattle.std.proofs.Common.{List, All, sym, subst}
use Rattle.group_jobs.specs.Stamps.{Held}
use Rattle.group_queue.specs.Ports.{PortState}
use Rattle.group_queue.specs.Places.{PlaceState, IsPlaceOf}
use Rattle.group_queue.specs.Ends.{IsWhole, Reports}
use Rattle.group_queue.specs.Known.{AreReady}
use Rattle.group_queue.proofs.group.SharedGroup.finish.Goals as goal

pub end-requires-clause-places : goal.end-requires-clause-places
end-requires-clause-places g c = subst (All (IsPlaceOf c.args.self)) (sym c.in-Ok.ensures.same) c.requires.places

pub end-requires-clause-whole : goal.end-requires-clause-whole
end-requires-clause-whole g c =
    subst (λ (q : List PortState × List PlaceState × List Held). IsWhole c.args.self q.0 q.1 q.2) (λ i. (c.deref.ensures.value i, sym c.in-Ok.ensures.same i, c.deref-2.ensures.value i)) c.in-Ok.ensures.answer.0

pub end-requires-clause-ready : goal.end-requires-clause-ready
end-requires-clause-ready g c =
    subst (λ (q : List PortState × List PlaceState × List Held). AreReady c.args.self.shape.ports q.0 q.1 q.2 c.in-Ok.lists c.in-Ok.holder) (λ i. (c.deref.ensures.value i, sym c.in-Ok.ensures.same i, c.deref-2.ensures.value i)) c.in-Ok.ensures.answer.1

pub returns-in-Ok : goal.returns-in-Ok
returns-in-Ok g c = subst (λ l. Reports c.args.self c.args.ports.items l c.args.held.items c.end.result) c.in-Ok.ensures.same c.end.ensures
