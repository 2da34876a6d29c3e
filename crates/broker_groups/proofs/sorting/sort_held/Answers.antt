-- One envelope more was sorted.
use Rattle.std.proofs.Common.{List, min, ap, ◌∙◌, subst, arith}
use Rattle.std.specs.Vec.Iter.{into_iter_items}
use Rattle.std.proofs.lemmas.Option.{MatchOption-at_none}
use Rattle.group_jobs.specs.declared.stamp.Stamp.{Stamp}
use Rattle.group_jobs.specs.Stamps.{Held}
use Rattle.group_queue.proofs.Endings.{nothing_left}
use Rattle.broker_groups.specs.Sorting.{AreSorted}
use Rattle.broker_groups.specs.Endings.{held_slot, IsAny}
use Rattle.broker_groups.proofs.Sorted.{put_more}
use Rattle.broker_groups.proofs.sorting.sort_held.Goals as goal

pub held-preserved : goal.held-preserved
held-preserved c =
    put_more IsAny held_slot 9 c.args.held.items (into_iter_items c.next.new.self) (into_iter_items c.held.rest) c.held.rows.items c.put.new.rows.items c.in-Some.envelope c.from.result
    (c.from.ensures ∙ c.min-slot.ensures ∙ ap (λ (s : Stamp). min s.group 8) c.stamp.ensures) c.in-Some.ensures.items tt c.held.invariant c.put.ensures

pub returns : goal.returns
returns c =
    let ok = c.held.rest.rest.ok in
    let end = MatchOption-at_none _ _ c.in_default.is c.next.ensures.cases in
    let none = nothing_left (into_iter_items c.held.rest) (omega (arith, ok.0, end.0)) in
    subst (λ (rest : List Held). AreSorted IsAny held_slot 9 c.args.held.items rest c.held.rows.items) none c.held.invariant
