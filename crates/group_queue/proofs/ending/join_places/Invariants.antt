-- The places so far were taken in.
use Rattle.std.proofs.Common.{◌≡◌, ◌≤◌, ◌+◌, ◌++◌, All, ℕ, length, vec_len, vec_capacity}
use Rattle.std.specs.Prelude.{map, sum_by}
use Rattle.std.specs.Vec.Iter.{into_iter_items}
use Rattle.crossbeam_queue.specs.Passes.{view, IsPassOf}
use Rattle.crossbeam_queue.specs.SegTies.{IsSegPassOf}
use Rattle.dispatch_core.specs.declared.event.Job.{Job}
use Rattle.group_jobs.specs.declared.fate.Fate.{Fate}
use Rattle.shared_ledger.specs.Giving.{times_in}
use Rattle.group_queue.specs.declared.posted.Posted.{Posted}
use Rattle.group_queue.specs.Places.{PlaceState, IsBalanced}
use Rattle.group_queue.specs.Views.{with_entries}
use Rattle.group_queue.specs.Returns.{bag_of}
use Rattle.group_queue.specs.Known.{place_entry}
use Rattle.group_queue.proofs.ending.join_places.Given as goal

abbrev pub invariant-loop-place : goal.invariant-loop-place
invariant-loop-place g l = record {
  main : IsPassOf l.main l.passes.main;
  returns : IsSegPassOf l.returns l.passes.returns;
  places : All (λ (place : PlaceState). place.hands ≡ record { main = l.main.table.shared.table_id; returns = l.returns }) (into_iter_items l.place-iterator);
  names : with_entries (view l.passes.main) (map place_entry (into_iter_items l.place-iterator)) ≡ with_entries (view l.initial.passes.main) (map place_entry l.fn.places.items);
  parts : (bag_of l.passes.returns).parts + length (into_iter_items l.place-iterator) ≡ (bag_of l.initial.passes.returns).parts + length l.fn.places.items;
  some : 1 ≤ (bag_of l.passes.returns).parts;
  popped : (worth : Posted → ℕ) → sum_by worth (bag_of l.passes.returns).popped + sum_by (λ (p : PlaceState). sum_by worth p.agains) (into_iter_items l.place-iterator)
      ≡ sum_by worth (bag_of l.initial.passes.returns).popped + sum_by (λ (p : PlaceState). sum_by worth p.agains) l.fn.places.items;
  pushed : (worth : Posted → ℕ) → sum_by worth (bag_of l.passes.returns).pushed + sum_by (λ (p : PlaceState). sum_by worth p.given) (into_iter_items l.place-iterator)
      ≡ sum_by worth (bag_of l.initial.passes.returns).pushed + sum_by (λ (p : PlaceState). sum_by worth p.given) l.fn.places.items;
  dockets : l.dockets.items ++ map (λ (p : PlaceState). p.docket) (into_iter_items l.place-iterator) ≡ l.initial.dockets.items ++ map (λ (p : PlaceState). p.docket) l.fn.places.items;
  balanced : All IsBalanced (into_iter_items l.place-iterator) → All IsBalanced l.fn.places.items;
  holder : l.holder.ledger ≡ l.initial.holder.ledger;
  givers : All (λ (place : PlaceState). (place.giver.ledger ≡ l.ledger) × (1 ≤ place.giver.parts)) (into_iter_items l.place-iterator);
  shares : l.holder.parts + sum_by (λ (p : PlaceState). p.giver.parts) (into_iter_items l.place-iterator) ≡ l.initial.holder.parts + sum_by (λ (p : PlaceState). p.giver.parts) l.fn.places.items;
  gave : (fate : Fate) (job : Job) → times_in l.holder.gave fate job + sum_by (λ (p : PlaceState). times_in p.giver.gave fate job) (into_iter_items l.place-iterator)
      ≡ times_in l.initial.holder.gave fate job + sum_by (λ (p : PlaceState). times_in p.giver.gave fate job) l.fn.places.items;
  settled : l.holder.settled ≡ l.initial.holder.settled;
  room : vec_len l.dockets + length (into_iter_items l.place-iterator) ≤ vec_capacity l.dockets;
}
