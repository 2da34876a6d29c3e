-- First hand-outs keep the order of each port, and each place has a number of its own.
use Rattle.std.proofs.Common.{◌≡◌, ℕ, zero, suc, ◌<◌, ◌≤◌, List, [], ◌∷◌, get_or, Contains, All, eqb, refl, sym, subst, arith}
use Rattle.std.specs.Prelude.{map, sum_by}
use Rattle.std.proofs.lemmas.List.Sorted.{Contains-permutation, sum_by-IsPermutation}
use Rattle.std.proofs.lemmas.List.Elements.{All-cons, All-nil, All-head, All-tail, Contains-get_or}
use Rattle.crossbeam_queue.specs.Passes.{view}
use Rattle.dispatch_core.specs.declared.event.Job.{Job}
use Rattle.dispatch_core.specs.JobRuns.{count_of}
use Rattle.dispatch_core.specs.Lawful.{RisesByPort}
use Rattle.group_jobs.specs.declared.report.Report.{Report}
use Rattle.group_jobs.specs.Reports.{times_accepted}
use Rattle.group_jobs.specs.Stamps.{Held}
use Rattle.group_jobs.specs.Dockets.{Kept}
use Rattle.group_jobs.specs.Balance.{Account}
use Rattle.group_jobs.specs.Endings.{AreOrderly}
use Rattle.group_queue.specs.declared.posted.Posted.{Posted}
use Rattle.group_queue.specs.declared.place.Passes.{Passes}
use Rattle.group_queue.specs.declared.view.View.{View}
use Rattle.group_queue.specs.declared.view.Name.TheVariants.{Place}
use Rattle.group_queue.specs.Past.{Stands}
use Rattle.group_queue.specs.Ports.{GroupId, PortState}
use Rattle.group_queue.specs.Places.{PlaceState, IsPlaceOf, account_of, jobs_in}
use Rattle.group_queue.specs.Ends.{HasAll, IsWhole, place_numbers}
use Rattle.group_queue.specs.Known.{knowing, IsJoined}
use Rattle.group_queue.proofs.Partition.{sum_by-map}
use Rattle.group_queue.proofs.MainLaws.{posts, popped_rise, front_rise}
use Rattle.group_queue.proofs.MainEnds.{bit, numbers_apart, place_popped}
use Rattle.group_queue.proofs.Checks.{present}

-- what has this number
there_with : (places : List PlaceState) (n : ℕ) → Contains (place_numbers places) n → (p : PlaceState) × Contains places p × (p.number ≡ n)
there_with [] n (k, less, is) = absurd (omega arith)
there_with (p ∷ places) n (zero, less, is) = (p, (0, omega arith, refl), is)
there_with (p ∷ places) n (suc k, less, is) =
    let rest = there_with places n (k, omega arith, is) in
    let within = rest.1.1 in
    (rest.0, (suc rest.1.0, omega arith, rest.1.2), rest.2)

All-map : (P : Account → Type 0) (places : List PlaceState) → All (λ p. P (account_of p)) places → All P (map account_of places)
All-map P [] all = All-nil P
All-map P (p ∷ places) all = All-cons P (account_of p) (map account_of places) (All-head (λ p. P (account_of p)) p places all) (All-map P places (All-tail (λ p. P (account_of p)) p places all))

module _ (group : GroupId) (ports : List PortState) (places : List PlaceState) (held : List Held) (passes : Passes) (dockets : List Kept)
    (j : IsJoined group ports places passes dockets) (whole : IsWhole group ports places held) where
  -- in whatever order, all places are there
  pub order_whole : HasAll group.shape.places (map (λ (p : PlaceState). p.number) j.order)
  order_whole number less =
      let there = there_with places number (whole.all_places number less) in
      present (λ (p : PlaceState). p.number) j.order there.0 number (Contains-permutation places j.order there.0 j.same there.1) there.2

  module _ (items : List Posted) (stands : Stands (view passes.main) items) where
    known : Stands (knowing group.shape [] j.order ports) items
    known = subst (λ (v : View). Stands v items) j.names stands

    apart : (number : ℕ) → sum_by (λ (a : Account). bit (eqb a.place number)) (map account_of places) ≤ 1
    apart number =
        let h = known.holds in
        let fits = h.fits known.pass (knowing group.shape [] j.order ports) known.there in
        omega (
          arith,
          numbers_apart h.past items h.owner known.pass group.shape [] j.order ports h.no_port fits order_whole whole.all_ports number,
          sum_by-IsPermutation (λ (p : PlaceState). bit (eqb p.number number)) places j.order j.same,
          sum_by-map (λ (a : Account). bit (eqb a.place number)) account_of places,
        )

    rising : All (λ (p : PlaceState). RisesByPort (jobs_in p.firsts)) places
    rising k d less =
        let h = known.holds in
        let fits = h.fits known.pass (knowing group.shape [] j.order ports) known.there in
        let p = get_or places k d in
        let here = Contains-permutation places j.order p j.same (Contains-get_or places k d less) in
        let mine = place_popped h.past items h.owner known.pass group.shape [] j.order ports h.no_port fits order_whole whole.all_ports p here in
        subst (λ l. RisesByPort (jobs_in l)) (sym mine) (popped_rise (Place p.number) h.past (front_rise (posts h.past) items h.numbered))

    pub orderly : All (IsPlaceOf group) places → (report : Report)
        → ((older younger : Job) → older.port ≡ younger.port → older.number ≤ younger.number → 1 ≤ count_of older report.queued.items → count_of younger report.queued.items ≡ times_accepted report.accepted.items younger)
        → AreOrderly (map account_of places) report
    orderly ours report youngest = record {
      numbered = All-map (λ (a : Account). a.place < 32) places (λ k d less. let is = (ours k d less).number in let few = j.few in omega arith);
      apart = apart;
      rising = All-map (λ (a : Account). RisesByPort a.firsts) places rising;
      youngest = youngest;
    }
