-- All was taken in and popped: the report adds up.
use Rattle.std.proofs.Common.{◌≡◌, ℕ, ◌+◌, ◌≤◌, List, [], ◌∷◌, length, get_or, All, refl, sym, ap, ◌∙◌, subst, arith, Bool, true, false, ltb}
use Rattle.std.specs.Prelude.{map, sum_by}
use Rattle.std.proofs.lemmas.List.Sorted.{Contains-permutation, sum_by-IsPermutation}
use Rattle.std.proofs.lemmas.List.Elements.{All-cons, All-nil, All-head, All-tail, Contains-get_or}
use Rattle.crossbeam_queue.specs.Passes.{view}
use Rattle.dispatch_core.specs.declared.event.Job.{Job}
use Rattle.dispatch_core.specs.JobRuns.{count_of}
use Rattle.group_jobs.specs.declared.fate.Fate.{Fate}
use Rattle.group_jobs.specs.declared.fate.Fate.TheVariants.{Acknowledged, Refused, Discarded}
use Rattle.group_jobs.specs.declared.ledger.Ledger.{Ledger}
use Rattle.group_jobs.specs.declared.report.Report.{Report}
use Rattle.group_jobs.specs.Settled.{settled_as, runs_of, least_spare, spare_of}
use Rattle.group_jobs.specs.Stamps.{Held, job_of}
use Rattle.group_jobs.specs.Dockets.{Kept}
use Rattle.group_jobs.specs.Balance.{Account, Balance, AddsUp}
use Rattle.group_jobs.specs.Endings.{AreOrderly}
use Rattle.group_jobs.specs.Reports.{times_accepted}
use Rattle.group_queue.specs.declared.posted.Posted.{Posted}
use Rattle.group_queue.specs.declared.place.Passes.{Passes}
use Rattle.group_queue.specs.declared.view.View.{View}
use Rattle.group_queue.specs.Views.{popping}
use Rattle.std.proofs.lemmas.Bool.{ltb-false, le-ltb}
use Rattle.group_queue.specs.Past.{Stands, through}
use Rattle.group_queue.proofs.MainLaws.{posts}
use Rattle.group_queue.specs.Returns.{bag_of, popping_back, StandsBack}
use Rattle.group_queue.specs.Ports.{GroupId, PortState}
use Rattle.group_queue.specs.Places.{PlaceState, IsPlaceOf, IsBalanced, account_of, jobs_in}
use Rattle.group_queue.specs.Ends.{HasAll, IsWhole, AreCounts, IsSent, Carries}
use Rattle.shared_ledger.specs.Giving.{times_in}
use Rattle.shared_ledger.specs.Givers.{HolderState}
use Rattle.std.proofs.lemmas.List.Sums.{sum_by-cons}
use Rattle.group_queue.specs.Known.{knowing, ended, IsRoomFor, IsJoined, HasGathered}
use Rattle.group_queue.proofs.Lengths.{as_many}
use Rattle.group_queue.proofs.Orderly.{order_whole, orderly}
use Rattle.group_queue.proofs.Partition.{sum_by-map}
use Rattle.group_queue.proofs.MainEnds.{bit}
use Rattle.group_queue.proofs.Checks.{All-there}
use Rattle.group_queue.proofs.Rooms.{main_weighs, back_weighs, room_returned, room_queued, firsts_below, adds_first, adds_given, adds_held}
use Rattle.group_queue.proofs.Carried.{first_as_sent}

All-accounts : (places : List PlaceState) → All IsBalanced places → All Balance (map account_of places)
All-accounts [] all = All-nil Balance
All-accounts (p ∷ places) all = All-cons Balance (account_of p) (map account_of places) (All-head IsBalanced p places all) (All-accounts places (All-tail IsBalanced p places all))

sum_by-both : (f g : PlaceState → ℕ) (places : List PlaceState) → sum_by (λ p. f p + g p) places ≡ sum_by f places + sum_by g places
sum_by-both f g [] = refl
sum_by-both f g (p ∷ places) = omega (arith, sum_by-both f g places, sum_by-cons (λ (q : PlaceState). f q + g q) p places, sum_by-cons f p places, sum_by-cons g p places)

at_most_one : (b : Bool) → bit b ≤ 1
at_most_one true = omega arith
at_most_one false = omega arith

not_below : (k n : ℕ) → bit (ltb k n) ≡ 0 → n ≤ k
not_below k n none = cases (ltb k n) refl none
  where
    cases : (b : Bool) → ltb k n ≡ b → bit b ≡ 0 → n ≤ k
    cases true is e = absurd (omega (arith, e))
    cases false is e = ltb-false k n is

above : (k n : ℕ) → n ≤ k → bit (ltb k n) ≡ 0
above k n most = ap (λ b. bit b) (le-ltb k n most)

module _ (group : GroupId) (ports : List PortState) (places : List PlaceState) (held : List Held) (passes : Passes) (dockets : List Kept)
    (before holder : HolderState) (j : IsJoined group ports places passes dockets) (gave : HasGathered group places before holder) (whole : IsWhole group ports places held)
    (ledger : Ledger) (ends : (fate : Fate) (job : Job) → count_of job (settled_as fate ledger) ≡ times_in holder.gave fate job) where
  all_places : HasAll group.shape.places (map (λ (p : PlaceState). p.number) j.order)
  all_places = order_whole group ports places held passes dockets j whole

  -- a sum over all places, in whatever order
  summed : (f : PlaceState → ℕ) → sum_by f j.order ≡ sum_by f places
  summed f = sum_by-IsPermutation f places j.order j.same

  -- the ledger has what all places gave
  in_ledger : (fate : Fate) (job : Job) → count_of job (settled_as fate ledger) ≡ sum_by (λ (p : PlaceState). times_in p.giver.gave fate job) j.order
  in_ledger fate job = omega (arith, ends fate job, gave.gave_all fate job, summed (λ (p : PlaceState). times_in p.giver.gave fate job))

  room_for : (room : ℕ) → IsRoomFor ports places ledger room → IsRoomFor ports j.order ledger room
  room_for room enough = omega (arith, enough, summed ended, summed (λ (p : PlaceState). length p.docket.out))

  known : (left items : List Posted) → Stands (popping (view passes.main) left) items → Stands (knowing group.shape left j.order ports) items
  known left items stands = subst (λ (v : View). Stands (popping v left) items) j.names stands

  pub room_back : (room : ℕ) → IsRoomFor ports places ledger room → (there : List Posted) → Stands (view passes.main) there → (left items : List Posted) → StandsBack (popping_back (bag_of passes.returns) left) items → length left ≤ room
  room_back room enough there stands left items back =
      room_returned group.shape j.order ports all_places whole.all_ports (bag_of passes.returns) j.parts j.popped j.pushed j.balanced ledger (as_many ledger j.order in_ledger) room (room_for room enough) there (subst (λ (v : View). Stands v there) j.names stands) left items back

  pub room_main : (room : ℕ) → IsRoomFor ports places ledger room → (returned : List Posted) → StandsBack (popping_back (bag_of passes.returns) returned) [] → (left items : List Posted) → Stands (popping (view passes.main) left) items → length left ≤ room
  room_main room enough returned back left items stands =
      room_queued group.shape j.order ports all_places whole.all_ports (bag_of passes.returns) j.parts j.popped j.pushed j.balanced ledger (as_many ledger j.order in_ledger) room (room_for room enough) returned back left items (known left items stands)

  pub room_settled : ((fate : Fate) → sum_by (λ (p : PlaceState). length (runs_of fate p.docket.settled)) places ≤ least_spare ledger) → (fate : Fate)
      → sum_by (λ (d : Kept). length (runs_of fate d.settled)) dockets ≤ spare_of fate ledger
  room_settled enough fate = omega (
    arith,
    enough fate,
    ap (sum_by (λ (d : Kept). length (runs_of fate d.settled))) j.kept,
    sum_by-map (λ (d : Kept). length (runs_of fate d.settled)) (λ (p : PlaceState). p.docket) j.order,
    summed (λ (p : PlaceState). length (runs_of fate p.docket.settled)),
    least fate,
  )
    where
      least : (which : Fate) → least_spare ledger ≤ spare_of which ledger
      least Acknowledged = omega arith
      least Refused = omega arith
      least Discarded = omega arith

  settled_in : (fate : Fate) (job : Job) → sum_by (λ (d : Kept). count_of job (settled_as fate d.settled)) dockets ≡ sum_by (λ (p : PlaceState). count_of job (settled_as fate p.docket.settled)) j.order
  settled_in fate job =
      ap (sum_by (λ (d : Kept). count_of job (settled_as fate d.settled))) j.kept ∙ sum_by-map (λ (d : Kept). count_of job (settled_as fate d.settled)) (λ (p : PlaceState). p.docket) j.order

  all_balanced : All Balance (map account_of places)
  all_balanced =
      All-accounts places (λ k d less. All-there IsBalanced j.order (get_or places k d) j.balanced (Contains-permutation places j.order (get_or places k d) j.same (Contains-get_or places k d less)))

  module _ (accepted : List ℕ) (counts : AreCounts group.shape.ports ports accepted) (queued : List Posted) (stands : Stands (popping (view passes.main) queued) [])
      (returned : List Posted) (back : StandsBack (popping_back (bag_of passes.returns) returned) []) where
    first : (job : Job) → sum_by (λ (a : Account). count_of job a.firsts) (map account_of places) + count_of job (jobs_in queued) ≡ times_accepted accepted job
    first job = omega (
      arith,
      adds_first group.shape j.order ports all_places whole.all_ports (bag_of passes.returns) j.parts j.popped j.pushed accepted counts queued (known queued [] stands) job,
      sum_by-map (λ (a : Account). count_of job a.firsts) account_of places,
      summed (λ (p : PlaceState). count_of job (jobs_in p.firsts)),
    )

    given : (job : Job) → sum_by (λ (a : Account). count_of job a.agains) (map account_of places) + count_of job (jobs_in returned) ≡ sum_by (λ (a : Account). count_of job a.given) (map account_of places)
    given job = omega (
      arith,
      adds_given group.shape j.order ports all_places whole.all_ports (bag_of passes.returns) j.parts j.popped j.pushed returned back job,
      sum_by-map (λ (a : Account). count_of job a.agains) account_of places,
      sum_by-map (λ (a : Account). count_of job a.given) account_of places,
      summed (λ (p : PlaceState). count_of job (jobs_in p.agains)),
      summed (λ (p : PlaceState). count_of job (jobs_in p.given)),
    )

    -- what a port accepted after a queued job is queued
    youngest : (items : List Posted) → Stands (view passes.main) items → (older younger : Job) → older.port ≡ younger.port → older.number ≤ younger.number → 1 ≤ count_of older (jobs_in queued)
        → count_of younger (jobs_in queued) ≡ times_accepted accepted younger
    youngest items there older younger port later some =
        let stands = subst (λ (v : View). Stands v items) j.names there in
        let popped = λ (p : ℕ). length (through p (posts stands.holds.past)) in
        let below = λ (job : Job). firsts_below group.shape j.order ports all_places whole.all_ports (bag_of passes.returns) j.parts j.popped j.pushed items stands job in
        let firsts = λ (job : Job). sum_by-map (λ (a : Account). count_of job a.firsts) account_of places ∙ sym (summed (λ (p : PlaceState). count_of job (jobs_in p.firsts))) in
        let none = not_below older.number (popped older.port) (omega (arith, below older, firsts older, first older, some, at_most_one (ltb older.number (get_or accepted older.port 0)))) in
        let same = ap (λ (p : ℕ). length (through p (posts stands.holds.past))) port in
        omega (arith, below younger, firsts younger, first younger, above younger.number (popped younger.port) (omega (arith, none, later, same)))

    pub orderly_end : (items : List Posted) → Stands (view passes.main) items → All (IsPlaceOf group) places → (report : Report) → report.accepted.items ≡ accepted → report.queued.items ≡ jobs_in queued
        → AreOrderly (map account_of places) report
    orderly_end items there ours report accepted_is queued_is = orderly group ports places held passes dockets j whole items there ours report
        (λ older younger port later some. omega (
          arith,
          youngest items there older younger port later (omega (arith, some, ap (count_of older) queued_is)),
          ap (count_of younger) queued_is,
          ap (λ (l : List ℕ). times_accepted l younger) accepted_is,
        ))

    as_sent : All (λ (p : PlaceState). All (IsSent ports) p.firsts) places
    as_sent k d less i e within =
        let here = known queued [] stands in
        let h = here.holds in
        let p = get_or places k d in
        first_as_sent h.past [] h.owner here.pass group.shape queued j.order ports h.no_port (h.fits here.pass (knowing group.shape queued j.order ports) here.there) all_places whole.all_ports h.numbered
        p (Contains-permutation places j.order p j.same (Contains-get_or places k d less)) (get_or p.firsts i e) (Contains-get_or p.firsts i e within)

    pub carries_all : (report : Report) → report.queued.items ≡ jobs_in queued → report.returned.items ≡ jobs_in returned → Carries ports places report
    carries_all report queued_is returned_is = record {
      as_sent = as_sent;
      queued = queued;
      queued_are = queued_is;
      firsts = (λ worth. omega (
        arith,
        main_weighs group.shape j.order ports all_places whole.all_ports (bag_of passes.returns) j.parts j.popped j.pushed queued [] (known queued [] stands) worth,
        summed (λ (p : PlaceState). sum_by worth p.firsts),
      ));
      returned = returned;
      returned_are = returned_is;
      agains = (λ worth. omega (
        arith,
        back_weighs group.shape j.order ports all_places whole.all_ports (bag_of passes.returns) j.parts j.popped j.pushed returned [] back worth,
        summed (λ (p : PlaceState). sum_by worth p.agains),
        summed (λ (p : PlaceState). sum_by worth p.given),
      ));
    }

    settled_sum : (fate : Fate) (job : Job)
        → sum_by (λ (a : Account). a.settled fate job) (map account_of places) ≡ sum_by (λ (d : Kept). count_of job (settled_as fate d.settled)) dockets + count_of job (settled_as fate ledger)
    settled_sum fate job = omega (
      arith,
      settled_in fate job,
      in_ledger fate job,
      sum_by-map (λ (a : Account). a.settled fate job) account_of places,
      sum_by-both (λ (p : PlaceState). count_of job (settled_as fate p.docket.settled)) (λ (p : PlaceState). times_in p.giver.gave fate job) places,
      summed (λ (p : PlaceState). count_of job (settled_as fate p.docket.settled)),
      summed (λ (p : PlaceState). times_in p.giver.gave fate job),
    )

    pub adds_up : (report : Report) → report.accepted.items ≡ accepted → report.held.items ≡ map (λ (e : Held). job_of e.stamp) held → report.queued.items ≡ jobs_in queued → report.returned.items ≡ jobs_in returned
        → ((fate : Fate) (job : Job) → count_of job (settled_as fate report.settled) ≡ count_of job (settled_as fate ledger) + sum_by (λ (d : Kept). count_of job (settled_as fate d.settled)) dockets)
        → AddsUp (map account_of places) report
    adds_up report accepted_is held_is queued_is returned_is settled_is = record {
      first = (λ job. omega (arith, first job, ap (count_of job) queued_is, ap (λ (l : List ℕ). times_accepted l job) accepted_is));
      given = (λ job. omega (arith, given job, ap (count_of job) returned_is));
      held = (λ job. ap (count_of job) held_is ∙ (adds_held group places held whole.envelopes job ∙ sym (sum_by-map (λ (a : Account). count_of job a.out) account_of places)));
      settled = (λ fate job. omega (arith, settled_is fate job, settled_sum fate job));
      balanced = all_balanced;
    }
