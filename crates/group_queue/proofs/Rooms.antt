-- What was accepted and is neither settled nor out is what is left in both queues; and how all of it adds up.
use Rattle.std.proofs.Common.{◌≡◌, ℕ, suc, ◌+◌, ◌≤◌, Bool, true, false, cond, eqb, eq-eqb, ltb, List, [], ◌∷◌, ◌++◌, append_assoc, length, get_or, All, refl, sym, ap, ◌∙◌, arith}
use Rattle.std.specs.Prelude.{map, sum_by, ◌&&◌}
use Rattle.std.proofs.lemmas.List.Sums.{sum_by-cons, sum_by-append, get_or-le-sum_by}
use Rattle.dispatch_core.specs.declared.event.Job.{Job}
use Rattle.dispatch_core.specs.JobRuns.{count_of}
use Rattle.group_jobs.specs.declared.stamp.Stamp.{Stamp}
use Rattle.group_jobs.specs.Stamps.{Held, job_of, stamp_of}
use Rattle.group_jobs.specs.Reports.{times_accepted}
use Rattle.group_queue.specs.declared.posted.Posted.{Posted}
use Rattle.group_queue.specs.declared.view.Bag.{Bag}
use Rattle.group_queue.specs.Past.{Stands, all_of, through, AreNumbered}
use Rattle.group_queue.specs.Returns.{popping_back, StandsBack}
use Rattle.group_queue.specs.Ports.{GroupId, PortState, Shape}
use Rattle.group_queue.specs.Places.{PlaceState, IsBalanced, jobs_in}
use Rattle.group_queue.specs.Ends.{HasAll, AreCounts, times_held, times_out}
use Rattle.group_queue.specs.Known.{knowing, IsRoomFor}
use Rattle.group_queue.proofs.MainLaws.{posts}
use Rattle.group_queue.proofs.Partition.{sum_by-map, sum_by-same}
use Rattle.group_queue.proofs.MainEnds.{worth, bit, count_in, all_popped, all_sent, all_counted, count_all}
use Rattle.group_queue.proofs.ReturnsEnds.{all_given, all_parts}
use Rattle.group_jobs.specs.declared.ledger.Ledger.{Ledger}
use Rattle.shared_ledger.specs.Giving.{jobs_in as jobs_in_ledger}
use Rattle.group_queue.proofs.Lengths.{balanced_lengths, gathered}

one : Posted → ℕ
one posted = 1

ones : (list : List Posted) → sum_by one list ≡ length list
unfolding one
ones [] = refl
ones (x ∷ xs) = omega (arith, sum_by-cons one x xs, ones xs)

-- who has all names of the main queue and all parts of the returns queue
module _ (shape : Shape) (places : List PlaceState) (ports : List PortState)
    (all_places : HasAll shape.places (map (λ (p : PlaceState). p.number) places))
    (all_ports : HasAll shape.ports (map (λ (p : PortState). p.number) ports))
    (v : Bag) (parts : 64 ≤ v.parts)
    (popped : (w : Posted → ℕ) → sum_by w v.popped ≡ sum_by (λ (p : PlaceState). sum_by w p.agains) places)
    (pushed : (w : Posted → ℕ) → sum_by w v.pushed ≡ sum_by (λ (p : PlaceState). sum_by w p.given) places) where
  pub main_weighs : (left items : List Posted) → Stands (knowing shape left places ports) items → (w : Posted → ℕ)
      → sum_by (λ (p : PortState). sum_by w p.sent) ports ≡ sum_by (λ (p : PlaceState). sum_by w p.firsts) places + sum_by w left + sum_by w items
  main_weighs left items stands w =
      let h = stands.holds in
      let fits = h.fits stands.pass (knowing shape left places ports) stands.there in
      omega (
        arith,
        all_sent h.past items h.owner stands.pass shape left places ports h.no_port fits all_places all_ports w,
        all_popped h.past items h.owner stands.pass shape left places ports h.no_port fits all_places all_ports w,
        sum_by-append w (posts h.past) items,
      )

  pub back_weighs : (left items : List Posted) → StandsBack (popping_back v left) items → (w : Posted → ℕ)
      → sum_by w items + sum_by (λ (p : PlaceState). sum_by w p.agains) places + sum_by w left ≡ sum_by (λ (p : PlaceState). sum_by w p.given) places
  back_weighs left items stands w =
      omega (
        arith,
        all_given items stands.views stands.holds stands.pass (popping_back v left) stands.there (all_parts items stands.views stands.holds stands.pass (popping_back v left) stands.there parts) w,
        sum_by-append w v.popped left,
        popped w,
        pushed w,
      )

  main_length : (left items : List Posted) → Stands (knowing shape left places ports) items → sum_by (λ (p : PortState). length p.sent) ports ≡ sum_by (λ (p : PlaceState). length p.firsts) places + length left + length items
  main_length left items stands = omega (
    arith,
    main_weighs left items stands one,
    sum_by-same (λ (p : PortState). sum_by one p.sent) (λ (p : PortState). length p.sent) (λ p. ones p.sent) ports,
    sum_by-same (λ (p : PlaceState). sum_by one p.firsts) (λ (p : PlaceState). length p.firsts) (λ p. ones p.firsts) places,
    ones left,
    ones items,
  )

  back_length : (left items : List Posted) → StandsBack (popping_back v left) items → length items + sum_by (λ (p : PlaceState). length p.agains) places + length left ≡ sum_by (λ (p : PlaceState). length p.given) places
  back_length left items stands = omega (
    arith,
    back_weighs left items stands one,
    sum_by-same (λ (p : PlaceState). sum_by one p.agains) (λ (p : PlaceState). length p.agains) (λ p. ones p.agains) places,
    sum_by-same (λ (p : PlaceState). sum_by one p.given) (λ (p : PlaceState). length p.given) (λ p. ones p.given) places,
    ones left,
    ones items,
  )

  module _ (balanced : All IsBalanced places) (ledger : Ledger) (had : jobs_in_ledger ledger ≡ sum_by gathered places) (room : ℕ) (enough : IsRoomFor ports places ledger room) where
    pub room_returned : (there : List Posted) → Stands (knowing shape [] places ports) there → (left items : List Posted) → StandsBack (popping_back v left) items → length left ≤ room
    room_returned there stands left items back = omega (arith, main_length [] there stands, back_length left items back, balanced_lengths places balanced, had, enough)

    pub room_queued : (returned : List Posted) → StandsBack (popping_back v returned) [] → (left items : List Posted) → Stands (knowing shape left places ports) items → length left ≤ room
    room_queued returned back left items stands = omega (arith, main_length left items stands, back_length returned [] back, balanced_lengths places balanced, had, enough)

  pub adds_first : (accepted : List ℕ) → AreCounts shape.ports ports accepted → (left : List Posted) → Stands (knowing shape left places ports) [] → (job : Job)
      → sum_by (λ (p : PlaceState). count_of job (jobs_in p.firsts)) places + count_of job (jobs_in left) ≡ times_accepted accepted job
  adds_first accepted counts left stands job =
      let h = stands.holds in
      let fits = h.fits stands.pass (knowing shape left places ports) stands.there in
      let all = all_of h.past [] in
      let there = count_all job all h.numbered in
      let counted = all_counted h.past [] h.owner stands.pass shape left places ports h.no_port fits all_places all_ports accepted counts job.port in
      omega (
        arith,
        all_popped h.past [] h.owner stands.pass shape left places ports h.no_port fits all_places all_ports (worth job),
        sum_by-same (λ (p : PlaceState). count_of job (jobs_in p.firsts)) (λ (p : PlaceState). sum_by (worth job) p.firsts) (λ p. count_in job p.firsts) places,
        count_in job left,
        sum_by-append (worth job) (posts h.past) [],
        there,
        ap (λ n. bit (ltb job.number n)) counted,
      )

  -- before anything is left over, a job was handed out exactly where its number is below how many of its port were
  pub firsts_below : (items : List Posted) (stands : Stands (knowing shape [] places ports) items) (job : Job)
      → sum_by (λ (p : PlaceState). count_of job (jobs_in p.firsts)) places ≡ bit (ltb job.number (length (through job.port (posts stands.holds.past))))
  firsts_below items stands job =
      let h = stands.holds in
      let fits = h.fits stands.pass (knowing shape [] places ports) stands.there in
      let front : AreNumbered (posts h.past) = λ f b x e. h.numbered f (b ++ items) x (ap (λ l. l ++ items) e ∙ append_assoc f (x ∷ b) items) in
      omega (
        arith,
        all_popped h.past items h.owner stands.pass shape [] places ports h.no_port fits all_places all_ports (worth job),
        sum_by-same (λ (p : PlaceState). count_of job (jobs_in p.firsts)) (λ (p : PlaceState). sum_by (worth job) p.firsts) (λ p. count_in job p.firsts) places,
        count_all job (posts h.past) front,
      )

  pub adds_given : (left : List Posted) → StandsBack (popping_back v left) [] → (job : Job)
      → sum_by (λ (p : PlaceState). count_of job (jobs_in p.agains)) places + count_of job (jobs_in left) ≡ sum_by (λ (p : PlaceState). count_of job (jobs_in p.given)) places
  adds_given left stands job = omega (
    arith,
    back_weighs left [] stands (worth job),
    sum_by-same (λ (p : PlaceState). count_of job (jobs_in p.agains)) (λ (p : PlaceState). sum_by (worth job) p.agains) (λ p. count_in job p.agains) places,
    sum_by-same (λ (p : PlaceState). count_of job (jobs_in p.given)) (λ (p : PlaceState). sum_by (worth job) p.given) (λ p. count_in job p.given) places,
    count_in job left,
  )

-- the envelopes are those that are out
module _ (group : GroupId) (places : List PlaceState) (held : List Held) (same : (stamp : Stamp) → times_held stamp held ≡ times_out group stamp places) where
  is_stamp : Stamp → Held → ℕ
  is_stamp stamp e = bit ((eqb e.stamp.group stamp.group) && ((eqb e.stamp.port stamp.port) && (eqb e.stamp.number stamp.number)))

  is_job : Job → Held → ℕ
  is_job job e = bit ((eqb e.stamp.port job.port) && (eqb e.stamp.number job.number))

  itself : (e : Held) → is_stamp e.stamp e ≡ 1
  unfolding is_stamp
  itself e =
      ap (λ b. bit (b && ((eqb e.stamp.port e.stamp.port) && (eqb e.stamp.number e.stamp.number)))) (eq-eqb e.stamp.group e.stamp.group refl)
      ∙ (ap (λ b. bit (b && (eqb e.stamp.number e.stamp.number))) (eq-eqb e.stamp.port e.stamp.port refl) ∙ ap (λ b. bit b) (eq-eqb e.stamp.number e.stamp.number refl))

  ours : All (λ e. eqb e.stamp.group group.slot ≡ true) held
  unfolding is_stamp
  ours k d less = cases (eqb (get_or held k d).stamp.group group.slot) refl
    where
      e : Held
      e = get_or held k d

      cases : (b : Bool) → eqb (get_or held k d).stamp.group group.slot ≡ b → eqb (get_or held k d).stamp.group group.slot ≡ true
      cases true is = is
      cases false is =
          let it = get_or held k d in
          let none : times_out group it.stamp places ≡ 0 = ap (λ b. cond b (sum_by (λ (place : PlaceState). count_of (job_of it.stamp) place.docket.out) places) 0) is in
          absurd (omega (arith, none, same it.stamp, itself it, get_or-le-sum_by (is_stamp it.stamp) held k d less))

  counts : (job : Job) (es : List Held) → All (λ e. eqb e.stamp.group group.slot ≡ true) es → sum_by (is_stamp (stamp_of group.slot job)) es ≡ sum_by (is_job job) es
  unfolding is_stamp is_job
  counts job [] all = refl
  counts job (e ∷ es) all =
      let here : is_stamp (stamp_of group.slot job) e ≡ is_job job e = ap (λ b. bit (b && ((eqb e.stamp.port job.port) && (eqb e.stamp.number job.number)))) (all 0 e (omega arith)) in
      omega (arith, here, sum_by-cons (is_stamp (stamp_of group.slot job)) e es, sum_by-cons (is_job job) e es, counts job es (λ k d less. all (suc k) d (omega arith)))

  pub adds_held : (job : Job) → count_of job (map (λ (e : Held). job_of e.stamp) held) ≡ sum_by (λ (p : PlaceState). count_of job p.docket.out) places
  unfolding is_stamp is_job
  adds_held job =
      let out : times_out group (stamp_of group.slot job) places ≡ sum_by (λ (p : PlaceState). count_of job p.docket.out) places =
      ap (λ b. cond b (sum_by (λ (p : PlaceState). count_of job p.docket.out) places) 0) (eq-eqb group.slot group.slot refl) in
      sum_by-map (λ (other : Job). bit ((eqb other.port job.port) && (eqb other.number job.number))) (λ (e : Held). job_of e.stamp) held ∙ (sym (counts job held ours) ∙ (same (stamp_of group.slot job) ∙ out))
