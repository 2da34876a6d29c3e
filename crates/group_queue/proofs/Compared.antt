-- What two sorted lists tell of the envelopes and of what is out.
use Rattle.std.proofs.Common.{◌≡◌, ℕ, zero, suc, ◌+◌, ◌<◌, ◌≤◌, Bool, true, false, cond, eqb, eq-eqb, eqb-true, ltb, List, [], ◌∷◌, length, get_or, take, Contains, All, refl, sym, ap, ◌∙◌, subst, arith}
use Rattle.std.specs.Prelude.{sum_by, ◌&&◌}
use Rattle.std.specs.List.Sorted.{IsPermutation}
use Rattle.std.proofs.lemmas.Bool.{ltb-true, ltb-false, false≢true}
use Rattle.std.proofs.lemmas.List.Sorted.{sum_by-IsPermutation}
use Rattle.std.proofs.lemmas.List.Sums.{sum_by-cons, get_or-le-sum_by}
use Rattle.dispatch_core.specs.declared.event.Job.{Job}
use Rattle.dispatch_core.specs.JobRuns.{count_of}
use Rattle.dispatch_core.proofs.JobLists.{count_of-cons, count_of_contained}
use Rattle.group_jobs.specs.declared.stamp.Stamp.{Stamp}
use Rattle.group_jobs.specs.Stamps.{Held, job_of, stamp_of}
use Rattle.group_queue.specs.Ports.{GroupId}
use Rattle.group_queue.specs.Places.{PlaceState}
use Rattle.group_queue.specs.Ends.{times_held, times_out}
use Rattle.group_queue.specs.Known.{IsAmong}
use Rattle.group_queue.proofs.Checks.{positive, both, All-there}

-- what is counted is there
counted_contained : (jobs : List Job) (job : Job) → 1 ≤ count_of job jobs → Contains jobs job
counted_contained jobs job some =
    let found = positive (λ (other : Job). cond ((eqb other.port job.port) && (eqb other.number job.number)) 1 0) jobs some in
    let same = both (eqb found.0.port job.port) (eqb found.0.number job.number) found.2 in
    subst (Contains jobs) (λ i. record { port = eqb-true found.0.port job.port same.0 i; number = eqb-true found.0.number job.number same.1 i }) found.1

-- of no jobs there is none
pub none_counted : (jobs : List Job) (job : Job) → length jobs ≡ 0 → count_of job jobs ≡ 0
none_counted [] job none = refl
none_counted (first ∷ jobs) job none = absurd (omega (arith, none))

-- one job more, and the others as often
pub count_push : (old new : List Job) (one : Job) → IsPermutation (one ∷ old) new → (job : Job) → count_of job new ≡ count_of job old + count_of job (one ∷ [])
count_push old new one same job = omega (
  arith,
  sum_by-IsPermutation (λ (other : Job). cond ((eqb other.port job.port) && (eqb other.number job.number)) 1 0) (one ∷ old) new same,
  count_of-cons job one old,
)

-- an envelope of the group counts for its job
pub held_known : (slot : ℕ) (e : Held) (job : Job) → e.stamp.group ≡ slot → times_held (stamp_of slot job) (e ∷ []) ≡ count_of job (job_of e.stamp ∷ [])
held_known slot e job same = ap (λ b. 0 + cond (b && ((eqb e.stamp.port job.port) && (eqb e.stamp.number job.number))) 1 0) (eq-eqb e.stamp.group slot same)

-- and one that is not among these for none of them
pub held_strange : (group : GroupId) (jobs : List Job) (e : Held) (job : Job) → ¬ IsAmong group jobs e.stamp → Contains jobs job → times_held (stamp_of group.slot job) (e ∷ []) ≡ 0
held_strange group jobs e job strange there = cases (eqb e.stamp.group group.slot) refl (eqb e.stamp.port job.port) refl (eqb e.stamp.number job.number) refl
  where
    cases : (a : Bool) → eqb e.stamp.group group.slot ≡ a → (b : Bool) → eqb e.stamp.port job.port ≡ b → (d : Bool) → eqb e.stamp.number job.number ≡ d → 0 + cond (a && (b && d)) 1 0 ≡ 0
    cases false is b is' d is'' = omega arith
    cases true is false is' d is'' = omega arith
    cases true is true is' false is'' = omega arith
    cases true is true is' true is'' =
        let job' : job_of e.stamp ≡ job = λ i. record { port = eqb-true e.stamp.port job.port is' i; number = eqb-true e.stamp.number job.number is'' i } in
        absurd (strange (eqb-true e.stamp.group group.slot is, subst (Contains jobs) (sym job') there))

-- an envelope that is there is counted
counted_held : (held : List Held) (e : Held) → Contains held e → 1 ≤ times_held e.stamp held
counted_held held e (k, less, is) =
    let f : Held → ℕ = λ other. cond ((eqb other.stamp.group e.stamp.group) && ((eqb other.stamp.port e.stamp.port) && (eqb other.stamp.number e.stamp.number))) 1 0 in
    let itself : f e ≡ 1 =
    ap (λ b. cond (b && ((eqb e.stamp.port e.stamp.port) && (eqb e.stamp.number e.stamp.number))) 1 0) (eq-eqb e.stamp.group e.stamp.group refl)
    ∙ (ap (λ b. cond (true && (b && (eqb e.stamp.number e.stamp.number))) 1 0) (eq-eqb e.stamp.port e.stamp.port refl) ∙ ap (λ b. cond (true && (true && b)) 1 0) (eq-eqb e.stamp.number e.stamp.number refl)) in
    omega (arith, itself, ap f is, get_or-le-sum_by f held k e less)

one_of : (b : Bool) → b ≡ true → 1 ≤ cond b 1 0
one_of true is = omega arith
one_of false is = absurd (false≢true is)

-- what is counted is there, in an envelope of this stamp
held_counted : (held : List Held) (stamp : Stamp) → 1 ≤ times_held stamp held → (e : Held) × Contains held e × (e.stamp ≡ stamp)
held_counted held stamp some =
    let found = positive (λ (other : Held). cond ((eqb other.stamp.group stamp.group) && ((eqb other.stamp.port stamp.port) && (eqb other.stamp.number stamp.number))) 1 0) held some in
    let a = both (eqb found.0.stamp.group stamp.group) ((eqb found.0.stamp.port stamp.port) && (eqb found.0.stamp.number stamp.number)) found.2 in
    let b = both (eqb found.0.stamp.port stamp.port) (eqb found.0.stamp.number stamp.number) (one_of ((eqb found.0.stamp.port stamp.port) && (eqb found.0.stamp.number stamp.number)) a.1) in
    (found.0, found.1, λ i. record { group = eqb-true found.0.stamp.group stamp.group a.0 i; port = eqb-true found.0.stamp.port stamp.port b.0 i; number = eqb-true found.0.stamp.number stamp.number b.1 i })

module _ (group : GroupId) (places : List PlaceState) (held : List Held) (out known : List Job)
    (outs : (job : Job) → count_of job out ≡ sum_by (λ (place : PlaceState). count_of job place.docket.out) places)
    (knowns : (job : Job) → Contains out job → count_of job known ≡ times_held (stamp_of group.slot job) held) where
  -- a stamp of the group is out as often as its job is listed
  out_here : (stamp : Stamp) → stamp.group ≡ group.slot → times_out group stamp places ≡ count_of (job_of stamp) out
  out_here stamp same = ap (λ b. cond b (sum_by (λ (place : PlaceState). count_of (job_of stamp) place.docket.out) places) 0) (eq-eqb stamp.group group.slot same) ∙ sym (outs (job_of stamp))

  own : (stamp : Stamp) → stamp.group ≡ group.slot → stamp_of group.slot (job_of stamp) ≡ stamp
  own stamp same = λ i. record { group = sym same i; port = stamp.port; number = stamp.number }

  held_here : (stamp : Stamp) → stamp.group ≡ group.slot → Contains out (job_of stamp) → count_of (job_of stamp) known ≡ times_held stamp held
  held_here stamp same there = knowns (job_of stamp) there ∙ ap (λ s. times_held s held) (own stamp same)

  -- and one that is not among these is not out
  out_nowhere : (stamp : Stamp) → ¬ IsAmong group out stamp → times_out group stamp places ≡ 0
  out_nowhere stamp none = cases (eqb stamp.group group.slot) refl (ltb 0 (count_of (job_of stamp) out)) refl
    where
      cases : (b : Bool) → eqb stamp.group group.slot ≡ b → (d : Bool) → ltb 0 (count_of (job_of stamp) out) ≡ d → times_out group stamp places ≡ 0
      cases false is d is' = ap (λ b. cond b (sum_by (λ (place : PlaceState). count_of (job_of stamp) place.docket.out) places) 0) is
      cases true is true is' = let some = ltb-true 0 (count_of (job_of stamp) out) is' in absurd (none (eqb-true stamp.group group.slot is, counted_contained out (job_of stamp) (omega (arith, some))))
      cases true is false is' = let no = ltb-false 0 (count_of (job_of stamp) out) is' in omega (arith, no, out_here stamp (eqb-true stamp.group group.slot is))

  pub strange : (e : Held) → Contains held e → ¬ IsAmong group out e.stamp → times_out group e.stamp places < times_held e.stamp held
  strange e there none = omega (arith, out_nowhere e.stamp none, counted_held held e there)

  pub lacking : (place : PlaceState) (job : Job) → Contains places place → Contains place.docket.out job → ¬ Contains known job → times_held (stamp_of group.slot job) held < times_out group (stamp_of group.slot job) places
  lacking place job (k, less, is) there none =
      let some = count_of_contained place.docket.out job there in
      let f : PlaceState → ℕ = λ p. count_of job p.docket.out in
      let most = get_or-le-sum_by f places k place less in
      let here = ap f is in
      let listed : 1 ≤ count_of job out = omega (arith, some, most, here, outs job) in
      omega (arith, out_here (stamp_of group.slot job) refl, listed, knowns job (counted_contained out job listed), not_counted (ltb 0 (count_of job known)) refl)
    where
      not_counted : (b : Bool) → ltb 0 (count_of job known) ≡ b → count_of job known ≡ 0
      not_counted true is = let more = ltb-true 0 (count_of job known) is in absurd (none (counted_contained known job (omega (arith, more))))
      not_counted false is = let no = ltb-false 0 (count_of job known) is in omega (arith, no)

  module _ (same : out ≡ known) where
    among : (stamp : Stamp) → IsAmong group out stamp → times_held stamp held ≡ times_out group stamp places
    among stamp there = omega (arith, held_here stamp there.0 there.1, out_here stamp there.0, ap (count_of (job_of stamp)) same)

    -- whether a stamp is among these is told by counting
    decide : (stamp : Stamp) → (P : Type 0) → (IsAmong group out stamp → P) → ((IsAmong group out stamp → ⊥) → P) → P
    decide stamp P known not_known = cases (eqb stamp.group group.slot) refl (ltb 0 (count_of (job_of stamp) out)) refl
      where
        cases : (b : Bool) → eqb stamp.group group.slot ≡ b → (d : Bool) → ltb 0 (count_of (job_of stamp) out) ≡ d → P
        cases false is d is' = not_known (λ h. false≢true (sym is ∙ eq-eqb stamp.group group.slot h.0))
        cases true is true is' = let some = ltb-true 0 (count_of (job_of stamp) out) is' in known (eqb-true stamp.group group.slot is, counted_contained out (job_of stamp) (omega (arith, some)))
        cases true is false is' = let none = ltb-false 0 (count_of (job_of stamp) out) is' in not_known (λ h. absurd (omega (arith, none, count_of_contained out (job_of stamp) h.1)))

    pub none_lacks_here : (stamp : Stamp) → times_out group stamp places ≤ times_held stamp held
    none_lacks_here stamp = decide stamp (times_out group stamp places ≤ times_held stamp held) (λ h. omega (arith, among stamp h)) (λ h. omega (arith, out_nowhere stamp h))

    pub all_same : All (λ (e : Held). IsAmong group out e.stamp) held → (stamp : Stamp) → times_held stamp held ≡ times_out group stamp places
    all_same all stamp = decide stamp (times_held stamp held ≡ times_out group stamp places) (among stamp) nowhere
      where
        nowhere : (IsAmong group out stamp → ⊥) → times_held stamp held ≡ times_out group stamp places
        nowhere none = cases (ltb 0 (times_held stamp held)) refl
          where
            cases : (b : Bool) → ltb 0 (times_held stamp held) ≡ b → times_held stamp held ≡ times_out group stamp places
            cases true is =
                let more = ltb-true 0 (times_held stamp held) is in
                let e = held_counted held stamp (omega (arith, more)) in
                absurd (none (subst (IsAmong group out) e.2 (All-there (λ (x : Held). IsAmong group out x.stamp) held e.0 all e.1)))
            cases false is = let no = ltb-false 0 (times_held stamp held) is in omega (arith, no, out_nowhere stamp none)

-- one element more of what was gone over
pub sum_taken : {X : Type 0} (f : X → ℕ) (xs : List X) (k : ℕ) (d : X) → k < length xs → sum_by f (take (k + 1) xs) ≡ sum_by f (take k xs) + f (get_or xs k d)
sum_taken f [] k d less = absurd (omega arith)
sum_taken f (x ∷ xs) zero d less = omega (arith, sum_by-cons f x [])
sum_taken f (x ∷ xs) (suc k) d less =
    let next : suc k + 1 ≡ suc (k + 1) = omega arith in
    omega (arith, ap (λ n. sum_by f (take n (x ∷ xs))) next, sum_by-cons f x (take (k + 1) xs), sum_by-cons f x (take k xs), sum_taken f xs k d (omega arith))

pub count_taken : (jobs : List Job) (k : ℕ) (d : Job) → k < length jobs → (job : Job) → count_of job (take (k + 1) jobs) ≡ count_of job (take k jobs) + count_of job (get_or jobs k d ∷ [])
count_taken jobs k d less job =
    let f : Job → ℕ = λ other. cond ((eqb other.port job.port) && (eqb other.number job.number)) 1 0 in
    omega (arith, sum_taken f jobs k d less, sum_by-cons f (get_or jobs k d) [])

pub held_taken : (stamp : Stamp) (held : List Held) (k : ℕ) (d : Held) → k < length held → times_held stamp (take (k + 1) held) ≡ times_held stamp (take k held) + times_held stamp (get_or held k d ∷ [])
held_taken stamp held k d less =
    let f : Held → ℕ = λ e. cond ((eqb e.stamp.group stamp.group) && ((eqb e.stamp.port stamp.port) && (eqb e.stamp.number stamp.number))) 1 0 in
    omega (arith, sum_taken f held k d less, sum_by-cons f (get_or held k d) [])
