-- What was looked at one by one holds of all.
use Rattle.std.proofs.Common.{◌≡◌, ◌≢◌, ℕ, zero, suc, ◌+◌, ◌<◌, ◌≤◌, Bool, true, false, cond, eqb, eqb-true, ltb, List, [], ◌∷◌, ◌++◌, length, length-append, get_or, Contains, All, refl, sym, ap, ◌∙◌, subst, arith}
use Rattle.std.specs.Prelude.{map, sum_by, ◌&&◌}
use Rattle.std.proofs.lemmas.Bool.{ltb-true, ltb-false}
use Rattle.std.proofs.lemmas.List.Sums.{sum_by-cons}
use mathlib.Core.Logic.{dite}
use native.Mathlib.Decide.{ℕ_discrete}
use Rattle.dispatch_core.specs.declared.event.Job.{Job}
use Rattle.dispatch_core.specs.JobRuns.{count_of}
use Rattle.group_jobs.specs.declared.stamp.Stamp.{Stamp}
use Rattle.group_jobs.specs.Stamps.{Held, job_of, stamp_of}
use Rattle.group_queue.specs.Ports.{GroupId, PortState}
use Rattle.group_queue.specs.Places.{PlaceState}
use Rattle.group_queue.specs.Ends.{HasAll, AreCounts, times_held, times_out}

module _ {X : Type 0} (number : X → ℕ) where
  pub absent : (xs : List X) (n : ℕ) → ((k : ℕ) (d : X) → k < length xs → number (get_or xs k d) ≢ n) → ¬ Contains (map number xs) n
  absent [] n none (k, less, is) = absurd (omega arith)
  absent (x ∷ xs) n none (zero, less, is) = none 0 x (omega arith) is
  absent (x ∷ xs) n none (suc k, less, is) = absent xs n (λ j d below. none (suc j) d (omega arith)) (k, omega arith, is)

  pub present : (xs : List X) (x : X) (n : ℕ) → Contains xs x → number x ≡ n → Contains (map number xs) n
  present [] x n (k, less, is) same = absurd (omega arith)
  present (y ∷ ys) x n (zero, less, is) same = (0, omega arith, ap number is ∙ same)
  present (y ∷ ys) x n (suc k, less, is) same = let rest = present ys x n (k, omega arith, is) same in let within = rest.1 in (suc rest.0, omega arith, rest.2)

  pub present_at : (xs : List X) (k n : ℕ) → k < length xs → ((d : X) → number (get_or xs k d) ≡ n) → Contains (map number xs) n
  present_at [] k n less same = absurd (omega arith)
  present_at (y ∷ ys) zero n less same = (0, omega arith, same y)
  present_at (y ∷ ys) (suc k) n less same = let rest = present_at ys k n (omega arith) same in let within = rest.1 in (suc rest.0, omega arith, rest.2)

pub has_more : (count : ℕ) (numbers : List ℕ) → HasAll count numbers → Contains numbers count → HasAll (count + 1) numbers
has_more count numbers all here number less = dite (ℕ_discrete number count) (λ is. subst (Contains numbers) (sym is) here) (λ other. all number (omega (arith, less, other)))

-- what counts for something has an element that does
pub positive : {X : Type 0} (f : X → ℕ) (xs : List X) → 1 ≤ sum_by f xs → (x : X) × Contains xs x × (1 ≤ f x)
positive f [] some = absurd (omega arith)
positive {X} f (x ∷ xs) some = cases (λ enough. positive f xs enough) (ltb 0 (f x)) refl
  where
    cases : (1 ≤ sum_by f xs → (y : X) × Contains xs y × (1 ≤ f y)) → (b : Bool) → ltb 0 (f x) ≡ b → (y : X) × Contains (x ∷ xs) y × (1 ≤ f y)
    cases rest true is = (x, (0, omega arith, refl), let less = ltb-true 0 (f x) is in omega arith)
    cases rest false is =
        let none = ltb-false 0 (f x) is in
        let there = rest (omega (arith, some, sum_by-cons f x xs, none)) in
        let within = there.1.1 in
        (there.0, (suc there.1.0, omega arith, there.1.2), there.2)

pub All-there : {X : Type 0} (P : X → Type 0) (xs : List X) (x : X) → All P xs → Contains xs x → P x
All-there P xs x all (k, less, is) = subst P is (all k x less)

pub both : (p q : Bool) → 1 ≤ cond (p && q) 1 0 → (p ≡ true) × (q ≡ true)
both true true some = (refl, refl)
both true false some = absurd (omega arith)
both false q some = absurd (omega arith)

three : (p q r : Bool) → 1 ≤ cond (p && (q && r)) 1 0 → (p ≡ true) × (q ≡ true) × (r ≡ true)
three true true true some = (refl, refl, refl)
three true true false some = absurd (omega arith)
three true false r some = absurd (omega arith)
three false q r some = absurd (omega arith)

module _ (group : GroupId) (places : List PlaceState) (held : List Held) where
  -- each job that the place has out is as often among the envelopes as it is out
  abbrev pub HasEnvelopes : PlaceState → Type 0
  HasEnvelopes place = All (λ job. times_out group (stamp_of group.slot job) places ≤ times_held (stamp_of group.slot job) held) place.docket.out

  -- the envelope is there no more often than its message is out
  abbrev pub IsKnown : Held → Type 0
  IsKnown envelope = times_held envelope.stamp held ≤ times_out group envelope.stamp places

  pub none_lacks : All HasEnvelopes places → (stamp : Stamp) → times_out group stamp places ≤ times_held stamp held
  none_lacks all stamp = cases (eqb stamp.group group.slot) refl
    where
      f : PlaceState → ℕ
      f place = count_of (job_of stamp) place.docket.out

      out : (n : ℕ) → n ≡ times_out group stamp places → stamp.group ≡ group.slot → (b : Bool) → ltb 0 (sum_by (λ (place : PlaceState). count_of (job_of stamp) place.docket.out) places) ≡ b
          → n ≡ sum_by (λ (place : PlaceState). count_of (job_of stamp) place.docket.out) places → n ≤ times_held stamp held
      out n is same true some counts =
          let place = positive (λ (place : PlaceState). count_of (job_of stamp) place.docket.out) places (ltb-true 0 (sum_by (λ (place : PlaceState). count_of (job_of stamp) place.docket.out) places) some) in
          let job = positive (λ (other : Job). cond ((eqb other.port stamp.port) && (eqb other.number stamp.number)) 1 0) place.0.docket.out place.2 in
          let equal = both (eqb job.0.port stamp.port) (eqb job.0.number stamp.number) job.2 in
          let it : stamp_of group.slot job.0 ≡ stamp = λ i. record { group = sym same i; port = eqb-true job.0.port stamp.port equal.0 i; number = eqb-true job.0.number stamp.number equal.1 i } in
          let enough = All-there (λ (j : Job). times_out group (stamp_of group.slot j) places ≤ times_held (stamp_of group.slot j) held) place.0.docket.out job.0 (All-there HasEnvelopes places place.0 all place.1) job.1 in
          subst (λ m. m ≤ times_held stamp held) (sym is) (subst (λ s. times_out group s places ≤ times_held s held) it enough)
      out n is same false some counts = let none = ltb-false 0 (sum_by (λ (place : PlaceState). count_of (job_of stamp) place.docket.out) places) some in omega (arith, counts, none)

      cases : (b : Bool) → eqb stamp.group group.slot ≡ b → times_out group stamp places ≤ times_held stamp held
      cases true same =
          out (times_out group stamp places) refl (eqb-true stamp.group group.slot same) (ltb 0 (sum_by (λ (place : PlaceState). count_of (job_of stamp) place.docket.out) places)) refl
          (ap (λ b. cond b (sum_by (λ (place : PlaceState). count_of (job_of stamp) place.docket.out) places) 0) same)
      cases false same = let none : times_out group stamp places ≡ 0 = ap (λ b. cond b (sum_by (λ (place : PlaceState). count_of (job_of stamp) place.docket.out) places) 0) same in omega (arith, none)

  pub no_stranger : All IsKnown held → (stamp : Stamp) → times_held stamp held ≤ times_out group stamp places
  no_stranger all stamp = cases (ltb 0 (times_held stamp held)) refl
    where
      cases : (b : Bool) → ltb 0 (times_held stamp held) ≡ b → times_held stamp held ≤ times_out group stamp places
      cases true some =
          let envelope = positive (λ (e : Held). cond ((eqb e.stamp.group stamp.group) && ((eqb e.stamp.port stamp.port) && (eqb e.stamp.number stamp.number))) 1 0) held (ltb-true 0 (times_held stamp held) some) in
          let equal = three (eqb envelope.0.stamp.group stamp.group) (eqb envelope.0.stamp.port stamp.port) (eqb envelope.0.stamp.number stamp.number) envelope.2 in
          let it : envelope.0.stamp ≡ stamp = λ i. record { group = eqb-true envelope.0.stamp.group stamp.group equal.0 i; port = eqb-true envelope.0.stamp.port stamp.port equal.1 i; number = eqb-true envelope.0.stamp.number stamp.number equal.2 i } in
          subst (λ s. times_held s held ≤ times_out group s places) it (All-there IsKnown held envelope.0 all envelope.1)
      cases false some = let none = ltb-false 0 (times_held stamp held) some in omega (arith, none)

get_or_push-before : (xs : List ℕ) (x k d : ℕ) → k < length xs → get_or (xs ++ x ∷ []) k d ≡ get_or xs k d
get_or_push-before [] x k d less = absurd (omega arith)
get_or_push-before (y ∷ ys) x zero d less = refl
get_or_push-before (y ∷ ys) x (suc k) d less = get_or_push-before ys x k d (omega arith)

get_or_push-here : (xs : List ℕ) (x d : ℕ) → get_or (xs ++ x ∷ []) (length xs) d ≡ x
get_or_push-here [] x d = refl
get_or_push-here (y ∷ ys) x d = get_or_push-here ys x d

pub counts_more : (count : ℕ) (ports : List PortState) (counts : List ℕ) (accepted : ℕ) → AreCounts count ports counts
    → (port : PortState) × Contains ports port × (port.number ≡ count) × (accepted ≡ length port.sent) → AreCounts (count + 1) ports (counts ++ accepted ∷ [])
counts_more count ports counts accepted so_far there = record {
  many = omega (arith, length-append counts (accepted ∷ []), so_far.many);
  each = (λ number less. dite (ℕ_discrete number count)
      (λ is. (there.0, there.1, there.2 ∙ sym is, ap (λ k. get_or (counts ++ accepted ∷ []) k 0) (is ∙ sym so_far.many) ∙ (get_or_push-here counts accepted 0 ∙ there.3)))
      (λ other.
      let was = so_far.each number (omega (arith, less, other)) in
      (was.0, was.1, was.2, get_or_push-before counts accepted number 0 (omega (arith, less, other, so_far.many)) ∙ was.3)));
}
