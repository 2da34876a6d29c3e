-- How a group shows what it accepted and handed out, call by call.
use Rattle.std.proofs.Common.{◌≡◌, ◌⊎◌, ℕ, ◌+◌, ◌-◌, ◌≤◌, ◌||◌, ◌==◌, nat_le, nat_lt, Bool, true, false, not, cond, List, [], ◌∷◌, ◌++◌, map, length, drop, Contains, Option, Some, None, Result, Ok, Err, refl, sym, ap, ◌∙◌, subst, inl, inr, arith, add-zero}
use Rattle.std.specs.List.{AllByRecursion, count_by, filter}
use Rattle.std.proofs.lemmas.Bool.{both_ways, cond_both, le-leb, lt-leb, or_from, or_left, or_right}
use Rattle.std.proofs.lemmas.List.{map-append, length-map, length-drop, length_push, drop-append-le}
use Rattle.std.proofs.lemmas.List.Elements.{All-from_recursion, All-contains}
use Rattle.dispatch_core.specs.declared.event.Job.{Job}
use Rattle.dispatch_core.specs.declared.event.Spot.{Spot}
use Rattle.dispatch_core.specs.declared.event.Spot.TheVariants as spot
use Rattle.dispatch_core.specs.GroupState.{accepted_of, spot_of}
use Rattle.dispatch_core.specs.Step.{next_job}
use Rattle.dispatch_core.specs.JobRuns.{count_of}
use Rattle.dispatch_core.proofs.JobLists.{count_of-cons, count_of-append}
use Rattle.dispatch_core.proofs.RunLaws.{count_run}
use Rattle.group_jobs.specs.declared.fate.Fate.{Fate}
use Rattle.group_jobs.specs.declared.fate.Fate.TheVariants.{Acknowledged, Refused, Discarded}
use Rattle.group_jobs.specs.declared.message.Message.{Message}
use Rattle.group_jobs.specs.declared.stamp.Stamp.{Stamp}
use Rattle.group_jobs.specs.Stamps.{Held, job_of, under}
use Rattle.group_jobs.specs.Spots.{times_out}
use Rattle.local_group.specs.declared.error.OfferError.{OfferError}
use Rattle.local_group.specs.declared.error.OfferError.TheVariants as offer
use Rattle.local_group.specs.declared.waiting.Waiting.{Waiting}
use Rattle.local_group.specs.Groups.{Group, life, waits, MayNotOffer, Settles}
use Rattle.local_group.proofs.Counts.{count_of-same}
use Rattle.conn_rules.specs.Acknowledging.{fate_of}
use Rattle.conn_rules.specs.Setups.{most_capacity}
use Rattle.conn_supply.specs.declared.supply.OfferRefusal.{OfferRefusal}
use Rattle.conn_supply.specs.Publishing.{Took}
use Rattle.local_broker.specs.Groups.{told_as, IsOffered, HandsOut, HandsOutAgain, IsOutAt, IsSettled, IsGivenBack}
use Rattle.member_window.specs.Identifiers.{identifiers, entries_without, identifiers_without, AreDistinct}
use Rattle.member_window.proofs.Lists.{contains_identifier, identifiers-without}
use Rattle.solo_output.specs.Groups.{HandOut, acknowledges, refuses, discards, open_identifiers, settled}
use Rattle.solo_output.specs.Groups.Outcome.{Unacknowledged, Discarded as WasDiscarded}
use Rattle.solo_output.proofs.Counted.{IsCounted, accepts, hands, acknowledges as acknowledged_one, refuses as refused_one, discards as discarded_one, gives_back as given_back_one}
use Rattle.solo_output.proofs.Identifiers.{HasMore, jobs_of, without_more}
use Rattle.solo_output.proofs.Lists.{handed, open_push, open_discarded, count_push, count_push_one, settles_none, open_settled, count_settled, drop_cons}

-- the messages that wait
abbrev pub messages_in : List Waiting → List Message
messages_in waiting = map (λ w. w.message) waiting

-- an entry of the window is a message of the group of this slot, out at its place 0
abbrev pub IsOf : ℕ → (ℕ × Held) → Type 0
IsOf slot entry = (entry.1.stamp.group ≡ slot) × (entry.1.place ≡ 0)

abbrev pub good_of : List HandOut → ℕ
good_of hand_outs = count_by (λ (h : HandOut). acknowledges h.outcome) hand_outs

abbrev pub bad_of : List HandOut → ℕ
bad_of hand_outs = count_by (λ (h : HandOut). refuses h.outcome) hand_outs

abbrev pub off_of : List HandOut → ℕ
off_of hand_outs = count_by (λ (h : HandOut). discards h.outcome) hand_outs

-- A group in whose queue so many may wait: what it accepted, the hand-outs, and the entries of the window that are its messages.
pub record ShowsGroup (capacity slot : ℕ) (accepted : List Message) (hand_outs : List HandOut) (entries : List (ℕ × Held)) (group : Group) : Type 0 where
  pub numbered : group.slot ≡ slot
  pub fits : group.capacity ≡ capacity
  pub goes_on : group.state.closed ≡ false
  pub counted : IsCounted (length accepted) (good_of hand_outs) (bad_of hand_outs) (off_of hand_outs) (jobs_of entries) group
  pub order : length hand_outs ≤ length accepted
  pub queue : messages_in group.queue ≡ drop (length hand_outs) accepted
  pub holds : length group.queue ≤ capacity
  pub small : capacity ≤ most_capacity
  pub none_returned : group.returned ≡ []
  pub opens : open_identifiers hand_outs ≡ identifiers entries
  pub ours : AllByRecursion (IsOf slot) entries

-- no further message is accepted
abbrev pub fills : ℕ → List Message → List HandOut → Bool
fills capacity accepted hand_outs = nat_le life (length accepted) || nat_le capacity (length (drop (length hand_outs) accepted))

-- what an offer makes of a group that is full, and of one that is not
abbrev pub OfferedAs : Bool → ℕ → ℕ → List Message → Message → List HandOut → List (ℕ × Held) → ℕ → Group → Type 0
OfferedAs true capacity slot accepted message hand_outs entries taken new = (taken ≡ 0) × ShowsGroup capacity slot accepted hand_outs entries new
OfferedAs false capacity slot accepted message hand_outs entries taken new = (taken ≡ 1) × ShowsGroup capacity slot (accepted ++ message ∷ []) hand_outs entries new

-- what a list is once it is
pub all_kept : {A : Type 0} (P : A → Type 0) (test : A → Bool) (xs : List A) → AllByRecursion P xs → AllByRecursion P (filter test xs)
all_kept P test [] all = tt
all_kept P test (x ∷ xs) all =
    let rest = all_kept P test xs all.1 in
    cond_both (test x) (x ∷ filter test xs) (filter test xs) (AllByRecursion P) (λ _. (all.0, rest)) (λ _. rest)

pub all_push : {A : Type 0} (P : A → Type 0) (xs : List A) (x : A) → AllByRecursion P xs → P x → AllByRecursion P (xs ++ x ∷ [])
all_push P [] x all is = (is, tt)
all_push P (y ∷ xs) x all is = (all.0, all_push P xs x all.1 is)

pub last_is : {A : Type 0} (P : A → Type 0) (xs : List A) (x : A) → AllByRecursion P (xs ++ x ∷ []) → P x
last_is P [] x all = all.0
last_is P (y ∷ xs) x all = last_is P xs x all.1

-- what is among the jobs that are out is out at a place
out_if : (at : Option Spot) → 1 ≤ times_out at → (place : ℕ) × (at ≡ Some (spot.Held place))
out_if None some = absurd (omega arith)
out_if (Some spot.Queued) some = absurd (omega arith)
out_if (Some (spot.Held place)) some = (place, refl)
out_if (Some (spot.Acked place)) some = absurd (omega arith)
out_if (Some (spot.Refused place)) some = absurd (omega arith)
out_if (Some (spot.Discarded place)) some = absurd (omega arith)
out_if (Some spot.Returned) some = absurd (omega arith)

pub is_out : (group : Group) (slot accepted good bad off : ℕ) (out : List Job) (identifier : ℕ) (envelope : Held) → group.slot ≡ slot → IsCounted accepted good bad off out group
    → IsOf slot (identifier, envelope) → 1 ≤ count_of (job_of envelope.stamp) out → IsOutAt group 0 envelope
is_out group slot accepted good bad off out identifier envelope numbered counted is some =
    let job = job_of envelope.stamp in
    let there = out_if (spot_of group.state job) (omega (arith, some, counted.out_are job)) in
    let first : there.0 ≡ 0 = counted.at_first job there.0 there.1 in
    record {
      held = record { ours = is.0 ∙ sym numbered; there = there.1 ∙ ap (λ p. Some (spot.Held p)) (first ∙ sym is.1) };
      its = is.1;
    }

-- the same numbers
counted_as : (accepted good good' bad bad' off off' : ℕ) (out : List Job) (group : Group) → good ≡ good' → bad ≡ bad' → off ≡ off' → IsCounted accepted good bad off out group → IsCounted accepted good' bad' off' out group
counted_as accepted good good' bad bad' off off' out group is_good is_bad is_off counted =
    subst (λ (n : ℕ). IsCounted accepted n bad' off' out group) is_good
    (subst (λ (n : ℕ). IsCounted accepted good n off' out group) is_bad (subst (λ (n : ℕ). IsCounted accepted good bad n out group) is_off counted))

module _ (capacity slot : ℕ) (accepted : List Message) (hand_outs : List HandOut) (entries : List (ℕ × Held)) (old : Group) (shows : ShowsGroup capacity slot accepted hand_outs entries old) where
  count : accepted_of old.state 0 ≡ length accepted
  count = count_run old.events old.state 0 shows.counted.run ∙ shows.counted.through

  waiting : length old.queue ≡ length (drop (length hand_outs) accepted)
  waiting = sym (length-map old.queue (λ w. w.message)) ∙ ap length shows.queue

  -- no more wait than may
  pub few_wait : length (drop (length hand_outs) accepted) ≤ most_capacity
  few_wait = omega (arith, waiting, shows.holds, shows.small)

  -- ---- an offer
  module _ (message : Message) (new : Group) (taken : ℕ) where
    still : new ≡ old → fills capacity accepted hand_outs ≡ true → taken ≡ 0 → OfferedAs (fills capacity accepted hand_outs) capacity slot accepted message hand_outs entries taken new
    still same full none =
        subst (λ (b : Bool). OfferedAs b capacity slot accepted message hand_outs entries taken new) (sym full)
        (none, subst (ShowsGroup capacity slot accepted hand_outs entries) (sym same) shows)

    refused : (why : OfferError) (told : OfferRefusal) → told ≡ told_as why → MayNotOffer old 0 why → new ≡ old → Took (Err told) taken
        → OfferedAs (fills capacity accepted hand_outs) capacity slot accepted message hand_outs entries taken new
    refused offer.Shut told is may same took = absurd (both_ways old.state.closed shows.goes_on may)
    refused offer.LifeSpent told is may same took =
        let none : taken ≡ 0 = subst (λ (r : OfferRefusal). Took (Err r) taken) is took in
        still same (or_left (nat_le life (length accepted)) (nat_le capacity (length (drop (length hand_outs) accepted))) (le-leb life (length accepted) (omega (arith, may.1, count)))) none
    refused offer.Full told is may same took =
        let none : taken ≡ 0 = subst (λ (r : OfferRefusal). Took (Err r) taken) is took in
        still same
        (or_right (nat_le life (length accepted)) (nat_le capacity (length (drop (length hand_outs) accepted)))
        (le-leb capacity (length (drop (length hand_outs) accepted)) (omega (arith, may.2, waiting, shows.fits)))) none
    refused offer.Memory told is may same took = absurd (subst (λ (r : OfferRefusal). Took (Err r) taken) is took)

    pub offered : (answer : Result Stamp OfferRefusal) → IsOffered old 0 message answer new → Took answer taken
        → OfferedAs (fills capacity accepted hand_outs) capacity slot accepted message hand_outs entries taken new
    offered (Err told) does took = refused does.why told does.told does.may_not does.same took
    offered (Ok stamp) does took =
        let more = length_push accepted message in
        let room : fills capacity accepted hand_outs ≡ false =
        or_from (nat_le life (length accepted)) (nat_le capacity (length (drop (length hand_outs) accepted)))
        (lt-leb life (length accepted) (omega (arith, does.may.1, count)))
        (lt-leb capacity (length (drop (length hand_outs) accepted)) (omega (arith, does.may.2, waiting, shows.fits))) in
        let now : ShowsGroup capacity slot (accepted ++ message ∷ []) hand_outs entries new = record {
          numbered = does.event.form.slot ∙ shows.numbered;
          fits = does.event.form.capacity ∙ shows.fits;
          goes_on = does.event.step.made.2 ∙ shows.goes_on;
          counted =
              subst (λ (n : ℕ). IsCounted n (good_of hand_outs) (bad_of hand_outs) (off_of hand_outs) (jobs_of entries) new) (sym more)
              (accepts old new (length accepted) (good_of hand_outs) (bad_of hand_outs) (off_of hand_outs) (jobs_of entries) shows.counted does.event);
          order = omega (arith, more, shows.order);
          queue =
              ap messages_in does.queue ∙ map-append (λ (w : Waiting). w.message) old.queue (waits _ message ∷ [])
              ∙ ap (λ (l : List Message). l ++ message ∷ []) shows.queue ∙ sym (drop-append-le (length hand_outs) accepted (message ∷ []) shows.order);
          holds = omega (arith, ap length does.queue, length_push old.queue (waits (next_job old.state 0) message), does.may.2, shows.fits);
          small = shows.small;
          none_returned = does.returned ∙ shows.none_returned;
          opens = shows.opens;
          ours = shows.ours;
        } in
        subst (λ (b : Bool). OfferedAs b capacity slot accepted message hand_outs entries taken new) (sym room) (took, now)

  -- ---- a hand-out
  pub none_back : (new : Group) (envelope : Held) → HandsOutAgain old 0 (Ok (Some envelope)) new → ⊥
  none_back new envelope does = let e = sym shows.none_returned ∙ does.1 in absurd (cc)

  nothing : (closed_or_empty : (old.state.closed ≡ true) ⊎ (old.queue ≡ [])) → drop (length hand_outs) accepted ≡ []
  nothing (inl closed) = absurd (both_ways old.state.closed shows.goes_on closed)
  nothing (inr empty) = sym shows.queue ∙ ap messages_in empty

  pub none_waits : (new : Group) → HandsOut old 0 (Ok None) new → drop (length hand_outs) accepted ≡ []
  none_waits new does = nothing does.0

  pub handed_one : (new : Group) (envelope : Held) (subscription : Option ℕ) (identifier : ℕ) → HandsOut old 0 (Ok (Some envelope)) new
      → (drop (length hand_outs) accepted ≡ envelope.message ∷ messages_in new.queue)
      × ShowsGroup capacity slot accepted (hand_outs ++ handed slot subscription identifier Unacknowledged ∷ []) (entries ++ (identifier, under subscription envelope) ∷ []) new
  handed_one new envelope subscription identifier does =
      let front = does.0 in
      let adds = does.4 in
      let one = handed slot subscription identifier Unacknowledged in
      let message : envelope.message ≡ front.message = ap (λ (e : Held). e.message) does.2 in
      let job : job_of envelope.stamp ≡ front.job = ap (λ (e : Held). job_of e.stamp) does.2 in
      let waits_first : drop (length hand_outs) accepted ≡ front.message ∷ messages_in new.queue = sym shows.queue ∙ ap messages_in does.1 in
      let parts = drop_cons (length hand_outs) accepted front.message (messages_in new.queue) waits_first in
      let more = length_push hand_outs one in
      let jobs : jobs_of (entries ++ (identifier, under subscription envelope) ∷ []) ≡ jobs_of entries ++ front.job ∷ [] =
      map-append (λ (e : ℕ × Held). job_of e.1.stamp) entries ((identifier, under subscription envelope) ∷ []) ∙ ap (λ (j : Job). jobs_of entries ++ j ∷ []) job in
      let good = count_push acknowledges hand_outs one refl in
      let bad = count_push refuses hand_outs one refl in
      let off = count_push discards hand_outs one refl in (
        waits_first ∙ ap (λ (m : Message). m ∷ messages_in new.queue) (sym message),
        record {
          numbered = adds.form.slot ∙ shows.numbered;
          fits = adds.form.capacity ∙ shows.fits;
          goes_on = adds.step.made.2 ∙ shows.goes_on;
          counted =
              counted_as (length accepted) _ _ _ _ _ _ (jobs_of (entries ++ (identifier, under subscription envelope) ∷ [])) new (sym good) (sym bad) (sym off)
              (subst (λ (js : List Job). IsCounted (length accepted) (good_of hand_outs) (bad_of hand_outs) (off_of hand_outs) js new) (sym jobs)
              (hands old new (length accepted) (good_of hand_outs) (bad_of hand_outs) (off_of hand_outs) (jobs_of entries) shows.counted front.job adds));
          order = omega (arith, more, parts.0);
          queue = sym parts.1 ∙ ap (λ (n : ℕ). drop n accepted) (sym more);
          holds = omega (arith, ap length does.1, shows.holds);
          small = shows.small;
          none_returned = does.3 ∙ shows.none_returned;
          opens = open_push hand_outs slot subscription identifier ∙ ap (λ (l : List ℕ). l ++ identifier ∷ []) shows.opens ∙ sym (map-append (λ (e : ℕ × Held). e.0) entries ((identifier, under subscription envelope) ∷ []));
          ours = all_push (IsOf slot) entries (identifier, under subscription envelope) shows.ours (ap (λ (e : Held). e.stamp.group) does.2 ∙ shows.numbered, ap (λ (e : Held). e.place) does.2);
        },
      )

  -- ---- a message that is discarded as soon as it was handed out
  pub discarded_at_once : (mid new : Group) (envelope : Held) (subscription : Option ℕ) (identifier : ℕ) → HandsOut old 0 (Ok (Some envelope)) mid → IsSettled mid 0 envelope Discarded new
      → (drop (length hand_outs) accepted ≡ envelope.message ∷ messages_in new.queue)
      × ShowsGroup capacity slot accepted (hand_outs ++ handed slot subscription identifier WasDiscarded ∷ []) entries new
  discarded_at_once mid new envelope subscription identifier takes (inl does) =
      let settles = does.1 in
      let got = handed_one mid envelope subscription identifier takes in
      let held = got.1 in
      let one = handed slot subscription identifier WasDiscarded in
      let was = handed slot subscription identifier Unacknowledged in
      let entry : ℕ × Held = (identifier, under subscription envelope) in
      let job = job_of envelope.stamp in
      let jobs : jobs_of (entries ++ entry ∷ []) ≡ jobs_of entries ++ job ∷ [] = map-append (λ (e : ℕ × Held). job_of e.1.stamp) entries (entry ∷ []) in
      let less : HasMore job (jobs_of (entries ++ entry ∷ [])) (jobs_of entries) =
      λ other. omega (arith, ap (count_of other) jobs, count_of-append other (jobs_of entries) (job ∷ [])) in
      let same : length (hand_outs ++ one ∷ []) ≡ length (hand_outs ++ was ∷ []) = length_push hand_outs one ∙ sym (length_push hand_outs was) in
      let good = count_push acknowledges hand_outs was refl ∙ sym (count_push acknowledges hand_outs one refl) in
      let bad = count_push refuses hand_outs was refl ∙ sym (count_push refuses hand_outs one refl) in
      let off : off_of (hand_outs ++ was ∷ []) + 1 ≡ off_of (hand_outs ++ one ∷ []) = ap (λ (n : ℕ). n + 1) (count_push discards hand_outs was refl) ∙ sym (count_push_one discards hand_outs one refl) in (
        got.0 ∙ ap (λ (l : List Waiting). envelope.message ∷ messages_in l) (sym settles.queue),
        record {
          numbered = settles.event.form.slot ∙ held.numbered;
          fits = settles.event.form.capacity ∙ held.fits;
          goes_on = settles.event.step.made.2 ∙ held.goes_on;
          counted =
              counted_as (length accepted) _ _ _ _ _ _ (jobs_of entries) new good bad off
              (discarded_one mid new (length accepted) (good_of (hand_outs ++ was ∷ [])) (bad_of (hand_outs ++ was ∷ [])) (off_of (hand_outs ++ was ∷ [])) (jobs_of (entries ++ entry ∷ [])) held.counted
              envelope.place job (jobs_of entries) less settles.event);
          order = omega (arith, same, held.order);
          queue = ap messages_in settles.queue ∙ held.queue ∙ ap (λ (n : ℕ). drop n accepted) (sym same);
          holds = omega (arith, ap length settles.queue, held.holds);
          small = shows.small;
          none_returned = settles.returned ∙ held.none_returned;
          opens = open_discarded hand_outs slot subscription identifier ∙ shows.opens;
          ours = shows.ours;
        },
      )
  discarded_at_once mid new envelope subscription identifier takes (inr lets_go) =
      let held = (handed_one mid envelope subscription identifier takes).1 in
      let entry : ℕ × Held = (identifier, under subscription envelope) in
      let all = entries ++ entry ∷ [] in
      let job = job_of envelope.stamp in
      let jobs : jobs_of all ≡ jobs_of entries ++ job ∷ [] = map-append (λ (e : ℕ × Held). job_of e.1.stamp) entries (entry ∷ []) in
      let its : IsOf slot (identifier, envelope) = last_is (IsOf slot) entries entry held.ours in
      absurd
      (lets_go.stranger
      (is_out mid slot (length accepted) _ _ _ (jobs_of all) identifier envelope held.numbered held.counted its
      (omega (arith, ap (count_of job) jobs, count_of-append job (jobs_of entries) (job ∷ []), count_of-same job))))

  -- ---- a PUBACK
  module _ (identifier code : ℕ) where
    -- of another identifier
    pub settles_no_other : ¬ Contains (identifiers entries) identifier → ShowsGroup capacity slot accepted (map (settled identifier code) hand_outs) entries old
    settles_no_other absent =
        let none = settles_none identifier code hand_outs (λ c. absent (subst (λ (l : List ℕ). Contains l identifier) shows.opens c)) in
        subst (λ (hs : List HandOut). ShowsGroup capacity slot accepted hs entries old) (sym none) shows

    module _ (envelope : Held) (new : Group) (distinct : AreDistinct (identifiers entries)) (there : Contains entries (identifier, envelope)) where
      less : HasMore (job_of envelope.stamp) (jobs_of entries) (jobs_of (entries_without identifier entries))
      less = without_more entries identifier envelope distinct there

      out : IsOutAt old 0 envelope
      out =
          is_out old slot (length accepted) (good_of hand_outs) (bad_of hand_outs) (off_of hand_outs) (jobs_of entries) identifier envelope shows.numbered shows.counted
          (All-contains (IsOf slot) entries (identifier, envelope) (All-from_recursion (IsOf slot) entries shows.ours) there)
          (omega (arith, less (job_of envelope.stamp), count_of-same (job_of envelope.stamp)))

      -- how many are settled then, and how
      opened : AreDistinct (open_identifiers hand_outs) × Contains (open_identifiers hand_outs) identifier
      opened =
          (subst AreDistinct (sym shows.opens) distinct, subst (λ (l : List ℕ). Contains l identifier) (sym shows.opens) (contains_identifier entries identifier envelope there))

      good : good_of (map (settled identifier code) hand_outs) ≡ good_of hand_outs + cond (nat_lt code 128) 1 0
      good = count_settled identifier code acknowledges refl hand_outs opened.0 opened.1

      bad : bad_of (map (settled identifier code) hand_outs) ≡ bad_of hand_outs + cond (not (nat_lt code 128)) 1 0
      bad = count_settled identifier code refuses refl hand_outs opened.0 opened.1

      off : off_of (map (settled identifier code) hand_outs) ≡ off_of hand_outs
      off = count_settled identifier code discards refl hand_outs opened.0 opened.1 ∙ add-zero (off_of hand_outs)

      abbrev Counts : ℕ → ℕ → Type 0
      Counts a r = IsCounted (length accepted) a r (off_of hand_outs) (jobs_of (entries_without identifier entries)) new

      counts : (below : Bool) → nat_lt code 128 ≡ below → Settles old envelope (cond below Acknowledged Refused) new
          → Counts (good_of (map (settled identifier code) hand_outs)) (bad_of (map (settled identifier code) hand_outs))
      counts true is does =
          let a : good_of (map (settled identifier code) hand_outs) ≡ good_of hand_outs + 1 = good ∙ ap (λ b. good_of hand_outs + cond b 1 0) is in
          let r : bad_of (map (settled identifier code) hand_outs) ≡ bad_of hand_outs = bad ∙ ap (λ b. bad_of hand_outs + cond (not b) 1 0) is ∙ add-zero (bad_of hand_outs) in
          subst (λ (n : ℕ). Counts n (bad_of (map (settled identifier code) hand_outs))) (sym a)
          (subst (λ (n : ℕ). Counts (good_of hand_outs + 1) n) (sym r)
          (acknowledged_one old new (length accepted) (good_of hand_outs) (bad_of hand_outs) (off_of hand_outs) (jobs_of entries) shows.counted envelope.place (job_of envelope.stamp)
          (jobs_of (entries_without identifier entries)) less does.event))
      counts false is does =
          let a : good_of (map (settled identifier code) hand_outs) ≡ good_of hand_outs = good ∙ ap (λ b. good_of hand_outs + cond b 1 0) is ∙ add-zero (good_of hand_outs) in
          let r : bad_of (map (settled identifier code) hand_outs) ≡ bad_of hand_outs + 1 = bad ∙ ap (λ b. bad_of hand_outs + cond (not b) 1 0) is in
          subst (λ (n : ℕ). Counts n (bad_of (map (settled identifier code) hand_outs))) (sym a)
          (subst (λ (n : ℕ). Counts (good_of hand_outs) n) (sym r)
          (refused_one old new (length accepted) (good_of hand_outs) (bad_of hand_outs) (off_of hand_outs) (jobs_of entries) shows.counted envelope.place (job_of envelope.stamp)
          (jobs_of (entries_without identifier entries)) less does.event))

      keeps : (fate : Fate) → Settles old envelope fate new → (new.slot ≡ old.slot) × (new.capacity ≡ old.capacity) × (new.state.closed ≡ old.state.closed)
      keeps Acknowledged does = (does.event.form.slot, does.event.form.capacity, does.event.step.made.2)
      keeps Refused does = (does.event.form.slot, does.event.form.capacity, does.event.step.made.2)
      keeps Discarded does = (does.event.form.slot, does.event.form.capacity, does.event.step.made.2)

      did : Settles old envelope (fate_of code) new → ShowsGroup capacity slot accepted (map (settled identifier code) hand_outs) (entries_without identifier entries) new
      did does =
          let same = keeps (fate_of code) does in
          let long = length-map hand_outs (settled identifier code) in
          record {
            numbered = same.0 ∙ shows.numbered;
            fits = same.1 ∙ shows.fits;
            goes_on = same.2 ∙ shows.goes_on;
            counted =
                subst (λ (n : ℕ). IsCounted (length accepted) (good_of (map (settled identifier code) hand_outs)) (bad_of (map (settled identifier code) hand_outs)) n (jobs_of (entries_without identifier entries)) new) (sym off)
                (counts (nat_lt code 128) refl does);
            order = omega (arith, long, shows.order);
            queue = ap messages_in does.queue ∙ shows.queue ∙ ap (λ (n : ℕ). drop n accepted) (sym long);
            holds = omega (arith, ap length does.queue, shows.holds);
            small = shows.small;
            none_returned = does.returned ∙ shows.none_returned;
            opens = open_settled identifier code hand_outs ∙ ap (identifiers_without identifier) shows.opens ∙ sym (identifiers-without identifier entries);
            ours = all_kept (IsOf slot) (λ entry. not (entry.0 == identifier)) entries shows.ours;
          }

      pub settles : IsSettled old 0 envelope (fate_of code) new → ShowsGroup capacity slot accepted (map (settled identifier code) hand_outs) (entries_without identifier entries) new
      settles (inl does) = did does.1
      settles (inr discard) = absurd (discard.stranger out)

-- ---- the end

-- A group whose client is gone, or going: so many were accepted, acknowledged, refused and discarded, so many wait, so many were given back, and
-- these are out still.
pub record IsEnding (accepted good bad off queued returned : ℕ) (slot : ℕ) (entries : List (ℕ × Held)) (group : Group) : Type 0 where
  pub numbered : group.slot ≡ slot
  pub counted : IsCounted accepted good bad off (jobs_of entries) group
  pub waits : length group.queue ≡ queued
  pub back : length group.returned ≡ returned
  pub ours : AllByRecursion (IsOf slot) entries

pub ending : (capacity slot : ℕ) (accepted : List Message) (hand_outs : List HandOut) (entries : List (ℕ × Held)) (group : Group) → ShowsGroup capacity slot accepted hand_outs entries group
    → IsEnding (length accepted) (good_of hand_outs) (bad_of hand_outs) (off_of hand_outs) (length accepted - length hand_outs) 0 slot entries group
ending capacity slot accepted hand_outs entries group shows =
    record {
      numbered = shows.numbered;
      counted = shows.counted;
      waits = waiting capacity slot accepted hand_outs entries group shows ∙ length-drop (length hand_outs) accepted;
      back = ap length shows.none_returned;
      ours = shows.ours;
    }

-- the oldest of what is out is given back
pub one_back : (accepted good bad off queued returned slot : ℕ) (entry : ℕ × Held) (entries : List (ℕ × Held)) (old new : Group) → IsEnding accepted good bad off queued returned slot (entry ∷ entries) old
    → IsGivenBack old 0 entry.1 new → IsEnding accepted good bad off queued (returned + 1) slot entries new
one_back accepted good bad off queued returned slot entry entries old new is (inl does) =
    let job = job_of entry.1.stamp in
    let adds = does.1.event in
    record {
      numbered = adds.form.slot ∙ is.numbered;
      counted =
          given_back_one old new accepted good bad off (jobs_of (entry ∷ entries)) is.counted entry.1.place job (jobs_of entries) (λ other. count_of-cons other job (jobs_of entries)) adds;
      waits = ap length does.1.queue ∙ is.waits;
      back = ap length does.1.returned ∙ length_push old.returned _ ∙ ap (λ n. n + 1) is.back;
      ours = is.ours.1;
    }
one_back accepted good bad off queued returned slot entry entries old new is (inr discard) =
    let job = job_of entry.1.stamp in
    absurd
    (discard.stranger
    (is_out old slot accepted good bad off (jobs_of (entry ∷ entries)) entry.0 entry.1 is.numbered is.counted is.ours.0
    (omega (arith, count_of-cons job job (jobs_of entries), count_of-same job))))
