-- A hand-out carries the message that was accepted as its job.
use Rattle.std.proofs.Common.{◌≡◌, ◌≢◌, ℕ, zero, suc, ◌+◌, ◌<◌, ◌⊎◌, inl, inr, ⊎_elim, Bool, true, false, eqb, ltb, eq-eqb, List, [], ◌∷◌, ◌++◌, length, Contains, refl, sym, ap, ◌∙◌, subst, arith, length-append}
use Rattle.std.specs.Prelude.{map, filter, slice_get, Some, None}
use Rattle.std.proofs.lemmas.Bool.{ltb-true, ltb-false, cases_eq}
use Rattle.std.proofs.lemmas.List.Elements.{filter-append, Contains-append_left}
use Rattle.group_queue.specs.declared.posted.Posted.{Posted}
use Rattle.group_queue.specs.declared.view.Name.{Name}
use Rattle.group_queue.specs.declared.view.Name.TheVariants.{Port, Place, Finisher}
use Rattle.group_queue.specs.declared.view.View.{View}
use Rattle.group_queue.specs.Views.{same_name, one, keeper}
use Rattle.group_queue.specs.Past.{Pop, all_of, through, popped_by, AreNumbered, Fits, HasPast, IsKnown, IsWithOne}
use Rattle.group_queue.specs.Ports.{PortState, Shape}
use Rattle.group_queue.specs.Places.{PlaceState, jobs_in}
use Rattle.group_queue.specs.Ends.{HasAll, IsSent}
use Rattle.group_queue.specs.Known.{knowing}
use Rattle.group_queue.proofs.Lists.{same_name-refl}
use Rattle.group_queue.proofs.MainLaws.{posts, popped_apart, front_rise}
use Rattle.group_queue.proofs.MainEnds.{place_popped, port_sent}

module _ {X : Type 0} where
  contains_cons : (x : X) (xs : List X) (y : X) → Contains (x ∷ xs) y → (x ≡ y) ⊎ Contains xs y
  contains_cons x xs y (zero, less, is) = inl is
  contains_cons x xs y (suc k, less, is) = inr (k, omega arith, is)

  contains_later : (x : X) (xs : List X) (y : X) → Contains xs y → Contains (x ∷ xs) y
  contains_later x xs y (k, less, is) = (suc k, omega arith, is)

  contains_none : (xs : List X) (y : X) → xs ≡ [] → ¬ Contains xs y
  contains_none [] y e (k, less, is) = omega arith
  contains_none (x ∷ xs) y e h = absurd (cc)

  -- a list that is cut where an element first stands
  cut_at : (xs : List X) (y : X) → Contains xs y → (front : List X) × (behind : List X) × (xs ≡ front ++ y ∷ behind)
  cut_at [] y (k, less, is) = absurd (omega arith)
  cut_at (x ∷ xs) y (zero, less, is) = ([], xs, ap (λ z. z ∷ xs) is)
  cut_at (x ∷ xs) y (suc k, less, is) = let rest = cut_at xs y (k, omega arith, is) in (x ∷ rest.0, rest.1, ap (λ l. x ∷ l) rest.2)

  at_cut : (front : List X) (y : X) (behind : List X) → slice_get (front ++ y ∷ behind) (length front) ≡ Some y
  at_cut [] y behind = refl
  at_cut (x ∷ front) y behind = at_cut front y behind

  -- what stands in front of the cut
  in_front : (front behind : List X) (k : ℕ) (y : X) → slice_get (front ++ behind) k ≡ Some y → k < length front → Contains front y
  in_front [] behind k y at less = absurd (omega arith)
  in_front (x ∷ front) behind zero y at less = (0, omega arith, cc)
  in_front (x ∷ front) behind (suc k) y at less = contains_later x front y (in_front front behind k y at (omega arith))

  filter_kept : (p : X → Bool) (x : X) (xs : List X) → p x ≡ true → filter p (x ∷ xs) ≡ x ∷ filter p xs
  filter_kept p x xs is = rw is refl

  filter_left : (p : X → Bool) (x : X) (xs : List X) → p x ≡ false → filter p (x ∷ xs) ≡ filter p xs
  filter_left p x xs is = rw is refl

  kept_step : (p : X → Bool) (x : X) (xs : List X) (y : X) → (Contains (filter p xs) y → Contains xs y) → Contains (filter p (x ∷ xs)) y → (b : Bool) → p x ≡ b → Contains (x ∷ xs) y
  kept_step p x xs y rest h true is =
      ⊎_elim (λ same. (0, omega arith, same)) (λ t. contains_later x xs y (rest t)) (contains_cons x (filter p xs) y (subst (λ l. Contains l y) (filter_kept p x xs is) h))
  kept_step p x xs y rest h false is = contains_later x xs y (rest (subst (λ l. Contains l y) (filter_left p x xs is) h))

  -- what is kept of a list stands in it
  kept_in : (p : X → Bool) (xs : List X) (y : X) → Contains (filter p xs) y → Contains xs y
  kept_in p [] y h = h
  kept_in p (x ∷ xs) y h = kept_step p x xs y (kept_in p xs y) h (p x) refl

-- a message stands among all that came through its port, at its number
pub at_its_number : (all : List Posted) → AreNumbered all → (x : Posted) → Contains all x → slice_get (through x.job.port all) x.job.number ≡ Some x
at_its_number all numbered x there =
    let p : Posted → Bool = λ posted. eqb posted.job.port x.job.port in
    let cut = cut_at all x there in
    let front = filter p cut.0 in
    let whole : through x.job.port all ≡ front ++ x ∷ filter p cut.1 =
    ap (through x.job.port) cut.2 ∙ (filter-append p cut.0 (x ∷ cut.1) ∙ ap (λ l. front ++ l) (filter_kept p x cut.1 (eq-eqb x.job.port x.job.port refl))) in
    let at = (numbered cut.0 cut.1 x cut.2).0 in
    subst (λ (q : List Posted × ℕ). slice_get q.0 q.1 ≡ Some x) (λ i. (sym whole i, sym at i)) (at_cut front x (filter p cut.1))

popped_step : (name : Name) (a : Pop) (past : List Pop) (x : Posted) → (Contains (popped_by name past) x → Contains (posts past) x) → Contains (popped_by name (a ∷ past)) x
    → (b : Bool) → same_name a.by name ≡ b → Contains (posts (a ∷ past)) x
popped_step name a past x rest h true is =
    ⊎_elim (λ same. (0, omega arith, same)) (λ t. contains_later a.posted (posts past) x (rest t)) (contains_cons a.posted (popped_by name past) x (rw is at h))
popped_step name a past x rest h false is = contains_later a.posted (posts past) x (rest (rw is at h))

-- what somebody popped was popped
pub popped_among : (name : Name) (past : List Pop) (x : Posted) → Contains (popped_by name past) x → Contains (posts past) x
popped_among name [] x h = h
popped_among name (a ∷ past) x h = popped_step name a past x (popped_among name past x) h (same_name a.by name) refl

more_step : (name : Name) (a : Pop) (past : List Pop) (x : Posted) → Contains (popped_by name past) x → (b : Bool) → same_name a.by name ≡ b → Contains (popped_by name (a ∷ past)) x
more_step name a past x h true is = rw is (contains_later a.posted (popped_by name past) x h)
more_step name a past x h false is = rw is h

here_step : (a : Pop) (past : List Pop) (x : Posted) → a.posted ≡ x → (b : Bool) → same_name a.by a.by ≡ true → Contains (popped_by a.by (a ∷ past)) x
here_step a past x same b is = rw is (0, omega arith, same)

-- what was popped, somebody popped
by_somebody : (past : List Pop) (x : Posted) → Contains (posts past) x → (name : Name) × Contains (popped_by name past) x
by_somebody [] x (k, less, is) = absurd (omega arith)
by_somebody (a ∷ past) x h = ⊎_elim
    (λ same. (a.by, here_step a past x same true (same_name-refl a.by)))
    (λ t. let rest = by_somebody past x t in (rest.0, more_step rest.0 a past x rest.1 (same_name a.by rest.0) refl))
    (contains_cons a.posted (posts past) x h)

-- what has this number
port_with : (ports : List PortState) (n : ℕ) → Contains (map (λ (p : PortState). p.number) ports) n → (p : PortState) × Contains ports p × (p.number ≡ n)
port_with [] n (k, less, is) = absurd (omega arith)
port_with (p ∷ ports) n (zero, less, is) = (p, (0, omega arith, refl), is)
port_with (p ∷ ports) n (suc k, less, is) = let rest = port_with ports n (k, omega arith, is) in (rest.0, contains_later p ports rest.0 rest.1, rest.2)

-- who has all names
module _ (past : List Pop) (items : List Posted) (owner : Name → ℕ) (pass : ℕ) (shape : Shape) (left : List Posted) (places : List PlaceState) (ports : List PortState)
    (no_port : (port : ℕ) → popped_by (Port port) past ≡ [])
    (fits : Fits past items owner pass (knowing shape left places ports))
    (all_places : HasAll shape.places (map (λ (p : PlaceState). p.number) places))
    (all_ports : HasAll shape.ports (map (λ (p : PortState). p.number) ports))
    (numbered : AreNumbered (all_of past items)) where
  sent_below : (x : Posted) → slice_get (through x.job.port (all_of past items)) x.job.number ≡ Some x → (b : Bool) → ltb x.job.port shape.ports ≡ b → IsSent ports x
  sent_below x at true is =
      let there = port_with ports x.job.port (all_ports x.job.port (ltb-true x.job.port shape.ports is)) in
      let sent = port_sent past items owner pass shape left places ports no_port fits all_places all_ports there.0 there.1 in
      let same : there.0.sent ≡ through x.job.port (all_of past items) = sent ∙ ap (λ n. through n (all_of past items)) there.2 in
      (there.0, there.1, there.2, ap (λ l. slice_get l x.job.number) same ∙ at)
  sent_below x at false is =
      let none : through x.job.port (all_of past items) ≡ [] = (fits.ports refl x.job.port (ltb-false x.job.port shape.ports is)).1 in
      let nowhere : None ≡ Some x = sym (ap (λ l. slice_get l x.job.number) none) ∙ at in
      absurd (cc)

  -- what a place was the first to be handed is what its port sent under that number
  pub first_as_sent : (p : PlaceState) → Contains places p → (x : Posted) → Contains p.firsts x → IsSent ports x
  first_as_sent p here x there =
      let mine = place_popped past items owner pass shape left places ports no_port fits all_places all_ports p here in
      let popped = popped_among (Place p.number) past x (subst (λ l. Contains l x) mine there) in
      sent_below x (at_its_number (all_of past items) numbered x (Contains-append_left (posts past) items x popped)) (ltb x.job.port shape.ports) refl

-- of what stood so at one moment
module _ (items : List Posted) (views : List View) (h : HasPast items views) where
  firsts_are : (place : ℕ) (firsts : List Posted) → IsKnown views (one (Place place) firsts) → firsts ≡ popped_by (Place place) h.past
  firsts_are place firsts known = (h.fits known.0 (one (Place place) firsts) known.1).entries.0.1

  sent_is : (port : ℕ) (sent : List Posted) → IsKnown views (one (Port port) sent) → sent ≡ through port (all_of h.past items)
  sent_is port sent known = (h.fits known.0 (one (Port port) sent) known.1).entries.0.1

  pub carried_one : (place port : ℕ) (firsts sent : List Posted) → IsKnown views (one (Place place) firsts) → IsKnown views (one (Port port) sent)
      → (x : Posted) → Contains firsts x → x.job.port ≡ port → slice_get sent x.job.number ≡ Some x
  carried_one place port firsts sent at at' x there same =
      let popped = popped_among (Place place) h.past x (subst (λ l. Contains l x) (firsts_are place firsts at) there) in
      ap (λ l. slice_get l x.job.number) (sent_is port sent at' ∙ ap (λ n. through n (all_of h.past items)) (sym same))
      ∙ at_its_number (all_of h.past items) h.numbered x (Contains-append_left (posts h.past) items x popped)

  job_of-there : (list : List Posted) (x : Posted) → Contains list x → Contains (jobs_in list) x.job
  job_of-there [] x (k, less, is) = absurd (omega arith)
  job_of-there (y ∷ ys) x (zero, less, is) = (0, omega arith, ap (λ (posted : Posted). posted.job) is)
  job_of-there (y ∷ ys) x (suc k, less, is) = contains_later y.job (jobs_in ys) x.job (job_of-there ys x (k, omega arith, is))

  module _ (ports places : ℕ) (kept : IsKnown views (keeper ports places))
      (each : (place : ℕ) → place < places → (firsts : List Posted) × IsKnown views (one (Place place) firsts)) (x : Posted) where
    keeps : Fits h.past items h.owner kept.0 (keeper ports places)
    keeps = h.fits kept.0 (keeper ports places) kept.1

    same_place : (place other : ℕ) (firsts others : List Posted) → IsKnown views (one (Place place) firsts) → IsKnown views (one (Place other) others) → Contains firsts x → Contains others x
        → (other ≡ place) ⊎ (other ≢ place) → other ≡ place
    same_place place other firsts others at at' here there (inl same) = same
    same_place place other firsts others at at' here there (inr ne) =
        let differ : Place other ≢ Place place = λ e. ne cc in
        absurd (popped_apart (Place other) (Place place) differ h.past (front_rise (posts h.past) items h.numbered) x.job
        (subst (λ l. Contains (jobs_in l) x.job) (firsts_are other others at') (job_of-there others x there))
        (subst (λ l. Contains (jobs_in l) x.job) (firsts_are place firsts at) (job_of-there firsts x here)))

    place_below : (place : ℕ) → Contains (popped_by (Place place) h.past) x → (b : Bool) → ltb place places ≡ b → IsWithOne views places x
    place_below place there true is =
        let less = ltb-true place places is in
        let view = each place less in
        let here = subst (λ l. Contains l x) (sym (firsts_are place view.0 view.1)) there in
        record {
          place = place;
          within = less;
          firsts = view.0;
          known = view.1;
          there = here;
          only = (λ other others at' there'. same_place place other view.0 others view.1 at' here there' (cases_eq other place));
        }
    place_below place there false is = absurd (contains_none (popped_by (Place place) h.past) x (keeps.places refl place (ltb-false place places is)).1 there)

    by_name : (name : Name) → Contains (popped_by name h.past) x → IsWithOne views places x
    by_name (Port port) there = absurd (contains_none (popped_by (Port port) h.past) x (h.no_port port) there)
    by_name (Place place) there = place_below place there (ltb place places) refl
    by_name Finisher there = absurd (contains_none (popped_by Finisher h.past) x (sym keeps.entries.0.1) there)

    pub with_one : (port : ℕ) (sent : List Posted) → IsKnown views (one (Port port) sent) → (number : ℕ) → slice_get sent number ≡ Some x → number + length (through port items) < length sent → IsWithOne views places x
    with_one port sent at' number at less =
        let p : Posted → Bool = λ posted. eqb posted.job.port port in
        let front = through port (posts h.past) in
        let whole : sent ≡ front ++ through port items = sent_is port sent at' ∙ filter-append p (posts h.past) items in
        let long = ap length whole ∙ length-append front (through port items) in
        let here = in_front front (through port items) number x (ap (λ l. slice_get l number) (sym whole) ∙ at) (omega (arith, less, long)) in
        let by = by_somebody h.past x (kept_in p (posts h.past) x here) in
        by_name by.0 by.1
