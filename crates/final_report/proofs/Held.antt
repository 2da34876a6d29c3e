-- What is out at the places that a lawful desk had is what its sessions held.
use Rattle.std.proofs.Common.{◌≡◌, ◌≢◌, ℕ, zero, suc, ◌+◌, ◌<◌, ◌&&◌, Bool, true, false, cond, eqb, ne_eqb, true-eqb, false-eqb, T, List, [], ◌∷◌, All, Ordering, Less, Equal, Greater, is_lt, is_eq, nat_cmp, refl, sym, ap, ◌∙◌, arith}
use Rattle.std.specs.Prelude.{Option, None, Some, Result, Err, slice_get, sum_by}
use Rattle.std.specs.FinMap as rows
use Rattle.std.specs.FinMap.{entries_sorted, get-entries}
use Rattle.std.specs.FinMap.Entries.{below_all, find, is_sorted}
use Rattle.std.specs.Cmp.{nat_cmp_is, ranked}
use Rattle.std.proofs.lemmas.List.Elements.{All-head, All-tail}
use Rattle.std.proofs.lemmas.List.Sums.{sum_by-cons}
use Rattle.std.proofs.lemmas.Option.{none-some, slice_get_within}
use Rattle.dispatch_core.specs.declared.event.Job.{Job}
use Rattle.dispatch_core.specs.JobRuns.{count_of}
use Rattle.group_jobs.specs.declared.stamp.Stamp.{Stamp}
use Rattle.group_jobs.specs.Stamps.{Held, job_of}
use Rattle.group_jobs.specs.declared.report.Report.{Report}
use Rattle.group_queue.specs.declared.error.Lack.TheVariants.{Port, Place, Envelope}
use Rattle.group_queue.specs.declared.error.FinishError.{FinishError}
use Rattle.group_queue.specs.declared.error.FinishError.TheVariants.{Missing, Stranger, Memory}
use Rattle.group_queue.specs.declared.finish.Unfinished.{Unfinished}
use Rattle.group_queue.specs.Ends.{IsBecause, times_held, times_out}
use Rattle.group_queue.specs.Ports.{GroupId, PortState}
use Rattle.group_queue.specs.Places.{PlaceState}
use Rattle.session_desk.specs.declared.row.Row.{Row}
use Rattle.session_desk.specs.declared.session.Session.{Session}
use Rattle.session_desk.specs.declared.session.Membership.{Membership}
use Rattle.session_desk.specs.declared.session.Membership.TheVariants.{NotMember, Member, Leaving}
use Rattle.session_desk.specs.Books.{Books}
use Rattle.session_desk.specs.Calls.{Call}
use Rattle.session_desk.specs.Everything.{HasAll, items_of, place_in, place_of, free_in}
use Rattle.session_desk.specs.Rows.{session_in}
use Rattle.conn_supply.specs.Holding.{AreOut, IsOutAtPlace, messages}
use Rattle.broker_groups.specs.Outs.{HasOut, IsHandedTo, jobs_out}
use Rattle.broker_groups.specs.Endings.{AreEnded, joined, port_slot, place_slot, held_slot}
use Rattle.broker_groups.specs.Sorting.{at_slot}
use Rattle.shared_desk.specs.Books.{IsLawful}
use Rattle.shared_supply.specs.Endings.{IsAllBehind}
use Rattle.final_report.specs.Brokers.{LacksNoMessage, NoneLacksAMessage}

-- ---- the rows of a desk, one by one

below : (o : Ordering) (a b : ℕ) → o ≡ nat_cmp a b → T (is_lt o) → a < b
below Less a b is less = ranked a b Less is
below Equal a b is less = absurd less
below Greater a b is less = absurd less

both_pass : (a b : Bool) → T (a && b) → T a × T b
both_pass true b passes = (tt, passes)
both_pass false b passes = absurd passes

module _ {X : Type 0} where
  -- what is found among entries with greater keys has a greater key
  found_above : (es : List (ℕ × X)) (least key : ℕ) (x : X) → T (below_all nat_cmp least es) → find nat_cmp key es ≡ Some x → least < key
  found_above [] least key x above is = absurd (none-some x is)
  found_above (e ∷ es) least key x above is =
      let all = both_pass (is_lt (nat_cmp least e.0)) (below_all nat_cmp least es) above in
      at (nat_cmp key e.0) refl (below (nat_cmp least e.0) least e.0 refl all.0) (found_above es least key x all.1) is
    where
      at : (o : Ordering) → o ≡ nat_cmp key e.0 → least < e.0 → (find nat_cmp key es ≡ Some x → least < key) → cond (is_eq o) (Some e.1) (find nat_cmp key es) ≡ Some x → least < key
      at Less o less rest is = rest is
      at Equal o less rest is = let same = ranked key e.0 Equal o in omega (arith, same, less)
      at Greater o less rest is = rest is

  -- so it is found with the first entry before them, too
  found_behind : (e : ℕ × X) (es : List (ℕ × X)) (key : ℕ) (x : X) → T (below_all nat_cmp e.0 es) → find nat_cmp key es ≡ Some x → find nat_cmp key (e ∷ es) ≡ Some x
  found_behind e es key x above is = at (nat_cmp key e.0) refl
    where
      at : (o : Ordering) → o ≡ nat_cmp key e.0 → cond (is_eq o) (Some e.1) (find nat_cmp key es) ≡ Some x
      at Less o = is
      at Equal o = let same = ranked key e.0 Equal o in let less = found_above es e.0 key x above is in absurd (omega (arith, same, less))
      at Greater o = is

  found_first : (e : ℕ × X) (es : List (ℕ × X)) → find nat_cmp e.0 (e ∷ es) ≡ Some e.1
  found_first e es = ap (λ o. cond (is_eq o) (Some e.1) (find nat_cmp e.0 es)) (sym (nat_cmp_is e.0 e.0 Equal refl))

  -- two measures agree on all entries that agree on each that is found
  pub same_sums : (f g : X → ℕ) (es : List (ℕ × X)) → T (is_sorted nat_cmp es) → ((key : ℕ) (x : X) → find nat_cmp key es ≡ Some x → f x ≡ g x)
      → sum_by (λ (e : ℕ × X). f e.1) es ≡ sum_by (λ (e : ℕ × X). g e.1) es
  same_sums f g [] sorted same = refl
  same_sums f g (e ∷ es) sorted same =
      let parts = both_pass (below_all nat_cmp e.0 es) (is_sorted nat_cmp es) sorted in
      omega (
        arith,
        sum_by-cons (λ (e : ℕ × X). f e.1) e es,
        sum_by-cons (λ (e : ℕ × X). g e.1) e es,
        same e.0 e.1 (found_first e es),
        same_sums f g es parts.1 (λ key x is. same key x (found_behind e es key x parts.0 is)),
      )

-- ---- a message, and the places that have it out

module _ (stamp : Stamp) where
  -- 1 for a message of this stamp
  abbrev pub is_of : Held → ℕ
  is_of envelope = cond {A = ℕ} ((eqb envelope.stamp.group stamp.group) && ((eqb envelope.stamp.port stamp.port) && (eqb envelope.stamp.number stamp.number))) 1 0

  -- how often a place has it out
  abbrev pub out_at : PlaceState → ℕ
  out_at place = cond (eqb place.group stamp.group) (count_of (job_of stamp) place.docket.out) 0

  abbrev is_job : Held → ℕ
  is_job envelope = cond {A = ℕ} ((eqb envelope.stamp.port stamp.port) && (eqb envelope.stamp.number stamp.number)) 1 0

  jobs_counted : (all : List Held) → count_of (job_of stamp) (jobs_out all) ≡ sum_by is_job all
  jobs_counted [] = refl
  jobs_counted (envelope ∷ all) = omega (arith, jobs_counted all, sum_by-cons is_job envelope all, sum_by-cons (λ (job : Job). cond {A = ℕ} ((eqb job.port stamp.port) && (eqb job.number stamp.number)) 1 0) (job_of envelope.stamp) (jobs_out all))

  -- what was handed to a place counts by the place's group
  handed_to : (place : PlaceState) (envelope : Held) → IsHandedTo place envelope → is_of envelope ≡ cond (eqb place.group stamp.group) (is_job envelope) 0
  handed_to place envelope handed =
      ap (λ group. cond {A = ℕ} ((eqb group stamp.group) && ((eqb envelope.stamp.port stamp.port) && (eqb envelope.stamp.number stamp.number))) 1 0) handed.0
      ∙ nested (eqb place.group stamp.group) ((eqb envelope.stamp.port stamp.port) && (eqb envelope.stamp.number stamp.number))
    where
      nested : (a b : Bool) → cond {A = ℕ} (a && b) 1 0 ≡ cond {A = ℕ} a (cond b 1 0) 0
      nested true b = refl
      nested false b = refl

  all_handed : (place : PlaceState) (all : List Held) → All (IsHandedTo place) all → sum_by is_of all ≡ cond (eqb place.group stamp.group) (sum_by is_job all) 0
  all_handed place [] its = by (eqb place.group stamp.group)
    where
      by : (b : Bool) → sum_by is_of [] ≡ cond b (sum_by is_job []) 0
      by true = refl
      by false = refl
  all_handed place (envelope ∷ all) its =
      omega (
        arith,
        sum_by-cons is_of envelope all,
        handed_to place envelope (All-head (IsHandedTo place) envelope all its),
        all_handed place all (All-tail (IsHandedTo place) envelope all its),
        by (eqb place.group stamp.group),
      )
    where
      by : (b : Bool) → cond b (is_job envelope) 0 + cond b (sum_by is_job all) 0 ≡ cond b (sum_by is_job (envelope ∷ all)) 0
      by true = sym (sum_by-cons is_job envelope all)
      by false = refl

  -- just what is out at a place counts as often as the place has it out
  pub as_out : (place : PlaceState) (all : List Held) → HasOut place all → sum_by is_of all ≡ out_at place
  as_out place all out =
      all_handed place all out.its ∙ ap (λ n. cond (eqb place.group stamp.group) n 0) (sym (jobs_counted all) ∙ out.jobs (job_of stamp))

  one_place : (place : PlaceState) → sum_by out_at (place ∷ []) ≡ out_at place
  one_place place = omega (arith, sum_by-cons out_at place [])

  member : (membership : Membership PlaceState) (all : List Held) → AreOut HasOut membership all → sum_by is_of all ≡ sum_by out_at (place_in membership)
  member NotMember all none = ap (sum_by is_of) none
  member (Member place) all out = as_out place all out ∙ sym (one_place place)
  member (Leaving place) all out = as_out place all out ∙ sym (one_place place)

  kept : (session : Option (Session Held PlaceState)) → ((its : Session Held PlaceState) → session ≡ Some its → IsOutAtPlace HasOut its) → sum_by is_of (items_of session) ≡ sum_by out_at (place_of session)
  kept None out = refl
  kept (Some session) out = member session.membership (messages session.window) (out session refl)

  none_free : (free : List (Option PlaceState)) → ((cell : ℕ) (place : PlaceState) → slice_get free cell ≡ Some (Some place) → HasOut place []) → sum_by (λ cell. sum_by out_at (free_in cell)) free ≡ 0
  none_free [] out = refl
  none_free (None ∷ free) out = omega (arith, sum_by-cons (λ cell. sum_by out_at (free_in cell)) None free, none_free free (λ cell place is. out (suc cell) place is))
  none_free (Some place ∷ free) out =
      omega (
        arith,
        sum_by-cons (λ cell. sum_by out_at (free_in cell)) (Some place) free,
        one_place place,
        as_out place [] (out zero place refl),
        none_free free (λ cell place is. out (suc cell) place is),
      )

  -- **each message is held as often as the places have it out**
  pub held_is_out : (books : Books Held PlaceState) (places : List PlaceState) (held : List Held) → IsLawful HasOut books → HasAll books places held → sum_by is_of held ≡ sum_by out_at places
  held_is_out books places held lawful all =
      let f : Row Held PlaceState → ℕ = λ row. sum_by is_of (items_of (session_in row.held_by)) in
      let g : Row Held PlaceState → ℕ = λ row. sum_by out_at (place_of (session_in row.held_by)) in
      omega (
        arith,
        all.items is_of,
        all.places out_at,
        none_free books.free lawful.out.places,
        same_sums f g (rows.entries books.rows) (entries_sorted books.rows)
            (λ number row is. kept (session_in row.held_by) (λ session has. lawful.out.sessions number row session (get-entries books.rows number ∙ is) has)),
      )

  -- ---- of one group

  module _ (slot : ℕ) (less : slot < 8) where
    -- a message of this stamp is sorted to the slot of its group, if it is sorted to one
    apart : (envelope : Held) → stamp.group ≢ slot → eqb (held_slot envelope) slot ≡ true → is_of envelope ≡ 0
    apart envelope other at =
        let group = true-eqb (held_slot envelope) slot (sym at) in
        by (ne_eqb envelope.stamp.group stamp.group (λ same. other (omega (arith, same, group, less))))
      where
        by : eqb envelope.stamp.group stamp.group ≡ false → is_of envelope ≡ 0
        by is = ap (λ b. cond {A = ℕ} (b && ((eqb envelope.stamp.port stamp.port) && (eqb envelope.stamp.number stamp.number))) 1 0) is

    elsewhere : (envelope : Held) → stamp.group ≡ slot → eqb (held_slot envelope) slot ≡ false → is_of envelope ≡ 0
    elsewhere envelope same at =
        by (ne_eqb envelope.stamp.group stamp.group (λ is. false-eqb (held_slot envelope) slot (sym at) (omega (arith, is, same, less))))
      where
        by : eqb envelope.stamp.group stamp.group ≡ false → is_of envelope ≡ 0
        by is = ap (λ b. cond {A = ℕ} (b && ((eqb envelope.stamp.port stamp.port) && (eqb envelope.stamp.number stamp.number))) 1 0) is

    -- of another group none is sorted to this slot
    none_apart : (held : List Held) → stamp.group ≢ slot → times_held stamp (at_slot held_slot slot held) ≡ 0
    none_apart [] other = refl
    none_apart (envelope ∷ held) other = by (eqb (held_slot envelope) slot) refl (none_apart held other)
      where
        by : (b : Bool) → eqb (held_slot envelope) slot ≡ b → sum_by is_of (at_slot held_slot slot held) ≡ 0 → sum_by is_of (cond b (envelope ∷ at_slot held_slot slot held) (at_slot held_slot slot held)) ≡ 0
        by true at rest = omega (arith, sum_by-cons is_of envelope (at_slot held_slot slot held), apart envelope other at, rest)
        by false at rest = rest

    -- and of this group all are
    all_here : (held : List Held) → stamp.group ≡ slot → times_held stamp (at_slot held_slot slot held) ≡ sum_by is_of held
    all_here [] same = refl
    all_here (envelope ∷ held) same = by (eqb (held_slot envelope) slot) refl (all_here held same) ∙ sym (sum_by-cons is_of envelope held)
      where
        by : (b : Bool) → eqb (held_slot envelope) slot ≡ b → sum_by is_of (at_slot held_slot slot held) ≡ sum_by is_of held
            → sum_by is_of (cond b (envelope ∷ at_slot held_slot slot held) (at_slot held_slot slot held)) ≡ is_of envelope + sum_by is_of held
        by true at rest = omega (arith, sum_by-cons is_of envelope (at_slot held_slot slot held), rest)
        by false at rest = omega (arith, elsewhere envelope same at, rest)

    abbrev out : PlaceState → ℕ
    out place = count_of (job_of stamp) place.docket.out

    all_out : (places : List PlaceState) → stamp.group ≡ slot → sum_by out (at_slot place_slot slot places) ≡ sum_by out_at places
    all_out [] same = refl
    all_out (place ∷ places) same =
        by (eqb place.group slot) (all_out places same) ∙ ap (λ n. cond (eqb place.group n) (out place) 0 + sum_by out_at places) (sym same) ∙ sym (sum_by-cons out_at place places)
      where
        by : (b : Bool) → sum_by out (at_slot place_slot slot places) ≡ sum_by out_at places
            → sum_by out (cond b (place ∷ at_slot place_slot slot places) (at_slot place_slot slot places)) ≡ cond b (out place) 0 + sum_by out_at places
        by true rest = omega (arith, sum_by-cons out place (at_slot place_slot slot places), rest)
        by false rest = omega (arith, rest)

    pub held_at_slot : (group : GroupId) (books : Books Held PlaceState) (places : List PlaceState) (held : List Held) → group.slot ≡ slot → IsLawful HasOut books → HasAll books places held
        → times_held stamp (at_slot held_slot slot held) ≡ times_out group stamp (at_slot place_slot slot places)
    held_at_slot group books places held named lawful all = by (eqb stamp.group group.slot) refl
      where
        by : (b : Bool) → eqb stamp.group group.slot ≡ b
            → times_held stamp (at_slot held_slot slot held) ≡ cond b (sum_by out (at_slot place_slot slot places)) 0
        by true is =
            let same = true-eqb stamp.group group.slot (sym is) ∙ named in
            all_here held same ∙ held_is_out books places held lawful all ∙ sym (all_out places same)
        by false is = none_apart held (λ same. false-eqb stamp.group group.slot (sym is) (same ∙ sym named))

-- so no group lacks a message
pub lacks_no_message : (group : GroupId) (ports : List PortState) (places : List PlaceState) (held : List Held) (error : FinishError)
    → ((stamp : Stamp) → times_held stamp held ≡ times_out group stamp places) → IsBecause group ports places held error → LacksNoMessage error
lacks_no_message group ports places held (Missing (Port number)) same because = tt
lacks_no_message group ports places held (Missing (Place number)) same because = tt
lacks_no_message group ports places held (Missing (Envelope stamp)) same because = omega (arith, same stamp, because.2)
lacks_no_message group ports places held (Stranger stamp) same because = omega (arith, same stamp, because.3)
lacks_no_message group ports places held Memory same because = tt

pub none_lacks : {W : Type 0} (group : ℕ → GroupId) (calls : List (Call Held PlaceState)) (ports : List (List PortState)) (places : List PlaceState) (held : List Held) (answers : List (Result Report (Unfinished W)))
    → AreEnded group ports places held answers → IsAllBehind calls places held → NoneLacksAMessage answers
none_lacks group calls ports places held answers ended had slot left at =
    let less : slot < 8 = (let within = slice_get_within answers slot (Err left) at in omega (arith, within, ended.all)) in
    lacks_no_message (group slot) (at_slot port_slot slot (joined ports)) (at_slot place_slot slot places) (at_slot held_slot slot held) left.error
    (λ stamp. held_at_slot stamp slot less (group slot) had.books places held (ended.slots slot less) had.led.lawful had.all)
    (ended.each slot (Err left) at).0
