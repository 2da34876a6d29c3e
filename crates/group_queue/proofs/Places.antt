-- What a step of one of its passes makes of a place.
use Rattle.std.proofs.Common.{◌≡◌, ◌≢◌, ℕ, zero, suc, ◌+◌, ◌<◌, ◌≤◌, length, slice_get, length-append, List, [], ◌∷◌, ◌++◌, All, Option, Some, None, refl, sym, ap, ◌∙◌, subst, arith}
use Rattle.std.specs.Prelude.{map, MatchOption, ◌-◌, Bool, true, false, Result, Ok, Err}
use Rattle.std.proofs.Common.{Global}
use Rattle.atomic_blocks.specs.declared.web.Seat.{Seat}
use Rattle.crossbeam_queue.specs.declared.seg_queue.Going.{Going}
use Rattle.crossbeam_queue.specs.SegTies.{SegId, IsSeatOf}
use Rattle.std.proofs.lemmas.List.Elements.{All-append, All-cons, All-nil, All-head}
use Rattle.crossbeam_queue.specs.Passes.{Pass, view}
use Rattle.dispatch_core.specs.declared.event.Job.{Job}
use Rattle.dispatch_core.specs.JobRuns.{jobs_of, count_of}
use Rattle.group_jobs.specs.declared.fate.Fate.{Fate}
use Rattle.group_jobs.specs.declared.fate.Fate.TheVariants.{Acknowledged, Refused, Discarded}
use Rattle.std.proofs.lemmas.List.Sums.{sum_by-append}
use Rattle.group_jobs.specs.declared.ledger.Ledger.{Ledger}
use Rattle.group_jobs.specs.Settled.{settled_as, IsUnsettled, KeepsSettled, Settles}
use Rattle.shared_ledger.specs.declared.share.LedgerShare.{LedgerShare}
use Rattle.shared_ledger.specs.Giving.{times_in}
use Rattle.shared_ledger.specs.Givers.{GiverState, GivesAll, Gathers}
use Rattle.group_jobs.specs.declared.error.JobError.{JobError}
use Rattle.group_jobs.specs.Dockets.{Kept, TakesOff}
use Rattle.group_jobs.proofs.Taking.{All-taken}
use Rattle.group_queue.specs.declared.posted.Posted.{Posted}
use Rattle.group_queue.specs.declared.place.Passes.{Passes}
use Rattle.group_queue.specs.declared.view.Name.TheVariants.{Place}
use Rattle.group_queue.specs.Views.{one, keeper, list_in, IsOf}
use Rattle.group_queue.specs.declared.view.View.{View}
use Rattle.group_queue.specs.declared.view.Bag.{Bag}
use Rattle.group_queue.specs.Past.{Pop, Takes}
use Rattle.group_queue.specs.Returns.{bag, bag_of, PopsBack, PushesBack}
use Rattle.group_queue.specs.Places.{PlaceState, IsPlaceOf, IsNewPlace, AreNewPlaces, jobs_in}
use Rattle.group_queue.specs.Ports.{GroupId, PortState, IsPortOf, new_port, AreNewPorts}
use Rattle.std.proofs.lemmas.Option.{get_or_from_slice_get}
use mathlib.Core.Logic.{dite}
use native.Mathlib.Decide.{ℕ_discrete}
use Rattle.group_queue.specs.Openings.{AreLeftOf}
use Rattle.group_queue.specs.Takers.{hands_of, AreBare, IsInHands, IsKept}
use Rattle.group_queue.proofs.Ports.{list-grown, of-grown}
use Rattle.group_queue.proofs.Balances.{count-posted, count-push, count-taken, times-kept, times-settled}

abbrev count_in : Job → List Posted → ℕ
count_in job list = count_of job (jobs_in list)

abbrev pub IsSmall : Job → Type 0
IsSmall job = job.number < 18446744073709551615

-- the passes carry nothing, and have as many parts
pub record SamePasses (old new : Passes) : Type 0 where
  pub part : (bag_of new.returns).parts ≡ (bag_of old.returns).parts
  pub bare : AreBare new

-- nothing changed but the room of the docket
pub keeps_hands : (number : ℕ) (old new : Kept) (t u : Passes) (giver : GiverState) → IsInHands number old t giver → new.out ≡ old.out → KeepsSettled old.settled new.settled
    → SamePasses t u → view u.main ≡ view t.main → bag_of u.returns ≡ bag_of t.returns → IsInHands number new u giver
keeps_hands number old new t u giver h out settled same main returns = record {
  main = subst (IsOf (Place number)) (sym main) h.main;
  few = h.few;
  part = same.part ∙ h.part;
  bare = same.bare;
  balanced = (λ job.
      let firsts = ap (λ v. count_in job (list_in v)) main in
      let agains = ap (λ b. count_in job b.popped) returns in
      let given = ap (λ b. count_in job b.pushed) returns in
      let was = h.balanced job in
      let o = ap (count_of job) out in
      omega (arith, firsts, agains, given, was, o, times-kept job old.settled new.settled settled));
  small = subst (All IsSmall) (sym out) h.small;
}

pub small_front : (v w : View) (x : Posted) → Takes v x w → IsSmall x.job
small_front v w x takes =
    let past = takes.before.holds.past in
    let few = (takes.before.holds.numbered (map (λ (pop : Pop). pop.posted) past) takes.items x refl).1 in
    omega (arith, few)

pub small_back : (v w : Bag) (x : Posted) → PopsBack v x w → IsSmall x.job
small_back v w x pops = All-head (λ (posted : Posted). posted.job.number < 18446744073709551615) x pops.items pops.before.holds.small

-- the front of the main queue came out
pub takes_front : (number : ℕ) (old new : Kept) (t u : Passes) (giver : GiverState) (x : Posted) → IsInHands number old t giver → new.out ≡ old.out ++ x.job ∷ [] → KeepsSettled old.settled new.settled
    → SamePasses t u → Takes (view t.main) x (view u.main) → bag_of u.returns ≡ bag_of t.returns → IsSmall x.job → IsInHands number new u giver
takes_front number old new t u giver x h out settled same takes returns few =
    let grew = list-grown (Place number) (view t.main) (view u.main) x h.main takes.is in
    record {
      main = of-grown (Place number) (view t.main) (view u.main) x h.main takes.is;
      few = h.few;
      part = same.part ∙ h.part;
      bare = same.bare;
      balanced = (λ job.
          let firsts = ap (count_in job) grew ∙ count-posted job (list_in (view t.main)) x in
          let agains = ap (λ b. count_in job b.popped) returns in
          let given = ap (λ b. count_in job b.pushed) returns in
          let was = h.balanced job in
          let o = ap (count_of job) out ∙ count-push job old.out x.job in
          omega (arith, firsts, agains, given, was, o, times-kept job old.settled new.settled settled));
      small = subst (All IsSmall) (sym out) (All-append IsSmall old.out (x.job ∷ []) h.small (All-cons IsSmall x.job [] few (All-nil IsSmall)));
    }

-- the front of the returns queue came out
pub takes_back : (number : ℕ) (old new : Kept) (t u : Passes) (giver : GiverState) (x : Posted) → IsInHands number old t giver → new.out ≡ old.out ++ x.job ∷ [] → KeepsSettled old.settled new.settled
    → SamePasses t u → view u.main ≡ view t.main → PopsBack (bag_of t.returns) x (bag_of u.returns) → IsSmall x.job → IsInHands number new u giver
takes_back number old new t u giver x h out settled same main pops few = record {
  main = subst (IsOf (Place number)) (sym main) h.main;
  few = h.few;
  part = same.part ∙ h.part;
  bare = same.bare;
  balanced = (λ job.
      let firsts = ap (λ v. count_in job (list_in v)) main in
      let agains = ap (λ b. count_in job b.popped) pops.is ∙ count-posted job (bag_of t.returns).popped x in
      let given = ap (λ b. count_in job b.pushed) pops.is in
      let was = h.balanced job in
      let o = ap (count_of job) out ∙ count-push job old.out x.job in
      omega (arith, firsts, agains, given, was, o, times-kept job old.settled new.settled settled));
  small = subst (All IsSmall) (sym out) (All-append IsSmall old.out (x.job ∷ []) h.small (All-cons IsSmall x.job [] few (All-nil IsSmall)));
}

-- what was out went back
pub gives_back : (number : ℕ) (old new : Kept) (t u : Passes) (giver : GiverState) (x : Posted) → IsInHands number old t giver → TakesOff old.out x.job new.out → KeepsSettled old.settled new.settled
    → SamePasses t u → view u.main ≡ view t.main → PushesBack (bag_of t.returns) x (bag_of u.returns) → IsInHands number new u giver
gives_back number old new t u giver x h out settled same main pushes = record {
  main = subst (IsOf (Place number)) (sym main) h.main;
  few = h.few;
  part = same.part ∙ h.part;
  bare = same.bare;
  balanced = (λ job.
      let firsts = ap (λ v. count_in job (list_in v)) main in
      let agains = ap (λ b. count_in job b.popped) pushes.is in
      let given = ap (λ b. count_in job b.pushed) pushes.is ∙ count-posted job (bag_of t.returns).pushed x in
      let was = h.balanced job in
      let o = count-taken job old.out x.job new.out out in
      omega (arith, firsts, agains, given, was, o, times-kept job old.settled new.settled settled));
  small = All-taken old.out x.job new.out out IsSmall h.small;
}

-- what was out is settled
pub settles_hands : (number : ℕ) (old new : Kept) (t : Passes) (giver : GiverState) (job : Job) (fate : Fate) → IsInHands number old t giver → TakesOff old.out job new.out → Settles old.settled job fate new.settled → IsInHands number new t giver
settles_hands number old new t giver one fate h out settled = record {
  main = h.main;
  few = h.few;
  part = h.part;
  bare = h.bare;
  balanced = (λ job.
      let was = h.balanced job in
      let o = count-taken job old.out one new.out out in
      omega (arith, was, o, times-settled job old.settled one fate new.settled settled));
  small = All-taken old.out one new.out out IsSmall h.small;
}

-- what was settled was given
pub gathers_hands : (number : ℕ) (old new : Kept) (t : Passes) (giver after : GiverState) → IsInHands number old t giver → GivesAll giver old after new → IsInHands number new t after
gathers_hands number old new t giver after h g = record {
  main = h.main;
  few = h.few;
  part = h.part;
  bare = h.bare;
  balanced = (λ job.
      let was = h.balanced job in
      let o = ap (count_of job) g.out in
      let a = ap (λ runs. count_of job (jobs_of runs)) (g.settled Acknowledged) in
      let r = ap (λ runs. count_of job (jobs_of runs)) (g.settled Refused) in
      let d = ap (λ runs. count_of job (jobs_of runs)) (g.settled Discarded) in
      let more = λ (fate : Fate). ap (λ (s : GiverState). times_in s.gave fate job) g.is ∙ sum_by-append (λ (l : Ledger). count_of job (settled_as fate l)) giver.gave (g.given ∷ []) in
      omega (arith, was, o, a, r, d, more Acknowledged, more Refused, more Discarded, g.counts Acknowledged job, g.counts Refused job, g.counts Discarded job));
  small = subst (All IsSmall) (sym g.out) h.small;
}

pub gathers_any : (saw : List Ledger → List LedgerShare → Type 0) (number : ℕ) (old new : Kept) (t : Passes) (giver after : GiverState) (result : Result Bool JobError) → IsInHands number old t giver → Gathers saw giver old result after new → IsInHands number new t after
gathers_any saw number old new t giver after (Ok true) h g = gathers_hands number old new t giver after h g
gathers_any saw number old new t giver after (Ok false) h g = subst (λ (q : Kept × GiverState). IsInHands number q.0 t q.1) (λ i. (sym g.1 i, sym g.0 i)) h
gathers_any saw number old new t giver after (Err error) h g = subst (λ (q : Kept × GiverState). IsInHands number q.0 t q.1) (λ i. (sym g.1 i, sym g.0 i)) h

-- nothing changed but the room of the docket
pub keeps_place : (number : ℕ) (old new : Kept) (t : Passes) (giver : GiverState) → IsInHands number old t giver → new.out ≡ old.out → KeepsSettled old.settled new.settled → IsInHands number new t giver
keeps_place number old new t giver h out settled = keeps_hands number old new t t giver h out settled (record { part = refl; bare = h.bare }) refl refl

-- what is left of the passes of who opened the group is of the same queues
pub keeps_left : (t u : Passes) (kept : Option Passes) → hands_of u ≡ hands_of t → IsKept t kept → IsKept u kept
keeps_left t u None same h = tt
keeps_left t u (Some left) same h = record { of = h.of ∙ sym same; main = h.main; parts = h.parts; few = h.few; bare = h.bare }

pub main_hands : (t : Passes) (main : Pass Posted View) → main.table_id ≡ t.main.table_id → hands_of (record { main = main; returns = t.returns }) ≡ hands_of t
main_hands t main tie = λ i. record { main = tie i; returns = record { web = t.returns.web; heap = t.returns.heap } }

pub returns_hands : (t : Passes) (returns : Seat (Option Posted) (Going Posted Bag) Global) (q : SegId Global) → IsSeatOf q returns → (hands_of t).returns ≡ q
    → hands_of (record { main = t.main; returns = returns }) ≡ hands_of t
returns_hands t returns q of tie =
    let web = of.0 ∙ sym (ap (λ (s : SegId Global). s.web) tie) in
    let heap = of.1 ∙ sym (ap (λ (s : SegId Global). s.heap) tie) in
    λ i. record { main = t.main.table_id; returns = record { web = web i; heap = heap i } }

-- what is left for the last place
pub new_left : (group : GroupId) (number : ℕ) (t : Passes) (kept : Option Passes) → hands_of t ≡ record { main = group.main; returns = group.returns } → group.shape.places ≤ 32
    → MatchOption kept (number + 1 ≢ group.shape.places) (AreLeftOf group group.shape.places) → IsKept t kept
new_left group number t None of few h = tt
new_left group number t (Some left) of few h =
    let ports = sym (ap (λ (v : View). v.ports) h.main) in
    let places = sym (ap (λ (v : View). v.places) h.main) in
    record {
      of = h.of.hands ∙ sym of;
      main = h.main ∙ (λ i. keeper (ports i) (places i));
      parts = h.parts ∙ ap (λ n. bag (64 - n) [] []) places;
      few = omega (arith, places, few);
      bare = h.of.bare;
    }

-- a place that did nothing
pub new_hands : (number : ℕ) (docket : Kept) (t : Passes) (giver : GiverState) → number < 32 → giver.gave ≡ [] → view t.main ≡ one (Place number) [] → bag_of t.returns ≡ bag 1 [] []
    → AreBare t → docket.out ≡ [] → IsUnsettled docket.settled → IsInHands number docket t giver
new_hands number docket t giver few none main returns bare out unsettled = record {
  few = few;
  main = main ∙ ap (one (Place number)) (sym (ap list_in main));
  part = ap (λ b. b.parts) returns;
  bare = bare;
  balanced = (λ job.
      let firsts = ap (λ v. count_in job (list_in v)) main in
      let agains = ap (λ b. count_in job b.popped) returns in
      let given = ap (λ b. count_in job b.pushed) returns in
      let o = ap (count_of job) out in
      let a = ap (λ runs. count_of job (jobs_of runs)) (unsettled Acknowledged) in
      let r = ap (λ runs. count_of job (jobs_of runs)) (unsettled Refused) in
      let d = ap (λ runs. count_of job (jobs_of runs)) (unsettled Discarded) in
      let n = λ (fate : Fate). ap (λ l. times_in l fate job) none in
      omega (arith, firsts, agains, given, o, a, r, d, n Acknowledged, n Refused, n Discarded));
  small = subst (All IsSmall) (sym out) (All-nil IsSmall);
}

get_push-before : (xs : List PlaceState) (x : PlaceState) (k : ℕ) → k < length xs → slice_get (xs ++ x ∷ []) k ≡ slice_get xs k
get_push-before [] x k less = absurd (omega arith)
get_push-before (y ∷ ys) x zero less = refl
get_push-before (y ∷ ys) x (suc k) less = get_push-before ys x k (omega arith)

get_push-here : (xs : List PlaceState) (x : PlaceState) → slice_get (xs ++ x ∷ []) (length xs) ≡ Some x
get_push-here [] x = refl
get_push-here (y ∷ ys) x = get_push-here ys x

pub new_places-push : (group : GroupId) (count : ℕ) (xs : List PlaceState) (x : PlaceState) → AreNewPlaces group count xs → IsNewPlace group count x
    → AreNewPlaces group (count + 1) (xs ++ x ∷ [])
new_places-push group count xs x all new = record {
  all = omega (arith, length-append xs (x ∷ []), all.all);
  each = (λ number less. dite (ℕ_discrete number count)
      (λ is. (x, ap (slice_get (xs ++ x ∷ [])) (is ∙ sym all.all) ∙ get_push-here xs x, subst (λ n. IsNewPlace group n x) (sym is) new))
      (λ other. let was = all.each number (omega (arith, other, less)) in let within = all.all in (was.0, get_push-before xs x number (omega (arith, other, less, within)) ∙ was.1, was.2)));
}

pub each_port : (group : GroupId) (xs : List PortState) → AreNewPorts group group.shape.ports xs → All (IsPortOf group) xs
each_port group xs new = λ k d less.
    let within : k < group.shape.ports = omega (arith, less, new.all) in
    let there = new.each k within in
    subst (IsPortOf group) (sym (get_or_from_slice_get xs k (new_port group k) d there)) (refl, within, refl)

pub each_place : (group : GroupId) (count : ℕ) (xs : List PlaceState) → AreNewPlaces group count xs → All (IsPlaceOf group) xs
each_place group count xs new = λ k d less.
    let there = new.each k (omega (arith, less, new.all)) in
    subst (IsPlaceOf group) (sym (get_or_from_slice_get xs k there.0 d there.1)) there.2.of
