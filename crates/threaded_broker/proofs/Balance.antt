-- By any measure of places: a worker's calls hand its desk just what they were handed by it, and what the calls of its places made of them.
use Rattle.std.proofs.Common.{◌≡◌, ℕ, ◌+◌, ◌<◌, Bool, true, false, List, [], ◌∷◌, ◌++◌, length, length-append, slice_get, Result, Ok, Err, All, refl, sym, ap, subst, ◌∙◌, inl, inr, arith}
use Rattle.std.specs.Prelude.{sum_by}
use Rattle.std.specs.List.{AllByRecursion}
use Rattle.std.proofs.lemmas.List.Elements.{All-cons, All-nil}
use Rattle.std.proofs.lemmas.List.Sums.{sum_by-append, sum_by-cons}
use Rattle.group_jobs.specs.Stamps.{Held}
use Rattle.session_desk.specs.declared.newcomers.Newcomers.{Newcomers}
use Rattle.session_desk.specs.Everything.{free_in, place_of, places_given}
use Rattle.session_desk.specs.declared.attached.Attached.{Attached}
use Rattle.session_desk.specs.declared.attached.Attached.TheVariants.{New, Resumed, Replace, Busy}
use Rattle.session_desk.specs.declared.error.DeskError.{DeskError}
use Rattle.session_desk.specs.Attaching.{Request}
use Rattle.session_desk.specs.Calls.{Call}
use Rattle.session_desk.specs.Calls as desk
use Rattle.group_queue.specs.Ports.{GroupId}
use Rattle.group_queue.specs.Places.{PlaceState}
use Rattle.broker_groups.specs.Answers.{Sights}
use Rattle.conn_supply.specs.SupplyCalls.{SupplyCall}
use Rattle.conn_supply.specs.SupplyCalls.SupplyCall.{Attach, Withdraw, Kicked, Park, ParkAsIs, Keep, Bury, Sweep, LendPlace, TakePlace, Bind, Find, Match, Offer, MayTake, Take, TakeBack, Settle, GiveBack}
use Rattle.conn_laws.specs.Calls.{MakesAll as MakesCalls}
use Rattle.conn_laws.specs.Places.{places_brought, places_taken}
use Rattle.shared_supply.specs.Calls.{AsksDesk, Calls, IsToldOfDesk, missing, waking}
use Rattle.shared_supply.specs.Waking.{asking_back, freeing}
use Rattle.shared_supply.specs.Workers.{Worker}
use Rattle.final_report.specs.DeskPlaces.{worth_if, places_in, places_out}
use Rattle.final_report.proofs.EachOnce.{sum_grown, sum_next}
use Rattle.threaded_broker.specs.Callers.{DeskCallerState}

-- what the calls of a caller that are its own count for
abbrev pub own_sum : (Call Held PlaceState → ℕ) → DeskCallerState → ℕ
own_sum worth caller = sum_by (λ number. worth_if worth (slice_get caller.calls number)) caller.own

-- the numbers of its own are those of calls that it knows
abbrev pub AreWithin : DeskCallerState → Type 0
AreWithin caller = AllByRecursion (λ number. number < length caller.calls) caller.own

-- the places that come back where they were handed in, and that nobody has then
abbrev pub places_lost : Call Held PlaceState → List PlaceState
places_lost (desk.ParkAsIs session back) = place_of back
places_lost (desk.Keep session back) = place_of back
places_lost (desk.Bury session back) = place_of back
places_lost (desk.TakePlace place back) = free_in back
places_lost other = []

within_more : (calls more : List (Call Held PlaceState)) (own : List ℕ) → AllByRecursion (λ number. number < length calls) own → AllByRecursion (λ number. number < length (calls ++ more)) own
within_more calls more [] all = tt
within_more calls more (number ∷ own) all = (omega (arith, all.0, length-append calls more), within_more calls more own all.1)

within_one : (n count : ℕ) (own : List ℕ) → n < count → AllByRecursion (λ number. number < count) own → AllByRecursion (λ number. number < count) (own ++ n ∷ [])
within_one n count [] less all = (less, tt)
within_one n count (number ∷ own) less all = (all.0, within_one n count own less all.1)

each_within : (count : ℕ) (own : List ℕ) → AllByRecursion (λ number. number < count) own → All (λ number. number < count) own
each_within count [] all = All-nil (λ number. number < count)
each_within count (number ∷ own) all = All-cons (λ number. number < count) number own all.0 (each_within count own all.1)

-- what they count for stays where there are more calls
pub sum_stays : (worth : Call Held PlaceState → ℕ) (calls more : List (Call Held PlaceState)) (own : List ℕ) → AllByRecursion (λ number. number < length calls) own
    → sum_by (λ number. worth_if worth (slice_get (calls ++ more) number)) own ≡ sum_by (λ number. worth_if worth (slice_get calls number)) own
sum_stays worth calls more own all = sum_grown worth calls more own (each_within (length calls) own all)

-- a caller that makes a call has one more
pub one_added : (worth : Call Held PlaceState → ℕ) (old new : DeskCallerState) (call : Call Held PlaceState) → IsToldOfDesk old call new → AreWithin old → own_sum worth new ≡ own_sum worth old + worth call
one_added worth old new call told within =
    let before : List (Call Held PlaceState) = old.calls ++ told.since in
    let counts : List (Call Held PlaceState) → ℕ → ℕ = λ calls number. worth_if worth (slice_get calls number) in
    ap (own_sum worth) told.is
    ∙ sum_by-append (counts (before ++ call ∷ [])) old.own (length before ∷ [])
    ∙ omega (
      arith,
      sum_stays worth before (call ∷ []) old.own (within_more old.calls told.since old.own within),
      sum_stays worth old.calls told.since old.own within,
      sum_next worth before call,
    )

pub still_within : (old new : DeskCallerState) (call : Call Held PlaceState) → IsToldOfDesk old call new → AreWithin old → AreWithin new
still_within old new call told within =
    let before : List (Call Held PlaceState) = old.calls ++ told.since in
    subst AreWithin (sym told.is)
    (within_one (length before) (length (before ++ call ∷ [])) old.own (omega (arith, length-append before (call ∷ [])))
    (within_more before (call ∷ []) old.own (within_more old.calls told.since old.own within)))

-- what a session that is asked for brings
given_out : (newcomers : Newcomers) (request : Request) (answer : Result (Attached Held PlaceState) DeskError) → places_out (desk.Attach newcomers request answer) ≡ places_given answer
given_out newcomers request (Ok (New session ended)) = refl
given_out newcomers request (Ok (Resumed session)) = refl
given_out newcomers request (Ok (Replace holder)) = refl
given_out newcomers request (Ok Busy) = refl
given_out newcomers request (Err error) = refl

missed_desk : (is_missed : Bool) (worker : Worker) → (missing is_missed worker).desk ≡ worker.desk
missed_desk true worker = refl
missed_desk false worker = refl

module _ (measure : PlaceState → ℕ) where
  -- what a caller handed in, what it was handed, and what came back of the former
  abbrev pub all_in : DeskCallerState → ℕ
  all_in caller = own_sum (λ call. sum_by measure (places_in call)) caller

  abbrev pub all_out : DeskCallerState → ℕ
  all_out caller = own_sum (λ call. sum_by measure (places_out call)) caller

  abbrev pub all_lost : DeskCallerState → ℕ
  all_lost caller = own_sum (λ call. sum_by measure (places_lost call)) caller

  -- between two states of a caller, who had so much before and has so much then, so much came by calls of places
  abbrev pub Balances : DeskCallerState → ℕ → ℕ → ℕ → DeskCallerState → Type 0
  Balances old had has gained new = (all_in new + all_out old + all_lost new + has ≡ all_in old + all_out new + all_lost old + had + gained) × AreWithin new

  pub balance_still : (old new : DeskCallerState) (had has : ℕ) → new ≡ old → has ≡ had → AreWithin old → Balances old had has 0 new
  balance_still old new had has same is within = subst (Balances old had has 0) (sym same) (omega (arith, is), within)

  module _ (gain : SupplyCall PlaceState → ℕ) where
    -- a call makes so much more of the place that it changes
    abbrev pub Gains : SupplyCall PlaceState → Type 0
    Gains (Take old new answer) = measure new ≡ measure old + gain (Take old new answer)
    Gains (TakeBack old new answer) = measure new ≡ measure old + gain (TakeBack old new answer)
    Gains (Settle old new envelope fate) = measure new ≡ measure old + gain (Settle old new envelope fate)
    Gains (GiveBack old new envelope answer) = measure new ≡ measure old + gain (GiveBack old new envelope answer)
    Gains other = gain other ≡ 0

    single : (place : PlaceState) → sum_by measure (place ∷ []) ≡ measure place
    single place = omega (arith, sum_by-cons measure place [])

    -- what a call takes of places, and what it brings
    abbrev BalancesCall : DeskCallerState → SupplyCall PlaceState → DeskCallerState → Type 0
    BalancesCall old call new = Balances old (sum_by measure (places_taken call)) (sum_by measure (places_brought call)) (gain call) new

    asked : (old new : Worker) (call : SupplyCall PlaceState) (its : Call Held PlaceState) → AsksDesk old its new → AreWithin old.desk → gain call ≡ 0 → sum_by measure (places_in its) ≡ sum_by measure (places_taken call)
        → sum_by measure (places_out its) ≡ sum_by measure (places_brought call) + sum_by measure (places_lost its) → BalancesCall old.desk call new.desk
    asked old new call its is within none ins outs = (
      omega (
        arith,
        none,
        ins,
        outs,
        one_added (λ c. sum_by measure (places_in c)) old.desk new.desk its is.0 within,
        one_added (λ c. sum_by measure (places_out c)) old.desk new.desk its is.0 within,
        one_added (λ c. sum_by measure (places_lost c)) old.desk new.desk its is.0 within,
      ),
      still_within old.desk new.desk its is.0 within,
    )

    -- no call of the desk, and none of a place
    apart : (old new : DeskCallerState) (call : SupplyCall PlaceState) → new ≡ old → AreWithin old → gain call ≡ 0 → places_taken call ≡ [] → places_brought call ≡ [] → BalancesCall old call new
    apart old new call same within none takes brings =
        let t : sum_by measure (places_taken call) ≡ 0 = ap (sum_by measure) takes in
        let b : sum_by measure (places_brought call) ≡ 0 = ap (sum_by measure) brings in
        subst (BalancesCall old call) (sym same) (omega (arith, none, t, b), within)

    -- a call of a place
    turned : (old new : DeskCallerState) (call : SupplyCall PlaceState) (place place' : PlaceState) → new ≡ old → AreWithin old → places_taken call ≡ place ∷ [] → places_brought call ≡ place' ∷ []
        → measure place' ≡ measure place + gain call → BalancesCall old call new
    turned old new call place place' same within takes brings gains =
        let t : sum_by measure (places_taken call) ≡ measure place = ap (sum_by measure) takes ∙ single place in
        let b : sum_by measure (places_brought call) ≡ measure place' = ap (sum_by measure) brings ∙ single place' in
        subst (BalancesCall old call) (sym same) (omega (arith, gains, t, b), within)

    module _ (group : ℕ → GroupId) (seen : Sights) where
      called : (call : SupplyCall PlaceState) (old new : Worker) → Calls group seen old call new → Gains call → AreWithin old.desk → BalancesCall old.desk call new.desk
      called (Attach request answer) old new is none within =
          asked (waking old (asking_back answer old.wakes)) new (Attach request answer) (desk.Attach is.0 request answer) is.2 within none refl (omega (arith, ap (sum_by measure) (given_out is.0 request answer)))
      called (Withdraw connection) old new is none within = asked old new (Withdraw connection) (desk.Withdraw connection) is within none refl (omega arith)
      called (Kicked connection answer) old new (inl same) none within = apart old.desk new.desk (Kicked connection answer) (ap (λ (w : Worker). w.desk) same.1) within none refl refl
      called (Kicked connection answer) old new (inr told) none within = asked old new (Kicked connection answer) (desk.Kicked connection answer) told within none refl (omega arith)
      called (Park session now answer) old new is none within =
          asked (waking old (freeing old.wakes)) new (Park session now answer) (desk.Park session now answer) is within none refl (omega arith)
      called (ParkAsIs session) old new is none within = asked (waking old (freeing old.wakes)) new (ParkAsIs session) (desk.ParkAsIs session is.0) is.1 within none refl (omega arith)
      called (Keep session) old new is none within = asked old new (Keep session) (desk.Keep session is.0) is.1 within none refl (omega arith)
      called (Bury session) old new is none within = asked old new (Bury session) (desk.Bury session is.0) is.1 within none refl (omega arith)
      called (Sweep now answer) old new (inl same) none within =
          apart old.desk new.desk (Sweep now answer) (ap (λ (w : Worker). w.desk) same.1) within none refl (ap (λ a. places_brought (Sweep now a)) same.0)
      called (Sweep now answer) old new (inr told) none within = asked old new (Sweep now answer) (desk.Sweep now answer) told within none refl (omega arith)
      called (LendPlace slot answer) old new is none within = asked old new (LendPlace slot answer) (desk.LendPlace slot answer) is within none refl (omega arith)
      called (TakePlace place) old new is none within = asked old new (TakePlace place) (desk.TakePlace place is.0) is.1 within none refl (omega arith)
      called (Bind share answer) old new is none within = apart old.desk new.desk (Bind share answer) (ap (λ (w : Worker). w.desk) is.1) within none refl refl
      called (Find share answer) old new is none within = apart old.desk new.desk (Find share answer) (ap (λ (w : Worker). w.desk) is.1) within none refl refl
      called (Match topic slots) old new is none within = apart old.desk new.desk (Match topic slots) (ap (λ (w : Worker). w.desk) is.1) within none refl refl
      called (Offer slot connection message answer) old new is none within =
          apart old.desk new.desk (Offer slot connection message answer) (ap (λ (w : Worker). w.desk) is.1) within none refl refl
      called (MayTake place answer) old new is none within = apart old.desk new.desk (MayTake place answer) (ap (λ (w : Worker). w.desk) is.1) within none refl refl
      called (Take place place' answer) old new is gains within =
          turned old.desk new.desk (Take place place' answer) place place' (ap (λ (w : Worker). w.desk) is.1) within refl refl gains
      called (TakeBack place place' answer) old new is gains within =
          turned old.desk new.desk (TakeBack place place' answer) place place' (ap (λ (w : Worker). w.desk) is.1) within refl refl gains
      called (Settle place place' envelope fate) old new is gains within =
          turned old.desk new.desk (Settle place place' envelope fate) place place' (ap (λ (w : Worker). w.desk) is.2 ∙ missed_desk is.0 old) within refl refl gains
      called (GiveBack place place' envelope answer) old new is gains within =
          turned old.desk new.desk (GiveBack place place' envelope answer) place place' (ap (λ (w : Worker). w.desk) is.1) within refl refl gains

      -- all calls of a step, one after the other
      pub all_called : (calls : List (SupplyCall PlaceState)) (old new : Worker) → ((call : SupplyCall PlaceState) (before after : Worker) → Calls group seen before call after → Gains call)
          → MakesCalls (Calls group seen) old calls new → AreWithin old.desk
          → Balances old.desk (sum_by (λ call. sum_by measure (places_taken call)) calls) (sum_by (λ call. sum_by measure (places_brought call)) calls) (sum_by gain calls) new.desk
      all_called [] old new gains made within = balance_still old.desk new.desk 0 0 (ap (λ (w : Worker). w.desk) made) refl within
      all_called (call ∷ calls) old new gains made within =
          let one = called call old made.0 made.1 (gains call old made.0 made.1) within in
          let rest = all_called calls made.0 new gains made.2 one.1 in (
            omega (
              arith,
              one.0,
              rest.0,
              sum_by-cons (λ (c : SupplyCall PlaceState). sum_by measure (places_taken c)) call calls,
              sum_by-cons (λ (c : SupplyCall PlaceState). sum_by measure (places_brought c)) call calls,
              sum_by-cons gain call calls,
            ),
            rest.1,
          )
