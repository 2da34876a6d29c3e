-- What each call of a connection makes of its worker, and what it answers.
use Rattle.std.specs.Prelude.{◌≡◌, ◌⊎◌, ℕ, ◌<◌, ◌+◌, ◌-◌, ◌^◌, min, Bool, true, false, List, Option, None, Result, Ok, Err}
use Rattle.mqtt_topic.specs.Names.{Share}
use Rattle.mqtt_topic.specs.Routes.{slot_of, routed, places_of}
use Rattle.group_jobs.specs.declared.message.Message.{Message}
use Rattle.group_jobs.specs.declared.stamp.Stamp.{Stamp}
use Rattle.group_jobs.specs.Stamps.{Held}
use Rattle.session_desk.specs.Attaching.{Request}
use Rattle.session_desk.specs.declared.attached.Attached.{Attached}
use Rattle.session_desk.specs.declared.error.DeskError.{DeskError}
use Rattle.session_desk.specs.declared.newcomers.Newcomers.{Newcomers}
use Rattle.session_desk.specs.declared.newcomers.Newcomers.TheVariants.{Refused}
use Rattle.session_desk.specs.declared.session.Session.{Session}
use Rattle.session_desk.specs.Calls.{Call}
use Rattle.session_desk.specs.Calls as desk
use Rattle.call_history.specs.Callers.{CallerState}
use Rattle.shared_desk.specs.Histories.{AddsCall}
use Rattle.conn_supply.specs.declared.supply.BindRefusal.{BindRefusal}
use Rattle.conn_supply.specs.declared.supply.BindRefusal.TheVariants as bind
use Rattle.conn_supply.specs.declared.supply.OfferRefusal.{OfferRefusal}
use Rattle.conn_supply.specs.declared.supply.OfferRefusal.TheVariants as refusal
use Rattle.conn_supply.specs.SupplyCalls.{SupplyCall}
use Rattle.conn_supply.specs.SupplyCalls.SupplyCall.{Attach, Withdraw, Kicked, Park, ParkAsIs, Keep, Bury, Sweep, LendPlace, TakePlace, Bind, Find, Match, Offer, MayTake, Take, TakeBack, Settle, GiveBack}
use Rattle.group_queue.specs.Ports.{GroupId, PortState}
use Rattle.group_queue.specs.Places.{PlaceState, GiveBackAnswers, TakeAnswers, TakeBackAnswers}
use Rattle.broker_groups.specs.Answers.{in_group, Sights}
use Rattle.broker_groups.specs.Offering.{OffersTo}
use Rattle.broker_groups.specs.Outs.{HasOut}
use Rattle.shared_routes.specs.Known.{KnownState, BindAnswers}
use Rattle.shared_routes.specs.declared.error.BindError.TheVariants as routes
use Rattle.shared_supply.specs.declared.wakes.Wakes.{Wakes}
use Rattle.shared_supply.specs.Waking.{asking_back, freeing, one_more_if, one_taken_if, one_fewer_if}
use Rattle.shared_supply.specs.Workers.{Worker}
use Rattle.shared_supply.specs.Settling.{SettlesAndGathers}

-- the desk was called after what was known of its calls and what others did since, in the one history of its calls; and the call is the caller's own
abbrev pub IsToldOfDesk : CallerState (Call Held PlaceState) → Call Held PlaceState → CallerState (Call Held PlaceState) → Type 0
IsToldOfDesk old call new = AddsCall HasOut (λ (p : PlaceState). p.group) (λ (p : PlaceState). p.number) old call new

-- the same worker, who has these to wake
abbrev pub waking : Worker → Wakes → Worker
waking worker wakes = record worker { wakes = wakes }

-- the same worker, where this answer may have handed out a message of the group of this slot
abbrev pub handing : {E : Type 0} → Result (Option Held) E → ℕ → Worker → Worker
handing answer slot worker = record worker { wakes = one_taken_if answer slot worker.wakes; allowance = one_fewer_if answer worker.allowance }

-- the same worker, where a gather was missed or not; it is counted up to 2^64 - 1
abbrev pub missing : Bool → Worker → Worker
missing true worker = record worker { missed = min (worker.missed + 1) (2 ^ 64 - 1) }
missing false worker = worker

-- a message more may be handed out, just where the allowance is not used up
abbrev pub IsAllowed : Bool → ℕ → Type 0
IsAllowed true allowance = 0 < allowance
IsAllowed false allowance = allowance ≡ 0

-- a call of the desk, which the worker knows of from then on; the rest of the worker is as it was
abbrev pub AsksDesk : Worker → Call Held PlaceState → Worker → Type 0
AsksDesk old call new = IsToldOfDesk old.desk call new.desk × (new ≡ record old { desk = new.desk })

-- a session is asked for; for a client that has none, none begins where the worker drains
abbrev pub AsksForSession : Worker → Request → Result (Attached Held PlaceState) DeskError → Worker → Type 0
AsksForSession old request answer new =
    (newcomers : Newcomers) × (old.draining ≡ true → newcomers ≡ Refused) × AsksDesk (waking old (asking_back answer old.wakes)) (desk.Attach newcomers request answer) new

-- a session goes back to the desk; where it is none of the desk's, it is let go
abbrev pub HandsIn : Worker → (Option (Session Held PlaceState) → Call Held PlaceState) → Worker → Type 0
HandsIn old call new = (back : Option (Session Held PlaceState)) × AsksDesk old (call back) new

-- a place goes back to the desk; where that has it already, this one is let go
abbrev pub HandsInPlace : Worker → PlaceState → Worker → Type 0
HandsInPlace old place new = (back : Option PlaceState) × AsksDesk old (desk.TakePlace place back) new

-- a share is bound: 205, 206 and 207 as the routes have them
abbrev pub Binds : KnownState → Share → Result ℕ BindRefusal → KnownState → Type 0
Binds old share (Ok slot) new = BindAnswers old.table.new_shares old share (Ok slot) new
Binds old share (Err bind.NoSlot) new = BindAnswers old.table.new_shares old share (Err routes.NoSlot) new
Binds old share (Err bind.Memory) new = BindAnswers old.table.new_shares old share (Err routes.Memory) new
Binds old share (Err bind.NotDeclared) new = BindAnswers old.table.new_shares old share (Err routes.NotDeclared) new

module _ (group : ℕ → GroupId) (seen : Sights) where
  -- a worker that drains refuses a message as a closed broker does, and its ports are as they were; else the message is offered to the group of this slot
  abbrev pub OffersIn : (is_draining : Bool) → List PortState → ℕ → Message → Result Stamp OfferRefusal → List PortState → Type 0
  OffersIn true old slot message answer new = (answer ≡ Err refusal.Shut) × (new ≡ old)
  OffersIn false old slot message answer new = OffersTo group seen.saw_main old slot message answer new

  -- what each call makes, with its answer, in a broker with these groups, whose witness saw this
  abbrev pub Calls : Worker → SupplyCall PlaceState → Worker → Type 0
  Calls old (Attach request answer) new = AsksForSession old request answer new
  Calls old (Withdraw connection) new = AsksDesk old (desk.Withdraw connection) new
  Calls old (Kicked connection answer) new = ((answer ≡ false) × (new ≡ old)) ⊎ AsksDesk old (desk.Kicked connection answer) new
  Calls old (Park session now answer) new = AsksDesk (waking old (freeing old.wakes)) (desk.Park session now answer) new
  Calls old (ParkAsIs session) new = HandsIn (waking old (freeing old.wakes)) (λ back. desk.ParkAsIs session back) new
  Calls old (Keep session) new = HandsIn old (λ back. desk.Keep session back) new
  Calls old (Bury session) new = HandsIn old (λ back. desk.Bury session back) new
  Calls old (Sweep now answer) new = ((answer ≡ None) × (new ≡ old)) ⊎ AsksDesk old (desk.Sweep now answer) new
  Calls old (LendPlace slot answer) new = AsksDesk old (desk.LendPlace slot answer) new
  Calls old (TakePlace place) new = HandsInPlace old place new
  Calls old (Bind share answer) new = Binds old.known share answer new.known × (new ≡ record old { known = new.known })
  Calls old (Find share answer) new = (answer ≡ slot_of share.text old.known.shares) × (new ≡ old)
  Calls old (Match topic slots) new = (slots ≡ places_of 0 (routed topic old.known.shares)) × (new ≡ old)
  Calls old (Offer slot connection message answer) new =
      OffersIn old.draining old.ports slot message answer new.ports × (new ≡ waking (record old { ports = new.ports }) (one_more_if answer slot old.wakes))
  Calls old (MayTake place answer) new = IsAllowed answer old.allowance × (new ≡ old)
  Calls old (Take place place' answer) new = TakeAnswers seen.saw_main place (in_group answer) place' × (new ≡ handing answer place.group old)
  Calls old (TakeBack place place' answer) new = TakeBackAnswers seen.saw_returns place (in_group answer) place' × (new ≡ handing answer place.group old)
  Calls old (Settle place place' envelope fate) new = (is_missed : Bool) × SettlesAndGathers seen.saw_ledger place envelope fate is_missed place' × (new ≡ missing is_missed old)
  Calls old (GiveBack place place' envelope answer) new =
      GiveBackAnswers place envelope answer place' × (new ≡ waking old (one_more_if answer place.group old.wakes))
