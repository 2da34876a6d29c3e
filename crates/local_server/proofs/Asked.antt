-- What the calls of a step make of who has which session.
use Rattle.std.proofs.Common.{◌≡◌, ℕ, List, [], ◌∷◌, Some, None, Result, Ok, Err, refl, sym, ap, subst, inl, inr}
use Rattle.std.specs.List.{AllByRecursion}
use Rattle.std.proofs.lemmas.Option.{same_Some}
use Rattle.group_jobs.specs.Stamps.{Held}
use Rattle.session_desk.specs.declared.newcomers.Newcomers.TheVariants.{IfRoom}
use Rattle.session_desk.specs.declared.attached.Attached.{Attached}
use Rattle.session_desk.specs.declared.attached.Attached.TheVariants.{New, Resumed, Replace, Busy}
use Rattle.session_desk.specs.declared.error.DeskError.{DeskError}
use Rattle.session_desk.specs.declared.error.DeskError.TheVariants as errors
use Rattle.session_desk.specs.declared.session.Session.{Session}
use Rattle.session_desk.specs.Rows.{Rows}
use Rattle.session_desk.specs.Books.{Books}
use Rattle.session_desk.specs.Attaching.{Request, attaches_by}
use Rattle.session_desk.specs.Sweeping.{Sweeps}
use Rattle.session_desk.specs.Hands.{DeskLaw}
use Rattle.conn_supply.specs.SupplyCalls.{SupplyCall}
use Rattle.conn_supply.specs.SupplyCalls.SupplyCall.{Attach, Withdraw, Kicked, Park, ParkAsIs, Keep, Bury, Sweep, LendPlace, TakePlace, Bind, Find, Match, Offer, MayTake, Take, TakeBack, Settle, GiveBack}
use Rattle.conn_laws.specs.Calls.{MakesAll}
use Rattle.conn_laws.specs.Transcripts.{IsAside, session_given, LeadsAside, HandsIn}
use Rattle.local_broker.specs.Places.{GroupPlace, cell_of}
use Rattle.local_broker.specs.Broker.{Broker}
use Rattle.local_broker.specs.Calls.{Calls}
use Rattle.local_broker.specs.Histories.{Called}
use Rattle.local_broker.proofs.Happened.{law_all_along}
use Rattle.local_server.proofs.Lent.{KeepsRows, same_rows, same_books, then_keeps, keeps, buries, sweeps}
use Rattle.local_server.proofs.Given.{IsGiven, IsHandedIn, given_new, given_back, waits, parks, parks_as_is}

abbrev pub Lawful : Broker → Type 0
Lawful b = DeskLaw b.desk.rows b.desk.made

pub lawful : (supply_call : SupplyCall GroupPlace) (old new : Broker) → Calls old supply_call new → Lawful old → Lawful new
lawful supply_call old new does law = law_all_along (Called supply_call ∷ []) old new law (new, does, refl)

-- one call by which no session is asked for, and none handed in
same_desk : (old new : Broker) → new.desk ≡ old.desk → KeepsRows old.desk new.desk
same_desk old new same = same_books old.desk new.desk same

one_aside : (supply_call : SupplyCall GroupPlace) (old new : Broker) → IsAside supply_call → Calls old supply_call new → KeepsRows old.desk new.desk
one_aside (Attach request answer) old new aside does = absurd aside
one_aside (Withdraw connection) old new aside does = same_rows old.desk new.desk (ap (λ b. b.rows) does.makes) (ap (λ b. b.made) does.makes)
one_aside (Kicked connection answer) old new aside does = same_desk old new does.makes.1
one_aside (Park session now answer) old new aside does = absurd aside
one_aside (ParkAsIs session) old new aside does = absurd aside
one_aside (Keep session) old new aside does = keeps old.desk new.desk session does.0 does.1.makes
one_aside (Bury session) old new aside does = buries cell_of old.desk new.desk session does.0 does.1.makes
one_aside (Sweep now answer) old new aside does =
    let rows = ap (λ b. b.rows) does.makes.2 in
    sweeps old.desk new.desk now answer (subst (λ (r : Rows Held GroupPlace). Sweeps old.desk.rows now answer r) (sym rows) does.makes.1) (ap (λ b. b.made) does.makes.2)
one_aside (LendPlace slot answer) old new aside does = same_rows old.desk new.desk (ap (λ b. b.rows) does.makes.2) (ap (λ b. b.made) does.makes.2)
one_aside (TakePlace place) old new aside does = same_rows old.desk new.desk (ap (λ b. b.rows) does.1.makes.2) (ap (λ b. b.made) does.1.makes.2)
one_aside (Bind share answer) old new aside does = same_desk old new does.1.desk
one_aside (Find share answer) old new aside does = same_desk old new (ap (λ b. b.desk) does.1)
one_aside (Match topic slots) old new aside does = same_desk old new (ap (λ b. b.desk) does.1)
one_aside (Offer slot connection message answer) old new aside does = same_desk old new does.1.desk
one_aside (MayTake place answer) old new aside does = same_desk old new (ap (λ b. b.desk) does.1)
one_aside (Take place place' answer) old new aside does = same_desk old new does.2.desk
one_aside (TakeBack place place' answer) old new aside does = same_desk old new does.2.desk
one_aside (Settle place place' envelope fate) old new aside does = same_desk old new does.2.desk
one_aside (GiveBack place place' envelope (Ok done)) old new aside does = same_desk old new does.2.desk
one_aside (GiveBack place place' envelope (Err back)) old new aside does = absurd does

all_aside : (supply_calls : List (SupplyCall GroupPlace)) (old new : Broker) → AllByRecursion IsAside supply_calls → MakesAll Calls old supply_calls new → Lawful old
    → KeepsRows old.desk new.desk × Lawful new
all_aside [] old new aside made law = (same_desk old new (ap (λ b. b.desk) made), subst Lawful (sym made) law)
all_aside (supply_call ∷ supply_calls) old new aside made law =
    let rest = all_aside supply_calls made.0 new aside.1 made.2 (lawful supply_call old made.0 made.1 law) in
    (then_keeps old.desk made.0.desk new.desk (one_aside supply_call old made.0 aside.0 made.1) rest.0, rest.1)

pub led_aside : (old new : Broker) → LeadsAside Calls old new → Lawful old → KeepsRows old.desk new.desk × Lawful new
led_aside old new leads law = all_aside leads.supply_calls old new leads.aside leads.made law

-- a session is given
gives_by : (client : List ℕ) (answer : Result (Attached Held GroupPlace) DeskError) (old new : Books Held GroupPlace) (request : Request) (session : Session Held GroupPlace)
    → session_given answer ≡ Some session → DeskLaw old.rows old.made → attaches_by (IfRoom 256) client old request answer new → IsGiven old session request.connection new
gives_by [] (Ok (New its ended)) old new request session is law does =
    subst (λ (s : Session Held GroupPlace). IsGiven old s request.connection new) (same_Some its session is) (given_new [] ended old new request its law does)
gives_by [] (Ok (Resumed its)) old new request session is law does = absurd does
gives_by [] (Ok (Replace holder)) old new request session is law does = absurd does
gives_by [] (Ok Busy) old new request session is law does = absurd does
gives_by [] (Err error) old new request session is law does = absurd (cc)
gives_by (byte ∷ bytes) (Ok (New its ended)) old new request session is law does =
    subst (λ (s : Session Held GroupPlace). IsGiven old s request.connection new) (same_Some its session is) (given_new (byte ∷ bytes) ended old new request its law does)
gives_by (byte ∷ bytes) (Ok (Resumed its)) old new request session is law does =
    subst (λ (s : Session Held GroupPlace). IsGiven old s request.connection new) (same_Some its session is) (given_back old new (byte ∷ bytes) request its law does)
gives_by (byte ∷ bytes) (Ok (Replace holder)) old new request session is law does = absurd (cc)
gives_by (byte ∷ bytes) (Ok Busy) old new request session is law does = absurd (cc)
gives_by (byte ∷ bytes) (Err error) old new request session is law does = absurd (cc)

pub gives : (old new : Broker) (request : Request) (number : ℕ) (answer : Result (Attached Held GroupPlace) DeskError) (session : Session Held GroupPlace)
    → request.connection ≡ number
    → session_given answer ≡ Some session → Lawful old → Calls old (Attach request answer) new → IsGiven old.desk session number new.desk
gives old new request number answer session whose is law does =
    subst (λ (c : ℕ). IsGiven old.desk session c new.desk) whose (gives_by request.client answer old.desk new.desk request session is law does.makes)

-- none is given
in_vain : (client : List ℕ) (answer : Result (Attached Held GroupPlace) DeskError) (old new : Books Held GroupPlace) (request : Request) → session_given answer ≡ None
    → attaches_by (IfRoom 256) client old request answer new → KeepsRows old new
in_vain [] (Ok (New its ended)) old new request none does = absurd (cc)
in_vain [] (Ok (Resumed its)) old new request none does = absurd does
in_vain [] (Ok (Replace holder)) old new request none does = absurd does
in_vain [] (Ok Busy) old new request none does = absurd does
in_vain [] (Err errors.NoName) old new request none does = same_books old new does.1
in_vain [] (Err errors.Full) old new request none does = same_books old new does.2
in_vain [] (Err errors.Memory) old new request none does = same_books old new does.2
in_vain [] (Err errors.NoPlace) old new request none does = absurd does
in_vain (byte ∷ bytes) (Ok (New its ended)) old new request none does = absurd (cc)
in_vain (byte ∷ bytes) (Ok (Resumed its)) old new request none does = absurd (cc)
in_vain (byte ∷ bytes) (Ok (Replace holder)) old new request none does = waits old new (byte ∷ bytes) request holder does
in_vain (byte ∷ bytes) (Ok Busy) old new request none does = same_books old new does.1
in_vain (byte ∷ bytes) (Err errors.NoName) old new request none does = absurd does
in_vain (byte ∷ bytes) (Err errors.Full) old new request none does = same_books old new does.2
in_vain (byte ∷ bytes) (Err errors.Memory) old new request none does = same_books old new does.1
in_vain (byte ∷ bytes) (Err errors.NoPlace) old new request none does = absurd does

pub gives_none : (old new : Broker) (request : Request) (answer : Result (Attached Held GroupPlace) DeskError) → session_given answer ≡ None
    → Calls old (Attach request answer) new → KeepsRows old.desk new.desk
gives_none old new request answer none does = in_vain request.client answer old.desk new.desk request none does.makes

-- a session is handed in
pub parked_as_is : (old new : Broker) (session : Session Held GroupPlace) → Calls old (ParkAsIs session) new → Lawful old → IsHandedIn old.desk session new.desk × Lawful new
parked_as_is old new session does law = (parks_as_is old.desk new.desk session does.0 does.1.makes, lawful (ParkAsIs session) old new does law)

pub handed_back : (old new : Broker) (session : Session Held GroupPlace) → HandsIn Calls old session new → Lawful old → IsHandedIn old.desk session new.desk × Lawful new
handed_back old new session (inl parked) law =
    (parks old.desk new.desk session parked.0 parked.1 parked.2.makes, lawful (Park session parked.0 parked.1) old new parked.2 law)
handed_back old new session (inr parked) law = parked_as_is old new session parked law
