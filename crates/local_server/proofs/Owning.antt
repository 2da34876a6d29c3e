-- Who holds which message: each that a session holds is out at that session's place, as it was accepted, and is held by one session, once.
use Rattle.std.proofs.Common.{◌≡◌, ◌≢◌, ◌⊎◌, ℕ, List, [], ◌∷◌, ◌++◌, Option, Some, None, Contains, refl, sym, ap, subst, ◌∙◌, inl, inr, ⊎_elim}
use Rattle.std.specs.Ordering.{nat_cmp}
use Rattle.std.specs.FinMap as map
use Rattle.std.specs.FinMap.{get-empty}
use Rattle.std.proofs.lemmas.List.Elements.{Contains-append_left, Contains-append_right}
use Rattle.std.proofs.lemmas.Option.{same_Some}
use Rattle.mqtt_topic.specs.Names.{Share}
use Rattle.group_jobs.specs.declared.message.Message.{Message}
use Rattle.group_jobs.specs.declared.stamp.Stamp.{Stamp}
use Rattle.group_jobs.specs.Stamps.{Held}
use Rattle.member_window.specs.Contents.{held_of}
use Rattle.member_window.proofs.Lists.{contains_nil}
use Rattle.session_desk.specs.declared.session.Session.{Session}
use Rattle.session_desk.specs.declared.session.Membership.{Membership}
use Rattle.session_desk.specs.declared.session.Membership.TheVariants.{NotMember, Member, Leaving}
use Rattle.session_desk.specs.declared.row.Row.{Row}
use Rattle.session_desk.specs.Rows.{Rows, HasRow, session_in}
use Rattle.session_desk.proofs.Seen.{after_insert, after_remove}
use Rattle.conn_supply.specs.SupplyCalls.{SupplyCall}
use Rattle.conn_supply.specs.SupplyCalls.SupplyCall.{Offer}
use Rattle.conn_supply.specs.Publishing.{Offers}
use Rattle.conn_engine.specs.declared.phase.ConnectedClient.{ConnectedClient}
use Rattle.conn_laws.specs.Calls.{settlement_of}
use Rattle.local_broker.specs.Places.{GroupPlace}
use Rattle.local_broker.specs.Broker.{Broker, IsNewBroker}
use Rattle.local_broker.specs.Calls.{Calls, Closes}
use Rattle.local_broker.specs.Histories.{Called, Closed, AreRunning, HasOut, Spends}
use Rattle.local_broker.proofs.Happened.{running_all, running_first}
use Rattle.local_broker.proofs.Outs.{stays_all}
use Rattle.local_server.specs.Settling.{AreOutFor}
use Rattle.local_server.proofs.Stepping.{Links}
use Rattle.local_server.proofs.Settled.{AddsIn, adds_nothing, adds_then, none_settled}
use Rattle.local_server.proofs.Sessions.{with_connected}
use Rattle.local_server.proofs.Known.{Log, AllKnown, AllKnow, StaysKnown, same_log, closed_each, new_known}
use Rattle.local_server.proofs.Accepting.{IsNoOffer, called_known}

abbrev pub Entries : Type 0
Entries = List (ℕ × Held)

abbrev pub IsEntry : ℕ × Held → ℕ × Held → Type 0
IsEntry one other = one ≡ other

abbrev pub Kept : Type 0
Kept = Session Held GroupPlace

-- what the connections have, and what was accepted till now
pub record Ledger : Type 0 where
  pub all_connected : Links
  pub log : Log

-- a connection has this session then, or none
abbrev pub with_hand : Ledger → ℕ → Option (ConnectedClient GroupPlace) → Ledger
with_hand ledger number connected = record { all_connected = with_connected ledger.all_connected number connected; log = ledger.log }

abbrev pub with_log : Ledger → Log → Ledger
with_log ledger log = record { all_connected = ledger.all_connected; log = log }

-- who has a session: the desk, by the number of its row, or a connection
pub data Keeper : Type 0 where
  AtDesk : (number : ℕ) → Keeper
  InHand : (connection : ℕ) → Keeper

pub record IsAtDesk (rows : Rows Held GroupPlace) (number : ℕ) (session : Kept) : Type 0 where
  pub row : Row Held GroupPlace
  pub has : HasRow rows number row
  pub stands : session_in row.held_by ≡ Some session

pub record IsClientOf (all_connected : Links) (connection : ℕ) (session : Kept) : Type 0 where
  pub connected : ConnectedClient GroupPlace
  pub has : all_connected connection ≡ Some connected
  pub its : connected.session ≡ session

abbrev pub Has : Links → Rows Held GroupPlace → Keeper → Kept → Type 0
Has all_connected rows (AtDesk number) session = IsAtDesk rows number session
Has all_connected rows (InHand connection) session = IsClientOf all_connected connection session

-- no message of the ones is one of the others
abbrev pub AreApart : Entries → Entries → Type 0
AreApart these those = (i j : ℕ) (e f : Held) → Contains these (i, e) → Contains those (j, f) → e.stamp ≢ f.stamp

-- each session's messages are out at its place, and none is held twice; and what is held and what waits is what was accepted
pub record Owns (ledger : Ledger) (b : Broker) : Type 0 where
  pub running : AreRunning b
  pub know : AllKnow ledger.log b.groups
  pub known : (keeper : Keeper) (session : Kept) → Has ledger.all_connected b.desk.rows keeper session → AllKnown ledger.log (held_of session.window)
  pub owned : (keeper : Keeper) (session : Kept) → Has ledger.all_connected b.desk.rows keeper session → AreOutFor b session.membership (held_of session.window)
  pub once : (one other : Keeper) (s t : Kept) (i j : ℕ) (e f : Held) → Has ledger.all_connected b.desk.rows one s → Has ledger.all_connected b.desk.rows other t
      → Contains (held_of s.window) (i, e) → Contains (held_of t.window) (j, f) → e.stamp ≡ f.stamp → (one ≡ other) × (i ≡ j)

-- a session in the hands of a step, with these messages
pub record Mine (ledger : Ledger) (b : Broker) (membership : Membership GroupPlace) (entries : Entries) : Type 0 where
  pub owned : AreOutFor b membership entries
  pub known : AllKnown ledger.log entries
  pub apart : (keeper : Keeper) (t : Kept) → Has ledger.all_connected b.desk.rows keeper t → AreApart entries (held_of t.window)
  pub once : (i j : ℕ) (e f : Held) → Contains entries (i, e) → Contains entries (j, f) → e.stamp ≡ f.stamp → i ≡ j

pub record Holds (ledger : Ledger) (b : Broker) (membership : Membership GroupPlace) (entries : Entries) : Type 0 where
  pub others : Owns ledger b
  pub mine : Mine ledger b membership entries

-- calls by which no session comes to the desk, and no message comes from where it is out but these
pub record Runs (spent : Entries) (old new : Broker) : Type 0 where
  pub running : AreRunning old → AreRunning new
  pub out : (place : GroupPlace) (envelope : Held) → HasOut old place envelope → ((j : ℕ) (f : Held) → Contains spent (j, f) → f.stamp ≢ envelope.stamp) → HasOut new place envelope
  pub desk : (number : ℕ) (session : Kept) → IsAtDesk new.desk.rows number session → IsAtDesk old.desk.rows number session

-- and nothing is settled, and nothing accepted
pub record Goes (spent : Entries) (old new : Broker) : Type 0 where
  pub runs : Runs spent old new
  pub know : (log : Log) → AreRunning old → AllKnown log spent → AllKnow log old.groups → AllKnow log new.groups
  pub adds : AddsIn old.groups [] new.groups

pub still : (old new : Broker) → new ≡ old → Goes [] old new
still old new same =
    record {
      runs = record {
        running = λ is. subst AreRunning (sym same) is;
        out = λ place envelope has apart. subst (λ (b : Broker). HasOut b place envelope) (sym same) has;
        desk = λ number session is. subst (λ (b : Broker). IsAtDesk b.desk.rows number session) same is;
      };
      know = λ log running all was. subst (λ (b : Broker). AllKnow log b.groups) (sym same) was;
      adds = adds_nothing old new same;
    }

pub runs_then : (spent more : Entries) (old mid new : Broker) → Runs spent old mid → Runs more mid new → Runs (spent ++ more) old new
runs_then spent more old mid new these those =
    record {
      running = λ is. those.running (these.running is);
      out = λ place envelope has apart.
          those.out place envelope (these.out place envelope has (λ j f c. apart j f (Contains-append_left spent more (j, f) c)))
          (λ j f c. apart j f (Contains-append_right spent more (j, f) c));
      desk = λ number session is. these.desk number session (those.desk number session is);
    }

pub goes_then : (spent more : Entries) (old mid new : Broker) → Goes spent old mid → Goes more mid new → Goes (spent ++ more) old new
goes_then spent more old mid new these those =
    record {
      runs = runs_then spent more old mid new these.runs those.runs;
      know = λ log running all was.
          those.know log (these.runs.running running) (λ j f c. all j f (Contains-append_right spent more (j, f) c))
          (these.know log running (λ j f c. all j f (Contains-append_left spent more (j, f) c)) was);
      adds = adds_then [] [] old.groups mid.groups new.groups these.adds those.adds;
    }

pub calm_then : (old mid new : Broker) → Goes [] old mid → Goes [] mid new → Goes [] old new
calm_then old mid new these those = goes_then [] [] old mid new these those

abbrev pub Shrinks : Broker → Broker → Type 0
Shrinks old new = (number : ℕ) (session : Kept) → IsAtDesk new.desk.rows number session → IsAtDesk old.desk.rows number session

pub same_rows : (old new : Broker) → new.desk.rows ≡ old.desk.rows → Shrinks old new
same_rows old new same number session is = subst (λ (r : Rows Held GroupPlace). IsAtDesk r number session) same is

-- one call
pub one_runs : (supply_call : SupplyCall GroupPlace) (old new : Broker) → ((stamp : Stamp) → ¬ Spends stamp (Called supply_call)) → Calls old supply_call new → Shrinks old new → Runs [] old new
one_runs supply_call old new spends does shrinks =
    record {
      running = λ is. running_all (Called supply_call ∷ []) old new is (new, does, refl);
      out = λ place envelope has apart. stays_all (Called supply_call ∷ []) old new place envelope has (new, does, refl) (spends envelope.stamp, tt);
      desk = shrinks;
    }

pub one : (supply_call : SupplyCall GroupPlace) (old new : Broker) → ((stamp : Stamp) → ¬ Spends stamp (Called supply_call)) → settlement_of supply_call ≡ None → IsNoOffer supply_call → Calls old supply_call new
    → Shrinks old new → Goes [] old new
one supply_call old new spends none no_offer does shrinks =
    record {
      runs = one_runs supply_call old new spends does shrinks;
      know = λ log running all was. called_known supply_call log old new spends no_offer does was;
      adds = none_settled supply_call old new none does;
    }

-- a message is offered to groups
pub offers_run : (slots : List ℕ) (old new : Broker) (connection : ℕ) (message : Message) (taken : ℕ) → Offers Calls old connection message slots taken new
    → Runs [] old new × AddsIn old.groups [] new.groups
offers_run [] old new connection message taken does = let goes = still old new does.1 in (goes.runs, goes.adds)
offers_run (slot ∷ slots) old new connection message taken does =
    let offer : SupplyCall GroupPlace = Offer slot connection message does.0 in
    let rest = offers_run slots does.1 new connection message does.3 does.6 in (
      runs_then [] [] old does.1 new (one_runs offer old does.1 (λ stamp spends. spends) does.4 (same_rows old does.1 (ap (λ d. d.rows) does.4.1.desk))) rest.0,
      adds_then [] [] old.groups does.1.groups new.groups (none_settled offer old does.1 refl does.4) rest.1,
    )

-- a row is written of which the desk has no session, or is no more
pub written : (old new : Rows Held GroupPlace) (k : ℕ) (row : Row Held GroupPlace) → new ≡ map.insert old k row → session_in row.held_by ≡ None
    → (number : ℕ) (session : Kept) → IsAtDesk new number session → (number ≢ k) × IsAtDesk old number session
written old new k row is none number session at =
    ⊎_elim
    (λ (here : (number ≡ k) × (row ≡ at.row)). absurd (let a = ap (λ (r : Row Held GroupPlace). session_in r.held_by) here.1 in let b = at.stands in cc))
    (λ (other : (number ≢ k) × HasRow old number at.row). (other.0, record { row = at.row; has = other.1; stands = at.stands }))
    (after_insert old k number row at.row (subst (λ (r : Rows Held GroupPlace). HasRow r number at.row) is at.has))

pub removed : (old new : Rows Held GroupPlace) (k : ℕ) → new ≡ map.remove old k → (number : ℕ) (session : Kept) → IsAtDesk new number session
    → (number ≢ k) × IsAtDesk old number session
removed old new k is number session at =
    let other = after_remove old k number at.row (subst (λ (r : Rows Held GroupPlace). HasRow r number at.row) is at.has) in
    (other.0, record { row = at.row; has = other.1; stands = at.stands })

-- a row is written with a session
pub put_in : (old new : Rows Held GroupPlace) (k : ℕ) (row : Row Held GroupPlace) (its : Kept) → new ≡ map.insert old k row → session_in row.held_by ≡ Some its
    → (number : ℕ) (session : Kept) → IsAtDesk new number session → ((number ≡ k) × (session ≡ its)) ⊎ IsAtDesk old number session
put_in old new k row its is stands number session at =
    ⊎_elim
    (λ (here : (number ≡ k) × (row ≡ at.row)).
    inl (here.0, same_Some session its (sym at.stands ∙ ap (λ (r : Row Held GroupPlace). session_in r.held_by) (sym here.1) ∙ stands)))
    (λ (other : (number ≢ k) × HasRow old number at.row). inr (record { row = at.row; has = other.1; stands = at.stands }))
    (after_insert old k number row at.row (subst (λ (r : Rows Held GroupPlace). HasRow r number at.row) is at.has))

-- what is held stays out, where other messages come from where they were out
pub owned_on : (membership : Membership GroupPlace) (spent entries : Entries) (old new : Broker) → Runs spent old new → AreApart spent entries → AreOutFor old membership entries
    → AreOutFor new membership entries
owned_on NotMember spent entries old new goes apart owned = owned
owned_on (Member place) spent entries old new goes apart owned = λ i e c. goes.out place e (owned i e c) (λ j f d. apart j i f e d c)
owned_on (Leaving place) spent entries old new goes apart owned = λ i e c. goes.out place e (owned i e c) (λ j f d. apart j i f e d c)

pub had : (keeper : Keeper) (all_connected : Links) (old new : Broker) (session : Kept) → Shrinks old new → Has all_connected new.desk.rows keeper session → Has all_connected old.desk.rows keeper session
had (AtDesk number) all_connected old new session shrinks has = shrinks number session has
had (InHand connection) all_connected old new session shrinks has = has

pub none_apart : (entries : Entries) → AreApart [] entries
none_apart entries i j e f c d = absurd (contains_nil (i, e) c)

pub none_known : (log : Log) → AllKnown log []
none_known log i e c = absurd (contains_nil {X = ℕ × Held} (i, e) c)

pub owns_on : (spent : Entries) (ledger : Ledger) (log' : Log) (old new : Broker) → Runs spent old new → AllKnow log' new.groups → StaysKnown ledger.log log'
    → ((keeper : Keeper) (t : Kept) → Has ledger.all_connected new.desk.rows keeper t → AreApart spent (held_of t.window))
    → Owns ledger old → Owns (with_log ledger log') new
owns_on spent ledger log' old new goes know stays apart was =
    record {
      running = goes.running was.running;
      know = know;
      known = λ keeper session has i e c. stays e.stamp e.message (was.known keeper session (had keeper ledger.all_connected old new session goes.desk has) i e c);
      owned = λ keeper session has.
          owned_on session.membership spent (held_of session.window) old new goes (apart keeper session has)
          (was.owned keeper session (had keeper ledger.all_connected old new session goes.desk has));
      once = λ one other s t i j e f has its c d same.
          was.once one other s t i j e f (had one ledger.all_connected old new s goes.desk has) (had other ledger.all_connected old new t goes.desk its) c d same;
    }

pub owns_calm : (ledger : Ledger) (old new : Broker) → Goes [] old new → Owns ledger old → Owns ledger new
owns_calm ledger old new goes was =
    owns_on [] ledger ledger.log old new goes.runs (goes.know ledger.log was.running (none_known ledger.log) was.know) (same_log ledger.log)
    (λ keeper t has. none_apart (held_of t.window)) was

pub mine_on : (spent : Entries) (ledger : Ledger) (log' : Log) (old new : Broker) (membership : Membership GroupPlace) (entries : Entries) → Runs spent old new
    → StaysKnown ledger.log log' → AreApart spent entries
    → Mine ledger old membership entries → Mine (with_log ledger log') new membership entries
mine_on spent ledger log' old new membership entries goes stays apart was =
    record {
      owned = owned_on membership spent entries old new goes apart was.owned;
      known = λ i e c. stays e.stamp e.message (was.known i e c);
      apart = λ keeper t has. was.apart keeper t (had keeper ledger.all_connected old new t goes.desk has);
      once = was.once;
    }

pub calm : (ledger : Ledger) (old new : Broker) (membership : Membership GroupPlace) (entries : Entries) → Goes [] old new → Holds ledger old membership entries
    → Holds ledger new membership entries
calm ledger old new membership entries goes was =
    record { others = owns_calm ledger old new goes was.others; mine = mine_on [] ledger ledger.log old new membership entries goes.runs (same_log ledger.log) (none_apart entries) was.mine }

-- a session holds some of what it held, with another membership
pub less : (ledger : Ledger) (b : Broker) (membership membership' : Membership GroupPlace) (entries entries' : Entries)
    → ((i : ℕ) (e : Held) → Contains entries' (i, e) → Contains entries (i, e)) → (AreOutFor b membership entries → AreOutFor b membership' entries')
    → Holds ledger b membership entries → Holds ledger b membership' entries'
less ledger b membership membership' entries entries' part owned was =
    record {
      others = was.others;
      mine = record {
        owned = owned was.mine.owned;
        known = λ i e c. was.mine.known i e (part i e c);
        apart = λ keeper t has i j e f c d. was.mine.apart keeper t has i j e f (part i e c) d;
        once = λ i j e f c d same. was.mine.once i j e f (part i e c) (part j f d) same;
      };
    }

-- the session of this row comes from the desk
pub taken : (ledger : Ledger) (old new : Broker) (k : ℕ) (session : Kept) → IsAtDesk old.desk.rows k session → Goes [] old new
    → ((number : ℕ) (t : Kept) → IsAtDesk new.desk.rows number t → number ≢ k) → Owns ledger old → Holds ledger new session.membership (held_of session.window)
taken ledger old new k session at goes gone was =
    record {
      others = owns_calm ledger old new goes was;
      mine = record {
        owned = owned_on session.membership [] (held_of session.window) old new goes.runs (none_apart (held_of session.window)) (was.owned (AtDesk k) session at);
        known = was.known (AtDesk k) session at;
        apart = λ keeper t has i j e f c d same.
            other_keeper keeper t has (was.once (AtDesk k) keeper session t i j e f at (had keeper ledger.all_connected old new t goes.runs.desk has) c d same).0;
        once = λ i j e f c d same. (was.once (AtDesk k) (AtDesk k) session session i j e f at at c d same).1;
      };
    }
  where
    other_keeper : (keeper : Keeper) (t : Kept) → Has ledger.all_connected new.desk.rows keeper t → AtDesk k ≡ keeper → ⊥
    other_keeper (AtDesk number) t has same = gone number t has (let e = same in cc)
    other_keeper (InHand connection) t has same = cc

-- the close
pub owns_closed : (ledger : Ledger) (old closed : Broker) → Closes old closed → Owns ledger old → Owns ledger closed
owns_closed ledger old closed closes was =
    owns_on [] ledger ledger.log old closed
    (record {
      running = λ is. running_all (Closed ∷ []) old closed is (closed, closes, refl);
      out = λ place envelope has apart. stays_all (Closed ∷ []) old closed place envelope has (closed, closes, refl) ((λ spends. spends), tt);
      desk = same_rows old closed (ap (λ d. d.rows) closes.desk);
    })
    (closed_each ledger.log old.groups closed.groups closes.groups was.know) (same_log ledger.log) (λ keeper t has. none_apart (held_of t.window)) was

-- a new broker: there is no session
nobody : (keeper : Keeper) (all_connected : Links) (capacity : ℕ) (shares : List Share) (b : Broker) (t : Kept) → IsNewBroker capacity shares b
    → ((connection : ℕ) → all_connected connection ≡ None) → Has all_connected b.desk.rows keeper t → ⊥
nobody (AtDesk number) all_connected capacity shares b t new none has =
    let empty = ap (λ d. map.get d.rows number) new.desk.books ∙ get-empty {X = Row Held GroupPlace} nat_cmp number in let there = has.has in cc
nobody (InHand connection) all_connected capacity shares b t new none has = let nothing = none connection in let some = has.has in cc

abbrev pub first_ledger : Links → Ledger
first_ledger all_connected = record { all_connected = all_connected; log = [] }

pub owns_new : (all_connected : Links) (capacity : ℕ) (shares : List Share) (b : Broker) → IsNewBroker capacity shares b → ((connection : ℕ) → all_connected connection ≡ None)
    → Owns (first_ledger all_connected) b
owns_new all_connected capacity shares b new none =
    let nobodys : (keeper : Keeper) (t : Kept) → Has all_connected b.desk.rows keeper t → ⊥ = λ keeper t has.
    nobody keeper all_connected capacity shares b t new none has in
    record {
      running = running_first capacity shares b new;
      know = new_known capacity b.groups new.groups;
      known = λ keeper t has. absurd (nobodys keeper t has);
      owned = λ keeper t has. absurd (nobodys keeper t has);
      once = λ one other s t i j e f has had c d same. absurd (nobodys one s has);
    }
