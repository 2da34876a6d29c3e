-- Sessions that come from the desk, that go back to it, and that are retired: what the others hold stays out.
use Rattle.std.proofs.Common.{◌≡◌, ℕ, zero, suc, Bool, true, false, List, [], ◌∷◌, Option, Some, None, Result, Ok, Err, refl, sym, ap, subst, ◌∙◌, inl, inr, ⊎_elim}
use Rattle.std.specs.FinMap as map
use Rattle.group_jobs.specs.Stamps.{Held}
use Rattle.member_window.specs.Contents.{held_of}
use Rattle.member_window.proofs.Lists.{contains_here}
use Rattle.session_desk.specs.declared.newcomers.Newcomers.TheVariants.{IfRoom}
use Rattle.session_desk.proofs.Begun.{Begun, BegunOver, begun, begun_over}
use Rattle.session_desk.specs.declared.attached.Attached.{Attached}
use Rattle.session_desk.specs.declared.attached.Attached.TheVariants.{New, Resumed, Replace, Busy}
use Rattle.session_desk.specs.declared.error.DeskError.{DeskError}
use Rattle.session_desk.specs.declared.error.DeskError.TheVariants as errors
use Rattle.session_desk.specs.declared.session.Membership.{Membership}
use Rattle.session_desk.specs.declared.session.Membership.TheVariants.{NotMember, Member, Leaving}
use Rattle.session_desk.specs.declared.row.Row.{Row}
use Rattle.session_desk.specs.declared.row.Holder.{Holder}
use Rattle.session_desk.specs.declared.row.Holder.TheVariants.{Lent, Parked, Kept as KeptIn}
use Rattle.session_desk.specs.Rows.{Rows, IsKept, IsOverdue, session_in, away, with_holder, with_wait, new_row}
use Rattle.session_desk.specs.Attaching.{Request, AttachesClient, attaches_by}
use Rattle.session_desk.specs.Keeping.{Buries}
use Rattle.session_desk.specs.Sweeping.{HandsOut}
use Rattle.conn_supply.specs.SupplyCalls.SupplyCall.{Attach, Bury, Sweep, GiveBack}
use Rattle.conn_engine.specs.Ending.{down, ending_session, GivesBack, Ends, RetiresFrom, RetiresAs, Retires, Sweeps}
use Rattle.local_broker.specs.Places.{GroupPlace, cell_of}
use Rattle.local_broker.specs.Broker.{Broker}
use Rattle.local_broker.specs.Calls.{Calls}
use Rattle.local_broker.specs.Histories.{Called}
use Rattle.local_broker.proofs.Happened.{running_all}
use Rattle.local_broker.proofs.Outs.{stays_all}
use Rattle.local_server.proofs.Settled.{AddsIn, adds_then, none_settled}
use Rattle.local_server.proofs.Known.{same_log}
use Rattle.local_server.proofs.Accepting.{given_known}
use Rattle.local_server.proofs.Owning.{Ledger, Entries, Kept, IsAtDesk, Owns, Holds, Goes, Shrinks, still, goes_then, one, same_rows, written, removed, had, owns_on, owns_calm, taken}

-- what is held stays out, and nothing is settled
pub record KeepsOut (ledger : Ledger) (old new : Broker) : Type 0 where
  pub owns : Owns ledger new
  pub adds : AddsIn old.groups [] new.groups

pub went : (ledger : Ledger) (old new : Broker) → Goes [] old new → Owns ledger old → KeepsOut ledger old new
went ledger old new goes was = record { owns = owns_calm ledger old new goes was; adds = goes.adds }

pub went_then : (ledger : Ledger) (old mid new : Broker) → AddsIn old.groups [] mid.groups → KeepsOut ledger mid new → KeepsOut ledger old new
went_then ledger old mid new adds those = record { owns = those.owns; adds = adds_then [] [] old.groups mid.groups new.groups adds those.adds }

-- messages are given back
gives_one : (place place' : GroupPlace) (identifier : ℕ) (envelope : Held) (old new : Broker) → Calls old (GiveBack place place' envelope (Ok tt)) new
    → Goes ((identifier, envelope) ∷ []) old new
gives_one place place' identifier envelope old new does =
    record {
      runs = record {
        running = λ is. running_all (Called (GiveBack place place' envelope (Ok tt)) ∷ []) old new is (new, does, refl);
        out = λ at other has apart.
            stays_all (Called (GiveBack place place' envelope (Ok tt)) ∷ []) old new at other has (new, does, refl)
            (apart identifier envelope (contains_here (identifier, envelope) []), tt);
        desk = same_rows old new (ap (λ b. b.rows) does.2.desk);
      };
      know = λ log running all was.
          given_known place place' envelope log old new does running (all identifier envelope (contains_here (identifier, envelope) [])) was;
      adds = none_settled (GiveBack place place' envelope (Ok tt)) old new refl does;
    }

given_back : (entries : Entries) (old new : Broker) (place place' : GroupPlace) (left : Entries) → GivesBack Calls old place entries place' left new
    → Goes entries old new × (left ≡ [])
given_back [] old new place place' left gives = (still old new gives.2, gives.1)
given_back (entry ∷ entries) old new place place' left (inl gives) =
    let rest = given_back entries gives.1 new gives.0 place' left gives.3 in
    (goes_then (entry ∷ []) entries old gives.1 new (gives_one place gives.0 entry.0 entry.1 old gives.1 gives.2) rest.0, rest.1)
given_back (entry ∷ entries) old new place place' left (inr fails) = absurd fails.0

-- a session is buried
buried_rows : (answer : Option Kept) (old new : Broker) (session : Kept) → Buries cell_of old.desk session answer new.desk → Shrinks old new
buried_rows None old new session does = λ number its is. (removed old.desk.rows new.desk.rows session.identity.number (ap (λ b. b.rows) does.1) number its is).1
buried_rows (Some back) old new session does = same_rows old new (ap (λ b. b.rows) does.2)

buried : (old new : Broker) (session : Kept) → Calls old (Bury session) new → Goes [] old new
buried old new session does = one (Bury session) old new (λ stamp spends. spends) refl tt does (buried_rows does.0 old new session does.1.makes)

ends : (ledger : Ledger) (old new : Broker) (session : Kept) (gone : Bool) → held_of session.window ≡ [] → Ends Calls old session gone new → Owns ledger old → KeepsOut ledger old new
ends ledger old new session gone none (inl bury) was = went ledger old new (buried old new session bury.2) was
ends ledger old new session gone none (inr keep) was = absurd (keep.0 none)

retired_from : (ledger : Ledger) (old new : Broker) (session : Kept) (membership : Membership GroupPlace) (place : GroupPlace) (again : GroupPlace → Membership GroupPlace)
    (gone : Bool)
    → RetiresFrom Calls old session place again gone new → Holds ledger old membership (held_of session.window) → KeepsOut ledger old new
retired_from ledger old new session membership place again gone retires was =
    let entries = held_of session.window in
    let given = given_back entries old retires.mid place retires.place' retires.left retires.given in
    let goes = given.0 in
    let know = goes.know ledger.log was.others.running was.mine.known was.others.know in
    let others = owns_on entries ledger ledger.log old retires.mid goes.runs know (same_log ledger.log) (λ keeper t has. was.mine.apart keeper t (had keeper ledger.all_connected old retires.mid t goes.runs.desk has)) was.others in
    went_then ledger old retires.mid new goes.adds (ends ledger retires.mid new (ending_session session (again retires.place') retires.left) gone given.1 retires.ended others)

retired_as : (membership : Membership GroupPlace) (ledger : Ledger) (old new : Broker) (session : Kept) (gone : Bool) → RetiresAs Calls old session membership gone new
    → Holds ledger old membership (held_of session.window) → KeepsOut ledger old new
retired_as NotMember ledger old new session gone retires was = ends ledger old new (down session) gone was.mine.owned retires was.others
retired_as (Member place) ledger old new session gone retires was = retired_from ledger old new session (Member place) place Member gone retires was
retired_as (Leaving place) ledger old new session gone retires was = retired_from ledger old new session (Leaving place) place Leaving gone retires was

pub retired : (ledger : Ledger) (old new : Broker) (session : Kept) (gone : Bool) → Retires Calls old session gone new → Holds ledger old session.membership (held_of session.window)
    → KeepsOut ledger old new
retired ledger old new session gone retires was = retired_as session.membership ledger old new session gone retires was

-- what is due is swept
swept_row : (ledger : Ledger) (old mid : Broker) (now : ℕ) (session : Kept) (rows : Rows Held GroupPlace) (IsSo : Row Held GroupPlace → Type 0) (hands : Holder Held GroupPlace)
    → session_in hands ≡ Some session → HandsOut old.desk.rows IsSo hands rows → mid.desk.rows ≡ rows → Calls old (Sweep now (Some session)) mid → Owns ledger old
    → Holds ledger mid session.membership (held_of session.window) × AddsIn old.groups [] mid.groups
swept_row ledger old mid now session rows IsSo hands its out same does was =
    let at : IsAtDesk old.desk.rows out.number session = record { row = out.oldest.row; has = out.oldest.has; stands = ap session_in out.stood ∙ its } in
    let rest = written old.desk.rows mid.desk.rows out.number (away out.oldest.row.client) (same ∙ out.after) refl in
    let goes = one (Sweep now (Some session)) old mid (λ stamp spends. spends) refl tt does (λ number t is. (rest number t is).1) in
    (taken ledger old mid out.number session at goes (λ number t is. (rest number t is).0) was, goes.adds)

swept_one : (ledger : Ledger) (old mid : Broker) (now : ℕ) (session : Kept) → Calls old (Sweep now (Some session)) mid → Owns ledger old
    → Holds ledger mid session.membership (held_of session.window) × AddsIn old.groups [] mid.groups
swept_one ledger old mid now session does was =
    let rows = does.makes.0 in
    let same : mid.desk.rows ≡ rows = ap (λ b. b.rows) does.makes.2 in
    ⊎_elim
    (λ (kept : HandsOut old.desk.rows IsKept (KeptIn session) rows). swept_row ledger old mid now session rows IsKept (KeptIn session) refl kept same does was)
    (λ parked. swept_row ledger old mid now session rows (IsOverdue now) (Parked session) refl parked.1 same does was)
    does.makes.1

pub swept : (most : ℕ) (ledger : Ledger) (old new : Broker) (now : ℕ) → Sweeps Calls old now most new → Owns ledger old → KeepsOut ledger old new
swept zero ledger old new now sweeps was = went ledger old new (still old new sweeps) was
swept (suc most) ledger old new now (inl none) was =
    went ledger old new
    (one (Sweep now None) old new (λ stamp spends. spends) refl tt none (same_rows old new (ap (λ b. b.rows) none.makes.2 ∙ none.makes.1.2))) was
swept (suc most) ledger old new now (inr sweeps) was =
    let one_more = swept_one ledger old sweeps.1 now sweeps.0 sweeps.3 was in
    went_then ledger old sweeps.1 new one_more.1 (
    ⊎_elim
    (λ (last : Retires Calls sweeps.1 sweeps.0 false new). retired ledger sweeps.1 new sweeps.0 false last one_more.0)
    (λ (more : Retires Calls sweeps.1 sweeps.0 true sweeps.2 × Sweeps Calls sweeps.2 now most new).
    let gone = retired ledger sweeps.1 sweeps.2 sweeps.0 true more.0 one_more.0 in
    went_then ledger sweeps.1 sweeps.2 new gone.adds (swept most ledger sweeps.2 new now more.1 gone.owns))
    sweeps.4)

-- a session is asked for
abbrev pub HoldsNothing : Kept → Type 0
HoldsNothing session = (session.membership ≡ NotMember) × (held_of session.window ≡ [])

abbrev pub Gives : Ledger → Broker → Result (Attached Held GroupPlace) DeskError → Type 0
Gives ledger b (Ok (New session None)) = Owns ledger b × HoldsNothing session
Gives ledger b (Ok (New session (Some ended))) = Holds ledger b ended.membership (held_of ended.window) × HoldsNothing session
Gives ledger b (Ok (Resumed session)) = Holds ledger b session.membership (held_of session.window)
Gives ledger b (Ok (Replace holder)) = Owns ledger b
Gives ledger b (Ok Busy) = Owns ledger b
Gives ledger b (Err error) = Owns ledger b

fresh : (session its : Kept) → HoldsNothing its → session ≡ its → HoldsNothing session
fresh session its nothing same = subst HoldsNothing (sym same) nothing

module _ (ledger : Ledger) (old new : Broker) (request : Request) (goes : Shrinks old new → Goes [] old new) (was : Owns ledger old) where
  begins : (rows : Rows Held GroupPlace) (client : List ℕ) (connection : ℕ) → new.desk.rows ≡ map.insert rows old.desk.made (new_row client connection)
      → ((number : ℕ) (t : Kept) → IsAtDesk rows number t → IsAtDesk old.desk.rows number t) → Goes [] old new
  begins rows client connection is shrinks =
      goes (λ number t at. shrinks number t (written rows new.desk.rows old.desk.made (new_row client connection) is refl number t at).1)

  gives_new : (session : Kept) → Begun old.desk request.connection session new.desk → Owns ledger new × HoldsNothing session
  gives_new session does =
      (owns_calm ledger old new (begins old.desk.rows does.client request.connection does.rows (λ number t at. at)) was, fresh session _ (refl, refl) does.is)

  gives_over : (session ended : Kept) → BegunOver old.desk request.connection session ended new.desk → Holds ledger new ended.membership (held_of ended.window) × HoldsNothing session
  gives_over session ended does =
      let k = does.number in
      let rows = map.insert old.desk.rows k (away does.row.client) in
      let first = written old.desk.rows rows k (away does.row.client) refl refl in
      let second = written rows new.desk.rows old.desk.made (new_row does.client request.connection) does.rows refl in
      let calls = goes (λ number t at. (first number t (second number t at).1).1) in (
        taken ledger old new k ended (record { row = does.row; has = does.has; stands = ap session_in does.stands }) calls
            (λ number t at. (first number t (second number t at).1).0) was,
        fresh session _ (refl, refl) does.is,
      )

  client_gives : (byte : ℕ) (bytes : List ℕ) (answer : Result (Attached Held GroupPlace) DeskError) → AttachesClient (IfRoom 256) old.desk (byte ∷ bytes) request answer new.desk → Gives ledger new answer
  client_gives byte bytes (Ok (New session None)) does = gives_new session (begun (IfRoom 256) old.desk new.desk request session (byte ∷ bytes) does)
  client_gives byte bytes (Ok (New session (Some ended))) does = gives_over session ended (begun_over (IfRoom 256) old.desk new.desk request session (byte ∷ bytes) ended does)
  client_gives byte bytes (Ok (Resumed session)) does =
      let k = does.number in
      let rest = written old.desk.rows new.desk.rows k (with_holder does.row (Lent request.connection)) (ap (λ b. b.rows) does.after) refl in
      taken ledger old new k session (record { row = does.row; has = does.its.has; stands = ap session_in does.its.stands }) (goes (λ number t at. (rest number t at).1))
      (λ number t at. (rest number t at).0) was
  client_gives byte bytes (Ok (Replace holder)) does =
      let rest = written old.desk.rows new.desk.rows does.number (with_wait does.row request.connection) (ap (λ b. b.rows) does.after) (ap session_in does.its.stands) in
      owns_calm ledger old new (goes (λ number t at. (rest number t at).1)) was
  client_gives byte bytes (Ok Busy) does = owns_calm ledger old new (goes (same_rows old new (ap (λ b. b.rows) does.1))) was
  client_gives byte bytes (Err errors.Full) does = owns_calm ledger old new (goes (same_rows old new (ap (λ b. b.rows) does.2))) was
  client_gives byte bytes (Err errors.Memory) does = owns_calm ledger old new (goes (same_rows old new (ap (λ b. b.rows) does.1))) was
  client_gives byte bytes (Err errors.NoPlace) does = absurd does
  client_gives byte bytes (Err errors.NoName) does = absurd does

  gives_by : (client : List ℕ) (answer : Result (Attached Held GroupPlace) DeskError) → attaches_by (IfRoom 256) client old.desk request answer new.desk → Gives ledger new answer
  gives_by [] (Ok (New session None)) does = gives_new session (begun (IfRoom 256) old.desk new.desk request session [] does)
  gives_by [] (Ok (New session (Some ended))) does = gives_over session ended (begun_over (IfRoom 256) old.desk new.desk request session [] ended does)
  gives_by [] (Ok (Resumed session)) does = absurd does
  gives_by [] (Ok (Replace holder)) does = absurd does
  gives_by [] (Ok Busy) does = absurd does
  gives_by [] (Err errors.NoName) does = owns_calm ledger old new (goes (same_rows old new (ap (λ b. b.rows) does.1))) was
  gives_by [] (Err errors.Full) does = owns_calm ledger old new (goes (same_rows old new (ap (λ b. b.rows) does.2))) was
  gives_by [] (Err errors.Memory) does = owns_calm ledger old new (goes (same_rows old new (ap (λ b. b.rows) does.2))) was
  gives_by [] (Err errors.NoPlace) does = absurd does
  gives_by (byte ∷ bytes) answer does = client_gives byte bytes answer does

pub gives : (ledger : Ledger) (old new : Broker) (request : Request) (answer : Result (Attached Held GroupPlace) DeskError) → Calls old (Attach request answer) new → Owns ledger old
    → Gives ledger new answer
gives ledger old new request answer does was =
    gives_by ledger old new request (one (Attach request answer) old new (λ stamp spends. spends) refl tt does) was request.client answer does.makes
