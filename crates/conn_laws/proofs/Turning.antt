-- What becomes of the session of a connection before anything is handed out: the calls of each kind, and the marks that they add.
use Rattle.std.proofs.Common.{◌≡◌, ℕ, nat_lt, Bool, true, false, List, [], ◌∷◌, ◌++◌, filter_map, Option, Some, None, Result, Ok, Err, refl, sym, ap, subst, inl, inr}
use Rattle.std.specs.List.{AllByRecursion}
use Rattle.group_jobs.specs.declared.fate.Fate.{Fate}
use Rattle.group_jobs.specs.Stamps.{Held}
use Rattle.member_window.specs.Contents.{after_down}
use Rattle.member_window.specs.Marks.{Mark, Up, Down}
use Rattle.session_desk.specs.Attaching.{asked}
use Rattle.session_desk.specs.declared.attached.Attached.{Attached}
use Rattle.session_desk.specs.declared.attached.Attached.TheVariants.{New, Resumed, Replace, Busy}
use Rattle.session_desk.specs.declared.error.DeskError.{DeskError}
use Rattle.session_desk.specs.declared.error.DeskError.TheVariants as errors
use Rattle.session_desk.specs.declared.session.Session.{Session}
use Rattle.conn_supply.specs.declared.reply.Reply.{Reply}
use Rattle.conn_supply.specs.SupplyCalls.{SupplyCall}
use Rattle.conn_supply.specs.SupplyCalls.SupplyCall.{ParkAsIs}
use Rattle.conn_engine.specs.declared.phase.ConnectRequest.{ConnectRequest}
use Rattle.conn_engine.specs.declared.phase.ConnectedClient.{ConnectedClient}
use Rattle.conn_engine.specs.declared.phase.ConnPhase.{ConnPhase}
use Rattle.conn_engine.specs.Connecting.{holds_message_too_long, most_ticks, Accepts, WaitsAs, ResumesAs, AttachedAs, Attaches}
use Rattle.conn_engine.specs.Ending.{down, Parts}
use Rattle.conn_laws.specs.Calls.{settlement_of, hand_out_of, settled, handed, MakesAll}
use Rattle.conn_laws.specs.Marks.{publishes_of, fresh_of, acknowledged_of}
use Rattle.conn_laws.specs.Transcripts.{connected_of, session_given, IsAside, LeadsAside, AsksForOne, HandsIn, SessionSteps}
use Rattle.conn_laws.proofs.Aside.{Aside, all_of_both, none_in_both, joins}
use Rattle.conn_laws.proofs.Aside as asides

module _ {S P : Type 0} (call : S → SupplyCall P → S → Type 0) where
  -- calls by which nothing is settled and nothing is handed out
  pub record Quiet (old new : S) : Type 0 where
    pub supply_calls : List (SupplyCall P)
    pub made : MakesAll call old supply_calls new
    pub settles : settled supply_calls ≡ []
    pub hands : handed supply_calls ≡ []

  pub quiet_one : (old new : S) (supply_call : SupplyCall P) → call old supply_call new → settlement_of supply_call ≡ None → hand_out_of supply_call ≡ None → Quiet old new
  quiet_one old new supply_call called no_settlement no_hand_out =
      record {
        supply_calls = supply_call ∷ [];
        made = (new, called, refl);
        settles = ap (λ (found : Option (Held × Fate)). filter_map (λ o. o) (found ∷ [])) no_settlement;
        hands = ap (λ (found : Option (P × Held)). filter_map (λ o. o) (found ∷ [])) no_hand_out;
      }

  pub quiet_behind : (old mid new : S) → Quiet old mid → Quiet mid new → Quiet old new
  quiet_behind old mid new these those =
      record {
        supply_calls = these.supply_calls ++ those.supply_calls;
        made = joins call these.supply_calls those.supply_calls old mid new these.made those.made;
        settles = none_in_both settlement_of these.supply_calls those.supply_calls these.settles those.settles;
        hands = none_in_both hand_out_of these.supply_calls those.supply_calls these.hands those.hands;
      }

  -- among them those by which no session is asked for or handed in
  pub record Apart (old new : S) : Type 0 where
    pub calls : Quiet old new
    pub aside : AllByRecursion IsAside calls.supply_calls

  pub leads : (old new : S) → Apart old new → LeadsAside call old new
  leads old new apart = record { supply_calls = apart.calls.supply_calls; made = apart.calls.made; aside = apart.aside }

  pub apart : {before after : List P} (old new : S) → Aside call [] [] before after old new → Apart old new
  apart old new calls = record { calls = record { supply_calls = calls.supply_calls; made = calls.made; settles = calls.settles; hands = calls.hands }; aside = calls.aside }

  pub still : (old new : S) → new ≡ old → Apart old new
  still old new same = apart {before = []} {after = []} old new (asides.still call old new refl same)

  pub apart_one : (old new : S) (supply_call : SupplyCall P) → call old supply_call new → IsAside supply_call → settlement_of supply_call ≡ None → hand_out_of supply_call ≡ None → Apart old new
  unfolding quiet_one
  apart_one old new supply_call called is_aside no_settlement no_hand_out = record { calls = quiet_one old new supply_call called no_settlement no_hand_out; aside = (is_aside, tt) }

  pub apart_behind : (old mid new : S) → Apart old mid → Apart mid new → Apart old new
  unfolding quiet_behind
  apart_behind old mid new these those =
      record {
        calls = quiet_behind old mid new these.calls those.calls;
        aside = all_of_both IsAside these.calls.supply_calls those.calls.supply_calls these.aside those.aside;
      }

  -- what becomes of the session, where nothing is acknowledged
  pub record SessionStep (old : S) (number : ℕ) (before after : Option (ConnectedClient P)) (new : S) : Type 0 where
    pub marks : List (Mark Held)
    pub session : SessionSteps call old number before after marks new
    pub no_publish : (now : ℕ) → publishes_of now marks ≡ []
    pub none_fresh : fresh_of marks ≡ []
    pub none_acked : acknowledged_of marks ≡ []
    pub calls : Quiet old new

  -- where the connection is
  pub is_at : (old new : S) (number : ℕ) (before : Option (ConnectedClient P)) (phase was : ConnPhase P) → phase ≡ was → SessionStep old number before (connected_of was) new
      → SessionStep old number before (connected_of phase) new
  is_at old new number before phase was is session_step = subst (λ s. SessionStep old number before (connected_of s) new) (sym is) session_step

  -- no session is asked for
  pub stays_out : (old new : S) (number : ℕ) → Apart old new → SessionStep old number None None new
  stays_out old new number calls =
      record { marks = []; session = (refl, inl (leads old new calls)); no_publish = λ now. refl; none_fresh = refl; none_acked = refl; calls = calls.calls }

  -- one is asked for, and this is the answer
  record Asked (old : S) (number : ℕ) (answer : Result (Attached Held P) DeskError) (new : S) : Type 0 where
    asks : AsksForOne call old number answer new
    calls : Quiet old new

  -- none is given
  in_vain : (old mid new : S) (number : ℕ) (answer : Result (Attached Held P) DeskError) → Asked old number answer mid → session_given answer ≡ None → Apart mid new
      → SessionStep old number None None new
  in_vain old mid new number answer asked none later =
      record {
        marks = [];
        session = (refl, inr (record { answer = answer; mid = mid; asks = asked.asks; vain = inl (none, leads mid new later) }));
        no_publish = λ now. refl;
        none_fresh = refl;
        none_acked = refl;
        calls = quiet_behind old mid new asked.calls later.calls;
      }

  -- one is given, and goes back at once
  goes_back : (old mid behind new : S) (number : ℕ) (session : Session Held P) → Asked old number (Ok (Resumed session)) mid → call mid (ParkAsIs (down session)) behind → Apart behind new
      → SessionStep old number None None new
  goes_back old mid behind new number session asked back later =
      record {
        marks = [];
        session = (refl, inr (record { answer = Ok (Resumed session); mid = mid; asks = asked.asks; vain = inr (session, behind, refl, back, leads behind new later) }));
        no_publish = λ now. refl;
        none_fresh = refl;
        none_acked = refl;
        calls = quiet_behind old mid new asked.calls (quiet_behind mid behind new (quiet_one mid behind _ back refl refl) later.calls);
      }

  -- one is given, and the connection begins
  begins : (old mid new : S) (number : ℕ) (answer : Result (Attached Held P) DeskError) (request : ConnectRequest) (present : Bool) (session : Session Held P) (phase : ConnPhase P)
      (reply : Reply) → Asked old number answer mid → session_given answer ≡ Some session → Accepts request present session phase reply → Apart mid new
      → SessionStep old number None (connected_of phase) new
  begins old mid new number answer request present session phase reply asked given accepts later =
      is_at old new number None phase _ accepts.begun
      (record {
        marks = Up request.terms.receive_maximum ∷ [];
        session = record {
          answer = answer;
          session = session;
          mid = mid;
          asks = asked.asks;
          given = given;
          aside = leads mid new later;
          same = refl;
          calls = [];
          made = refl;
          marks_are = refl;
          within = tt;
        };
        no_publish = λ now. refl;
        none_fresh = refl;
        none_acked = refl;
        calls = quiet_behind old mid new asked.calls later.calls;
      })

  waits_as : (fewer : Bool) (old new : S) (number : ℕ) (request : ConnectRequest) (ticks : ℕ) (phase : ConnPhase P) (reply : Reply) → WaitsAs fewer request ticks phase reply
      → SessionStep old number None None new → SessionStep old number None (connected_of phase) new
  waits_as true old new number request ticks phase reply waits session_step = is_at old new number None phase _ waits.0 session_step
  waits_as false old new number request ticks phase reply refused session_step = is_at old new number None phase _ refused.over session_step

  resumed_as : (no : Bool) (old mid behind new : S) (number : ℕ) (request : ConnectRequest) (session : Session Held P) (phase : ConnPhase P) (reply : Reply)
      → Asked old number (Ok (Resumed session)) mid → ResumesAs call no mid request session phase reply behind → Apart behind new → SessionStep old number None (connected_of phase) new
  resumed_as true old mid behind new number request session phase reply asked resumes later =
      is_at old new number None phase _ resumes.1.over (goes_back old mid behind new number session asked resumes.0 later)
  resumed_as false old mid behind new number request session phase reply asked resumes later =
      begins old mid new number _ request true session phase reply asked refl resumes.1 (apart_behind mid behind new (still mid behind resumes.0) later)

  attached_as : (answer : Result (Attached Held P) DeskError) (old mid behind new : S) (number : ℕ) (request : ConnectRequest) (ticks : ℕ) (phase : ConnPhase P) (reply : Reply)
      → Asked old number answer mid → AttachedAs call mid request ticks answer phase reply behind → Apart behind new → SessionStep old number None (connected_of phase) new
  attached_as (Ok (New session ended)) old mid behind new number request ticks phase reply asked is later =
      begins old mid new number _ request false session phase reply asked refl is.1 (apart_behind mid behind new (apart mid behind (asides.retired_earlier call ended mid behind is.0)) later)
  attached_as (Ok (Resumed session)) old mid behind new number request ticks phase reply asked is later =
      resumed_as (holds_message_too_long request.terms.maximum_packet_size session.window) old mid behind new number request session phase reply asked is later
  attached_as (Ok (Replace holder)) old mid behind new number request ticks phase reply asked is later =
      waits_as (nat_lt ticks most_ticks) old new number request ticks phase reply is.0 (in_vain old mid new number _ asked refl (apart_behind mid behind new (still mid behind is.1) later))
  attached_as (Ok Busy) old mid behind new number request ticks phase reply asked is later =
      is_at old new number None phase _ is.0.over (in_vain old mid new number _ asked refl (apart_behind mid behind new (still mid behind is.1) later))
  attached_as (Err errors.Full) old mid behind new number request ticks phase reply asked is later =
      is_at old new number None phase _ is.0.over (in_vain old mid new number _ asked refl (apart_behind mid behind new (still mid behind is.1) later))
  attached_as (Err errors.NoPlace) old mid behind new number request ticks phase reply asked is later =
      is_at old new number None phase _ is.0.over (in_vain old mid new number _ asked refl (apart_behind mid behind new (still mid behind is.1) later))
  attached_as (Err errors.NoName) old mid behind new number request ticks phase reply asked is later =
      is_at old new number None phase _ is.0.over (in_vain old mid new number _ asked refl (apart_behind mid behind new (still mid behind is.1) later))
  attached_as (Err errors.Memory) old mid behind new number request ticks phase reply asked is later = absurd is

  pub attached : (old before behind new : S) (number now : ℕ) (request : ConnectRequest) (ticks : ℕ) (phase : ConnPhase P) (reply : Reply)
      → Apart old before → Attaches call before number now request ticks phase reply behind → Apart behind new → SessionStep old number None (connected_of phase) new
  attached old before behind new number now request ticks phase reply earlier attaches later =
      let asks : AsksForOne call old number attaches.answer attaches.mid =
      record { request = asked number request.client request.clean_start now; whose = refl; before = before; aside = leads old before earlier; asked = attaches.asked_for } in
      attached_as attaches.answer old attaches.mid behind new number request ticks phase reply
      (record { asks = asks; calls = quiet_behind old before attaches.mid earlier.calls (quiet_one before attaches.mid _ attaches.asked_for refl refl) })
      attaches.answered later

  -- the connection goes on, and its window is what it was
  pub goes_on : (old new : S) (number : ℕ) (connected after : ConnectedClient P) → after.session.identity ≡ connected.session.identity → after.session.window ≡ connected.session.window → Apart old new
      → SessionStep old number (Some connected) (Some after) new
  goes_on old new number connected after same window calls =
      record {
        marks = [];
        session = record { aside = leads old new calls; same = same; calls = []; made = window; marks_are = refl; within = tt };
        no_publish = λ now. refl;
        none_fresh = refl;
        none_acked = refl;
        calls = calls.calls;
      }

  -- it ends, and its session is handed in
  pub handed_in : (old before behind new : S) (number : ℕ) (connected : ConnectedClient P) (session : Session Held P) → session.identity ≡ connected.session.identity
      → session.window ≡ after_down connected.session.window → Apart old before → HandsIn call before session behind → Quiet before behind → Apart behind new
      → SessionStep old number (Some connected) None new
  handed_in old before behind new number connected session same is_down earlier hands_in called later =
      record {
        marks = Down ∷ [];
        session = record {
          session = session;
          before = before;
          behind = behind;
          aside = leads old before earlier;
          handed_in = hands_in;
          later = leads behind new later;
          same = same;
          is_down = is_down;
          marks_are = refl;
        };
        no_publish = λ now. refl;
        none_fresh = refl;
        none_acked = refl;
        calls = quiet_behind old before new earlier.calls (quiet_behind before behind new called later.calls);
      }

  pub parted : (old before new : S) (number now : ℕ) (connected after : ConnectedClient P) → after.session.identity ≡ connected.session.identity → after.session.window ≡ connected.session.window
      → Apart old before → Parts call before after.session now new → SessionStep old number (Some connected) None new
  parted old before new number now connected after same window earlier parts =
      handed_in old before parts.1 new number connected (down after.session) same (ap after_down window) earlier (inl (now, parts.0, parts.2)) (quiet_one before parts.1 _ parts.2 refl refl)
      (apart parts.1 new (asides.parted_as call parts.0 parts.1 new parts.3))
