-- The first packet of the connection is answered as the model has it.
use Rattle.std.proofs.Common.{◌≡◌, ◌≢◌, ℕ, ◌<◌, ◌≤◌, Bool, false, List, [], ◌∷◌, map, length, replicate, slice_get, slice_set, nat_cmp, Option, Some, None, Result, Ok, Err, refl, sym, ap, ◌∙◌, subst, ⊎_elim, inl, arith}
use Rattle.std.specs.FinMap as map
use Rattle.std.specs.FinMap.{get-empty, len-empty}
use Rattle.std.specs.Str.{is_utf8, chars}
use Rattle.std.proofs.lemmas.Bool.{cases_lt}
use Rattle.std.proofs.lemmas.List.{length-replicate}
use Rattle.std.proofs.lemmas.Option.{none-some}
use Rattle.dispatch_core.proofs.Spots.{slice_get-set_same}
use Rattle.mqtt_packet.specs.declared.packet.Connect.{Connect}
use Rattle.mqtt_packet.specs.Texts.{is_text}
use Rattle.mqtt_topic.specs.Names.{Share}
use Rattle.group_jobs.specs.Stamps.{Held}
use Rattle.session_desk.specs.declared.newcomers.Newcomers.TheVariants.{IfRoom}
use Rattle.session_desk.specs.Newcomers.{HasRoom}
use Rattle.session_desk.proofs.Begun.{begun_over}
use Rattle.session_desk.specs.declared.attached.Attached.{Attached}
use Rattle.session_desk.specs.declared.attached.Attached.TheVariants.{New, Resumed, Replace, Busy}
use Rattle.session_desk.specs.declared.error.DeskError.{DeskError}
use Rattle.session_desk.specs.declared.error.DeskError.TheVariants as errors
use Rattle.session_desk.specs.declared.session.Session.{Session}
use Rattle.session_desk.specs.declared.row.Row.{Row}
use Rattle.session_desk.specs.Attaching.{Request, attaches_by, asked}
use Rattle.session_desk.specs.Books.{Books, new_session, after_new, after_name}
use Rattle.session_desk.specs.Names.{assigned_name}
use Rattle.session_desk.specs.Rows.{Rows, HasRow, new_row}
use Rattle.session_desk.specs.Sessions.{Who}
use Rattle.session_desk.proofs.Seen.{insert_here}
use Rattle.session_desk.specs.declared.session.Membership.TheVariants.{NotMember}
use Rattle.users.specs.Rights.{all_rights}
use Rattle.conn_rules.specs.Connecting.{inflight_alone, no_overrides, terms_of}
use Rattle.conn_rules.specs.Packets.{accepting}
use Rattle.conn_supply.specs.declared.reply.Then.TheVariants.{Go}
use Rattle.conn_supply.specs.declared.reply.Reply.{Reply as ConnReply}
use Rattle.conn_supply.specs.Replies.{going_on}
use Rattle.conn_engine.specs.Step.{request_of}
use Rattle.conn_engine.specs.declared.phase.ConnectRequest.{ConnectRequest}
use Rattle.conn_engine.specs.Connecting.{assigned, opened, Attaches as EngineAttaches, AttachedAs}
use Rattle.conn_engine.specs.declared.phase.ConnectedClient.{ConnectedClient}
use Rattle.conn_engine.specs.declared.phase.ConnPhase.{ConnPhase}
use Rattle.conn_engine.specs.declared.phase.ConnPhase.TheVariants as phases
use Rattle.local_broker.specs.Places.{GroupPlace}
use Rattle.local_broker.specs.Broker.{Broker, HasAllPlaces, IsNewBroker}
use Rattle.local_broker.specs.Calls.{Calls}
use Rattle.solo_output.specs.Groups.{SoloState, opening, bound}
use Rattle.solo_output.specs.Groups.Phase.{Connected}
use Rattle.solo_output.specs.Replies.{assigned_to}
use Rattle.solo_output.proofs.Counted.{none_counted}
use Rattle.solo_output.proofs.Groups.{ShowsGroup}
use Rattle.solo_output.proofs.Desks.{ShowsDesk, AllFree}
use Rattle.solo_output.proofs.Sessions.{IsLentAs, ShowsClient, broker_moved}
use Rattle.solo_output.proofs.Brokers.{FitsBroker, ShowsBroker, accepted_first, shares_first}

-- the name that is given first
first_name : (number : ℕ) → assigned [] (record { number = number; client = assigned_name 1 }) ≡ assigned_to []
unfolding is_text is_utf8 chars lib.Utf8.encode
first_name number = refl

-- a new broker shows the model before the first packet
pub opens : (capacity max_inflight : ℕ) (shares : List Share) (b : Broker) → FitsBroker capacity shares → IsNewBroker capacity shares b → ShowsBroker (opening capacity max_inflight shares) [] b
opens capacity max_inflight shares b fits new =
    record {
      routes = new.routes ∙ sym (shares_first shares);
      few = omega (arith, fits.few, Rattle.std.proofs.lemmas.List.length-map shares bound);
      eight = new.eight;
      groups = λ slot group there.
          (let is = new.groups slot group there in
          subst (λ l. ShowsGroup capacity slot l [] [] group) (sym (accepted_first slot shares))
          (record {
            numbered = is.numbered;
            fits = is.fits;
            goes_on = is.fresh.state.not_closed;
            counted = none_counted group is.fresh;
            order = omega arith;
            queue = ap (map (λ w. w.message)) is.fresh.queue;
            holds = omega (arith, ap length is.fresh.queue);
            small = fits.small;
            none_returned = is.fresh.returned;
            opens = refl;
            ours = tt;
          }));
    }

-- ---- a session is asked for

kicked_first : (n : ℕ) (l : List Bool) → l ≡ replicate n false → 0 < n → slice_get (slice_set l 0 false) 0 ≡ Some false
kicked_first n l is some =
    let long : length l ≡ n = ap length is ∙ length-replicate n false in
    slice_get-set_same l 0 false (omega arith)

-- the client of this identifier gets the first session of the desk
record IsFirst (client : List ℕ) (answer : Result (Attached Held GroupPlace) DeskError) (old new : Books Held GroupPlace) : Type 0 where
  who : Who
  answer_is : answer ≡ Ok (New (new_session who) None)
  lent : IsLentAs new.rows who
  kicked : slice_get new.kicked 0 ≡ Some false
  free : new.free ≡ old.free
  name : assigned client who ≡ assigned_to client

module _ (old new : Books Held GroupPlace) (all : HasAllPlaces old) where
  bare : old.rows ≡ map.empty
  bare = ap (λ (b : Books Held GroupPlace). b.rows) all.books

  no_row : (number : ℕ) (row : Row Held GroupPlace) → HasRow old.rows number row → ⊥
  no_row number row has = none-some row (sym (get-empty {X = Row Held GroupPlace} nat_cmp number) ∙ ap (λ (rows : Rows Held GroupPlace). map.get rows number) (sym bare) ∙ has)

  not_full : ¬ HasRoom (IfRoom 256) old.rows → ⊥
  not_full full =
      let none = ap map.len bare ∙ len-empty nat_cmp (Row Held GroupPlace) in
      let less : map.len old.rows < 256 = omega (arith, none) in
      full (inl less)

  begins : (client : List ℕ) (other : Books Held GroupPlace) → other ≡ after_new old client 0 → IsLentAs other.rows (record { number = old.made; client = client }) × (slice_get other.kicked 0 ≡ Some false) × (other.free ≡ old.free)
  begins client other is = (
    record {
      row = new_row client 0;
      connection = 0;
      has = ap (λ (b : Books Held GroupPlace). map.get b.rows old.made) is ∙ insert_here old.rows old.made (new_row client 0);
      its = refl;
      stands = refl;
    },
    ap (λ (b : Books Held GroupPlace). slice_get b.kicked 0) is ∙ kicked_first 1024 old.kicked (ap (λ (b : Books Held GroupPlace). b.kicked) all.books) (omega arith),
    ap (λ (b : Books Held GroupPlace). b.free) is,
  )

  named : (client : List ℕ) (request : Request) (answer : Result (Attached Held GroupPlace) DeskError) → request.connection ≡ 0 → answer ≢ Err errors.Memory → attaches_by (IfRoom 256) client old request answer new → IsFirst client answer old new
  named (byte ∷ bytes) request (Ok (New session None)) first memory does =
      let b = begins (byte ∷ bytes) new (does.after ∙ ap (after_new old (byte ∷ bytes)) first) in
      record {
        who = record { number = old.made; client = byte ∷ bytes };
        answer_is = ap (λ (s : Session Held GroupPlace). Ok (New s None)) does.is;
        lent = b.0;
        kicked = b.1;
        free = b.2;
        name = refl;
      }
  named (byte ∷ bytes) request (Ok (New session (Some over))) first memory does =
      let h = begun_over (IfRoom 256) old new request session (byte ∷ bytes) over does in absurd (no_row h.number h.row h.has)
  named (byte ∷ bytes) request (Ok (Resumed session)) first memory does = absurd (no_row does.number does.row does.its.has)
  named (byte ∷ bytes) request (Ok (Replace holder)) first memory does = absurd (no_row does.number does.row does.its.has)
  named (byte ∷ bytes) request (Ok Busy) first memory does = absurd (no_row does.0.number does.0.row does.0.its.has)
  named (byte ∷ bytes) request (Err errors.Full) first memory does = absurd (not_full does.1)
  named (byte ∷ bytes) request (Err errors.Memory) first memory does = absurd (memory refl)
  named (byte ∷ bytes) request (Err errors.NoPlace) first memory does = absurd does
  named (byte ∷ bytes) request (Err errors.NoName) first memory does = absurd does
  named [] request (Ok (New session None)) first memory does =
      let number = does.number in
      let none_yet : old.assigned ≡ 0 = ap (λ (b : Books Held GroupPlace). b.assigned) all.books in
      let above : old.assigned < number = does.next.above in
      let one : number ≡ 1 =
      ⊎_elim
      (λ (more : 1 < number). let has = does.next.least 1 (omega (arith, none_yet)) more in absurd (no_row has.0 has.1 has.2))
      (λ (not_more : number ≤ 1). omega (arith, none_yet, above, not_more))
      (cases_lt 1 number) in
      let named_one = after_new old (assigned_name number) 0 in
      let after : new ≡ after_name named_one number = does.after ∙ ap (λ (b : Books Held GroupPlace). after_name b number) (does.begins.after ∙ ap (after_new old (assigned_name number)) first) in
      let b = begins (assigned_name number) named_one refl in
      let who : Who = record { number = old.made; client = assigned_name number } in
      record {
        who = who;
        answer_is = ap (λ (s : Session Held GroupPlace). Ok (New s None)) does.begins.is;
        lent = subst (λ (rows : Rows Held GroupPlace). IsLentAs rows who) (ap (λ (o : Books Held GroupPlace). o.rows) (sym after)) b.0;
        kicked = ap (λ (o : Books Held GroupPlace). slice_get o.kicked 0) after ∙ b.1;
        free = ap (λ (o : Books Held GroupPlace). o.free) after ∙ b.2;
        name = ap (λ (n : ℕ). assigned [] (record { number = old.made; client = assigned_name n })) one ∙ first_name old.made;
      }
  named [] request (Ok (New session (Some over))) first memory does =
      let h = begun_over (IfRoom 256) old new request session [] over does in absurd (no_row h.number h.row h.has)
  named [] request (Ok (Resumed session)) first memory does = absurd does
  named [] request (Ok (Replace holder)) first memory does = absurd does
  named [] request (Ok Busy) first memory does = absurd does
  named [] request (Err errors.Full) first memory does = absurd (not_full does.1)
  named [] request (Err errors.Memory) first memory does = absurd (memory refl)
  named [] request (Err errors.NoPlace) first memory does = absurd does
  named [] request (Err errors.NoName) first memory does =
      let none_yet : old.assigned ≡ 0 = ap (λ (b : Books Held GroupPlace). b.assigned) all.books in
      let has = does.0 1 (omega (arith, none_yet)) (omega arith) in
      absurd (no_row has.0 has.1 has.2)

-- ---- the connection begins

-- the model from then on
abbrev pub begun : Connect → SoloState → SoloState
begun connect solo = record solo { phase = Connected; terms = terms_of (inflight_alone solo.max_inflight) connect }

pub record Began (connect : Connect) (solo : SoloState) (phase : ConnPhase GroupPlace) (reply : ConnReply) (new : Broker) : Type 0 where
  pub connected : ConnectedClient GroupPlace
  pub stands : phase ≡ phases.Connected connected
  pub told : reply ≡ record { packet = Some (accepting false (assigned_to connect.client_identifier) no_overrides); next = Go }
  pub shows : ShowsClient (begun connect solo) connected new

not_memory : (mid new : Broker) (request : ConnectRequest) (answer : Result (Attached Held GroupPlace) DeskError) (phase : ConnPhase GroupPlace) (reply : ConnReply) → AttachedAs Calls mid request 0 answer phase reply new → answer ≢ Err errors.Memory
not_memory mid new request answer phase reply does is = absurd (subst (λ a. AttachedAs Calls mid request 0 a phase reply new) is does)

pub attaches : (connect : Connect) (capacity max_inflight : ℕ) (shares : List Share) (now : ℕ) (phase : ConnPhase GroupPlace) (reply : ConnReply) (old new : Broker) → IsNewBroker capacity shares old → FitsBroker capacity shares
    → EngineAttaches Calls old 0 now (request_of (inflight_alone max_inflight) connect now) 0 phase reply new → Began connect (opening capacity max_inflight shares) phase reply new
attaches connect capacity max_inflight shares now phase reply old new is_new fits does =
    let solo = opening capacity max_inflight shares in
    let client = connect.client_identifier in
    let request = asked 0 client connect.clean_start now in
    let mid = does.mid in
    let first = named old.desk mid.desk is_new.desk client request does.answer refl (not_memory mid new (request_of (inflight_alone max_inflight) connect now) does.answer phase reply does.answered) does.asked_for.makes in
    let begins_as = subst (λ a. AttachedAs Calls mid (request_of (inflight_alone max_inflight) connect now) 0 a phase reply new) first.answer_is does.answered in
    let same : new ≡ mid = begins_as.0 in
    let accepts = begins_as.1 in
    let session = opened {P = GroupPlace} (new_session first.who) (terms_of (inflight_alone max_inflight) connect) in
    let start = opens capacity max_inflight shares old fits is_new in
    let now_shows : ShowsBroker (begun connect solo) [] old = record { routes = start.routes; few = start.few; eight = start.eight; groups = start.groups } in
    let then_shows : ShowsBroker (begun connect solo) [] new =
    subst (ShowsBroker (begun connect solo) []) (sym same) (broker_moved (begun connect solo) [] old mid does.asked_for.routes does.asked_for.groups now_shows) in
    let desk : ShowsDesk NotMember mid.desk = record { not_kicked = first.kicked; places = subst AllFree (sym first.free) is_new.desk.free } in
    record {
      connected = record { session = session; terms = terms_of (inflight_alone max_inflight) connect; rights = all_rights; heard = now };
      stands = accepts.begun;
      told = accepts.told ∙ ap (λ (n : Option (List ℕ)). going_on (Some (accepting false n no_overrides))) first.name;
      shows = record {
        session = record {
          broker = then_shows;
          desk = subst (λ (b : Broker). ShowsDesk NotMember b.desk) (sym same) desk;
          window = record { none_waits = refl; quota_is = refl; opens = refl; not_ending = refl };
          member = refl;
          idles = refl;
          subscribed = refl;
          expiry = refl;
          lent = subst (λ (b : Broker). IsLentAs b.desk.rows first.who) (sym same) first.lent;
        };
        terms = refl;
        rights = refl;
        phase = refl;
      };
    }
