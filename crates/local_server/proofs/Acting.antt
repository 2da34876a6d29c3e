-- One step of a connection: what its session and all others hold stays out at their places, and what is acknowledged is settled.
use Rattle.std.proofs.Common.{◌≡◌, ℕ, ◌<◌, nat_lt, Bool, true, false, List, [], ◌∷◌, ◌++◌, Option, Some, None, Result, Ok, Err, Contains, refl, sym, ap, subst, arith, append-nil}
use Rattle.std.specs.Prelude.{⊤}
use Rattle.std.specs.List.{AllByRecursion}
use Rattle.mqtt_packet.specs.declared.packet.Packet.{Packet}
use Rattle.mqtt_packet.specs.declared.packet.Packet.TheVariants as packets
use Rattle.mqtt_packet.specs.declared.packet.Publish.{Publish}
use Rattle.mqtt_packet.specs.declared.packet.Subscribe.{Subscribe}
use Rattle.mqtt_packet.specs.declared.packet.Unsubscribe.{Unsubscribe}
use Rattle.mqtt_topic.specs.Routes.{routed}
use Rattle.group_jobs.specs.Stamps.{Held}
use Rattle.member_window.specs.Contents.{held_of}
use Rattle.member_window.proofs.Lists.{contains_nil}
use Rattle.session_desk.specs.declared.attached.Attached.{Attached}
use Rattle.session_desk.specs.declared.attached.Attached.TheVariants.{New, Resumed, Replace, Busy}
use Rattle.session_desk.specs.declared.error.DeskError.{DeskError}
use Rattle.session_desk.specs.declared.error.DeskError.TheVariants as errors
use Rattle.session_desk.specs.declared.session.Membership.{Membership}
use Rattle.users.specs.Table.{Rights}
use Rattle.users.specs.Rights.{may_publish}
use Rattle.conn_rules.specs.Acknowledging.{fate_of}
use Rattle.conn_rules.specs.declared.publishing.PublishAnswer.{PublishAnswer}
use Rattle.conn_rules.specs.declared.publishing.PublishAnswer.TheVariants as answers
use Rattle.conn_rules.specs.Publishing.{publish_answer, message_of}
use Rattle.conn_rules.specs.Subscribing.{subscribe_refusal, unsubscribe_refusal}
use Rattle.conn_supply.specs.declared.reply.Then.{Then}
use Rattle.conn_supply.specs.declared.reply.Then.TheVariants.{Go, Close, Kicked}
use Rattle.conn_supply.specs.declared.reply.Reply.{Reply}
use Rattle.conn_supply.specs.SupplyCalls.SupplyCall.{Attach, Match}
use Rattle.conn_supply.specs.Publishing.{AnswersPublish, IsOffered, OffersIf}
use Rattle.conn_supply.specs.Subscribing.{SubscribesAs, UnsubscribesAs}
use Rattle.conn_engine.specs.declared.input.Input.{Input}
use Rattle.conn_engine.specs.declared.input.Input.TheVariants as inputs
use Rattle.conn_engine.specs.declared.phase.ConnectRequest.{ConnectRequest}
use Rattle.conn_engine.specs.declared.phase.ConnectedClient.{ConnectedClient}
use Rattle.conn_engine.specs.declared.phase.ConnPhase.{ConnPhase}
use Rattle.conn_engine.specs.declared.phase.ConnPhase.TheVariants.{Waiting, Connected, Ended}
use Rattle.conn_engine.specs.Answering.{DisconnectsIf, Disconnects, Answers}
use Rattle.conn_engine.specs.Connecting.{WaitsAs, ResumesAs, AttachedAs, Attaches, most_ticks}
use Rattle.conn_engine.specs.Ending.{down}
use Rattle.conn_engine.specs.Step.{IsParted, Concludes, AnswersPacket, IsHeard, hearing}
use Rattle.conn_laws.specs.Transcripts.{connected_of}
use Rattle.local_broker.specs.Places.{GroupPlace}
use Rattle.local_broker.specs.Broker.{Broker}
use Rattle.local_broker.specs.Calls.{Calls}
use Rattle.local_server.specs.Happening.{slot_of}
use Rattle.local_server.specs.Messages.{Accepted, IsBroughtBy, IsBrought}
use Rattle.local_server.specs.Settling.{Settlement, AreOutFor}
use Rattle.local_server.proofs.Settled.{AddsIn, adds_then, none_settled}
use Rattle.local_server.proofs.Known.{Log}
use Rattle.local_server.proofs.Accepting.{AreAscending, places_ascend, all_offered}
use Rattle.local_server.proofs.Owning.{Ledger, with_log, Entries, Kept, Owns, Holds, Goes, still, one, same_rows, none_apart, offers_run, owns_on, mine_on, calm, less}
use Rattle.local_server.proofs.Retiring.{KeepsOut, went, retired, HoldsNothing, Gives, gives}
use Rattle.local_server.proofs.Leaving.{parked_as_is, parted, entries_answered, all_left, same_member}
use Rattle.local_server.proofs.Sending.{acknowledged}

-- what a connection has, in the hands of its step
abbrev pub HoldsClient : Ledger → Broker → ConnectedClient GroupPlace → Type 0
HoldsClient ledger b connected = Holds ledger b connected.session.membership (held_of connected.session.window)

abbrev pub HoldsAs : Ledger → Broker → Option (ConnectedClient GroupPlace) → Type 0
HoldsAs ledger b None = Owns ledger b
HoldsAs ledger b (Some connected) = HoldsClient ledger b connected

-- what is told to be settled, by a PUBACK for what this session holds
abbrev pub Tells : Option (ConnectedClient GroupPlace) → Input → List Settlement → Type 0
Tells None input settled = ⊤
Tells (Some connected) (inputs.Packet (packets.Puback puback)) settled =
    (envelope : Held) → Contains (held_of connected.session.window) (puback.packet_identifier, envelope) → settled ≡ (envelope, fate_of puback.reason_code) ∷ []
Tells (Some connected) input settled = ⊤

-- where the connection goes on
abbrev pub IfUp : Option (ConnectedClient GroupPlace) → Type 0 → Type 0
IfUp None Says = ⊤
IfUp (Some connected) Says = Says

pub if_up : (after : Option (ConnectedClient GroupPlace)) (Says : Type 0) → Says → IfUp after Says
if_up None Says says = tt
if_up (Some connected) Says says = says

-- calls by which nothing is settled, and what the connection has then
pub record Quiet (ledger : Ledger) (old : Broker) (after : Option (ConnectedClient GroupPlace)) (new : Broker) : Type 0 where
  pub holds : HoldsAs ledger new after
  pub adds : AddsIn old.groups [] new.groups

pub record Done (ledger : Ledger) (old : Broker) (number now : ℕ) (before : Option (ConnectedClient GroupPlace)) (input : Input) (after : Option (ConnectedClient GroupPlace)) (new : Broker) : Type 0 where
  pub accepted : List Accepted
  pub brought : IsBrought number now input accepted
  pub log' : Log
  pub grows : log' ≡ ledger.log ++ accepted
  pub holds : HoldsAs (with_log ledger log') new after
  pub settled : List Settlement
  pub adds : AddsIn old.groups settled new.groups
  pub tells : IfUp after (Tells before input settled)

pub none_brought : (number now : ℕ) (input : Input) → IsBrought number now input []
none_brought number now input = record { each = tt; ordered = λ i j d less within. absurd (omega arith) }

pub quietly : (ledger : Ledger) (old new : Broker) (number now : ℕ) (before after : Option (ConnectedClient GroupPlace)) (input : Input) → Tells before input [] → Quiet ledger old after new
    → Done ledger old number now before input after new
quietly ledger old new number now before after input told quiet =
    record {
      accepted = [];
      brought = none_brought number now input;
      log' = ledger.log;
      grows = sym (append-nil ledger.log);
      holds = quiet.holds;
      settled = [];
      adds = quiet.adds;
      tells = if_up after (Tells before input []) told;
    }

pub quiet_then : (ledger : Ledger) (old mid new : Broker) (after : Option (ConnectedClient GroupPlace)) → AddsIn old.groups [] mid.groups → Quiet ledger mid after new → Quiet ledger old after new
quiet_then ledger old mid new after adds quiet = record { holds = quiet.holds; adds = adds_then [] [] old.groups mid.groups new.groups adds quiet.adds }

-- the phase from then on
pub at_last : (ledger : Ledger) (old new : Broker) (phase is : ConnPhase GroupPlace) → phase ≡ is → Quiet ledger old (connected_of is) new → Quiet ledger old (connected_of phase) new
at_last ledger old new phase is same quiet = subst (λ (s : ConnPhase GroupPlace). Quiet ledger old (connected_of s) new) (sym same) quiet

pub over : (ledger : Ledger) (old new : Broker) (phase : ConnPhase GroupPlace) → phase ≡ Ended → KeepsOut ledger old new → Quiet ledger old (connected_of phase) new
over ledger old new phase ended went_on = at_last ledger old new phase Ended ended (record { holds = went_on.owns; adds = went_on.adds })

pub stays_over : (ledger : Ledger) (old new : Broker) (phase : ConnPhase GroupPlace) → phase ≡ Ended → new ≡ old → Owns ledger old → Quiet ledger old (connected_of phase) new
stays_over ledger old new phase ended same was = over ledger old new phase ended (went ledger old new (still old new same) was)

-- a session is given
holding_nothing : (ledger : Ledger) (b : Broker) (session : Kept) → HoldsNothing session → Owns ledger b → Holds ledger b session.membership (held_of session.window)
holding_nothing ledger b session nothing was =
    let none : (i : ℕ) (e : Held) → Contains (held_of session.window) (i, e) → ⊥ = λ i e c. contains_nil (i, e) (subst (λ (es : Entries). Contains es (i, e)) nothing.1 c) in
    record {
      others = was;
      mine = record {
        owned = subst (λ (m : Membership GroupPlace). AreOutFor b m (held_of session.window)) (sym nothing.0) nothing.1;
        known = λ i e c. absurd (none i e c);
        apart = λ keeper t has i j e f c d. absurd (none i e c);
        once = λ i j e f c d same. absurd (none i e c);
      };
    }

waits_as : (waits : Bool) (ledger : Ledger) (old new : Broker) (request : ConnectRequest) (ticks : ℕ) (phase : ConnPhase GroupPlace) (reply : Reply)
    → WaitsAs waits request ticks phase reply → new ≡ old
    → Owns ledger old → Quiet ledger old (connected_of phase) new
waits_as true ledger old new request ticks phase reply waits same was =
    let went_on = went ledger old new (still old new same) was in
    at_last ledger old new phase (Waiting request ticks) waits.0 (record { holds = went_on.owns; adds = went_on.adds })
waits_as false ledger old new request ticks phase reply waits same was = stays_over ledger old new phase waits.over same was

resumed_as : (refused : Bool) (ledger : Ledger) (old new : Broker) (request : ConnectRequest) (session : Kept) (phase : ConnPhase GroupPlace) (reply : Reply)
    → ResumesAs Calls refused old request session phase reply new → Holds ledger old session.membership (held_of session.window) → Quiet ledger old (connected_of phase) new
resumed_as true ledger old new request session phase reply resumes was = over ledger old new phase resumes.1.over (parked_as_is ledger old new (down session) resumes.0 was)
resumed_as false ledger old new request session phase reply resumes was =
    let goes = still old new resumes.0 in
    at_last ledger old new phase _ resumes.1.begun (record { holds = calm ledger old new session.membership (held_of session.window) goes was; adds = goes.adds })

attached_as : (answer : Result (Attached Held GroupPlace) DeskError) (ledger : Ledger) (old new : Broker) (request : ConnectRequest) (ticks : ℕ) (phase : ConnPhase GroupPlace)
    (reply : Reply)
    → AttachedAs Calls old request ticks answer phase reply new → Gives ledger old answer → Quiet ledger old (connected_of phase) new
attached_as (Ok (New session None)) ledger old new request ticks phase reply does given =
    let went_on = went ledger old new (still old new does.0) given.0 in
    at_last ledger old new phase _ does.1.begun (record { holds = holding_nothing ledger new session given.1 went_on.owns; adds = went_on.adds })
attached_as (Ok (New session (Some ended))) ledger old new request ticks phase reply does given =
    let went_on = retired ledger old new ended does.0.0 does.0.1 given.0 in
    at_last ledger old new phase _ does.1.begun (record { holds = holding_nothing ledger new session given.1 went_on.owns; adds = went_on.adds })
attached_as (Ok (Resumed session)) ledger old new request ticks phase reply does given = resumed_as _ ledger old new request session phase reply does given
attached_as (Ok (Replace holder)) ledger old new request ticks phase reply does given =
    waits_as (nat_lt ticks most_ticks) ledger old new request ticks phase reply does.0 does.1 given
attached_as (Ok Busy) ledger old new request ticks phase reply does given = stays_over ledger old new phase does.0.over does.1 given
attached_as (Err errors.Full) ledger old new request ticks phase reply does given = stays_over ledger old new phase does.0.over does.1 given
attached_as (Err errors.NoPlace) ledger old new request ticks phase reply does given = stays_over ledger old new phase does.0.over does.1 given
attached_as (Err errors.NoName) ledger old new request ticks phase reply does given = stays_over ledger old new phase does.0.over does.1 given
attached_as (Err errors.Memory) ledger old new request ticks phase reply does given = absurd does

pub attaches : (ledger : Ledger) (old new : Broker) (number now : ℕ) (request : ConnectRequest) (ticks : ℕ) (phase : ConnPhase GroupPlace) (reply : Reply)
    → Attaches Calls old number now request ticks phase reply new → Owns ledger old → Quiet ledger old (connected_of phase) new
attaches ledger old new number now request ticks phase reply does was =
    quiet_then ledger old does.mid new (connected_of phase) (none_settled (Attach _ does.answer) old does.mid refl does.asked_for)
    (attached_as does.answer ledger does.mid new request ticks phase reply does.answered (gives ledger old does.mid _ does.answer does.asked_for was))

-- a connection that goes on, or parts from its session
pub parts : (ledger : Ledger) (old new : Broker) (connected : ConnectedClient GroupPlace) (now : ℕ) (phase : ConnPhase GroupPlace) → IsParted Calls slot_of old connected now phase new
    → HoldsClient ledger old connected
    → Quiet ledger old (connected_of phase) new
parts ledger old new connected now phase does was = over ledger old new phase does.1 (parted ledger old new connected.session now does.0 was)

goes_on : (ledger : Ledger) (old new : Broker) (connected : ConnectedClient GroupPlace) (phase : ConnPhase GroupPlace) → phase ≡ Connected connected → new ≡ old → HoldsClient ledger old connected
    → Quiet ledger old (connected_of phase) new
goes_on ledger old new connected phase is same was =
    let goes = still old new same in
    at_last ledger old new phase (Connected connected) is (record { holds = calm ledger old new connected.session.membership (held_of connected.session.window) goes was; adds = goes.adds })

concluded : (next : Then) (ledger : Ledger) (old new : Broker) (connected : ConnectedClient GroupPlace) (now : ℕ) (phase : ConnPhase GroupPlace)
    → Concludes Calls slot_of old connected now next phase new
    → HoldsClient ledger old connected → Quiet ledger old (connected_of phase) new
concluded Go ledger old new connected now phase does was = goes_on ledger old new connected phase does.0 does.1 was
concluded Close ledger old new connected now phase does was = parts ledger old new connected now phase does was
concluded Kicked ledger old new connected now phase does was = parts ledger old new connected now phase does was

-- the answer to a packet
record Answered (ledger : Ledger) (old : Broker) (number now : ℕ) (connected : ConnectedClient GroupPlace) (packet : Packet) (connected' : ConnectedClient GroupPlace) (new : Broker) : Type 0 where
  accepted : List Accepted
  brought : IsBrought number now (inputs.Packet packet) accepted
  log' : Log
  grows : log' ≡ ledger.log ++ accepted
  holds : HoldsClient (with_log ledger log') new connected'
  settled : List Settlement
  adds : AddsIn old.groups settled new.groups
  tells : Tells (Some connected) (inputs.Packet packet) settled

-- nothing is accepted
answers_so : (ledger : Ledger) (old new : Broker) (number now : ℕ) (connected connected' : ConnectedClient GroupPlace) (packet : Packet) (settled : List Settlement) → HoldsClient ledger new connected'
    → AddsIn old.groups settled new.groups → Tells (Some connected) (inputs.Packet packet) settled → Answered ledger old number now connected packet connected' new
answers_so ledger old new number now connected connected' packet settled holds adds tells =
    record {
      accepted = [];
      brought = none_brought number now (inputs.Packet packet);
      log' = ledger.log;
      grows = sym (append-nil ledger.log);
      holds = holds;
      settled = settled;
      adds = adds;
      tells = tells;
    }

calmly : (ledger : Ledger) (old new : Broker) (number now : ℕ) (connected connected' : ConnectedClient GroupPlace) (packet : Packet) → Tells (Some connected) (inputs.Packet packet) [] → connected' ≡ connected
    → Goes [] old new → HoldsClient ledger old connected → Answered ledger old number now connected packet connected' new
calmly ledger old new number now connected connected' packet told same goes was =
    subst (λ (l : ConnectedClient GroupPlace). Answered ledger old number now connected packet l new) (sym same)
    (answers_so ledger old new number now connected connected packet [] (calm ledger old new connected.session.membership (held_of connected.session.window) goes was) goes.adds told)

-- a message is offered to the groups that match
each_brought : (accepted : List Accepted) (number now : ℕ) (publish : Publish)
    → AllByRecursion (λ (a : Accepted). (a.port ≡ number) × (a.message ≡ message_of now publish) × (a.group < 8)) accepted
    → AllByRecursion (IsBroughtBy number now (inputs.Packet (packets.Publish publish))) accepted
each_brought [] number now publish each = tt
each_brought (accepted ∷ others) number now publish each =
    (record { publish = publish; came = refl; message = each.0.1; port = each.0.0; group = each.0.2 }, each_brought others number now publish each.1)

offered : (ledger : Ledger) (old new : Broker) (number now : ℕ) (connected : ConnectedClient GroupPlace) (publish : Publish) (identifier : ℕ) (reply : Reply)
    → IsOffered Calls old number now publish identifier reply new → HoldsClient ledger old connected → Answered ledger old number now connected (packets.Publish publish) connected new
offered ledger old new number now connected publish identifier reply does was =
    let entries = held_of connected.session.window in
    let match = one (Match _ does.slots) old does.mid (λ stamp spends. spends) refl tt does.matched (same_rows old does.mid (ap (λ b. b.desk.rows) does.matched.1)) in
    let matched = calm ledger old does.mid connected.session.membership entries match was in
    let ascend : AreAscending 0 does.slots = subst (AreAscending 0) (sym does.matched.0) (places_ascend 0 (routed publish.topic old.routes)) in
    let offers = all_offered does.slots ledger.log 0 number (message_of now publish) does.mid new does.taken matched.others.running ascend does.offered matched.others.know in
    let runs = offers_run does.slots does.mid new number (message_of now publish) does.taken does.offered in
    record {
      accepted = offers.accepted;
      brought = record { each = each_brought offers.accepted number now publish offers.each; ordered = offers.ordered };
      log' = offers.log';
      grows = offers.grows;
      holds = record {
        others = owns_on [] ledger offers.log' does.mid new runs.0 offers.know offers.on (λ keeper t has. none_apart (held_of t.window)) matched.others;
        mine = mine_on [] ledger offers.log' does.mid new connected.session.membership entries runs.0 offers.on (none_apart entries) matched.mine;
      };
      settled = [];
      adds = adds_then [] [] old.groups does.mid.groups new.groups match.adds runs.1;
      tells = tt;
    }

offered_if : (allowed : Bool) (ledger : Ledger) (old new : Broker) (number now : ℕ) (connected : ConnectedClient GroupPlace) (publish : Publish) (identifier : ℕ) (reply : Reply)
    → OffersIf Calls allowed old number now publish identifier reply new → HoldsClient ledger old connected → Answered ledger old number now connected (packets.Publish publish) connected new
offered_if true ledger old new number now connected publish identifier reply does was = offered ledger old new number now connected publish identifier reply does was
offered_if false ledger old new number now connected publish identifier reply does was = calmly ledger old new number now connected connected (packets.Publish publish) tt refl (still old new does.1) was

published : (rights : Rights) (answer : PublishAnswer) (ledger : Ledger) (old new : Broker) (number now : ℕ) (connected : ConnectedClient GroupPlace) (publish : Publish) (reply : Reply)
    → AnswersPublish Calls rights old number now publish answer reply new → HoldsClient ledger old connected → Answered ledger old number now connected (packets.Publish publish) connected new
published rights (answers.Close code) ledger old new number now connected publish reply does was = calmly ledger old new number now connected connected (packets.Publish publish) tt refl (still old new does.1) was
published rights (answers.Offer identifier) ledger old new number now connected publish reply does was =
    offered_if (may_publish rights publish.topic) ledger old new number now connected publish identifier reply does was

-- with another membership, through whose place all is out that was
moved : (ledger : Ledger) (old new : Broker) (connected : ConnectedClient GroupPlace) (membership : Membership GroupPlace) (goes : Goes [] old new)
    → ((b : Broker) (entries : Entries) → AreOutFor b connected.session.membership entries → AreOutFor b membership entries) → HoldsClient ledger old connected
    → Holds ledger new membership (held_of connected.session.window)
moved ledger old new connected membership goes follows was =
    let entries = held_of connected.session.window in
    less ledger new connected.session.membership membership entries entries (λ i e c. c) (λ owned. follows new entries owned)
    (calm ledger old new connected.session.membership entries goes was)

subscribed : (rights : Rights) (refused : Option ℕ) (ledger : Ledger) (old new : Broker) (connected : ConnectedClient GroupPlace) (subscribe : Subscribe) (reply : Reply) (membership : Membership GroupPlace) (subscription : Option ℕ)
    → SubscribesAs Calls slot_of refused rights old connected.session.membership connected.session.subscription subscribe reply membership subscription new → HoldsClient ledger old connected
    → Holds ledger new membership (held_of connected.session.window) × AddsIn old.groups [] new.groups
subscribed rights (Some code) ledger old new connected subscribe reply membership subscription does was =
    let goes = still old new does.3 in (moved ledger old new connected membership goes (same_member connected.session.membership membership does.1) was, goes.adds)
subscribed rights None ledger old new connected subscribe reply membership subscription does was =
    let all = entries_answered rights subscribe.subscriptions old new connected.session.membership does.0 membership does.2 in
    (moved ledger old new connected membership all.0 all.1 was, all.0.adds)

unsubscribed : (refused : Option ℕ) (ledger : Ledger) (old new : Broker) (connected : ConnectedClient GroupPlace) (unsubscribe : Unsubscribe) (reply : Reply) (membership : Membership GroupPlace)
    → UnsubscribesAs Calls slot_of refused old connected.session.membership unsubscribe reply membership new → HoldsClient ledger old connected
    → Holds ledger new membership (held_of connected.session.window) × AddsIn old.groups [] new.groups
unsubscribed (Some code) ledger old new connected unsubscribe reply membership does was =
    let goes = still old new does.2 in (moved ledger old new connected membership goes (same_member connected.session.membership membership does.1) was, goes.adds)
unsubscribed None ledger old new connected unsubscribe reply membership does was =
    let all = all_left unsubscribe.filters old new connected.session.membership does.0 membership does.2 in
    (moved ledger old new connected membership all.0 all.1 was, all.0.adds)

disconnects_if : (given : Bool) (ledger : Ledger) (b : Broker) (connected : ConnectedClient GroupPlace) (seconds : ℕ) (connected' : ConnectedClient GroupPlace) (reply : Reply)
    → DisconnectsIf given connected seconds connected' reply
    → HoldsClient ledger b connected → HoldsClient ledger b connected'
disconnects_if true ledger b connected seconds connected' reply does was = subst (HoldsClient ledger b) (sym does.0) was
disconnects_if false ledger b connected seconds connected' reply does was = subst (HoldsClient ledger b) (sym does.0) was

disconnects : (expiry : Option ℕ) (ledger : Ledger) (b : Broker) (connected connected' : ConnectedClient GroupPlace) (reply : Reply) → Disconnects connected expiry connected' reply → HoldsClient ledger b connected
    → HoldsClient ledger b connected'
disconnects None ledger b connected connected' reply does was = subst (HoldsClient ledger b) (sym does.0) was
disconnects (Some seconds) ledger b connected connected' reply does was = disconnects_if _ ledger b connected seconds connected' reply does was

answered : (packet : Packet) (ledger : Ledger) (old new : Broker) (number now : ℕ) (connected connected' : ConnectedClient GroupPlace) (reply : Reply)
    → Answers Calls slot_of old number connected now packet connected' reply new
    → HoldsClient ledger old connected → Answered ledger old number now connected packet connected' new
answered (packets.Publish publish) ledger old new number now connected connected' reply does was =
    subst (λ (l : ConnectedClient GroupPlace). Answered ledger old number now connected (packets.Publish publish) l new) (sym does.1)
    (published connected.rights (publish_answer publish) ledger old new number now connected publish reply does.0 was)
answered (packets.Puback puback) ledger old new number now connected connected' reply does was =
    let acked = acknowledged connected.session.membership ledger old new connected.session.window puback.packet_identifier puback.reason_code does.0.membership does.0.window does.1.settles was in
    subst (λ (l : ConnectedClient GroupPlace). Answered ledger old number now connected (packets.Puback puback) l new) (sym does.2)
    (answers_so ledger old new number now connected _ (packets.Puback puback) acked.settled acked.holds acked.adds acked.exact)
answered (packets.Subscribe subscribe) ledger old new number now connected connected' reply does was =
    let both = subscribed connected.rights (subscribe_refusal subscribe) ledger old new connected subscribe reply does.0 does.1 does.2 was in
    subst (λ (l : ConnectedClient GroupPlace). Answered ledger old number now connected (packets.Subscribe subscribe) l new) (sym does.3)
    (answers_so ledger old new number now connected _ (packets.Subscribe subscribe) [] both.0 both.1 tt)
answered (packets.Unsubscribe unsubscribe) ledger old new number now connected connected' reply does was =
    let both = unsubscribed (unsubscribe_refusal unsubscribe) ledger old new connected unsubscribe reply does.0 does.1 was in
    subst (λ (l : ConnectedClient GroupPlace). Answered ledger old number now connected (packets.Unsubscribe unsubscribe) l new) (sym does.2)
    (answers_so ledger old new number now connected _ (packets.Unsubscribe unsubscribe) [] both.0 both.1 tt)
answered packets.Pingreq ledger old new number now connected connected' reply does was = calmly ledger old new number now connected connected' packets.Pingreq tt does.0 (still old new does.2) was
answered (packets.Disconnect disconnect) ledger old new number now connected connected' reply does was =
    let goes = still old new does.1 in
    answers_so ledger old new number now connected connected' (packets.Disconnect disconnect) []
    (disconnects disconnect.properties.session_expiry_interval ledger new connected connected' reply does.0
    (calm ledger old new connected.session.membership (held_of connected.session.window) goes was))
    goes.adds tt
answered other ledger old new number now connected connected' reply does was = calmly ledger old new number now connected connected' other tt does.0 (still old new does.2) was

-- a packet, and a Tick, of a connection whose client has its session
pub answered_packet : (ledger : Ledger) (old new : Broker) (number : ℕ) (connected : ConnectedClient GroupPlace) (now : ℕ) (packet : Packet) (phase : ConnPhase GroupPlace) (reply : Reply)
    → AnswersPacket Calls slot_of old number connected now packet phase reply new → HoldsClient ledger old connected
    → Done ledger old number now (Some connected) (inputs.Packet packet) (connected_of phase) new
answered_packet ledger old new number connected now packet phase reply does was =
    let answer = answered packet ledger old does.1 number now (hearing connected now) does.0 reply does.2 was in
    let end = concluded reply.next (with_log ledger answer.log') does.1 new does.0 now phase does.3 answer.holds in
    record {
      accepted = answer.accepted;
      brought = answer.brought;
      log' = answer.log';
      grows = answer.grows;
      holds = end.holds;
      settled = answer.settled;
      adds = subst (λ (s : List Settlement). AddsIn old.groups s new.groups) (append-nil answer.settled)
          (adds_then answer.settled [] old.groups does.1.groups new.groups answer.adds end.adds);
      tells = if_up (connected_of phase) (Tells (Some connected) (inputs.Packet packet) answer.settled) answer.tells;
    }

pub heard : (overdue : Bool) (ledger : Ledger) (old new : Broker) (connected : ConnectedClient GroupPlace) (now : ℕ) (phase : ConnPhase GroupPlace) (reply : Reply)
    → IsHeard Calls slot_of overdue old connected now phase reply new
    → HoldsClient ledger old connected → Quiet ledger old (connected_of phase) new
heard true ledger old new connected now phase reply does was = parts ledger old new connected now phase does.1 was
heard false ledger old new connected now phase reply does was = goes_on ledger old new connected phase does.1 does.2 was
