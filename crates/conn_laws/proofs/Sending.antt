-- What a step sends: small packets, CONNACKs that assign an identifier, and messages that are handed on.
use Rattle.std.proofs.Common.{◌≡◌, ℕ, suc, ◌≤◌, Bool, true, false, List, [], ◌∷◌, ◌++◌, length, Option, Some, None, Result, Ok, Err, refl, sym, ap, subst, ◌∙◌, arith, inl, inr, if◌then◌else◌, nat_lt, ltb-false}
use Rattle.std.specs.Prelude.{⊤}
use Rattle.std.specs.List.{AllByRecursion}
use Rattle.std.specs.Option.{option_to_list}
use Rattle.mqtt_packet.specs.Texts.{is_text}
use Rattle.mqtt_packet.specs.declared.packet.ConnectRefusal.{ConnectRefusal}
use Rattle.mqtt_packet.specs.declared.packet.Packet.{Packet}
use Rattle.mqtt_packet.specs.declared.packet.Packet.TheVariants as packets
use Rattle.mqtt_packet.specs.declared.packet.Publish.{Publish}
use Rattle.mqtt_packet.specs.declared.packet.Subscribe.{Subscribe}
use Rattle.mqtt_packet.specs.declared.packet.Subscription.{Subscription}
use Rattle.mqtt_packet.specs.declared.packet.Unsubscribe.{Unsubscribe}
use Rattle.users.specs.Table.{Rights}
use Rattle.users.specs.Rights.{may_publish}
use Rattle.group_jobs.specs.Stamps.{Held}
use Rattle.member_window.specs.Contents.{Contents, after_resend}
use Rattle.session_desk.specs.Sessions.{Who}
use Rattle.session_desk.specs.Names.{assigned_name}
use Rattle.session_desk.specs.Attaching.{Request, asked}
use Rattle.session_desk.specs.declared.attached.Attached.{Attached}
use Rattle.session_desk.specs.declared.attached.Attached.TheVariants.{New, Resumed, Replace, Busy}
use Rattle.session_desk.specs.declared.error.DeskError.{DeskError}
use Rattle.session_desk.specs.declared.error.DeskError.TheVariants as errors
use Rattle.session_desk.specs.declared.session.Membership.{Membership}
use Rattle.session_desk.specs.declared.session.Membership.TheVariants.{NotMember, Member, Leaving}
use Rattle.session_desk.specs.declared.session.Session.{Session}
use Rattle.conn_rules.specs.declared.client_limits.ClientLimits.{ClientLimits}
use Rattle.conn_rules.specs.declared.connecting.FirstAnswer.{FirstAnswer}
use Rattle.conn_rules.specs.declared.connecting.FirstAnswer.TheVariants as first
use Rattle.conn_rules.specs.declared.publishing.PublishAnswer.{PublishAnswer}
use Rattle.conn_rules.specs.declared.publishing.PublishAnswer.TheVariants as answers
use Rattle.conn_rules.specs.Connecting.{first_answer}
use Rattle.conn_rules.specs.Faults.{fault_refusal}
use Rattle.conn_rules.specs.declared.terms.Overrides.{Overrides}
use Rattle.conn_rules.specs.Packets.{accepting, refusing, puback, suback, unsuback, disconnect}
use Rattle.conn_rules.specs.Publishing.{publish_answer}
use Rattle.conn_rules.specs.Subscribing.{most_entries, subscribe_refusal, unsubscribe_refusal}
use Rattle.conn_supply.specs.declared.reply.Then.{Then}
use Rattle.conn_supply.specs.declared.reply.Reply.{Reply}
use Rattle.conn_rules.specs.declared.hand_outs.HandOutTerms.{HandOutTerms}
use Rattle.conn_supply.specs.SupplyCalls.{SupplyCall}
use Rattle.conn_supply.specs.SupplyCalls.SupplyCall.{Attach}
use Rattle.conn_supply.specs.HandOuts.{SendsAgain, SendsFresh, HandsFresh}
use Rattle.conn_supply.specs.Publishing.{AnswersPublish, OffersIf}
use Rattle.conn_supply.specs.Subscribing.{AnswersEntries, LeavesByAll, SubscribesAs, UnsubscribesAs}
use Rattle.conn_engine.specs.declared.input.Input.{Input}
use Rattle.conn_engine.specs.declared.input.Input.TheVariants as inputs
use Rattle.conn_engine.specs.declared.phase.ConnectRequest.{ConnectRequest}
use Rattle.conn_engine.specs.declared.phase.ConnectedClient.{ConnectedClient}
use Rattle.conn_engine.specs.declared.phase.Opening.{Opening}
use Rattle.conn_engine.specs.declared.phase.ConnPhase.{ConnPhase}
use Rattle.conn_engine.specs.declared.phase.ConnPhase.TheVariants.{Unconnected, Waiting, Connected, Ended}
use Rattle.conn_engine.specs.Answering.{DisconnectsIf, Disconnects, Answers}
use Rattle.conn_engine.specs.Connecting.{assigned, name_if, holds_message_too_long, most_ticks, IsRefused, Accepts, WaitsAs, ResumesAs, AttachedAs}
use Rattle.conn_engine.specs.Step.{hand_out_terms, hearing, IsClosed, IsRefusedIf, WaitsForConnect, AnswersFirst, AnswersPacket, AnswersTick, AnswersUnlessKicked, IsHeard, Reacts, Hands, Steps}
use Rattle.conn_laws.specs.Sizes.{IsSmall, IsShort, HandsOn, IsAnswer, IsAnswerUnlessHandedOn, IsShortUnlessHandedOn}
use Rattle.conn_laws.specs.PacketSizes.{HasAssignedName, AreNamesAssigned}
use Rattle.conn_laws.proofs.Replies as replies

-- ---- packets, and lists of them

-- what answers an input
abbrev pub AreAnswers : List Packet → Type 0
AreAnswers sent = AllByRecursion IsAnswer sent

abbrev HandOn : List Packet → Type 0
HandOn sent = AllByRecursion HandsOn sent

-- all packets are of a kind, where all are of another from which it follows
pub all_are : {Is Are : Packet → Type 0} → ((packet : Packet) → Is packet → Are packet) → (sent : List Packet) → AllByRecursion Is sent → AllByRecursion Are sent
all_are follows [] are = tt
all_are follows (packet ∷ packets) are = (follows packet are.0, all_are follows packets are.1)

pub both : (Is : Packet → Type 0) (these those : List Packet) → AllByRecursion Is these → AllByRecursion Is those → AllByRecursion Is (these ++ those)
both Is [] those are also = also
both Is (packet ∷ packets) those are also = (are.0, both Is packets those are.1 also)

short_answer : (packet : Packet) → IsAnswer packet → IsShort packet
short_answer packet (inl small) = omega (arith, small)
short_answer packet (inr given) = replies.assigns packet given

short_unless : (packet : Packet) → IsAnswerUnlessHandedOn packet → IsShortUnlessHandedOn packet
short_unless packet (inl answer) = inl (short_answer packet answer)
short_unless packet (inr on) = inr on

pub short_answers : (sent : List Packet) → AllByRecursion IsAnswer sent → AllByRecursion IsShort sent
short_answers sent are = all_are short_answer sent are

pub kept_short : (sent : List Packet) → AllByRecursion IsAnswerUnlessHandedOn sent → AllByRecursion IsShortUnlessHandedOn sent
kept_short sent are = all_are short_unless sent are

-- ---- replies

refused_is_small : (refusal : ConnectRefusal) → IsSmall (refusing refusal)
refused_is_small refusal = omega (arith, replies.refused refusal)

acknowledged_is_small : (identifier code : ℕ) → IsSmall (puback identifier code)
acknowledged_is_small identifier code = omega (arith, replies.acknowledged identifier code)

closed_is_small : (code : ℕ) → IsSmall (disconnect code)
closed_is_small code = omega (arith, replies.closed code)

subscribed_is_small : (identifier : ℕ) (codes : List ℕ) → length codes ≤ most_entries → IsSmall (suback identifier codes)
subscribed_is_small identifier codes few = omega (arith, replies.subscribed identifier codes few, few)

unsubscribed_is_small : (identifier : ℕ) (codes : List ℕ) → length codes ≤ most_entries → IsSmall (unsuback identifier codes)
unsubscribed_is_small identifier codes few = omega (arith, replies.unsubscribed identifier codes few, few)

answered_is_small : IsSmall packets.Pingresp
answered_is_small = omega (arith, replies.answered)

-- a CONNACK with an identifier that was assigned, where that is a text
named_if : (present : Bool) (name : List ℕ) (overrides : Overrides) (text : Bool) → is_text name ≡ text → IsAnswer (accepting present (name_if text name) overrides)
named_if present name overrides true is = inr (record { present = present; name = name; overrides = overrides; text = is; is = refl })
named_if present name overrides false is = inl (replies.accepted present overrides)

assigning : (client : List ℕ) (who : Who) (present : Bool) (overrides : Overrides) → IsAnswer (accepting present (assigned client who) overrides)
assigning [] who present overrides = named_if present who.client overrides (is_text who.client) refl
assigning (byte ∷ bytes) who present overrides = inl (replies.accepted present overrides)

-- .. and with one that a desk assigns
desk_named_if : (present : Bool) (number : ℕ) (overrides : Overrides) (text : Bool) → IsSmall (accepting present (name_if text (assigned_name number)) overrides)
desk_named_if present number overrides true = replies.assigned_is_small present number overrides
desk_named_if present number overrides false = replies.accepted present overrides

-- of such a kind are the CONNACKs that a client is sent which is given the session of this answer
abbrev pub MayAccept : {P : Type 0} → (Packet → Type 0) → List ℕ → Attached Held P → Type 0
MayAccept Is client (New session ended) = (present : Bool) (overrides : Overrides) → Is (accepting present (assigned client session.identity) overrides)
MayAccept Is client (Resumed session) = (present : Bool) (overrides : Overrides) → Is (accepting present (assigned client session.identity) overrides)
MayAccept Is client (Replace holder) = ⊤
MayAccept Is client Busy = ⊤

-- of a list that was not refused for its length, there are few
not_refused : (many : Bool) (code : ℕ) (rest : Option ℕ) → (if many then Some code else rest) ≡ None → many ≡ false
not_refused true code rest is = absurd cc
not_refused false code rest is = refl

few_subscriptions : (subscribe : Subscribe) → subscribe_refusal subscribe ≡ None → length subscribe.subscriptions ≤ most_entries
few_subscriptions subscribe is = ltb-false most_entries (length subscribe.subscriptions) (not_refused _ _ _ is)

few_filters : (unsubscribe : Unsubscribe) → unsubscribe_refusal unsubscribe ≡ None → length unsubscribe.filters ≤ most_entries
few_filters unsubscribe is = ltb-false most_entries (length unsubscribe.filters) (not_refused _ _ _ is)

-- what is sent again hands messages on
again : (now : ℕ) (sent : List Packet) (old new : Contents Held) → SendsAgain now old sent new → HandOn sent
again now [] old new sends = tt
again now (packet ∷ packets) old new sends =
    (record { now = now; dup = true; message = sends.0.1.message; subscription = sends.0.1.subscription; identifier = sends.0.0; is = sends.2 }, again now packets (after_resend old (Some sends.0)) new sends.3)

-- packets of a kind that each small one is of, and each CONNACK that a client is sent which is given a session
module _ {S P : Type 0} (call : S → SupplyCall P → S → Type 0) (slot_of : P → ℕ) (Is : Packet → Type 0) (small : (packet : Packet) → IsSmall packet → Is packet)
    (given : (old new : S) (asks : Request) (answer : Attached Held P) → call old (Attach asks (Ok answer)) new → MayAccept Is asks.client answer) where
  -- the packet of a reply, if there is one, is of this kind
  abbrev IsBrief : Reply → Type 0
  IsBrief reply = AllByRecursion Is (option_to_list reply.packet)

  told : (reply was : Reply) → reply ≡ was → IsBrief was → IsBrief reply
  told reply was is brief = subst IsBrief (sym is) brief

  one : (packet : Packet) → IsSmall packet → AllByRecursion Is (packet ∷ [])
  one packet is = (small packet is, tt)

  closes : (phase : ConnPhase P) (reply : Reply) → IsClosed phase reply → IsBrief reply
  closes phase reply is = told reply _ is.told tt

  refuses : (phase : ConnPhase P) (reply : Reply) (refusal : ConnectRefusal) → IsRefused refusal phase reply → IsBrief reply
  refuses phase reply refusal is = told reply _ is.told (one (refusing refusal) (refused_is_small refusal))

  accepts : (phase : ConnPhase P) (reply : Reply) (request : ConnectRequest) (present : Bool) (session : Session Held P)
      → ((given : Bool) (overrides : Overrides) → Is (accepting given (assigned request.client session.identity) overrides)) → Accepts request present session phase reply → IsBrief reply
  accepts phase reply request present session may is = told reply _ is.told (may present request.overrides, tt)

  waits : (fewer : Bool) (phase : ConnPhase P) (reply : Reply) (request : ConnectRequest) (ticks : ℕ) → WaitsAs fewer request ticks phase reply → IsBrief reply
  waits true phase reply request ticks is = told reply _ is.1 tt
  waits false phase reply request ticks is = refuses phase reply _ is

  refused_if : (refusal : Option ConnectRefusal) (phase : ConnPhase P) (reply : Reply) → IsRefusedIf refusal phase reply → IsBrief reply
  refused_if (Some refusal) phase reply is = refuses phase reply refusal is
  refused_if None phase reply is = closes phase reply is

  waits_for_connect : (late : Bool) (opened : Opening) (phase : ConnPhase P) (reply : Reply) → WaitsForConnect late opened phase reply → IsBrief reply
  waits_for_connect true opened phase reply is = closes phase reply is
  waits_for_connect false opened phase reply is = told reply _ is.1 tt

  closing : (reply was : Reply) (code : ℕ) → reply ≡ was → was.packet ≡ Some (disconnect code) → IsBrief reply
  closing reply was code is with_code = told reply was is (subst (λ packet. AllByRecursion Is (option_to_list packet)) (sym with_code) (one (disconnect code) (closed_is_small code)))

  disconnects_if : (given : Bool) (connected connected' : ConnectedClient P) (seconds : ℕ) (reply : Reply) → DisconnectsIf given connected seconds connected' reply → IsBrief reply
  disconnects_if true connected connected' seconds reply is = closing reply _ 0x82 is.1 refl
  disconnects_if false connected connected' seconds reply is = told reply _ is.1 tt

  disconnects : (expiry : Option ℕ) (connected connected' : ConnectedClient P) (reply : Reply) → Disconnects connected expiry connected' reply → IsBrief reply
  disconnects None connected connected' reply is = told reply _ is.1 tt
  disconnects (Some seconds) connected connected' reply is = disconnects_if _ connected connected' seconds reply is

  -- ---- a connection without its session

  resumes : (no : Bool) (old new : S) (request : ConnectRequest) (session : Session Held P) (phase : ConnPhase P) (reply : Reply)
      → ((present : Bool) (overrides : Overrides) → Is (accepting present (assigned request.client session.identity) overrides)) → ResumesAs call no old request session phase reply new → IsBrief reply
  resumes true old new request session phase reply may is = refuses phase reply _ is.1
  resumes false old new request session phase reply may is = accepts phase reply request true session may is.1

  attached : (answer : Result (Attached Held P) DeskError) (before old new : S) (number now : ℕ) (request : ConnectRequest) (ticks : ℕ) (phase : ConnPhase P) (reply : Reply)
      → call before (Attach (asked number request.client request.clean_start now) answer) old → AttachedAs call old request ticks answer phase reply new → IsBrief reply
  attached (Ok (New session ended)) before old new number now request ticks phase reply asked_for is =
      accepts phase reply request false session (given before old (asked number request.client request.clean_start now) (New session ended) asked_for) is.1
  attached (Ok (Resumed session)) before old new number now request ticks phase reply asked_for is =
      resumes (holds_message_too_long request.terms.maximum_packet_size session.window) old new request session phase reply
      (given before old (asked number request.client request.clean_start now) (Resumed session) asked_for) is
  attached (Ok (Replace holder)) before old new number now request ticks phase reply asked_for is = waits (nat_lt ticks most_ticks) phase reply request ticks is.0
  attached (Ok Busy) before old new number now request ticks phase reply asked_for is = refuses phase reply _ is.0
  attached (Err errors.Full) before old new number now request ticks phase reply asked_for is = refuses phase reply _ is.0
  attached (Err errors.NoPlace) before old new number now request ticks phase reply asked_for is = refuses phase reply _ is.0
  attached (Err errors.NoName) before old new number now request ticks phase reply asked_for is = refuses phase reply _ is.0
  attached (Err errors.Memory) before old new number now request ticks phase reply asked_for is = absurd is

  answers_first : (answer : FirstAnswer) (old new : S) (number : ℕ) (limits : ClientLimits) (now : ℕ) (packet : Packet) (phase : ConnPhase P) (reply : Reply)
      → AnswersFirst call slot_of answer old number limits now packet phase reply new → IsBrief reply
  answers_first first.Close old new number limits now packet phase reply is = closes phase reply is.0
  answers_first (first.Refuse refusal) old new number limits now packet phase reply is = refuses phase reply refusal is.0
  answers_first first.Attach old new number limits now packet phase reply is = attached is.2.answer old is.2.mid new number now _ 0 phase reply is.2.asked_for is.2.answered

  -- ---- a connection with its session

  offered_if : (allowed : Bool) (identifier : ℕ) (old new : S) (number now : ℕ) (publish : Publish) (reply : Reply) → OffersIf call allowed old number now publish identifier reply new → IsBrief reply
  offered_if true identifier old new number now publish reply is = told reply _ is.replied (one _ (acknowledged_is_small identifier _))
  offered_if false identifier old new number now publish reply is = told reply _ is.0 (one _ (acknowledged_is_small identifier _))

  published : (rights : Rights) (answer : PublishAnswer) (old new : S) (number now : ℕ) (publish : Publish) (reply : Reply) → AnswersPublish call rights old number now publish answer reply new
      → IsBrief reply
  published rights (answers.Close code) old new number now publish reply is = closing reply _ code is.0 refl
  published rights (answers.Offer identifier) old new number now publish reply is = offered_if (may_publish rights publish.topic) identifier old new number now publish reply is

  -- there is a code for each entry
  codes_for : (rights : Rights) (entries : List Subscription) (codes : List ℕ) (old new : S) (membership membership' : Membership P)
      → AnswersEntries call slot_of rights old membership entries codes membership' new → length codes ≡ length entries
  codes_for rights [] codes old new membership membership' is = ap length is.0
  codes_for rights (entry ∷ entries) codes old new membership membership' is =
      ap length is.6 ∙ ap suc (codes_for rights entries is.1 is.3 new is.2 membership' is.5)

  codes_for_filters : (texts : List (List ℕ)) (codes : List ℕ) (old new : S) (membership membership' : Membership P)
      → LeavesByAll call slot_of old membership texts codes membership' new → length codes ≡ length texts
  codes_for_filters [] codes old new membership membership' is = ap length is.0
  codes_for_filters (text ∷ texts) codes old new membership membership' is =
      ap length is.6 ∙ ap suc (codes_for_filters texts is.1 is.3 new is.2 membership' is.5)

  subscribed : (rights : Rights) (refusal : Option ℕ) (old new : S) (membership membership' : Membership P) (subscription subscription' : Option ℕ) (subscribe : Subscribe) (reply : Reply)
      → subscribe_refusal subscribe ≡ refusal → SubscribesAs call slot_of refusal rights old membership subscription subscribe reply membership' subscription' new → IsBrief reply
  subscribed rights (Some code) old new membership membership' subscription subscription' subscribe reply found is = closing reply _ code is.0 refl
  subscribed rights None old new membership membership' subscription subscription' subscribe reply found is =
      let few : length is.0 ≤ most_entries = omega (arith, few_subscriptions subscribe found, codes_for rights subscribe.subscriptions is.0 old new membership membership' is.2) in
      told reply _ is.1 (one _ (subscribed_is_small subscribe.packet_identifier is.0 few))

  unsubscribed : (refusal : Option ℕ) (old new : S) (membership membership' : Membership P) (unsubscribe : Unsubscribe) (reply : Reply)
      → unsubscribe_refusal unsubscribe ≡ refusal → UnsubscribesAs call slot_of refusal old membership unsubscribe reply membership' new → IsBrief reply
  unsubscribed (Some code) old new membership membership' unsubscribe reply found is = closing reply _ code is.0 refl
  unsubscribed None old new membership membership' unsubscribe reply found is =
      let few : length is.0 ≤ most_entries = omega (arith, few_filters unsubscribe found, codes_for_filters unsubscribe.filters is.0 old new membership membership' is.2) in
      told reply _ is.1 (one _ (unsubscribed_is_small unsubscribe.packet_identifier is.0 few))

  answered : (packet : Packet) (old new : S) (number now : ℕ) (connected after : ConnectedClient P) (reply : Reply) → Answers call slot_of old number connected now packet after reply new → IsBrief reply
  answered (packets.Publish publish) old new number now connected after reply is = published connected.rights (publish_answer publish) old new number now publish reply is.0
  answered (packets.Puback puback) old new number now connected after reply is = told reply _ is.3 tt
  answered (packets.Subscribe subscribe) old new number now connected after reply is =
      subscribed connected.rights (subscribe_refusal subscribe) old new connected.session.membership is.0 connected.session.subscription is.1 subscribe reply refl is.2
  answered (packets.Unsubscribe unsubscribe) old new number now connected after reply is =
      unsubscribed (unsubscribe_refusal unsubscribe) old new connected.session.membership is.0 unsubscribe reply refl is.1
  answered packets.Pingreq old new number now connected after reply is = told reply _ is.1 (one _ answered_is_small)
  answered (packets.Disconnect disconnect) old new number now connected after reply is = disconnects disconnect.properties.session_expiry_interval connected after reply is.0
  answered (packets.Connect connect) old new number now connected after reply is = closing reply _ 0x82 is.1 refl
  answered (packets.Connack connack) old new number now connected after reply is = closing reply _ 0x82 is.1 refl
  answered (packets.Suback suback) old new number now connected after reply is = closing reply _ 0x82 is.1 refl
  answered (packets.Unsuback unsuback) old new number now connected after reply is = closing reply _ 0x82 is.1 refl
  answered packets.Pingresp old new number now connected after reply is = closing reply _ 0x82 is.1 refl
  answered (packets.Foreign kind) old new number now connected after reply is = closing reply _ 0x82 is.1 refl
  answered (packets.OtherVersion version) old new number now connected after reply is = closing reply _ 0x82 is.1 refl
  answered packets.WithWill old new number now connected after reply is = closing reply _ 0x82 is.1 refl

  heard : (overdue : Bool) (old new : S) (connected : ConnectedClient P) (now : ℕ) (phase : ConnPhase P) (reply : Reply) → IsHeard call slot_of overdue old connected now phase reply new → IsBrief reply
  heard true old new connected now phase reply is = closing reply _ 0x8D is.0 refl
  heard false old new connected now phase reply is = told reply _ is.0 tt

  unless_kicked : (kicked : Bool) (old new : S) (connected : ConnectedClient P) (now : ℕ) (Does : ConnPhase P → Reply → S → Type 0) (phase : ConnPhase P) (reply : Reply)
      → (Does phase reply new → IsBrief reply) → AnswersUnlessKicked call slot_of kicked old connected now Does phase reply new → IsBrief reply
  unless_kicked true old new connected now Does phase reply does is = closing reply _ 0x8E is.0 refl
  unless_kicked false old new connected now Does phase reply does is = does is

  replied : (phase : ConnPhase P) (input : Input) (old new : S) (number now : ℕ) (between : ConnPhase P) (reply : Reply)
      → Reacts call slot_of old number phase now input between reply new → IsBrief reply
  replied (Unconnected opened) (inputs.Packet packet) old new number now between reply is = answers_first (first_answer opened.limits.users packet) old new number opened.limits now packet between reply is
  replied (Unconnected opened) (inputs.Fault fault) old new number now between reply is = refused_if (fault_refusal fault) between reply is.0
  replied (Unconnected opened) inputs.Tick old new number now between reply is = waits_for_connect _ opened between reply is.1
  replied (Unconnected opened) inputs.EndOfInput old new number now between reply is = closes between reply is.0
  replied (Unconnected opened) inputs.Closing old new number now between reply is = closes between reply is.0
  replied (Waiting request ticks) (inputs.Packet packet) old new number now between reply is = absurd is
  replied (Waiting request ticks) (inputs.Fault fault) old new number now between reply is = absurd is
  replied (Waiting request ticks) inputs.Tick old new number now between reply is =
      let again = is.2.attaches in attached again.answer is.0 again.mid _ number now _ _ between reply again.asked_for again.answered
  replied (Waiting request ticks) inputs.EndOfInput old new number now between reply is = closes between reply is.1
  replied (Waiting request ticks) inputs.Closing old new number now between reply is = closes between reply is.1
  replied (Connected connected) (inputs.Packet packet) old new number now between reply is =
      unless_kicked is.0 is.1 new connected now _ between reply (λ (does : AnswersPacket call slot_of is.1 number connected now packet between reply new).
      answered packet is.1 does.1 number now (hearing connected now) does.0 reply does.2) is.3
  replied (Connected connected) (inputs.Fault fault) old new number now between reply is = closing reply _ _ is.0 refl
  replied (Connected connected) inputs.Tick old new number now between reply is =
      unless_kicked is.0 is.1 new connected now _ between reply (λ (does : AnswersTick call slot_of is.1 connected now between reply new).
      heard _ does.0 new connected now between reply does.2) is.3
  replied (Connected connected) inputs.EndOfInput old new number now between reply is = told reply _ is.0 tt
  replied (Connected connected) inputs.Closing old new number now between reply is = closing reply _ 0x8B is.0 refl
  replied Ended input old new number now between reply is = closes between reply is.0

-- what is sent at large: each answer, and what is handed out after it
module _ {S P : Type 0} (call : S → SupplyCall P → S → Type 0) (slot_of : P → ℕ) where
  any_given : (old new : S) (asks : Request) (answer : Attached Held P) → call old (Attach asks (Ok answer)) new → MayAccept IsAnswer asks.client answer
  any_given old new asks (New session ended) attaches = assigning asks.client session.identity
  any_given old new asks (Resumed session) attaches = assigning asks.client session.identity
  any_given old new asks (Replace holder) attaches = tt
  any_given old new asks Busy attaches = tt

  -- a reply is small, or assigns an identifier
  pub any_answers : (phase : ConnPhase P) (input : Input) (old new : S) (number now : ℕ) (between : ConnPhase P) (reply : Reply)
      → Reacts call slot_of old number phase now input between reply new → AreAnswers (option_to_list reply.packet)
  any_answers phase input old new number now between reply is = replied call slot_of IsAnswer (λ packet is. inl is) any_given phase input old new number now between reply is

  named : (client : List ℕ) (session : Session Held P) → (client ≡ [] → HasAssignedName session) → (present : Bool) (overrides : Overrides)
      → IsSmall (accepting present (assigned client session.identity) overrides)
  named [] session has present overrides =
      let its = has refl in
      subst (λ name. IsSmall (accepting present (name_if (is_text name) name) overrides)) (sym its.1) (desk_named_if present its.0 overrides (is_text (assigned_name its.0)))
  named (byte ∷ bytes) session has present overrides = replies.accepted present overrides

  names_given : AreNamesAssigned call → (old new : S) (asks : Request) (answer : Attached Held P) → call old (Attach asks (Ok answer)) new → MayAccept IsSmall asks.client answer
  names_given assigns old new asks (New session ended) attaches = named asks.client session (λ none. assigns old new asks (New session ended) none attaches)
  names_given assigns old new asks (Resumed session) attaches = named asks.client session (λ none. assigns old new asks (Resumed session) none attaches)
  names_given assigns old new asks (Replace holder) attaches = tt
  names_given assigns old new asks Busy attaches = tt

  -- it is small, where each identifier is one that a desk assigns
  pub small_answers : AreNamesAssigned call → (phase : ConnPhase P) (input : Input) (old new : S) (number now : ℕ) (between : ConnPhase P) (reply : Reply)
      → Reacts call slot_of old number phase now input between reply new → AllByRecursion IsSmall (option_to_list reply.packet)
  small_answers assigns phase input old new number now between reply is = replied call slot_of IsSmall (λ packet is. is) (names_given assigns) phase input old new number now between reply is

  -- ---- what is handed out after the reply

  fresh : (terms : HandOutTerms) (sent : List Packet) (old new : S) (place place' : P) (window window' : Contents Held) → SendsFresh call terms old place window sent place' window' new → HandOn sent
  fresh terms [] old new place place' window window' sends = tt
  fresh terms (packet ∷ packets) old new place place' window window' sends =
      let hand_out = sends.3 in (
        record { now = terms.at; dup = false; message = hand_out.envelope.message; subscription = terms.subscription; identifier = hand_out.identifier; is = hand_out.sent },
        fresh terms packets sends.2 new sends.0 place' sends.1 window' sends.4,
      )

  handed_fresh : (terms : HandOutTerms) (membership : Membership P) (old new : S) (window window' : Contents Held) (sent : List Packet) (membership' : Membership P)
      → HandsFresh call terms old membership window sent membership' window' new → HandOn sent
  handed_fresh terms NotMember old new window window' sent membership' hands = subst HandOn (sym hands.0) tt
  handed_fresh terms (Member place) old new window window' sent membership' hands = fresh terms sent old new place hands.0 window window' hands.2
  handed_fresh terms (Leaving place) old new window window' sent membership' hands = subst HandOn (sym hands.0) tt

  handed : (phase phase' : ConnPhase P) (now : ℕ) (old new : S) (sent : List Packet) → Hands call slot_of old phase now sent phase' new → HandOn sent
  handed (Unconnected opened) phase' now old new sent hands = subst HandOn (sym hands.0) tt
  handed (Waiting request ticks) phase' now old new sent hands = subst HandOn (sym hands.0) tt
  handed (Connected connected) phase' now old new sent hands =
      let out = hands.2 in
      subst HandOn (sym out.both)
      (both HandsOn out.again out.fresh (again now out.again connected.session.window out.between out.sent_again)
      (handed_fresh (hand_out_terms connected now) connected.session.membership old new out.between hands.1 out.fresh hands.0 out.sent_fresh))
  handed Ended phase' now old new sent hands = subst HandOn (sym hands.0) tt

  -- ---- a step

  pub sent : (old new : S) (number now : ℕ) (phase phase' : ConnPhase P) (input : Input) (packets : List Packet) (next : Then)
      → Steps call slot_of old number phase now input packets next phase' new → AllByRecursion IsAnswerUnlessHandedOn packets
  sent old new number now phase phase' input packets next steps =
      subst (AllByRecursion IsAnswerUnlessHandedOn) (sym steps.written)
      (both IsAnswerUnlessHandedOn (option_to_list steps.reply.packet) steps.sent
      (all_are (λ packet answer. inl answer) (option_to_list steps.reply.packet) (any_answers phase input old steps.mid number now steps.between steps.reply steps.reacts))
      (all_are (λ packet on. inr on) steps.sent (handed steps.between phase' now steps.mid new steps.sent steps.hands)))
