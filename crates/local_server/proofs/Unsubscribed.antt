-- Who leaves a group is handed nothing, until it joins one again.
use Rattle.std.proofs.Common.{◌≡◌, ◌≢◌, ℕ, Bool, true, false, List, [], ◌∷◌, ◌++◌, Option, Some, None, Result, Ok, Err, Contains, refl, sym, ap, subst, ◌∙◌, ⊎_elim}
use Rattle.std.specs.List.{cons_option}
use Rattle.std.specs.Option.{option_to_list}
use Rattle.std.specs.Prelude.{⊤}
use Rattle.std.proofs.lemmas.List.Elements.{filter_map-append}
use Rattle.mqtt_packet.specs.declared.packet.Packet.{Packet}
use Rattle.mqtt_packet.specs.declared.packet.Packet.TheVariants as packets
use Rattle.mqtt_packet.specs.declared.packet.Subscribe.{Subscribe}
use Rattle.mqtt_packet.specs.declared.packet.Subscription.{Subscription}
use Rattle.mqtt_packet.specs.declared.packet.Unsubscribe.{Unsubscribe}
use Rattle.mqtt_topic.specs.declared.error.TopicError.{TopicError}
use Rattle.mqtt_topic.specs.Names.{Share, share_of}
use Rattle.group_jobs.specs.Stamps.{Held}
use Rattle.member_window.proofs.Lists.{contains_here, contains_there, contains_cons_cases, contains_nil}
use Rattle.member_window.specs.Contents.{Contents, after_resend}
use Rattle.session_desk.specs.declared.session.Membership.{Membership}
use Rattle.session_desk.specs.declared.session.Membership.TheVariants.{NotMember, Member, Leaving}
use Rattle.users.specs.Table.{Rights}
use Rattle.users.specs.Rights.{may_work}
use Rattle.conn_rules.specs.declared.hand_outs.HandOutTerms.{HandOutTerms}
use Rattle.conn_rules.specs.declared.subscribing.EntryAnswer.{EntryAnswer}
use Rattle.conn_rules.specs.declared.subscribing.EntryAnswer.TheVariants as entries
use Rattle.conn_rules.specs.Packets.{suback, unsuback}
use Rattle.conn_rules.specs.Subscribing.{entry_answer, subscribe_refusal, unsubscribe_refusal}
use Rattle.conn_supply.specs.declared.reply.Reply.{Reply}
use Rattle.conn_supply.specs.declared.reply.Then.{Then}
use Rattle.conn_supply.specs.declared.reply.Then.TheVariants.{Go, Close, Kicked}
use Rattle.conn_supply.specs.declared.supply.BindRefusal.{BindRefusal}
use Rattle.conn_supply.specs.declared.supply.BindRefusal.TheVariants as refusal
use Rattle.conn_supply.specs.HandOuts.{SendsAgain, LeavesWith, HandsFresh}
use Rattle.conn_supply.specs.Replies.{going_on}
use Rattle.conn_supply.specs.Subscribing.{IsLent, EntersAs, Joins as JoinsShare, AnswersEntry, AnswersEntries, SubscribesAs, LeavesBy, LeavesByAll, UnsubscribesAs, JoinsIf}
use Rattle.conn_supply.specs.Acknowledging.{AcknowledgesFor}
use Rattle.conn_engine.specs.declared.input.Input.{Input}
use Rattle.conn_engine.specs.declared.input.Input.TheVariants as inputs
use Rattle.conn_engine.specs.declared.phase.ConnectedClient.{ConnectedClient}
use Rattle.conn_engine.specs.declared.phase.ConnPhase.{ConnPhase}
use Rattle.conn_engine.specs.declared.phase.ConnPhase.TheVariants.{Unconnected, Waiting, Connected, Ended}
use Rattle.conn_engine.specs.Answering.{DisconnectsIf, Disconnects, Answers}
use Rattle.conn_engine.specs.Step.{hearing, hand_out_terms, Concludes, AnswersPacket, AnswersTick, IsHeard, AnswersUnlessKicked, Reacts, Hands}
use Rattle.conn_laws.specs.Calls.{fresh_content, fresh_contents}
use Rattle.conn_laws.proofs.Replying.{replied_and_sent}
use Rattle.conn_laws.proofs.Stepping.{reacted as calls_of_reply}
use Rattle.local_broker.specs.Places.{GroupPlace}
use Rattle.local_broker.specs.Broker.{Broker}
use Rattle.local_broker.specs.Calls.{Calls}
use Rattle.local_server.specs.Happening.{slot_of}
use Rattle.local_server.specs.TakenSteps.{TakenStep, IsLawfulStep}
use Rattle.local_server.specs.Unsubscribed.{HandsOutNothing, Leaves, Joins}
use Rattle.local_server.proofs.HandedNothing.{same_groups, all_called}

-- a session that is no member, or leaves
abbrev pub IsNoMember : Membership GroupPlace → Type 0
IsNoMember NotMember = ⊤
IsNoMember (Member place) = ⊥
IsNoMember (Leaving place) = ⊤

abbrev pub IsOutside : ConnectedClient GroupPlace → Type 0
IsOutside connected = IsNoMember connected.session.membership

-- a client has such a session, or its connection has ended
abbrev pub IsOut : ConnPhase GroupPlace → Type 0
IsOut (Unconnected opened) = ⊥
IsOut (Waiting request ticks) = ⊥
IsOut (Connected connected) = IsOutside connected
IsOut Ended = ⊤

ended : (phase : ConnPhase GroupPlace) → phase ≡ Ended → IsOut phase
ended phase is = subst IsOut (sym is) tt

no_member : (membership is : Membership GroupPlace) → membership ≡ is → IsNoMember is → IsNoMember membership
no_member membership is same out = subst IsNoMember (sym same) out

-- the entries of a SUBSCRIBE of which none is granted
lent : (place : Option GroupPlace) (old new : Broker) (slot code : ℕ) (membership : Membership GroupPlace) → code ≢ 0x01 → IsLent Calls slot_of old slot place code membership new → IsNoMember membership
lent None old new slot code membership refused does = no_member membership NotMember does.2 tt
lent (Some place) old new slot code membership refused does = absurd (refused does.1)

entered : (bound : Result ℕ BindRefusal) (old new : Broker) (share : Share) (code : ℕ) (membership : Membership GroupPlace) → code ≢ 0x01 → EntersAs Calls slot_of old share bound code membership new
    → IsNoMember membership
entered (Ok slot) old new share code membership refused does = lent does.1 does.0 new slot code membership refused does.3
entered (Err refusal.NoSlot) old new share code membership refused does = no_member membership NotMember does.2 tt
entered (Err refusal.Memory) old new share code membership refused does = absurd does
entered (Err refusal.NotDeclared) old new share code membership refused does = no_member membership NotMember does.2 tt

joined : (membership membership' : Membership GroupPlace) (old new : Broker) (share : Share) (code : ℕ) → IsNoMember membership → code ≢ 0x01
    → JoinsShare Calls slot_of old membership share code membership' new → IsNoMember membership'
joined NotMember membership' old new share code out refused does = entered does.0 old new share code membership' refused does.1
joined (Member place) membership' old new share code out refused does = absurd out
joined (Leaving place) membership' old new share code out refused does =
    ⊎_elim (λ stays. absurd (refused stays.1)) (λ stays. no_member membership' (Leaving place) stays.2 tt) does.2

joined_if : (allowed : Bool) (membership membership' : Membership GroupPlace) (old new : Broker) (share : Share) (code : ℕ) → IsNoMember membership → code ≢ 0x01
    → JoinsIf Calls slot_of allowed old membership share code membership' new → IsNoMember membership'
joined_if true membership membership' old new share code out refused does = joined membership membership' old new share code out refused does
joined_if false membership membership' old new share code out refused does = no_member membership' membership does.1 out

entry_answered : (rights : Rights) (answer : EntryAnswer) (membership membership' : Membership GroupPlace) (old new : Broker) (code : ℕ) → IsNoMember membership → code ≢ 0x01
    → AnswersEntry Calls slot_of rights old membership answer code membership' new → IsNoMember membership'
entry_answered rights (entries.Refuse refused) membership membership' old new code out other does = no_member membership' membership does.1 out
entry_answered rights (entries.Join share) membership membership' old new code out other does = joined_if (may_work rights share.text) membership membership' old new share code out other does

entries_answered : (rights : Rights) (subscriptions : List Subscription) (membership membership' : Membership GroupPlace) (old new : Broker) (codes : List ℕ) → IsNoMember membership → ¬ Contains codes 0x01
    → AnswersEntries Calls slot_of rights old membership subscriptions codes membership' new → IsNoMember membership'
entries_answered rights [] membership membership' old new codes out none does = no_member membership' membership does.1 out
entries_answered rights (entry ∷ others) membership membership' old new codes out none does =
    let none' : ¬ Contains (does.0 ∷ does.1) 0x01 = subst (λ (l : List ℕ). ¬ Contains l 0x01) does.6 none in
    entries_answered rights others does.2 membership' does.3 new does.1
    (entry_answered rights (entry_answer entry) membership does.2 old does.3 does.0 out
    (λ is. none' (subst (λ (n : ℕ). Contains (does.0 ∷ does.1) n) is (contains_here does.0 does.1))) does.4)
    (λ has. none' (contains_there does.0 does.1 0x01 has)) does.5

-- the Topic Filters of an UNSUBSCRIBE
still_left : (membership membership' : Membership GroupPlace) (parsed : Result Share TopicError) (old new : Broker) (code : ℕ) → IsNoMember membership
    → LeavesBy Calls slot_of old membership parsed code membership' new → IsNoMember membership'
still_left NotMember membership' parsed old new code out does = no_member membership' NotMember does.1 tt
still_left (Member place) membership' parsed old new code out does = absurd out
still_left (Leaving place) membership' parsed old new code out does = no_member membership' (Leaving place) does.1 tt

still_left_all : (texts : List (List ℕ)) (membership membership' : Membership GroupPlace) (old new : Broker) (codes : List ℕ) → IsNoMember membership
    → LeavesByAll Calls slot_of old membership texts codes membership' new → IsNoMember membership'
still_left_all [] membership membership' old new codes out does = no_member membership' membership does.1 out
still_left_all (text ∷ texts) membership membership' old new codes out does =
    still_left_all texts does.2 membership' does.3 new does.1 (still_left membership does.2 (share_of text) old does.3 does.0 out does.4) does.5

left_by : (membership membership' : Membership GroupPlace) (parsed : Result Share TopicError) (old new : Broker) (code : ℕ) → code ≡ 0x00
    → LeavesBy Calls slot_of old membership parsed code membership' new → IsNoMember membership'
left_by NotMember membership' parsed old new code success does = no_member membership' NotMember does.1 tt
left_by (Leaving place) membership' parsed old new code success does = no_member membership' (Leaving place) does.1 tt
left_by (Member place) membership' (Ok share) old new code success does =
    ⊎_elim (λ leaves. no_member membership' (Leaving place) leaves.2 tt) (λ stays. absurd (let e : 0x00 ≡ 0x11 = sym success ∙ stays.1 in cc)) does.2
left_by (Member place) membership' (Err refused) old new code success does = absurd (let e : 0x00 ≡ 0x11 = sym success ∙ does.0 in cc)

left_by_all : (texts : List (List ℕ)) (membership membership' : Membership GroupPlace) (old new : Broker) (codes : List ℕ) → Contains codes 0x00
    → LeavesByAll Calls slot_of old membership texts codes membership' new → IsNoMember membership'
left_by_all [] membership membership' old new codes success does = absurd (contains_nil 0x00 (subst (λ (l : List ℕ). Contains l 0x00) does.0 success))
left_by_all (text ∷ texts) membership membership' old new codes success does =
    ⊎_elim
    (λ (first : does.0 ≡ 0x00). still_left_all texts does.2 membership' does.3 new does.1 (left_by membership does.2 (share_of text) old does.3 does.0 first does.4) does.5)
    (λ (later : Contains does.1 0x00). left_by_all texts does.2 membership' does.3 new does.1 later does.5)
    (contains_cons_cases does.0 does.1 0x00 (subst (λ (l : List ℕ). Contains l 0x00) does.6 success))

-- where no entry of a SUBSCRIBE is granted
abbrev pub GrantsNone : Input → Reply → Type 0
GrantsNone input reply =
    (subscribe : Subscribe) (codes : List ℕ) → input ≡ inputs.Packet (packets.Subscribe subscribe) → reply ≡ going_on (Some (suback subscribe.packet_identifier codes)) → ¬ Contains codes 0x01

subscribed : (rights : Rights) (refused : Option ℕ) (membership membership' : Membership GroupPlace) (subscription subscription' : Option ℕ) (old new : Broker) (subscribe : Subscribe) (reply : Reply)
    → IsNoMember membership → GrantsNone (inputs.Packet (packets.Subscribe subscribe)) reply
    → SubscribesAs Calls slot_of refused rights old membership subscription subscribe reply membership' subscription' new → IsNoMember membership'
subscribed rights (Some code) membership membership' subscription subscription' old new subscribe reply out none does = no_member membership' membership does.1 out
subscribed rights None membership membership' subscription subscription' old new subscribe reply out none does =
    entries_answered rights subscribe.subscriptions membership membership' old new does.0 out (none subscribe does.0 refl does.1) does.2

unsubscribed : (refused : Option ℕ) (membership membership' : Membership GroupPlace) (old new : Broker) (unsubscribe : Unsubscribe) (reply : Reply) → IsNoMember membership
    → UnsubscribesAs Calls slot_of refused old membership unsubscribe reply membership' new → IsNoMember membership'
unsubscribed (Some code) membership membership' old new unsubscribe reply out does = no_member membership' membership does.1 out
unsubscribed None membership membership' old new unsubscribe reply out does = still_left_all unsubscribe.filters membership membership' old new does.0 out does.2

acknowledged : (membership membership' : Membership GroupPlace) (old new : Broker) (window window' : Contents Held) (identifier code : ℕ) → IsNoMember membership
    → AcknowledgesFor Calls old membership window identifier code membership' window' new → IsNoMember membership'
acknowledged NotMember membership' old new window window' identifier code out does = no_member membership' NotMember does.0 tt
acknowledged (Member place) membership' old new window window' identifier code out does = absurd out
acknowledged (Leaving place) membership' old new window window' identifier code out does = no_member membership' (Leaving does.0) does.2 tt

-- the answer to a packet
same : (connected connected' : ConnectedClient GroupPlace) → connected' ≡ connected → IsOutside connected → IsOutside connected'
same connected connected' is out = subst IsOutside (sym is) out

disconnects_if : (given : Bool) (connected connected' : ConnectedClient GroupPlace) (seconds : ℕ) (reply : Reply) → IsOutside connected → DisconnectsIf given connected seconds connected' reply
    → IsOutside connected'
disconnects_if true connected connected' seconds reply out does = same connected connected' does.0 out
disconnects_if false connected connected' seconds reply out does = same _ connected' does.0 out

disconnects : (expiry : Option ℕ) (connected connected' : ConnectedClient GroupPlace) (reply : Reply) → IsOutside connected → Disconnects connected expiry connected' reply → IsOutside connected'
disconnects None connected connected' reply out does = same connected connected' does.0 out
disconnects (Some seconds) connected connected' reply out does = disconnects_if _ connected connected' seconds reply out does

pub answered : (packet : Packet) (old new : Broker) (number now : ℕ) (connected connected' : ConnectedClient GroupPlace) (reply : Reply) → IsOutside connected → GrantsNone (inputs.Packet packet) reply
    → Answers Calls slot_of old number connected now packet connected' reply new → IsOutside connected'
answered (packets.Publish publish) old new number now connected connected' reply out none does = same connected connected' does.1 out
answered (packets.Puback puback) old new number now connected connected' reply out none does =
    same _ connected' does.2 (acknowledged connected.session.membership does.0.membership old new connected.session.window does.0.window puback.packet_identifier puback.reason_code out does.1.settles)
answered (packets.Subscribe subscribe) old new number now connected connected' reply out none does =
    same _ connected' does.3
    (subscribed connected.rights (subscribe_refusal subscribe) connected.session.membership does.0 connected.session.subscription does.1 old new subscribe reply out none does.2)
answered (packets.Unsubscribe unsubscribe) old new number now connected connected' reply out none does =
    same _ connected' does.2 (unsubscribed (unsubscribe_refusal unsubscribe) connected.session.membership does.0 old new unsubscribe reply out does.1)
answered packets.Pingreq old new number now connected connected' reply out none does = same connected connected' does.0 out
answered (packets.Disconnect disconnect) old new number now connected connected' reply out none does =
    disconnects disconnect.properties.session_expiry_interval connected connected' reply out does.0
answered (packets.Connect connect) old new number now connected connected' reply out none does = same connected connected' does.0 out
answered (packets.Connack connack) old new number now connected connected' reply out none does = same connected connected' does.0 out
answered (packets.Suback suback) old new number now connected connected' reply out none does = same connected connected' does.0 out
answered (packets.Unsuback unsuback) old new number now connected connected' reply out none does = same connected connected' does.0 out
answered packets.Pingresp old new number now connected connected' reply out none does = same connected connected' does.0 out
answered (packets.Foreign kind) old new number now connected connected' reply out none does = same connected connected' does.0 out
answered (packets.OtherVersion version) old new number now connected connected' reply out none does = same connected connected' does.0 out
answered packets.WithWill old new number now connected connected' reply out none does = same connected connected' does.0 out

concluded : (next : Then) (old new : Broker) (connected : ConnectedClient GroupPlace) (now : ℕ) (phase : ConnPhase GroupPlace) → IsOutside connected
    → Concludes Calls slot_of old connected now next phase new → IsOut phase
concluded Go old new connected now phase out does = subst IsOut (sym does.0) out
concluded Close old new connected now phase out does = ended phase does.1
concluded Kicked old new connected now phase out does = ended phase does.1

heard : (overdue : Bool) (old new : Broker) (connected : ConnectedClient GroupPlace) (now : ℕ) (phase : ConnPhase GroupPlace) (reply : Reply) → IsOutside connected
    → IsHeard Calls slot_of overdue old connected now phase reply new → IsOut phase
heard true old new connected now phase reply out does = ended phase does.1.1
heard false old new connected now phase reply out does = subst IsOut (sym does.1) out

unless_kicked : (kicked : Bool) (old new : Broker) (connected : ConnectedClient GroupPlace) (now : ℕ) (Does : ConnPhase GroupPlace → Reply → Broker → Type 0) (phase : ConnPhase GroupPlace) (reply : Reply)
    → (Does phase reply new → IsOut phase) → AnswersUnlessKicked Calls slot_of kicked old connected now Does phase reply new → IsOut phase
unless_kicked true old new connected now Does phase reply then does = ended phase does.1.1
unless_kicked false old new connected now Does phase reply then does = then does

-- who is no member is none after the reply to an input by which it does not join a group
reacts_out : (phase : ConnPhase GroupPlace) (input : Input) (old new : Broker) (number now : ℕ) (between : ConnPhase GroupPlace) (reply : Reply) → IsOut phase → GrantsNone input reply
    → Reacts Calls slot_of old number phase now input between reply new → IsOut between
reacts_out (Unconnected opened) input old new number now between reply out none does = absurd out
reacts_out (Waiting request ticks) input old new number now between reply out none does = absurd out
reacts_out (Connected connected) (inputs.Packet packet) old new number now between reply out none does =
    unless_kicked does.0 does.1 new connected now _ between reply
    (λ (answers : AnswersPacket Calls slot_of does.1 number connected now packet between reply new).
    concluded reply.next answers.1 new answers.0 now between (answered packet does.1 answers.1 number now (hearing connected now) answers.0 reply out none answers.2) answers.3)
    does.3
reacts_out (Connected connected) (inputs.Fault fault) old new number now between reply out none does = ended between does.1.1
reacts_out (Connected connected) inputs.Tick old new number now between reply out none does =
    unless_kicked does.0 does.1 new connected now _ between reply
    (λ (answers : AnswersTick Calls slot_of does.1 connected now between reply new). heard _ answers.0 new connected now between reply out answers.2)
    does.3
reacts_out (Connected connected) inputs.EndOfInput old new number now between reply out none does = ended between does.1.1
reacts_out (Connected connected) inputs.Closing old new number now between reply out none does = ended between does.2
reacts_out Ended input old new number now between reply out none does = ended between does.0.over

-- nor is who leaves by an UNSUBSCRIBE
left : (refused : Option ℕ) (membership membership' : Membership GroupPlace) (old new : Broker) (unsubscribe : Unsubscribe) (connected : ConnectedClient GroupPlace) (now : ℕ)
    (phase : ConnPhase GroupPlace) (reply : Reply) (last : Broker) → connected.session.membership ≡ membership'
    → ((codes : List ℕ) → reply ≡ going_on (Some (unsuback unsubscribe.packet_identifier codes)) → Contains codes 0x00)
    → UnsubscribesAs Calls slot_of refused old membership unsubscribe reply membership' new → Concludes Calls slot_of new connected now reply.next phase last → IsOut phase
left (Some code) membership membership' old new unsubscribe connected now phase reply last is success does concludes =
    ended phase (subst (λ (r : Reply). Concludes Calls slot_of new connected now r.next phase last) does.0 concludes).1
left None membership membership' old new unsubscribe connected now phase reply last is success does concludes =
    concluded reply.next new last connected now phase
    (no_member connected.session.membership membership' is (left_by_all unsubscribe.filters membership membership' old new does.0 (success does.0 does.1) does.2)) concludes

reacts_left : (phase : ConnPhase GroupPlace) (unsubscribe : Unsubscribe) (old new : Broker) (number now : ℕ) (between : ConnPhase GroupPlace) (reply : Reply)
    → ((codes : List ℕ) → reply ≡ going_on (Some (unsuback unsubscribe.packet_identifier codes)) → Contains codes 0x00)
    → Reacts Calls slot_of old number phase now (inputs.Packet (packets.Unsubscribe unsubscribe)) between reply new → IsOut between
reacts_left (Unconnected opened) unsubscribe old new number now between reply success does = ended between does.0.over
reacts_left (Waiting request ticks) unsubscribe old new number now between reply success does = absurd does
reacts_left (Connected connected) unsubscribe old new number now between reply success does =
    unless_kicked does.0 does.1 new connected now _ between reply
    (λ (answers : AnswersPacket Calls slot_of does.1 number connected now (packets.Unsubscribe unsubscribe) between reply new).
    let by = answers.2 in
    left (unsubscribe_refusal unsubscribe) connected.session.membership by.0 does.1 answers.1 unsubscribe answers.0 now between reply new
    (ap (λ (c : ConnectedClient GroupPlace). c.session.membership) by.2) success by.1 answers.3)
    does.3
reacts_left Ended unsubscribe old new number now between reply success does = ended between does.0.over

-- what is handed out then
fresh_none : (packet is : Packet) (others : List Packet) → packet ≡ is → fresh_content is ≡ None → fresh_contents others ≡ [] → fresh_contents (packet ∷ others) ≡ []
fresh_none packet is others same_packet none rest = (λ i. cons_option ((ap fresh_content same_packet ∙ none) i) (rest i))

again_none : (now : ℕ) (sent : List Packet) (old new : Contents Held) → SendsAgain now old sent new → fresh_contents sent ≡ []
again_none now [] old new sends = refl
again_none now (packet ∷ others) old new sends = fresh_none packet _ others sends.2 refl (again_none now others (after_resend old (Some sends.0)) new sends.3)

hands_none : (terms : HandOutTerms) (membership membership' : Membership GroupPlace) (old new : Broker) (window window' : Contents Held) (sent : List Packet) → IsNoMember membership
    → HandsFresh Calls terms old membership window sent membership' window' new → IsNoMember membership' × (sent ≡ []) × (new.groups ≡ old.groups)
hands_none terms NotMember membership' old new window window' sent out hands = (no_member membership' NotMember hands.1 tt, hands.0, ap (λ (b : Broker). b.groups) hands.3)
hands_none terms (Member place) membership' old new window window' sent out hands = absurd out
hands_none terms (Leaving place) membership' old new window window' sent out hands =
    let left_with : LeavesWith Calls old place window membership' new → IsNoMember membership' × (new.groups ≡ old.groups) =
    λ with. ⊎_elim
    (λ gone. (no_member membership' NotMember gone.1 tt, gone.2.1.groups))
    (λ stays. (no_member membership' (Leaving place) stays.1 tt, ap (λ (b : Broker). b.groups) stays.2))
    with in
    let both = left_with hands.2 in (both.0, hands.0, both.1)

hands_out : (between : ConnPhase GroupPlace) (now : ℕ) (old new : Broker) (sent : List Packet) (phase : ConnPhase GroupPlace) → IsOut between → Hands Calls slot_of old between now sent phase new
    → IsOut phase × (fresh_contents sent ≡ []) × (new.groups ≡ old.groups)
hands_out (Unconnected opened) now old new sent phase out hands = absurd out
hands_out (Waiting request ticks) now old new sent phase out hands = absurd out
hands_out (Connected connected) now old new sent phase out hands =
    let by = hands.2 in
    let none = hands_none (hand_out_terms connected now) connected.session.membership hands.0 old new by.between hands.1 by.fresh out by.sent_fresh in (
      subst IsOut (sym hands.3) none.0,
      ap fresh_contents by.both ∙ filter_map-append fresh_content by.again by.fresh
          ∙ (λ i. again_none now by.again connected.session.window by.between by.sent_again i ++ ap fresh_contents none.1 i),
      none.2,
    )
hands_out Ended now old new sent phase out hands = (ended phase hands.1, ap fresh_contents hands.0, ap (λ (b : Broker). b.groups) hands.2)

-- a step, where the client is no member after the reply
pub nothing_after : (step : TakenStep) (steps : IsLawfulStep step) → IsOut steps.between → IsOut step.phase_after × HandsOutNothing step
nothing_after step steps out =
    let old = step.broker_before in
    let new = step.broker_after in
    let calls = calls_of_reply Calls slot_of step.phase_before step.input old steps.mid step.connection step.at steps.between steps.reply steps.reacts in
    let hands = hands_out steps.between step.at steps.mid new steps.sent step.phase_after out steps.hands in (
      hands.0,
      record {
        handed = λ slot. same_groups steps.mid new hands.2 slot ∙ all_called calls.supply_calls old steps.mid calls.hands calls.made slot;
        sent =
            ap fresh_contents steps.written
            ∙ replied_and_sent Calls slot_of step.phase_before step.input old steps.mid step.connection step.at steps.between steps.reply steps.sent steps.reacts
            ∙ hands.1;
      },
    )

pub grants_none : (step : TakenStep) (steps : IsLawfulStep step) → ¬ Joins step → GrantsNone step.input steps.reply
grants_none step steps no_join subscribe codes came is has =
    no_join (record {
      subscribe = subscribe;
      came = came;
      codes = codes;
      later = steps.sent;
      sent = steps.written ∙ ap (λ (r : Reply). option_to_list r.packet ++ steps.sent) is;
      granted = has;
    })

pub stays_out : (step : TakenStep) → IsLawfulStep step → IsOut step.phase_before → ¬ Joins step → IsOut step.phase_after × HandsOutNothing step
stays_out step steps out no_join =
    nothing_after step steps
    (reacts_out step.phase_before step.input step.broker_before steps.mid step.connection step.at steps.between steps.reply out (grants_none step steps no_join) steps.reacts)

-- the Reason Codes of an UNSUBACK that is sent first
abbrev unsuback_codes : List Packet → List ℕ
unsuback_codes (packets.Unsuback unsuback ∷ others) = unsuback.reason_codes
unsuback_codes others = []

pub goes_out : (step : TakenStep) → IsLawfulStep step → Leaves step → IsOut step.phase_after × HandsOutNothing step
goes_out step steps leaves =
    nothing_after step steps
    (reacts_left step.phase_before leaves.unsubscribe step.broker_before steps.mid step.connection step.at steps.between steps.reply
    (λ codes is.
    let both : unsuback leaves.unsubscribe.packet_identifier leaves.codes ∷ leaves.later ≡ unsuback leaves.unsubscribe.packet_identifier codes ∷ steps.sent =
    sym leaves.sent ∙ steps.written ∙ ap (λ (r : Reply). option_to_list r.packet ++ steps.sent) is in
    subst (λ (l : List ℕ). Contains l 0x00) (ap unsuback_codes both) leaves.success)
    (subst (λ (input : Input). Reacts Calls slot_of step.broker_before step.connection step.phase_before step.at input steps.between steps.reply steps.mid) leaves.came steps.reacts))
