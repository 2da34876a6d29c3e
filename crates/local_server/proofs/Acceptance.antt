-- A PUBACK says which groups accepted the message.
use Rattle.std.proofs.Common.{◌≡◌, ◌≢◌, ◌⊎◌, ℕ, ◌+◌, ◌<◌, ◌≤◌, nat_lt, Bool, true, false, if◌then◌else◌, List, [], ◌∷◌, ◌++◌, length, filter_map, Option, Some, None, Result, Ok, Err, Contains, slice_get, refl, sym, ap, subst, ◌∙◌, inl, inr, ⊎_elim, arith, append-nil, lt-ltb, le-ltb, ne_eqb}
use Rattle.std.specs.List.{AllByRecursion, cons_option}
use Rattle.std.specs.Option.{option_to_list}
use Rattle.std.proofs.lemmas.Bool.{cases_eq}
use Rattle.std.proofs.lemmas.Option.{slice_get_within}
use Rattle.std.proofs.lemmas.List.Elements.{filter_map-append}
use Rattle.mqtt_packet.specs.declared.packet.Delivery.{Delivery}
use Rattle.mqtt_packet.specs.declared.packet.Delivery.TheVariants.{AtMostOnce, AtLeastOnce, ExactlyOnce}
use Rattle.mqtt_packet.specs.declared.packet.Packet.{Packet}
use Rattle.mqtt_packet.specs.declared.packet.Packet.TheVariants as packets
use Rattle.mqtt_packet.specs.declared.packet.Publish.{Publish}
use Rattle.mqtt_topic.specs.Names.{Share}
use Rattle.mqtt_topic.specs.Routes.{routed, places_of}
use Rattle.dispatch_core.specs.declared.event.Event.{Event}
use Rattle.dispatch_core.specs.declared.event.Event.TheVariants.{Accept, First, Again}
use Rattle.dispatch_core.proofs.Spots.{slice_get-set_same, slice_get-set_other}
use Rattle.group_jobs.specs.declared.fate.Fate.{Fate}
use Rattle.group_jobs.specs.declared.fate.Fate.TheVariants as fate
use Rattle.group_jobs.specs.declared.message.Message.{Message}
use Rattle.group_jobs.specs.declared.stamp.Stamp.{Stamp}
use Rattle.group_jobs.specs.Stamps.{Held}
use Rattle.local_group.specs.Groups.{Group, Adds, Settles}
use Rattle.member_window.proofs.Lists.{contains_here, contains_there, contains_cons_cases, contains_nil}
use Rattle.member_window.specs.Contents.{Contents, after_resend}
use Rattle.session_desk.specs.declared.session.Membership.{Membership}
use Rattle.session_desk.specs.declared.session.Membership.TheVariants.{NotMember, Member, Leaving}
use Rattle.users.specs.Rights.{may_publish}
use Rattle.conn_rules.specs.declared.connecting.FirstAnswer.{FirstAnswer}
use Rattle.conn_rules.specs.declared.connecting.FirstAnswer.TheVariants as first
use Rattle.conn_rules.specs.declared.hand_outs.HandOutTerms.{HandOutTerms}
use Rattle.conn_rules.specs.declared.publishing.PublishAnswer.{PublishAnswer}
use Rattle.conn_rules.specs.declared.publishing.PublishAnswer.TheVariants as answers
use Rattle.conn_rules.specs.declared.client_limits.ClientLimits.{ClientLimits}
use Rattle.conn_rules.specs.Connecting.{first_answer}
use Rattle.conn_rules.specs.Publishing.{closing_code, identified_answer, delivery_answer, publish_answer, puback_code, message_of}
use Rattle.conn_supply.specs.declared.reply.Reply.{Reply}
use Rattle.conn_supply.specs.declared.reply.Then.TheVariants.{Go}
use Rattle.conn_supply.specs.declared.supply.NoMemory.{NoMemory}
use Rattle.conn_supply.specs.declared.supply.OfferRefusal.{OfferRefusal}
use Rattle.conn_supply.specs.declared.supply.OfferRefusal.TheVariants as refusal
use Rattle.conn_supply.specs.HandOuts.{SendsAgain, SendsFresh, HandsFresh}
use Rattle.conn_supply.specs.Publishing.{AnswersPublish, Offers, OffersIf, Took}
use Rattle.conn_supply.specs.Replies.{acknowledging}
use Rattle.conn_supply.specs.SupplyCalls.{SupplyCall}
use Rattle.conn_supply.specs.SupplyCalls.SupplyCall.{Attach, Withdraw, Kicked, Park, ParkAsIs, Keep, Bury, Sweep, LendPlace, TakePlace, Bind, Find, Match, Offer, MayTake, Take, TakeBack, Settle, GiveBack}
use Rattle.conn_engine.specs.declared.input.Input.{Input}
use Rattle.conn_engine.specs.declared.input.Input.TheVariants as inputs
use Rattle.conn_engine.specs.declared.phase.ConnectedClient.{ConnectedClient}
use Rattle.conn_engine.specs.declared.phase.ConnPhase.{ConnPhase}
use Rattle.conn_engine.specs.declared.phase.ConnPhase.TheVariants.{Unconnected, Waiting, Connected, Ended}
use Rattle.conn_engine.specs.Step.{hand_out_terms, IsParted, AnswersFirst, Concludes, AnswersPacket, AnswersUnlessKicked, Reacts, Hands}
use Rattle.conn_laws.specs.Calls.{is_allowed, offer_of, offered, OffersToEach, OffersNone, MakesAll}
use Rattle.conn_laws.proofs.Calling.{attached, parted}
use Rattle.conn_laws.proofs.Stepping.{reacted as calls_of_reply, handed_behind}
use Rattle.local_broker.specs.Places.{GroupPlace}
use Rattle.local_broker.specs.Groups.{InGroup, IsOffered, HandsOut, HandsOutAgain, IsOutAt, IsSettled, IsGivenBack, LetsGo}
use Rattle.local_broker.specs.Broker.{Broker}
use Rattle.local_broker.specs.Calls.{Calls, OffersFrom}
use Rattle.local_server.specs.Happening.{slot_of}
use Rattle.local_server.specs.TakenSteps.{TakenStep, IsLawfulStep}
use Rattle.local_server.specs.Messages.{accepted_in}
use Rattle.local_server.specs.Acceptance.{ports_of, ports_in, AcceptsOne, AcceptsNone, matching, Says, SaysIf, puback_in, pubacks_in, AcknowledgesWhatIsAccepted}
use Rattle.local_server.specs.Acceptance.Says.{NoneMatches, AllAccept, OneRefuses}
use Rattle.local_server.proofs.Accepting.{AreAscending, places_ascend}
use Rattle.local_server.proofs.PubackReplies.{IsNoPuback, IsNoPublish, answers_first, replied}

-- one event more in a group
abbrev AcceptsTheSame : Group → Group → Type 0
AcceptsTheSame old new = ports_of (Some new) ≡ ports_of (Some old)

one_more : (old new : Group) (event : Event) → Adds old event new → ports_of (Some new) ≡ ports_of (Some old) ++ filter_map accepted_in (event ∷ [])
one_more old new event adds = ap (filter_map accepted_in) adds.events ∙ filter_map-append accepted_in old.events (event ∷ [])

none_more : (old new : Group) (event : Event) → accepted_in event ≡ None → Adds old event new → AcceptsTheSame old new
none_more old new event none adds =
    one_more old new event adds
    ∙ ap (λ (o : Option ℕ). ports_of (Some old) ++ cons_option o []) none ∙ append-nil (ports_of (Some old))

same_group : (old new : Group) → new ≡ old → AcceptsTheSame old new
same_group old new same = ap (λ (g : Group). ports_of (Some g)) same

is_handed : (answer : Result (Option Held) NoMemory) (old new : Group) (place : ℕ) → HandsOut old place answer new → AcceptsTheSame old new
is_handed (Ok (Some envelope)) old new place does = none_more old new (First place does.0.job) refl does.4
is_handed (Ok None) old new place does = same_group old new does.1
is_handed (Err error) old new place does = same_group old new does.1

is_handed_again : (answer : Result (Option Held) NoMemory) (old new : Group) (place : ℕ) → HandsOutAgain old place answer new → AcceptsTheSame old new
is_handed_again (Ok (Some envelope)) old new place does = none_more old new (Again place does.0.job) refl does.4
is_handed_again (Ok None) old new place does = same_group old new does.1
is_handed_again (Err error) old new place does = same_group old new does.1

settled_as : (how : Fate) (old new : Group) (envelope : Held) → Settles old envelope how new → AcceptsTheSame old new
settled_as fate.Acknowledged old new envelope settles = none_more old new _ refl settles.event
settled_as fate.Refused old new envelope settles = none_more old new _ refl settles.event
settled_as fate.Discarded old new envelope settles = none_more old new _ refl settles.event

is_settled : (how : Fate) (old new : Group) (place : ℕ) (envelope : Held) → IsSettled old place envelope how new → AcceptsTheSame old new
is_settled how old new place envelope does =
    ⊎_elim
    (λ (is : IsOutAt old place envelope × Settles old envelope how new). settled_as how old new envelope is.1)
    (λ (is : LetsGo old place envelope new). same_group old new is.same)
    does

is_given_back : (old new : Group) (place : ℕ) (envelope : Held) → IsGivenBack old place envelope new → AcceptsTheSame old new
is_given_back old new place envelope does =
    ⊎_elim (λ is. none_more old new _ refl is.1.event) (λ (is : LetsGo old place envelope new). same_group old new is.same) does

-- the groups of a broker
same_groups : (old new : Broker) → new.groups ≡ old.groups → (slot : ℕ) → AcceptsNone old new slot
same_groups old new same slot = ap (λ (l : List Group). ports_of (slice_get l slot)) same

here : (old new : Broker) (at : ℕ) (Does : Group → Group → Type 0) → (does : InGroup old.groups at Does new.groups)
    → (ports_in at new ≡ ports_of (Some does.after)) × (ports_in at old ≡ ports_of (Some does.before))
here old new at Does does = (
  ap (λ (l : List Group). ports_of (slice_get l at)) does.becomes
      ∙ ap ports_of (slice_get-set_same old.groups at does.after (slice_get_within old.groups at does.before does.there)),
  ap ports_of does.there,
)

beside : (old new : Broker) (at : ℕ) (Does : Group → Group → Type 0) → InGroup old.groups at Does new.groups → (slot : ℕ) → slot ≢ at → AcceptsNone old new slot
beside old new at Does does slot other =
    ap (λ (l : List Group). ports_of (slice_get l slot)) does.becomes ∙ ap ports_of (slice_get-set_other old.groups at slot does.after other)

in_one : (old new : Broker) (at : ℕ) (Does : Group → Group → Type 0) → ((before after : Group) → Does before after → AcceptsTheSame before after) → InGroup old.groups at Does new.groups
    → (slot : ℕ) → AcceptsNone old new slot
in_one old new at Does same does slot =
    ⊎_elim
    (λ (is : slot ≡ at).
    subst (AcceptsNone old new) (sym is)
    (let its = here old new at Does does in its.0 ∙ same does.before does.after does.does ∙ sym its.1))
    (λ (other : slot ≢ at). beside old new at Does does slot other)
    (cases_eq slot at)

-- calls by which nothing is offered
called : (supply_call : SupplyCall GroupPlace) (old new : Broker) → offer_of supply_call ≡ None → Calls old supply_call new → (slot : ℕ) → AcceptsNone old new slot
called (Attach request answer) old new none does = same_groups old new does.groups
called (Withdraw connection) old new none does = same_groups old new does.groups
called (Kicked connection answer) old new none does = same_groups old new does.groups
called (Park session now answer) old new none does = same_groups old new does.groups
called (ParkAsIs session) old new none does = same_groups old new does.1.groups
called (Keep session) old new none does = same_groups old new does.1.groups
called (Bury session) old new none does = same_groups old new does.1.groups
called (Sweep now answer) old new none does = same_groups old new does.groups
called (LendPlace slot answer) old new none does = same_groups old new does.groups
called (TakePlace place) old new none does = same_groups old new does.1.groups
called (Bind share answer) old new none does = same_groups old new does.1.groups
called (Find share answer) old new none does = same_groups old new (ap (λ (b : Broker). b.groups) does.1)
called (Match topic slots) old new none does = same_groups old new (ap (λ (b : Broker). b.groups) does.1)
called (Offer slot connection message answer) old new none does = absurd (cc)
called (MayTake place answer) old new none does = same_groups old new (ap (λ (b : Broker). b.groups) does.1)
called (Take place place' answer) old new none does = in_one old new place.slot _ (λ before after is. is_handed answer before after place.number is) does.0
called (TakeBack place place' answer) old new none does = in_one old new place.slot _ (λ before after is. is_handed_again answer before after place.number is) does.0
called (Settle place place' envelope how) old new none does = in_one old new place.slot _ (λ before after is. is_settled how before after place.number envelope is) does.0
called (GiveBack place place' envelope (Ok done)) old new none does = in_one old new place.slot _ (λ before after is. is_given_back before after place.number envelope is) does.0
called (GiveBack place place' envelope (Err back)) old new none does = absurd does

none_first : {X : Type 0} (o : Option X) (others : List X) → cons_option o others ≡ [] → (o ≡ None) × (others ≡ [])
none_first None others is = (refl, is)
none_first (Some x) others is = absurd (cc)

all_called : (supply_calls : List (SupplyCall GroupPlace)) (old new : Broker) → offered supply_calls ≡ [] → MakesAll Calls old supply_calls new → (slot : ℕ) → AcceptsNone old new slot
all_called [] old new none made slot = same_groups old new (ap (λ (b : Broker). b.groups) made) slot
all_called (supply_call ∷ supply_calls) old new none made slot =
    let both = none_first (offer_of supply_call) (offered supply_calls) none in
    all_called supply_calls made.0 new both.1 made.2 slot ∙ called supply_call old made.0 both.0 made.1 slot

-- one offer
accepted_one : (old new : Broker) (slot connection : ℕ) (message : Message) (stamp : Stamp) → InGroup old.groups slot (λ before after. IsOffered before connection message (Ok stamp) after) new.groups
    → AcceptsOne old connection new slot
accepted_one old new slot connection message stamp does =
    let its = here old new slot _ does in
    its.0 ∙ one_more does.before does.after (Accept connection) does.does.event ∙ ap (λ (l : List ℕ). l ++ connection ∷ []) (sym its.1)

-- what came of it: the group took the message, or did not
abbrev TakenOrNot : Broker → ℕ → ℕ → ℕ → Broker → Type 0
TakenOrNot old slot connection taken new =
    ((other : ℕ) → other ≢ slot → AcceptsNone old new other)
    × (((taken ≡ 1) × AcceptsOne old connection new slot) ⊎ ((taken ≡ 0) × AcceptsNone old new slot))

not_taken : (answer : Result Stamp OfferRefusal) (why : OfferRefusal) (old new : Broker) (slot connection taken : ℕ) → answer ≡ Err why → why ≢ refusal.Memory → Took answer taken
    → new.groups ≡ old.groups → TakenOrNot old slot connection taken new
not_taken answer why old new slot connection taken is ample took same =
    ((λ other apart. same_groups old new same other), inr (zero_of why ample (subst (λ (a : Result Stamp OfferRefusal). Took a taken) is took), same_groups old new same slot))
  where
    zero_of : (given : OfferRefusal) → given ≢ refusal.Memory → Took (Err given) taken → taken ≡ 0
    zero_of refusal.Shut some is_taken = is_taken
    zero_of refusal.LifeSpent some is_taken = is_taken
    zero_of refusal.Full some is_taken = is_taken
    zero_of refusal.Memory some is_taken = absurd is_taken

in_its_group : (answer : Result Stamp OfferRefusal) (old new : Broker) (slot connection taken : ℕ) (message : Message) → Took answer taken
    → InGroup old.groups slot (λ before after. IsOffered before connection message answer after) new.groups → TakenOrNot old slot connection taken new
in_its_group (Ok stamp) old new slot connection taken message took does =
    ((λ other apart. beside old new slot _ does other apart), inl (took, accepted_one old new slot connection message stamp does))
in_its_group (Err refusal.Shut) old new slot connection taken message took does =
    ((λ other apart. beside old new slot _ does other apart), inr (took, in_one old new slot _ (λ before after is. same_group before after is.same) does slot))
in_its_group (Err refusal.LifeSpent) old new slot connection taken message took does =
    ((λ other apart. beside old new slot _ does other apart), inr (took, in_one old new slot _ (λ before after is. same_group before after is.same) does slot))
in_its_group (Err refusal.Full) old new slot connection taken message took does =
    ((λ other apart. beside old new slot _ does other apart), inr (took, in_one old new slot _ (λ before after is. same_group before after is.same) does slot))
in_its_group (Err refusal.Memory) old new slot connection taken message took does = absurd took

one_offered : (answer : Result Stamp OfferRefusal) (old new : Broker) (slot connection taken : ℕ) (message : Message) → Took answer taken
    → OffersFrom old.groups slot connection message answer new.groups → TakenOrNot old slot connection taken new
one_offered answer old new slot connection taken message took (inl no_port) = not_taken answer refusal.LifeSpent old new slot connection taken no_port.1 (λ e. cc) took no_port.2
one_offered answer old new slot connection taken message took (inr (inl no_group)) = not_taken answer refusal.Shut old new slot connection taken no_group.2 (λ e. cc) took no_group.3
one_offered answer old new slot connection taken message took (inr (inr in_group)) = in_its_group answer old new slot connection taken message took in_group.2

-- a message is offered to the groups of these slots, and so many take it
record Offered (old : Broker) (connection : ℕ) (slots : List ℕ) (taken : ℕ) (new : Broker) : Type 0 where
  each : AllByRecursion (λ slot. AcceptsOne old connection new slot ⊎ AcceptsNone old new slot) slots
  elsewhere : (slot : ℕ) → ¬ Contains slots slot → AcceptsNone old new slot
  all_or_not :
      ((taken ≡ length slots) × AllByRecursion (AcceptsOne old connection new) slots)
      ⊎ ((taken < length slots) × (slot : ℕ) × Contains slots slot × AcceptsNone old new slot)

-- what holds of slots from one on
carry : (P Q : ℕ → Type 0) (from : ℕ) (slots : List ℕ) → AreAscending from slots → ((slot : ℕ) → from ≤ slot → P slot → Q slot) → AllByRecursion P slots → AllByRecursion Q slots
carry P Q from [] ascend so all = tt
carry P Q from (slot ∷ slots) ascend so all =
    (so slot ascend.0 all.0, carry P Q (slot + 1) slots ascend.1 (λ other above is. so other (let less = ascend.0 in omega (arith, above, less)) is) all.1)

above : (from : ℕ) (slots : List ℕ) (slot : ℕ) → AreAscending from slots → Contains slots slot → from ≤ slot
above from [] slot ascend has = absurd (contains_nil slot has)
above from (one ∷ slots) slot ascend has =
    ⊎_elim
    (λ (is : one ≡ slot). subst (λ (n : ℕ). from ≤ n) is ascend.0)
    (λ (later : Contains slots slot). (let more = above (one + 1) slots slot ascend.1 later in let less = ascend.0 in omega (arith, more, less)))
    (contains_cons_cases one slots slot has)

offered_to : (slots : List ℕ) (from : ℕ) (old new : Broker) (connection taken : ℕ) (message : Message) → AreAscending from slots → Offers Calls old connection message slots taken new
    → Offered old connection slots taken new
offered_to [] from old new connection taken message ascend does =
    record { each = tt; elsewhere = λ slot no. same_groups old new (ap (λ (b : Broker). b.groups) does.1) slot; all_or_not = inl (does.0, tt) }
offered_to (slot ∷ slots) from old new connection taken message ascend does =
    let mid = does.1 in
    let now = one_offered does.0 old mid slot connection does.2 message does.5 does.4.0 in
    let rest = offered_to slots (slot + 1) mid new connection does.3 message ascend.1 does.6 in
    let apart : (other : ℕ) → (slot + 1) ≤ other → ports_in other mid ≡ ports_in other old = λ other more. now.0 other (λ same. absurd (omega (arith, more, same))) in
    let first_stays : ports_in slot new ≡ ports_in slot mid = rest.elsewhere slot (λ has. absurd (let more = above (slot + 1) slots slot ascend.1 has in omega (arith, more))) in
    let one_later : (other : ℕ) → (slot + 1) ≤ other → AcceptsOne mid connection new other → AcceptsOne old connection new other =
    λ other more is. is ∙ ap (λ (l : List ℕ). l ++ connection ∷ []) (apart other more) in
    let none_later : (other : ℕ) → (slot + 1) ≤ other → AcceptsNone mid new other → AcceptsNone old new other = λ other more is. is ∙ apart other more in
    let each_later = carry (λ other. AcceptsOne mid connection new other ⊎ AcceptsNone mid new other) (λ other. AcceptsOne old connection new other ⊎ AcceptsNone old new other) (slot + 1) slots ascend.1
    (λ other more is. ⊎_elim (λ (one : AcceptsOne mid connection new other). inl (one_later other more one)) (λ (none : AcceptsNone mid new other). inr (none_later other more none)) is) rest.each in
    record {
      each = (
        ⊎_elim
            (λ (took : (does.2 ≡ 1) × AcceptsOne old connection mid slot). inl (first_stays ∙ took.1))
            (λ (no : (does.2 ≡ 0) × AcceptsNone old mid slot). inr (first_stays ∙ no.1))
            now.1,
        each_later,
      );
      elsewhere = λ other no.
          rest.elsewhere other (λ has. no (contains_there slot slots other has))
          ∙ now.0 other (λ same. no (subst (Contains (slot ∷ slots)) (sym same) (contains_here slot slots)));
      all_or_not =
          ⊎_elim
          (λ (took : (does.2 ≡ 1) × AcceptsOne old connection mid slot).
          ⊎_elim
          (λ (all : (does.3 ≡ length slots) × AllByRecursion (AcceptsOne mid connection new) slots).
          inl (
            (let sum = does.7 in let one = took.0 in let others = all.0 in omega (arith, sum, one, others)),
            (first_stays ∙ took.1, carry (AcceptsOne mid connection new) (AcceptsOne old connection new) (slot + 1) slots ascend.1 one_later all.1),
          ))
          (λ (some : (does.3 < length slots) × (one : ℕ) × Contains slots one × AcceptsNone mid new one).
          inr (
            (let sum = does.7 in let one = took.0 in let others = some.0 in omega (arith, sum, one, others)),
            some.1,
            contains_there slot slots some.1 some.2,
            none_later some.1 (above (slot + 1) slots some.1 ascend.1 some.2) some.3,
          ))
          rest.all_or_not)
          (λ (no : (does.2 ≡ 0) × AcceptsNone old mid slot).
          inr (
            ⊎_elim
                (λ (all : (does.3 ≡ length slots) × AllByRecursion (AcceptsOne mid connection new) slots).
                (let sum = does.7 in let none = no.0 in let others = all.0 in omega (arith, sum, none, others)))
                (λ (some : (does.3 < length slots) × (one : ℕ) × Contains slots one × AcceptsNone mid new one).
                (let sum = does.7 in let none = no.0 in let others = some.0 in omega (arith, sum, none, others)))
                rest.all_or_not,
            slot,
            contains_here slot slots,
            first_stays ∙ no.1,
          ))
          now.1;
    }

-- nothing is accepted before and after it
around : (old mid after new : Broker) (connection : ℕ) (slots : List ℕ) (taken : ℕ) → ((slot : ℕ) → AcceptsNone old mid slot) → ((slot : ℕ) → AcceptsNone after new slot)
    → Offered mid connection slots taken after → Offered old connection slots taken new
around old mid after new connection slots taken earlier later came =
    record {
      each = weaken (λ slot. AcceptsOne mid connection after slot ⊎ AcceptsNone mid after slot) (λ slot. AcceptsOne old connection new slot ⊎ AcceptsNone old new slot)
          (λ slot is. ⊎_elim (λ (took : AcceptsOne mid connection after slot). inl (one slot took)) (λ (no : AcceptsNone mid after slot). inr (none slot no)) is) slots came.each;
      elsewhere = λ slot no. none slot (came.elsewhere slot no);
      all_or_not =
          ⊎_elim
          (λ (all : (taken ≡ length slots) × AllByRecursion (AcceptsOne mid connection after) slots).
          inl (all.0, weaken (AcceptsOne mid connection after) (AcceptsOne old connection new) one slots all.1))
          (λ (some : (taken < length slots) × (slot : ℕ) × Contains slots slot × AcceptsNone mid after slot).
          inr (some.0, some.1, some.2, none some.1 some.3))
          came.all_or_not;
    }
  where
    one : (slot : ℕ) → AcceptsOne mid connection after slot → AcceptsOne old connection new slot
    one slot is = later slot ∙ is ∙ ap (λ (l : List ℕ). l ++ connection ∷ []) (earlier slot)

    none : (slot : ℕ) → AcceptsNone mid after slot → AcceptsNone old new slot
    none slot is = later slot ∙ is ∙ earlier slot

    weaken : (P Q : ℕ → Type 0) → ((slot : ℕ) → P slot → Q slot) → (all : List ℕ) → AllByRecursion P all → AllByRecursion Q all
    weaken P Q so [] is = tt
    weaken P Q so (slot ∷ rest) is = (so slot is.0, weaken P Q so rest is.1)

-- the Reason Code that it is acknowledged with
code_is : (matched taken : ℕ) (fewer : Bool) → matched ≢ 0 → nat_lt taken matched ≡ fewer → puback_code matched taken ≡ (if fewer then 0x97 else 0)
code_is matched taken fewer some is = λ i. if ne_eqb matched 0 some i then 0x10 else (if is i then 0x97 else 0)

code_says : (slots : List ℕ) (old new : Broker) (connection taken : ℕ) → Offered old connection slots taken new → Says old connection new slots (puback_code (length slots) taken)
code_says [] old new connection taken came = NoneMatches refl refl
code_says (slot ∷ slots) old new connection taken came =
    let many = length (slot ∷ slots) in
    let some_match : many ≢ 0 = λ none. absurd (omega (arith, none)) in
    ⊎_elim
    (λ (all : (taken ≡ many) × AllByRecursion (AcceptsOne old connection new) (slot ∷ slots)).
    AllAccept (λ none. cc) all.1 (code_is many taken false some_match (le-ltb taken many (let is = all.0 in omega (arith, is)))))
    (λ (some : (taken < many) × (one : ℕ) × Contains (slot ∷ slots) one × AcceptsNone old new one).
    OneRefuses some.1 some.2 some.3 came.each (code_is many taken true some_match (lt-ltb taken many some.0)))
    came.all_or_not

-- what a reply says
record Acked (old : Broker) (connection : ℕ) (phase : ConnPhase GroupPlace) (input : Input) (reply : Reply) (new : Broker) : Type 0 where
  publish : Publish
  came : input ≡ inputs.Packet (packets.Publish publish)
  allowed : is_allowed phase publish ≡ true
  identifier : ℕ
  delivery : publish.delivery ≡ AtLeastOnce identifier
  taken : ℕ
  replied_so : reply ≡ acknowledging identifier (puback_code (length (matching publish.topic old)) taken)
  offered_so : Offered old connection (matching publish.topic old) taken new

-- it says that the client may not publish to the topic
record Forbidden (old : Broker) (phase : ConnPhase GroupPlace) (input : Input) (reply : Reply) (new : Broker) : Type 0 where
  publish : Publish
  came : input ≡ inputs.Packet (packets.Publish publish)
  forbidden : is_allowed phase publish ≡ false
  identifier : ℕ
  delivery : publish.delivery ≡ AtLeastOnce identifier
  replied_so : reply ≡ acknowledging identifier 0x87
  none : (slot : ℕ) → AcceptsNone old new slot

abbrev Tells : Broker → ℕ → ConnPhase GroupPlace → Input → Reply → Broker → Type 0
Tells old connection phase input reply new = Acked old connection phase input reply new ⊎ Forbidden old phase input reply new

-- a PUBLISH of QoS 1 is what the connection does not go on after
abbrev StopsAtPublish : Input → Reply → Type 0
StopsAtPublish input reply = (publish : Publish) (identifier : ℕ) → input ≡ inputs.Packet (packets.Publish publish) → publish.delivery ≡ AtLeastOnce identifier → reply.next ≢ Go

abbrev NotAcked : Broker → Input → Reply → Broker → Type 0
NotAcked old input reply new = IsNoPuback reply × ((slot : ℕ) → AcceptsNone old new slot) × StopsAtPublish input reply

stops : (input : Input) (reply was : Reply) → reply ≡ was → was.next ≢ Go → StopsAtPublish input reply
stops input reply was is not publish identifier came delivery = λ go. not (ap (λ (r : Reply). r.next) (sym is) ∙ go)

-- a PUBLISH that is offered has QoS 1
identified : (refused : Option ℕ) (own identifier : ℕ) → identified_answer refused own ≡ answers.Offer identifier → own ≡ identifier
identified None own identifier is = cc
identified (Some code) own identifier is = absurd (cc)

delivered : (delivery : Delivery) (publish : Publish) (identifier : ℕ) → delivery_answer delivery publish ≡ answers.Offer identifier → delivery ≡ AtLeastOnce identifier
delivered (AtLeastOnce own) publish identifier is = ap (λ (n : ℕ). let delivery : Delivery = AtLeastOnce n in delivery) (identified (closing_code publish) own identifier is)
delivered AtMostOnce publish identifier is = absurd (cc)
delivered (ExactlyOnce own) publish identifier is = absurd (cc)

same_desk_call : (old new : Broker) (number : ℕ) (kicked : Bool) → Calls old (Kicked number kicked) new → (slot : ℕ) → AcceptsNone old new slot
same_desk_call old new number kicked does = same_groups old new does.groups

-- the connection parts from its session
parts_none : (old new : Broker) (connected : ConnectedClient GroupPlace) (now : ℕ) (phase : ConnPhase GroupPlace) → IsParted Calls slot_of old connected now phase new → (slot : ℕ) → AcceptsNone old new slot
parts_none old new connected now phase does =
    let calls = parted Calls old new connected.session now does.0 in all_called calls.supply_calls old new calls.offers calls.made

offered_if : (allowed : Bool) (identifier : ℕ) (old new : Broker) (number now : ℕ) (connected : ConnectedClient GroupPlace) (publish : Publish) (after : ConnectedClient GroupPlace) (mid : Broker)
    (phase : ConnPhase GroupPlace) (reply : Reply) → publish_answer publish ≡ answers.Offer identifier → may_publish connected.rights publish.topic ≡ allowed → OffersIf Calls allowed old number now publish identifier reply mid
    → Concludes Calls slot_of mid after now reply.next phase new → Tells old number (Connected connected) (inputs.Packet (packets.Publish publish)) reply new
offered_if false identifier old new number now connected publish after mid phase reply is forbidden does concludes =
    let on = subst (λ (r : Reply). Concludes Calls slot_of mid after now r.next phase new) does.0 concludes in
    inr (record {
      publish = publish;
      came = refl;
      forbidden = forbidden;
      identifier = identifier;
      delivery = delivered publish.delivery publish identifier is;
      replied_so = does.0;
      none = λ slot. same_groups mid new (ap (λ (b : Broker). b.groups) on.1) slot ∙ same_groups old mid (ap (λ (b : Broker). b.groups) does.1) slot;
    })
offered_if true identifier old new number now connected publish after mid phase reply is allowed does concludes =
    let on = subst (λ (r : Reply). Concludes Calls slot_of mid after now r.next phase new) does.replied concludes in
    let slots : does.slots ≡ matching publish.topic old = does.matched.0 in
    let offers : Offers Calls old number (message_of now publish) (matching publish.topic old) does.taken mid =
    subst (λ (s : List ℕ). Offers Calls old number (message_of now publish) s does.taken mid) slots
    (subst (λ (b : Broker). Offers Calls b number (message_of now publish) does.slots does.taken mid) does.matched.1 does.offered) in
    inl (record {
      publish = publish;
      came = refl;
      allowed = allowed;
      identifier = identifier;
      delivery = delivered publish.delivery publish identifier is;
      taken = does.taken;
      replied_so = does.replied ∙ ap (λ (s : List ℕ). acknowledging identifier (puback_code (length s) does.taken)) slots;
      offered_so =
          around old old mid new number (matching publish.topic old) does.taken (λ slot. refl) (same_groups mid new (ap (λ (b : Broker). b.groups) on.1))
          (offered_to (matching publish.topic old) 0 old mid number does.taken (message_of now publish) (places_ascend 0 (routed publish.topic old.routes)) offers);
    })

published : (answer : PublishAnswer) (old new : Broker) (number now : ℕ) (connected : ConnectedClient GroupPlace) (publish : Publish) (after : ConnectedClient GroupPlace) (mid : Broker)
    (phase : ConnPhase GroupPlace) (reply : Reply) → publish_answer publish ≡ answer → AnswersPublish Calls connected.rights old number now publish answer reply mid
    → Concludes Calls slot_of mid after now reply.next phase new → Tells old number (Connected connected) (inputs.Packet (packets.Publish publish)) reply new ⊎ NotAcked old (inputs.Packet (packets.Publish publish)) reply new
published (answers.Close code) old new number now connected publish after mid phase reply is does concludes =
    let parts = subst (λ (r : Reply). Concludes Calls slot_of mid after now r.next phase new) does.0 concludes in
    inr (
      ap (λ (r : Reply). pubacks_in (option_to_list r.packet)) does.0,
      (λ slot. parts_none mid new after now phase parts slot ∙ same_groups old mid (ap (λ (b : Broker). b.groups) does.1) slot),
      stops (inputs.Packet (packets.Publish publish)) reply _ does.0 (λ go. cc),
    )
published (answers.Offer identifier) old new number now connected publish after mid phase reply is does concludes =
    inl (offered_if (may_publish connected.rights publish.topic) identifier old new number now connected publish after mid phase reply is refl does concludes)

-- after a call of the desk
desk_before : (old mid new : Broker) (number : ℕ) (phase : ConnPhase GroupPlace) (input : Input) (reply : Reply) (kicked : Bool) → Calls old (Kicked number kicked) mid
    → Tells mid number phase input reply new ⊎ NotAcked mid input reply new → Tells old number phase input reply new ⊎ NotAcked old input reply new
desk_before old mid new number phase input reply kicked does (inl (inr told)) =
    inl (inr (record {
      publish = told.publish;
      came = told.came;
      forbidden = told.forbidden;
      identifier = told.identifier;
      delivery = told.delivery;
      replied_so = told.replied_so;
      none = λ slot. told.none slot ∙ same_desk_call old mid number kicked does slot;
    }))
desk_before old mid new number phase input reply kicked does (inl (inl acked)) =
    let same : matching acked.publish.topic mid ≡ matching acked.publish.topic old = ap (λ (shares : List Share). places_of 0 (routed acked.publish.topic shares)) does.routes in
    inl (inl (record {
      publish = acked.publish;
      came = acked.came;
      allowed = acked.allowed;
      identifier = acked.identifier;
      delivery = acked.delivery;
      taken = acked.taken;
      replied_so = acked.replied_so ∙ ap (λ (s : List ℕ). acknowledging acked.identifier (puback_code (length s) acked.taken)) same;
      offered_so =
          subst (λ (s : List ℕ). Offered old number s acked.taken new) same
          (around old mid new new number (matching acked.publish.topic mid) acked.taken (same_desk_call old mid number kicked does) (λ slot. refl) acked.offered_so);
    }))
desk_before old mid new number phase input reply kicked does (inr none) = inr (none.0, (λ slot. none.1 slot ∙ same_desk_call old mid number kicked does slot), none.2)

unless_kicked : (kicked : Bool) (old new : Broker) (number now : ℕ) (connected : ConnectedClient GroupPlace) (publish : Publish) (phase : ConnPhase GroupPlace) (reply : Reply)
    → AnswersUnlessKicked Calls slot_of kicked old connected now (AnswersPacket Calls slot_of old number connected now (packets.Publish publish)) phase reply new
    → Tells old number (Connected connected) (inputs.Packet (packets.Publish publish)) reply new ⊎ NotAcked old (inputs.Packet (packets.Publish publish)) reply new
unless_kicked true old new number now connected publish phase reply does =
    inr (
      ap (λ (r : Reply). pubacks_in (option_to_list r.packet)) does.0,
      parts_none old new connected now phase does.1,
      stops (inputs.Packet (packets.Publish publish)) reply _ does.0 (λ go. cc),
    )
unless_kicked false old new number now connected publish phase reply does =
    published (publish_answer publish) old new number now connected publish does.0 does.1 phase reply refl does.2.0 does.3

-- a reply to anything but a PUBLISH
other_reply : (phase : ConnPhase GroupPlace) (input : Input) (old new : Broker) (number now : ℕ) (between : ConnPhase GroupPlace) (reply : Reply) → IsNoPublish input
    → Reacts Calls slot_of old number phase now input between reply new → NotAcked old input reply new
other_reply phase input old new number now between reply other does =
    let calls = calls_of_reply Calls slot_of phase input old new number now between reply does in (
      replied Calls slot_of phase input old new number now between reply other does,
      ⊎_elim
          (λ (each : OffersToEach number now phase input calls.supply_calls). absurd (other each.publish each.came))
          (λ (none : OffersNone phase input calls.supply_calls reply.next). all_called calls.supply_calls old new none.offers calls.made)
          calls.offers,
      λ publish identifier came delivery. absurd (other publish came),
    )

first_none : (answer : FirstAnswer) (old new : Broker) (number : ℕ) (limits : ClientLimits) (now : ℕ) (packet : Packet) (phase : ConnPhase GroupPlace) (reply : Reply)
    → AnswersFirst Calls slot_of answer old number limits now packet phase reply new → (slot : ℕ) → AcceptsNone old new slot
first_none first.Close old new number limits now packet phase reply does = same_groups old new (ap (λ (b : Broker). b.groups) does.1)
first_none (first.Refuse refused) old new number limits now packet phase reply does = same_groups old new (ap (λ (b : Broker). b.groups) does.1)
first_none first.Attach old new number limits now packet phase reply does =
    let calls = attached Calls old new number now _ 0 phase reply does.2 in all_called calls.supply_calls old new calls.offers calls.made

-- a PUBLISH before any CONNECT
stops_first : (packet : Packet) (old new : Broker) (number : ℕ) (limits : ClientLimits) (now : ℕ) (phase : ConnPhase GroupPlace) (reply : Reply)
    → AnswersFirst Calls slot_of (first_answer limits.users packet) old number limits now packet phase reply new → StopsAtPublish (inputs.Packet packet) reply
stops_first (packets.Publish its) old new number limits now phase reply does = stops (inputs.Packet (packets.Publish its)) reply _ does.0.told (λ go. cc)
stops_first (packets.Connect packet) old new number limits now phase reply does = λ publish identifier came delivery go. cc
stops_first (packets.Connack packet) old new number limits now phase reply does = λ publish identifier came delivery go. cc
stops_first (packets.Puback packet) old new number limits now phase reply does = λ publish identifier came delivery go. cc
stops_first (packets.Subscribe packet) old new number limits now phase reply does = λ publish identifier came delivery go. cc
stops_first (packets.Suback packet) old new number limits now phase reply does = λ publish identifier came delivery go. cc
stops_first (packets.Unsubscribe packet) old new number limits now phase reply does = λ publish identifier came delivery go. cc
stops_first (packets.Unsuback packet) old new number limits now phase reply does = λ publish identifier came delivery go. cc
stops_first packets.Pingreq old new number limits now phase reply does = λ publish identifier came delivery go. cc
stops_first packets.Pingresp old new number limits now phase reply does = λ publish identifier came delivery go. cc
stops_first (packets.Disconnect packet) old new number limits now phase reply does = λ publish identifier came delivery go. cc
stops_first (packets.Foreign kind) old new number limits now phase reply does = λ publish identifier came delivery go. cc
stops_first (packets.OtherVersion version) old new number limits now phase reply does = λ publish identifier came delivery go. cc
stops_first packets.WithWill old new number limits now phase reply does = λ publish identifier came delivery go. cc

reacted : (phase : ConnPhase GroupPlace) (input : Input) (old new : Broker) (number now : ℕ) (between : ConnPhase GroupPlace) (reply : Reply)
    → Reacts Calls slot_of old number phase now input between reply new → Tells old number phase input reply new ⊎ NotAcked old input reply new
reacted (Unconnected opened) (inputs.Packet packet) old new number now between reply does =
    inr (
      answers_first Calls slot_of (first_answer opened.limits.users packet) old new number opened.limits now packet between reply does,
      first_none (first_answer opened.limits.users packet) old new number opened.limits now packet between reply does,
      stops_first packet old new number opened.limits now between reply does,
    )
reacted (Waiting request ticks) (inputs.Packet packet) old new number now between reply does = absurd does
reacted Ended (inputs.Packet packet) old new number now between reply does =
    inr (
      ap (λ (r : Reply). pubacks_in (option_to_list r.packet)) does.0.told,
      same_groups old new (ap (λ (b : Broker). b.groups) does.1),
      stops (inputs.Packet packet) reply _ does.0.told (λ go. cc),
    )
reacted (Connected connected) (inputs.Packet (packets.Publish publish)) old new number now between reply does =
    desk_before old does.1 new number (Connected connected) (inputs.Packet (packets.Publish publish)) reply does.0 does.2 (unless_kicked does.0 does.1 new number now connected publish between reply does.3)
reacted (Connected connected) (inputs.Packet (packets.Connect packet)) old new number now between reply does = inr (other_reply (Connected connected) (inputs.Packet (packets.Connect packet)) old new number now between reply (λ publish e. cc) does)
reacted (Connected connected) (inputs.Packet (packets.Connack packet)) old new number now between reply does = inr (other_reply (Connected connected) (inputs.Packet (packets.Connack packet)) old new number now between reply (λ publish e. cc) does)
reacted (Connected connected) (inputs.Packet (packets.Puback packet)) old new number now between reply does = inr (other_reply (Connected connected) (inputs.Packet (packets.Puback packet)) old new number now between reply (λ publish e. cc) does)
reacted (Connected connected) (inputs.Packet (packets.Subscribe packet)) old new number now between reply does = inr (other_reply (Connected connected) (inputs.Packet (packets.Subscribe packet)) old new number now between reply (λ publish e. cc) does)
reacted (Connected connected) (inputs.Packet (packets.Suback packet)) old new number now between reply does = inr (other_reply (Connected connected) (inputs.Packet (packets.Suback packet)) old new number now between reply (λ publish e. cc) does)
reacted (Connected connected) (inputs.Packet (packets.Unsubscribe packet)) old new number now between reply does = inr (other_reply (Connected connected) (inputs.Packet (packets.Unsubscribe packet)) old new number now between reply (λ publish e. cc) does)
reacted (Connected connected) (inputs.Packet (packets.Unsuback packet)) old new number now between reply does = inr (other_reply (Connected connected) (inputs.Packet (packets.Unsuback packet)) old new number now between reply (λ publish e. cc) does)
reacted (Connected connected) (inputs.Packet packets.Pingreq) old new number now between reply does = inr (other_reply (Connected connected) (inputs.Packet packets.Pingreq) old new number now between reply (λ publish e. cc) does)
reacted (Connected connected) (inputs.Packet packets.Pingresp) old new number now between reply does = inr (other_reply (Connected connected) (inputs.Packet packets.Pingresp) old new number now between reply (λ publish e. cc) does)
reacted (Connected connected) (inputs.Packet (packets.Disconnect packet)) old new number now between reply does = inr (other_reply (Connected connected) (inputs.Packet (packets.Disconnect packet)) old new number now between reply (λ publish e. cc) does)
reacted (Connected connected) (inputs.Packet (packets.Foreign kind)) old new number now between reply does = inr (other_reply (Connected connected) (inputs.Packet (packets.Foreign kind)) old new number now between reply (λ publish e. cc) does)
reacted (Connected connected) (inputs.Packet (packets.OtherVersion version)) old new number now between reply does = inr (other_reply (Connected connected) (inputs.Packet (packets.OtherVersion version)) old new number now between reply (λ publish e. cc) does)
reacted (Connected connected) (inputs.Packet packets.WithWill) old new number now between reply does = inr (other_reply (Connected connected) (inputs.Packet packets.WithWill) old new number now between reply (λ publish e. cc) does)
reacted phase (inputs.Fault fault) old new number now between reply does = inr (other_reply phase (inputs.Fault fault) old new number now between reply (λ publish e. cc) does)
reacted phase inputs.Tick old new number now between reply does = inr (other_reply phase inputs.Tick old new number now between reply (λ publish e. cc) does)
reacted phase inputs.EndOfInput old new number now between reply does = inr (other_reply phase inputs.EndOfInput old new number now between reply (λ publish e. cc) does)
reacted phase inputs.Closing old new number now between reply does = inr (other_reply phase inputs.Closing old new number now between reply (λ publish e. cc) does)

-- what is handed out is no PUBACK
none_there : (packet is : Packet) (others : List Packet) → packet ≡ is → puback_in is ≡ None → pubacks_in others ≡ [] → pubacks_in (packet ∷ others) ≡ []
none_there packet is others same none rest = (λ i. cons_option ((ap puback_in same ∙ none) i) (rest i))

again_none : (now : ℕ) (sent : List Packet) (old new : Contents Held) → SendsAgain now old sent new → pubacks_in sent ≡ []
again_none now [] old new sends = refl
again_none now (packet ∷ others) old new sends = none_there packet _ others sends.2 refl (again_none now others (after_resend old (Some sends.0)) new sends.3)

fresh_none : (terms : HandOutTerms) (sent : List Packet) (old new : Broker) (place place' : GroupPlace) (window window' : Contents Held) → SendsFresh Calls terms old place window sent place' window' new
    → pubacks_in sent ≡ []
fresh_none terms [] old new place place' window window' sends = refl
fresh_none terms (packet ∷ others) old new place place' window window' sends =
    none_there packet _ others sends.3.sent refl (fresh_none terms others sends.2 new sends.0 place' sends.1 window' sends.4)

hands_none : (terms : HandOutTerms) (membership membership' : Membership GroupPlace) (old new : Broker) (window window' : Contents Held) (sent : List Packet)
    → HandsFresh Calls terms old membership window sent membership' window' new → pubacks_in sent ≡ []
hands_none terms NotMember membership' old new window window' sent hands = ap pubacks_in hands.0
hands_none terms (Member place) membership' old new window window' sent hands = fresh_none terms sent old new place hands.0 window window' hands.2
hands_none terms (Leaving place) membership' old new window window' sent hands = ap pubacks_in hands.0

none_sent : (between : ConnPhase GroupPlace) (now : ℕ) (old new : Broker) (sent : List Packet) (phase : ConnPhase GroupPlace) → Hands Calls slot_of old between now sent phase new → pubacks_in sent ≡ []
none_sent (Unconnected opened) now old new sent phase hands = ap pubacks_in hands.0
none_sent (Waiting request ticks) now old new sent phase hands = ap pubacks_in hands.0
none_sent (Connected connected) now old new sent phase hands =
    let out = hands.2 in
    ap pubacks_in out.both ∙ filter_map-append puback_in out.again out.fresh
    ∙ (λ i. again_none now out.again connected.session.window out.between out.sent_again i
    ++ hands_none (hand_out_terms connected now) connected.session.membership hands.0 old new out.between hands.1 out.fresh out.sent_fresh i)
none_sent Ended now old new sent phase hands = ap pubacks_in hands.0

-- a step
pub acknowledges : (step : TakenStep) → IsLawfulStep step → AcknowledgesWhatIsAccepted step
acknowledges step steps =
    let old = step.broker_before in
    let new = step.broker_after in
    let behind = handed_behind Calls slot_of steps.between step.at steps.mid new steps.sent step.phase_after steps.hands in
    let later = all_called behind.calls.supply_calls steps.mid new behind.calls.offers behind.calls.made in
    let none_later = none_sent steps.between step.at steps.mid new steps.sent step.phase_after steps.hands in
    ⊎_elim
    (⊎_elim
    (λ (acked : Acked old step.connection step.phase_before step.input steps.reply steps.mid).
    let slots = matching acked.publish.topic old in
    let offered = around old old steps.mid new step.connection slots acked.taken (λ slot. refl) later acked.offered_so in
    inl (record {
      publish = acked.publish;
      came = acked.came;
      identifier = acked.identifier;
      delivery = acked.delivery;
      code = puback_code (length slots) acked.taken;
      later = steps.sent;
      sent = steps.written ∙ ap (λ (r : Reply). option_to_list r.packet ++ steps.sent) acked.replied_so;
      once = none_later;
      says = subst (λ (b : Bool). SaysIf b old step.connection new slots (puback_code (length slots) acked.taken)) (sym acked.allowed) (code_says slots old new step.connection acked.taken offered);
      elsewhere = offered.elsewhere;
    }))
    (λ (told : Forbidden old step.phase_before step.input steps.reply steps.mid).
    let none : (slot : ℕ) → AcceptsNone old new slot = λ slot. later slot ∙ told.none slot in
    inl (record {
      publish = told.publish;
      came = told.came;
      identifier = told.identifier;
      delivery = told.delivery;
      code = 0x87;
      later = steps.sent;
      sent = steps.written ∙ ap (λ (r : Reply). option_to_list r.packet ++ steps.sent) told.replied_so;
      once = none_later;
      says = subst (λ (b : Bool). SaysIf b old step.connection new (matching told.publish.topic old) 0x87) (sym told.forbidden) (none, refl);
      elsewhere = λ slot no. none slot;
    })))
    (λ (none : NotAcked old step.input steps.reply steps.mid).
    inr (record {
      sent =
          ap pubacks_in steps.written ∙ filter_map-append puback_in (option_to_list steps.reply.packet) steps.sent
          ∙ (λ i. none.0 i ++ none_later i);
      accepted = λ slot. later slot ∙ none.1 slot;
      unless = λ publish identifier came delivery go. none.2 publish identifier came delivery (sym steps.followed ∙ go);
    }))
    (reacted step.phase_before step.input old steps.mid step.connection step.at steps.between steps.reply steps.reacts)

pub all_acknowledge : (steps : List TakenStep) → AllByRecursion IsLawfulStep steps → AllByRecursion AcknowledgesWhatIsAccepted steps
all_acknowledge [] lawful = tt
all_acknowledge (step ∷ steps) lawful = (acknowledges step lawful.0, all_acknowledge steps lawful.1)
