-- What comes into the ports of a worker, call by call, step by step, and over its run.
use Rattle.std.proofs.Common.{◌≡◌, ◌≢◌, ◌⊎◌, ℕ, ◌<◌, Bool, true, false, List, [], ◌∷◌, ◌++◌, length, Option, Some, None, Result, Err, refl, sym, ap, subst, ◌∙◌, inl, inr, ⊎_elim, append-nil, arith}
use Rattle.std.specs.List.{cons_option}
use Rattle.std.specs.Option.{option_to_list}
use Rattle.mqtt_packet.specs.declared.packet.Packet.{Packet}
use Rattle.mqtt_packet.specs.declared.packet.Packet.TheVariants as packets
use Rattle.mqtt_packet.specs.declared.packet.Publish.{Publish}
use Rattle.transport.specs.declared.counts.Counts.{Counts}
use Rattle.group_jobs.specs.declared.fate.Fate.{Fate}
use Rattle.group_jobs.specs.declared.message.Message.{Message}
use Rattle.group_jobs.specs.declared.stamp.Stamp.{Stamp}
use Rattle.group_jobs.specs.Stamps.{Held}
use Rattle.group_queue.specs.Ports.{GroupId, PortState}
use Rattle.broker_groups.specs.Answers.{Sights}
use Rattle.group_queue.specs.Places.{PlaceState}
use Rattle.users.specs.Table.{Rights}
use Rattle.users.specs.Rights.{may_publish}
use Rattle.conn_rules.specs.declared.connecting.FirstAnswer.{FirstAnswer}
use Rattle.conn_rules.specs.declared.connecting.FirstAnswer.TheVariants as first
use Rattle.conn_rules.specs.declared.publishing.PublishAnswer.{PublishAnswer}
use Rattle.conn_rules.specs.declared.publishing.PublishAnswer.TheVariants as answers
use Rattle.conn_rules.specs.declared.client_limits.ClientLimits.{ClientLimits}
use Rattle.conn_rules.specs.Connecting.{first_answer}
use Rattle.conn_rules.specs.Packets.{puback}
use Rattle.conn_rules.specs.Publishing.{publish_answer, puback_code, message_of}
use Rattle.conn_supply.specs.declared.reply.Reply.{Reply}
use Rattle.conn_supply.specs.declared.reply.Then.{Then}
use Rattle.conn_supply.specs.declared.reply.Then.TheVariants.{Go, Close, Kicked as TakenOver}
use Rattle.conn_supply.specs.declared.supply.OfferRefusal.{OfferRefusal}
use Rattle.conn_supply.specs.declared.supply.OfferRefusal.TheVariants as refusal
use Rattle.conn_supply.specs.SupplyCalls.{SupplyCall}
use Rattle.conn_supply.specs.SupplyCalls.SupplyCall.{Attach, Withdraw, Kicked, Park, ParkAsIs, Keep, Bury, Sweep, LendPlace, TakePlace, Bind, Find, Match, Offer, MayTake, Take, TakeBack, Settle, GiveBack}
use Rattle.conn_supply.specs.Publishing.{AnswersPublish, Offers, OffersFirst, OffersIf, OffersSome}
use Rattle.conn_supply.specs.Replies.{acknowledging}
use Rattle.conn_engine.specs.declared.input.Input.{Input}
use Rattle.conn_engine.specs.declared.input.Input.TheVariants as inputs
use Rattle.conn_engine.specs.declared.phase.ConnectedClient.{ConnectedClient}
use Rattle.conn_engine.specs.declared.phase.ConnPhase.{ConnPhase}
use Rattle.conn_engine.specs.declared.phase.ConnPhase.TheVariants.{Unconnected, Waiting, Connected, Ended}
use Rattle.conn_engine.specs.Step.{AnswersFirst, AnswersPacket, AnswersUnlessKicked, Concludes, FailsToHand, FailsToReact, FailsToStep, GivesUp as LeavesOff, Hands, HandsLess, Reacts, Steps as StepsTo, after_hand_out, hand_out_terms}
use Rattle.conn_laws.specs.Calls.{offer_of, offered, MakesAll as MakesCalls, OffersToEach, OffersNone, OffersToSome}
use Rattle.conn_laws.proofs.Calling.{Plain, handed_some, parted}
use Rattle.conn_laws.proofs.Failing.{failed}
use Rattle.conn_laws.proofs.Stepping.{handed_behind, stepped}
use Rattle.client_table.specs.Clients.{ClientState, IsGivenUp, moment_of}
use Rattle.conn_service.specs.Acts.{Act, Enters, Leaves as Left, Asks, Reads, Writes, Steps, Loses, Fails, Starves, IsFull, IsStopped, Stalls, GivesUp, Ends, Others}
use Rattle.conn_service.specs.Lives.{Does, DoesAll}
use Rattle.conn_service.specs.Services.{ServiceState}
use Rattle.conn_service.specs.Visits.{Stand, Outside, Inside, Behind, Parting, Parted, Treads, Walks}
use Rattle.shared_supply.specs.Calls.{Calls, OffersIn, missing}
use Rattle.shared_supply.specs.Workers.{Worker, Begins, Leaves, is_visiting}
use Rattle.worker_connections.specs.Chains.{Deed, Opened, Closed, Allowed, MadeRound, Passed, RetiredDue, Called, Notified, NotifiedAll, Waited, Makes, Run, RunState}
use Rattle.worker_connections.proofs.Retired.{retiring_calls}
use Rattle.worker_connections.specs.EachAct.{EachAct, EachActOf}
use Rattle.worker_connections.specs.Retiring.{RetiresDue}
use Rattle.worker_connections.specs.Publishing.{IsPromised, IsCutShort, IsPublished, IsPublishedBy, Publishes, PublishesAt, PublishesIn, PublishesSome, PublisherState, PutsInto, PutsSome, publisher_of, slots_matched}

-- nothing is found in front of a list, and nothing in it
none_found : {X : Type 0} (found : Option X) (rest : List X) → cons_option found rest ≡ [] → (found ≡ None) × (rest ≡ [])
none_found None rest none = (refl, none)
none_found (Some x) rest none = absurd (cc none)

abbrev slot_of : PlaceState → ℕ
slot_of place = place.group

module _ (group : ℕ → GroupId) (seen : Sights) where
  missed_ports : (is_missed : Bool) (worker : Worker) → (missing is_missed worker).ports ≡ worker.ports
  missed_ports true worker = refl
  missed_ports false worker = refl

  -- a call offers a message, or leaves the ports as they were
  pub record IsOfferOf (is_draining : Bool) (supply_call : SupplyCall PlaceState) (old new : List PortState) : Type 0 where
    pub slot : ℕ
    pub connection : ℕ
    pub message : Message
    pub answer : Result Stamp OfferRefusal
    pub is : offer_of supply_call ≡ Some (slot, connection, message)
    pub offers : OffersIn group seen is_draining old slot message answer new

  abbrev OffersOrStays : (is_draining : Bool) → SupplyCall PlaceState → List PortState → List PortState → Type 0
  OffersOrStays is_draining supply_call old new = ((offer_of supply_call ≡ None) × (new ≡ old)) ⊎ IsOfferOf is_draining supply_call old new

  called : (supply_call : SupplyCall PlaceState) (old new : Worker) → Calls group seen old supply_call new → OffersOrStays old.draining supply_call old.ports new.ports
  called (Attach request answer) old new is = inl (refl, ap (λ (w : Worker). w.ports) is.2.1)
  called (Withdraw connection) old new is = inl (refl, ap (λ (w : Worker). w.ports) is.1)
  called (Kicked connection answer) old new (inl same) = inl (refl, ap (λ (w : Worker). w.ports) same.1)
  called (Kicked connection answer) old new (inr told) = inl (refl, ap (λ (w : Worker). w.ports) told.1)
  called (Park session now answer) old new is = inl (refl, ap (λ (w : Worker). w.ports) is.1)
  called (ParkAsIs session) old new is = inl (refl, ap (λ (w : Worker). w.ports) is.1.1)
  called (Keep session) old new is = inl (refl, ap (λ (w : Worker). w.ports) is.1.1)
  called (Bury session) old new is = inl (refl, ap (λ (w : Worker). w.ports) is.1.1)
  called (Sweep now answer) old new (inl same) = inl (refl, ap (λ (w : Worker). w.ports) same.1)
  called (Sweep now answer) old new (inr told) = inl (refl, ap (λ (w : Worker). w.ports) told.1)
  called (LendPlace slot answer) old new is = inl (refl, ap (λ (w : Worker). w.ports) is.1)
  called (TakePlace place) old new is = inl (refl, ap (λ (w : Worker). w.ports) is.1.1)
  called (Bind share answer) old new is = inl (refl, ap (λ (w : Worker). w.ports) is.1)
  called (Find share answer) old new is = inl (refl, ap (λ (w : Worker). w.ports) is.1)
  called (Match topic slots) old new is = inl (refl, ap (λ (w : Worker). w.ports) is.1)
  called (Offer slot connection message answer) old new is =
      inr (record { slot = slot; connection = connection; message = message; answer = answer; is = refl; offers = is.0 })
  called (MayTake place answer) old new is = inl (refl, ap (λ (w : Worker). w.ports) is.1)
  called (Take place place' answer) old new is = inl (refl, ap (λ (w : Worker). w.ports) is.1)
  called (TakeBack place place' answer) old new is = inl (refl, ap (λ (w : Worker). w.ports) is.1)
  called (Settle place place' envelope fate) old new is = inl (refl, ap (λ (w : Worker). w.ports) is.2 ∙ missed_ports is.0 old)
  called (GiveBack place place' envelope answer) old new is = inl (refl, ap (λ (w : Worker). w.ports) is.1)

  stays : (is_draining : Bool) (supply_call : SupplyCall PlaceState) (old new : List PortState) → OffersOrStays is_draining supply_call old new → offer_of supply_call ≡ None → new ≡ old
  stays is_draining supply_call old new (inl same) none = same.1
  stays is_draining supply_call old new (inr offer) none = let never : Some (offer.slot, offer.connection, offer.message) ≡ None = sym offer.is ∙ none in absurd (cc never)

  -- calls that offer nothing
  all_stay : (supply_calls : List (SupplyCall PlaceState)) (old new : Worker) → offered supply_calls ≡ [] → MakesCalls (Calls group seen) old supply_calls new → new.ports ≡ old.ports
  all_stay [] old new none made = ap (λ (w : Worker). w.ports) made
  all_stay (supply_call ∷ supply_calls) old new none made =
      let parts = none_found (offer_of supply_call) (offered supply_calls) none in
      all_stay supply_calls made.0 new parts.1 made.2 ∙ stays old.draining supply_call old.ports made.0.ports (called supply_call old made.0 made.1) parts.0

  plain : {given : List (PlaceState × Held)} {thrown : List (Held × Fate)} {before after : List PlaceState} (old new : Worker) → Plain (Calls group seen) given thrown before after old new → new.ports ≡ old.ports
  plain old new calls = all_stay calls.supply_calls old new calls.offers calls.made

  -- a message is offered to each of these slots
  all_put : (slots : List ℕ) (number : ℕ) (message : Message) (taken : ℕ) (old new : Worker) → Offers (Calls group seen) old number message slots taken new
      → PutsInto group seen old.draining old.ports message slots taken new.ports
  all_put [] number message taken old new offers = (offers.0, ap (λ (w : Worker). w.ports) offers.1)
  all_put (slot ∷ slots) number message taken old new offers =
      let as_it_was = ap (λ (w : Worker). w.draining) offers.4.1 in
      let others = subst (λ is_draining. PutsInto group seen is_draining offers.1.ports message slots offers.3 new.ports) as_it_was (all_put slots number message offers.3 offers.1 new offers.6) in
      (offers.0, offers.1.ports, offers.2, offers.3, offers.4.0, offers.5, others, offers.7)

  -- a packet that promises nothing
  abbrev IsNoPromise : Option Packet → ConnPhase PlaceState → Type 0
  IsNoPromise None between = between ≡ Ended
  IsNoPromise (Some packet) between = (identifier code : ℕ) → code < 0x80 → packet ≢ puback identifier code

  -- whether a connection was taken over is asked of the desk alone
  asked_of_desk : (number : ℕ) (answer : Bool) (old new : Worker) → Calls group seen old (Kicked number answer) new → publisher_of new ≡ publisher_of old
  asked_of_desk number answer old new (inl same) = ap publisher_of same.1
  asked_of_desk number answer old new (inr told) = ap publisher_of told.1

  -- what a PUBLISH made of the ports, and its reply
  abbrev RepliesTo : ℕ → Publish → PublisherState → ConnPhase PlaceState → Reply → PublisherState → Type 0
  RepliesTo now publish old between reply new =
      ((identifier : ℕ) × (publish_answer publish ≡ answers.Offer identifier) × (taken : ℕ) × PutsInto group seen old.draining old.ports (message_of now publish) (slots_matched old publish) taken new.ports
      × (reply ≡ acknowledging identifier (puback_code (length (slots_matched old publish)) taken)))
      ⊎ ((new.ports ≡ old.ports) × IsNoPromise reply.packet between)

  -- no promise, by the packet of the reply
  silent : (reply : Reply) (packet : Packet) (between : ConnPhase PlaceState) → reply.packet ≡ Some packet → ((identifier code : ℕ) → code < 0x80 → packet ≢ puback identifier code) → IsNoPromise reply.packet between
  silent reply packet between is never = subst (λ (it : Option Packet). IsNoPromise it between) (sym is) never

  abbrev code_of : Packet → ℕ
  code_of (packets.Puback acknowledged) = acknowledged.reason_code
  code_of other = 0

  -- a PUBACK of 87 promises nothing
  not_promised : (identifier own code : ℕ) → code < 0x80 → puback identifier 0x87 ≢ puback own code
  not_promised identifier own code few same = let is : 0x87 ≡ code = ap code_of same in omega (arith, few, is)

  over : (reply : Reply) (between : ConnPhase PlaceState) → reply.packet ≡ None → between ≡ Ended → IsNoPromise reply.packet between
  over reply between is ended = subst (λ (it : Option Packet). IsNoPromise it between) (sym is) ended

  first_answered : (answer : FirstAnswer) (old new : Worker) (number : ℕ) (limits : ClientLimits) (now : ℕ) (publish : Publish) (between : ConnPhase PlaceState) (reply : Reply)
      → AnswersFirst (Calls group seen) slot_of answer old number limits now (packets.Publish publish) between reply new → RepliesTo now publish (publisher_of old) between reply (publisher_of new)
  first_answered first.Close old new number limits now publish between reply is =
      inr (ap (λ (w : Worker). w.ports) is.1, over reply between (ap (λ (r : Reply). r.packet) is.0.told) is.0.over)
  first_answered (first.Refuse refusal) old new number limits now publish between reply is =
      inr (ap (λ (w : Worker). w.ports) is.1, silent reply _ between (ap (λ (r : Reply). r.packet) is.0.told) (λ identifier code few same. cc same))
  first_answered first.Attach old new number limits now publish between reply is = let never = is.1 in absurd (cc never)

  concluded : (next : Then) (old new : Worker) (connected : ConnectedClient PlaceState) (now : ℕ) (phase : ConnPhase PlaceState) → Concludes (Calls group seen) slot_of old connected now next phase new
      → new.ports ≡ old.ports
  concluded Go old new connected now phase concludes = ap (λ (w : Worker). w.ports) concludes.1
  concluded Close old new connected now phase concludes = plain old new (parted (Calls group seen) old new connected.session now concludes.0)
  concluded TakenOver old new connected now phase concludes = plain old new (parted (Calls group seen) old new connected.session now concludes.0)

  offered_if : (allowed : Bool) (identifier : ℕ) (old mid new : Worker) (number now : ℕ) (publish : Publish) (between : ConnPhase PlaceState) (reply : Reply) → publish_answer publish ≡ answers.Offer identifier
      → OffersIf (Calls group seen) allowed old number now publish identifier reply mid → new.ports ≡ mid.ports → RepliesTo now publish (publisher_of old) between reply (publisher_of new)
  offered_if false identifier old mid new number now publish between reply answered is kept =
      inr (kept ∙ ap (λ (w : Worker). w.ports) is.1, silent reply _ between (ap (λ (r : Reply). r.packet) is.0) (not_promised identifier))
  offered_if true identifier old mid new number now publish between reply answered is kept =
      let Puts : List ℕ → Worker → List PortState → Type 0 = λ slots from ports'. PutsInto group seen from.draining from.ports (message_of now publish) slots is.taken ports' in
      let Told : List ℕ → Type 0 = λ slots. Puts slots old new.ports × (reply ≡ acknowledging identifier (puback_code (length slots) is.taken)) in
      let puts = all_put is.slots number (message_of now publish) is.taken is.mid mid is.offered in
      let from_old = subst (λ (from : Worker). Puts is.slots from mid.ports) is.matched.1 puts in
      let to_new = subst (λ (ports : List PortState). Puts is.slots old ports) (sym kept) from_old in
      let told = subst Told is.matched.0 (to_new, is.replied) in
      inl (identifier, answered, is.taken, told.0, told.1)

  published : (rights : Rights) (answer : PublishAnswer) (old mid new : Worker) (number now : ℕ) (publish : Publish) (between : ConnPhase PlaceState) (reply : Reply) → publish_answer publish ≡ answer
      → AnswersPublish (Calls group seen) rights old number now publish answer reply mid → new.ports ≡ mid.ports → RepliesTo now publish (publisher_of old) between reply (publisher_of new)
  published rights (answers.Close code) old mid new number now publish between reply answered is kept =
      inr (kept ∙ ap (λ (w : Worker). w.ports) is.1, silent reply _ between (ap (λ (r : Reply). r.packet) is.0) (λ identifier code few same. cc same))
  published rights (answers.Offer identifier) old mid new number now publish between reply answered is kept =
      offered_if (may_publish rights publish.topic) identifier old mid new number now publish between reply answered is kept

  packet_answered : (was_kicked : Bool) (old new : Worker) (number now : ℕ) (connected : ConnectedClient PlaceState) (publish : Publish) (between : ConnPhase PlaceState) (reply : Reply)
      → AnswersUnlessKicked (Calls group seen) slot_of was_kicked old connected now (AnswersPacket (Calls group seen) slot_of old number connected now (packets.Publish publish)) between reply new
      → RepliesTo now publish (publisher_of old) between reply (publisher_of new)
  packet_answered true old new number now connected publish between reply is =
      inr (plain old new (parted (Calls group seen) old new connected.session now is.1.0), silent reply _ between (ap (λ (r : Reply). r.packet) is.0) (λ identifier code few same. cc same))
  packet_answered false old new number now connected publish between reply is =
      published connected.rights (publish_answer publish) old is.1 new number now publish between reply refl is.2.0 (concluded reply.next is.1 new is.0 now between is.3)

  reacted : (phase : ConnPhase PlaceState) (publish : Publish) (old new : Worker) (number now : ℕ) (between : ConnPhase PlaceState) (reply : Reply)
      → Reacts (Calls group seen) slot_of old number phase now (inputs.Packet (packets.Publish publish)) between reply new → RepliesTo now publish (publisher_of old) between reply (publisher_of new)
  reacted (Unconnected opened) publish old new number now between reply is =
      first_answered (first_answer opened.limits.users (packets.Publish publish)) old new number opened.limits now publish between reply is
  reacted (Waiting request ticks) publish old new number now between reply is = absurd is
  reacted (Connected connected) publish old new number now between reply is =
      let asked = asked_of_desk number is.0 old is.1 is.2 in
      subst (λ (from : PublisherState). RepliesTo now publish from between reply (publisher_of new)) asked (packet_answered is.0 is.1 new number now connected publish between reply is.3)
  reacted Ended publish old new number now between reply is =
      inr (ap (λ (w : Worker). w.ports) is.1, over reply between (ap (λ (r : Reply). r.packet) is.0.told) is.0.over)

  -- no promise stands in front of what is sent
  unpromised : (packet : Option Packet) (now : ℕ) (between phase : ConnPhase PlaceState) (old new : Worker) (these sent : List Packet) → IsNoPromise packet between
      → Hands (Calls group seen) slot_of old between now sent phase new → these ≡ option_to_list packet ++ sent → ¬ IsPromised these
  unpromised None now between phase old new these sent never hands is promised =
      let none = (subst (λ (s : ConnPhase PlaceState). Hands (Calls group seen) slot_of old s now sent phase new) never hands).0 in
      let some = sym promised.4 ∙ is ∙ none in
      cc some
  unpromised (Some packet) now between phase old new these sent never hands is promised =
      let same = sym is ∙ promised.4 in
      never promised.0 promised.1 promised.3 (cc same)

  -- a step of a PUBLISH
  of_publish : (old new : Worker) (number now : ℕ) (phase phase' : ConnPhase PlaceState) (publish : Publish) (these : List Packet) (next : Then)
      → StepsTo (Calls group seen) slot_of old number phase now (inputs.Packet (packets.Publish publish)) these next phase' new
      → PublishesAt group seen now (inputs.Packet (packets.Publish publish)) these (publisher_of old) (publisher_of new)
  of_publish old new number now phase phase' publish these next steps =
      let handed = plain steps.mid new (handed_behind (Calls group seen) slot_of steps.between now steps.mid new steps.sent phase' steps.hands).calls in
      ⊎_elim
      (λ (it : (identifier : ℕ) × (publish_answer publish ≡ answers.Offer identifier) × (taken : ℕ)
      × PutsInto group seen old.draining old.ports (message_of now publish) (slots_matched (publisher_of old) publish) taken steps.mid.ports
      × (steps.reply ≡ acknowledging identifier (puback_code (length (slots_matched (publisher_of old) publish)) taken))).
      inl (
        publish,
        refl,
        record {
          identifier = it.0;
          brought = it.1;
          taken = it.2;
          puts = subst (λ (ports : List PortState). PutsInto group seen old.draining old.ports (message_of now publish) (slots_matched (publisher_of old) publish) it.2 ports) (sym handed) it.3;
          others = steps.sent;
          answered = steps.written ∙ ap (λ (r : Reply). option_to_list r.packet ++ steps.sent) it.4;
        },
      ))
      (λ (it : (steps.mid.ports ≡ old.ports) × IsNoPromise steps.reply.packet steps.between).
      inr (handed ∙ it.0, λ other is. unpromised steps.reply.packet now steps.between phase' steps.mid new these steps.sent it.1 steps.hands steps.written))
      (reacted phase publish old steps.mid number now steps.between steps.reply steps.reacts)

  -- a step of any other input
  of_other : (input : Input) (old new : Worker) (number now : ℕ) (phase phase' : ConnPhase PlaceState) (these : List Packet) (next : Then)
      → ((publish : Publish) → input ≡ inputs.Packet (packets.Publish publish) → ⊥) → StepsTo (Calls group seen) slot_of old number phase now input these next phase' new
      → PublishesAt group seen now input these (publisher_of old) (publisher_of new)
  of_other input old new number now phase phase' these next never steps =
      let calls = stepped (Calls group seen) slot_of old new number now phase phase' input these next steps in
      ⊎_elim
      (λ (each : OffersToEach number now phase input calls.supply_calls). absurd (never each.publish each.came))
      (λ (nothing : OffersNone phase input calls.supply_calls next). inr (all_stay calls.supply_calls old new nothing.offers calls.made, λ publish is. absurd (never publish is)))
      calls.offers

  at_packet : (packet : Packet) (old new : Worker) (number now : ℕ) (phase phase' : ConnPhase PlaceState) (these : List Packet) (next : Then)
      → StepsTo (Calls group seen) slot_of old number phase now (inputs.Packet packet) these next phase' new → PublishesAt group seen now (inputs.Packet packet) these (publisher_of old) (publisher_of new)
  at_packet (packets.Publish publish) old new number now phase phase' these next steps = of_publish old new number now phase phase' publish these next steps
  at_packet (packets.Puback puback) old new number now phase phase' these next steps = of_other _ old new number now phase phase' these next (λ publish is. cc is) steps
  at_packet (packets.Subscribe subscribe) old new number now phase phase' these next steps = of_other _ old new number now phase phase' these next (λ publish is. cc is) steps
  at_packet (packets.Unsubscribe unsubscribe) old new number now phase phase' these next steps = of_other _ old new number now phase phase' these next (λ publish is. cc is) steps
  at_packet packets.Pingreq old new number now phase phase' these next steps = of_other _ old new number now phase phase' these next (λ publish is. cc is) steps
  at_packet (packets.Disconnect disconnect) old new number now phase phase' these next steps = of_other _ old new number now phase phase' these next (λ publish is. cc is) steps
  at_packet (packets.Connect connect) old new number now phase phase' these next steps = of_other _ old new number now phase phase' these next (λ publish is. cc is) steps
  at_packet (packets.Connack connack) old new number now phase phase' these next steps = of_other _ old new number now phase phase' these next (λ publish is. cc is) steps
  at_packet (packets.Suback suback) old new number now phase phase' these next steps = of_other _ old new number now phase phase' these next (λ publish is. cc is) steps
  at_packet (packets.Unsuback unsuback) old new number now phase phase' these next steps = of_other _ old new number now phase phase' these next (λ publish is. cc is) steps
  at_packet packets.Pingresp old new number now phase phase' these next steps = of_other _ old new number now phase phase' these next (λ publish is. cc is) steps
  at_packet (packets.Foreign kind) old new number now phase phase' these next steps = of_other _ old new number now phase phase' these next (λ publish is. cc is) steps
  at_packet (packets.OtherVersion version) old new number now phase phase' these next steps = of_other _ old new number now phase phase' these next (λ publish is. cc is) steps
  at_packet packets.WithWill old new number now phase phase' these next steps = of_other _ old new number now phase phase' these next (λ publish is. cc is) steps

  at_input : (input : Input) (old new : Worker) (number now : ℕ) (phase phase' : ConnPhase PlaceState) (these : List Packet) (next : Then)
      → StepsTo (Calls group seen) slot_of old number phase now input these next phase' new → PublishesAt group seen now input these (publisher_of old) (publisher_of new)
  at_input (inputs.Packet packet) old new number now phase phase' these next steps = at_packet packet old new number now phase phase' these next steps
  at_input (inputs.Fault fault) old new number now phase phase' these next steps = of_other _ old new number now phase phase' these next (λ publish is. cc is) steps
  at_input inputs.Tick old new number now phase phase' these next steps = of_other _ old new number now phase phase' these next (λ publish is. cc is) steps
  at_input inputs.EndOfInput old new number now phase phase' these next steps = of_other _ old new number now phase phase' these next (λ publish is. cc is) steps
  at_input inputs.Closing old new number now phase phase' these next steps = of_other _ old new number now phase phase' these next (λ publish is. cc is) steps

  -- a message that is offered to the first of these groups
  pub record OffersFew (is_draining : Bool) (message : Message) (slots : List ℕ) (old new : List PortState) : Type 0 where
    pub these : List ℕ
    pub others : List ℕ
    pub parts : slots ≡ these ++ others
    pub puts : PutsSome group seen is_draining old message these new

  first_few : (slots : List ℕ) (number : ℕ) (message : Message) (old new : Worker) → OffersFirst (Calls group seen) old number message slots new → OffersFew old.draining message slots old.ports new.ports
  first_few [] number message old new offers = absurd offers
  first_few (slot ∷ slots) number message old new (inl last) =
      record { these = slot ∷ []; others = slots; parts = refl; puts = (Err refusal.Memory, new.ports, last.0, refl) }
  first_few (slot ∷ slots) number message old new (inr offers) =
      let as_it_was = ap (λ (w : Worker). w.draining) offers.3.1 in
      let rest = first_few slots number message offers.1 new offers.5 in
      let others = subst (λ is_draining. PutsSome group seen is_draining offers.1.ports message rest.these new.ports) as_it_was rest.puts in
      record { these = slot ∷ rest.these; others = rest.others; parts = ap (λ (l : List ℕ). slot ∷ l) rest.parts; puts = (offers.0, offers.1.ports, offers.3.0, others) }

  few : (slots : List ℕ) (number : ℕ) (message : Message) (old new : Worker) → OffersSome (Calls group seen) old number message slots new → OffersFew old.draining message slots old.ports new.ports
  few slots number message old new (inl none) = record { these = []; others = slots; parts = refl; puts = ap (λ (w : Worker). w.ports) none }
  few slots number message old new (inr offers) = first_few slots number message old new offers

  -- what was offered to all was offered to the first of them
  all_of_them : (is_draining : Bool) (slots : List ℕ) (message : Message) (taken : ℕ) (old new : List PortState) → PutsInto group seen is_draining old message slots taken new
      → PutsSome group seen is_draining old message slots new
  all_of_them is_draining [] message taken old new puts = puts.1
  all_of_them is_draining (slot ∷ slots) message taken old new puts = (puts.0, puts.1, puts.4, all_of_them is_draining slots message puts.3 puts.1 new puts.6)

  abbrev CutsOrStays : ℕ → Publish → PublisherState → PublisherState → Type 0
  CutsOrStays now publish old new = IsCutShort group seen now publish old new ⊎ (new.ports ≡ old.ports)

  -- a connection that is given up for want of memory
  left_off : (phase : ConnPhase PlaceState) (old new : Worker) (number now : ℕ) → LeavesOff (Calls group seen) slot_of old number phase now new → new.ports ≡ old.ports
  left_off (Unconnected opened) old new number now gives = ap (λ (w : Worker). w.ports) gives
  left_off (Waiting request ticks) old new number now gives = stays old.draining (Withdraw number) old.ports new.ports (called (Withdraw number) old new gives) refl
  left_off (Connected connected) old new number now gives = plain old new (parted (Calls group seen) old new connected.session now gives)
  left_off Ended old new number now gives = ap (λ (w : Worker). w.ports) gives

  -- an allocation failed for the answer to a PUBLISH
  unanswered : (phase : ConnPhase PlaceState) (publish : Publish) (old new : Worker) (number now : ℕ)
      → FailsToReact (Calls group seen) slot_of old number phase now (inputs.Packet (packets.Publish publish)) new → IsCutShort group seen now publish (publisher_of old) (publisher_of new)
  unanswered (Unconnected opened) publish old new number now fails = let never = fails.1 in absurd (cc never)
  unanswered (Waiting request ticks) publish old new number now fails = absurd fails
  unanswered (Connected connected) publish old new number now fails =
      let mid = fails.0 in
      let answer = fails.2 in
      let cut = answer.2.0.0 in
      let some = few cut.slots number (message_of now publish) cut.mid answer.1 cut.offered in
      let kept = plain answer.1 new (parted (Calls group seen) answer.1 new answer.0.session now answer.3) in
      let Puts : Worker → List PortState → Type 0 = λ from ports'. PutsSome group seen from.draining from.ports (message_of now publish) some.these ports' in
      let from_mid = subst (λ (from : Worker). Puts from answer.1.ports) cut.matched.1 some.puts in
      let at_mid : IsCutShort group seen now publish (publisher_of mid) (publisher_of new) =
      record { slots = some.these; others = some.others; matched = sym cut.matched.0 ∙ some.parts; puts = subst (Puts mid) (sym kept) from_mid } in
      subst (λ (from : PublisherState). IsCutShort group seen now publish from (publisher_of new)) (asked_of_desk number false old mid fails.1) at_mid
  unanswered Ended publish old new number now fails = absurd fails

  -- an allocation failed for what is handed out behind the reply
  handed_less : (between : ConnPhase PlaceState) (old new : Worker) (now : ℕ) → HandsLess (Calls group seen) slot_of old between now new → new.ports ≡ old.ports
  handed_less (Unconnected opened) old new now hands = absurd hands
  handed_less (Waiting request ticks) old new now hands = absurd hands
  handed_less (Connected connected) old new now hands =
      let some = handed_some (Calls group seen) (hand_out_terms connected now) old hands.2 connected.session.membership connected.session.window hands.0 hands.1 hands.3 in
      plain hands.2 new (parted (Calls group seen) hands.2 new (after_hand_out connected hands.0 hands.1).session now hands.4) ∙ plain old hands.2 some.1
  handed_less Ended old new now hands = absurd hands

  publish_failed : (publish : Publish) (old new : Worker) (number now : ℕ) (phase : ConnPhase PlaceState)
      → FailsToStep (Calls group seen) slot_of old number phase now (inputs.Packet (packets.Publish publish)) new → CutsOrStays now publish (publisher_of old) (publisher_of new)
  publish_failed publish old new number now phase (inl cuts) = inr (left_off phase old new number now cuts)
  publish_failed publish old new number now phase (inr fails) =
      ⊎_elim
      (λ (reply : FailsToReact (Calls group seen) slot_of old number phase now (inputs.Packet (packets.Publish publish)) new). inl (unanswered phase publish old new number now reply))
      (λ (hand : FailsToHand (Calls group seen) slot_of old number phase now (inputs.Packet (packets.Publish publish)) new).
      let kept = handed_less hand.between hand.mid new now hand.hands in
      ⊎_elim
      (λ (it : (identifier : ℕ) × (publish_answer publish ≡ answers.Offer identifier) × (taken : ℕ)
      × PutsInto group seen old.draining old.ports (message_of now publish) (slots_matched (publisher_of old) publish) taken hand.mid.ports
      × (hand.reply ≡ acknowledging identifier (puback_code (length (slots_matched (publisher_of old) publish)) taken))).
      inl (record {
        slots = slots_matched (publisher_of old) publish;
        others = [];
        matched = sym (append-nil (slots_matched (publisher_of old) publish));
        puts = subst (λ (ports : List PortState). PutsSome group seen old.draining old.ports (message_of now publish) (slots_matched (publisher_of old) publish) ports) (sym kept)
            (all_of_them old.draining (slots_matched (publisher_of old) publish) (message_of now publish) it.2 old.ports hand.mid.ports it.3);
      }))
      (λ (it : (hand.mid.ports ≡ old.ports) × IsNoPromise hand.reply.packet hand.between). inr (kept ∙ it.0))
      (reacted phase publish old hand.mid number now hand.between hand.reply hand.reacts))
      fails

  -- a step in which an allocation failed
  at_failed : (input : Input) (old new : Worker) (number now : ℕ) (phase : ConnPhase PlaceState) → FailsToStep (Calls group seen) slot_of old number phase now input new
      → PublishesSome group seen now input (publisher_of old) (publisher_of new)
  at_failed input old new number now phase fails =
      let calls = failed (Calls group seen) slot_of old new number now phase input fails in
      ⊎_elim
      (λ (some : OffersToSome number now phase input calls.supply_calls).
      ⊎_elim
      (λ (cut : IsCutShort group seen now some.publish (publisher_of old) (publisher_of new)). inl (some.publish, some.came, cut))
      (λ (same : new.ports ≡ old.ports). inr same)
      (publish_failed some.publish old new number now phase (subst (λ (it : Input). FailsToStep (Calls group seen) slot_of old number phase now it new) some.came fails)))
      (λ (nothing : offered calls.supply_calls ≡ []). inr (all_stay calls.supply_calls old new nothing calls.made))
      calls.offers

  -- a connection that is given up
  given_up : (old new : Worker) (client client' : ClientState PlaceState) (now : ℕ) → IsGivenUp (Calls group seen) slot_of old client now inputs.EndOfInput client' new → new.ports ≡ old.ports
  given_up old new client client' now (inl moved) =
      ⊎_elim
      (λ (it : (publish : Publish) × (inputs.EndOfInput ≡ inputs.Packet (packets.Publish publish)) × IsPublished group seen (moment_of client now) publish moved.0.packets (publisher_of old) (publisher_of new)). let never = it.1 in absurd (cc never))
      (λ (it : (new.ports ≡ old.ports) × ((publish : Publish) → inputs.EndOfInput ≡ inputs.Packet (packets.Publish publish) → ¬ IsPromised moved.0.packets)). it.0)
      (at_input inputs.EndOfInput old new client.conn.number (moment_of client now) client.conn.phase client'.conn.phase moved.0.packets moved.0.next moved.1.stepped)
  given_up old new client client' now (inr fails) =
      ⊎_elim
      (λ (it : (publish : Publish) × (inputs.EndOfInput ≡ inputs.Packet (packets.Publish publish)) × IsCutShort group seen (moment_of client now) publish (publisher_of old) (publisher_of new)).
      let never = it.1 in absurd (cc never))
      (λ (same : new.ports ≡ old.ports). same)
      (at_failed inputs.EndOfInput old new client.conn.number (moment_of client now) client.conn.phase fails.failed)

  -- sessions that are retired in a visit of their own
  retired : (old new : Worker) (now : ℕ) → RetiresDue group seen old now new → new.ports ≡ old.ports
  retired old new now retires =
      let its = (retiring_calls group seen old new now retires).1 in
      ap (λ (w : Worker). w.ports) its.leaves.becomes ∙ all_stay (retiring_calls group seen old new now retires).0 its.begun its.mid its.offers its.made ∙ its.begins.ports

  -- what others do is in no round
  pub no_others : (now : ℕ) (from to : Stand) → Treads now from Others to → ⊥
  no_others now Outside to treads = treads
  no_others now (Inside is_open) to treads = treads
  no_others now Behind to treads = treads
  no_others now Parting to treads = treads
  no_others now Parted to treads = treads

  module _ {T : Type 0} (counts : T → Counts) (given accepted : T → Option (List ℕ)) where
    acted : (act : Act) (old new : ServiceState PlaceState T) (supply supply' : Worker) (now : ℕ) (from to : Stand)
        → Does (Calls group seen) Begins Leaves is_visiting slot_of counts given accepted act old supply new supply' → Treads now from act to → Publishes group seen old.client.conn.latest act (publisher_of supply) (publisher_of supply')
    acted (Enters is_open reads) old new supply supply' now from to does treads = does.begun.ports
    acted Left old new supply supply' now from to does treads = ap (λ (w : Worker). w.ports) does.ended.becomes
    acted (Asks is_kicked) old new supply supply' now from to does treads =
        stays supply.draining (Kicked old.client.conn.number is_kicked) supply.ports supply'.ports (called (Kicked old.client.conn.number is_kicked) supply supply' does.asked) refl
    acted (Reads size got bytes) old new supply supply' now from to does treads = ap (λ (w : Worker). w.ports) does.same
    acted (Writes at put) old new supply supply' now from to does treads = ap (λ (w : Worker). w.ports) does.same
    acted (Steps at input these next) old new supply supply' now from to does treads =
        at_input input supply supply' old.client.conn.number (moment_of old.client at) old.client.conn.phase new.client.conn.phase these next does.moved.stepped
    acted (Loses at input these next) old new supply supply' now from to does treads =
        at_input input supply supply' old.client.conn.number (moment_of old.client at) old.client.conn.phase new.client.conn.phase these next does.moved.stepped
    acted (Fails at input) old new supply supply' now from to does treads =
        at_failed input supply supply' old.client.conn.number (moment_of old.client at) old.client.conn.phase does.failed.failed
    acted (Starves got bytes) old new supply supply' now from to does treads = ap (λ (w : Worker). w.ports) does.same
    acted (IsFull at) old new supply supply' now from to does treads = given_up supply supply' old.client new.client at does.given_up
    acted IsStopped old new supply supply' now from to does treads = ap (λ (w : Worker). w.ports) does.same
    acted (Stalls at) old new supply supply' now from to does treads = ap (λ (w : Worker). w.ports) does.same
    acted (GivesUp at) old new supply supply' now from to does treads = given_up supply supply' old.client new.client at does.given_up
    acted Ends old new supply supply' now from to does treads = ap (λ (w : Worker). w.ports) does.same
    acted Others old new supply supply' now from to does treads = absurd (no_others now from to treads)

    walked : (acts : List Act) (old new : ServiceState PlaceState T) (supply supply' : Worker) (now : ℕ) (from to : Stand)
        → DoesAll (Calls group seen) Begins Leaves is_visiting slot_of counts given accepted acts old supply new supply' → Walks now from acts to
        → EachAct group seen counts given accepted (PublishesIn group seen) acts old supply new supply'
    walked [] old new supply supply' now from to does walks = does
    walked (act ∷ acts) old new supply supply' now from to does walks = (
      does.0,
      does.1,
      does.2,
      acted act old does.0 supply does.1 now from walks.0 does.2 walks.1,
      walked acts does.0 new does.1 supply' now walks.0 to does.3 walks.2,
    )

    done : (deed : Deed T) (old new : RunState T) → Makes group seen counts given accepted deed old new → EachActOf group seen counts given accepted (PublishesIn group seen) deed old new
    done (Opened arrived cell now) old new does = tt
    done (Closed arrived number) old new does = tt
    done (Allowed most) old new does = tt
    done (MadeRound cell now acts how) old new does =
        let made = does.0 in
        let goes = made.becomes in
        record {
          before = made.before;
          after = made.after;
          has = made.has;
          becomes = (
            goes.service,
            goes.behind,
            goes.here,
            subst (λ (those : List Act). EachAct group seen counts given accepted (PublishesIn group seen) those goes.service old.supply goes.behind new.supply) (sym goes.acts_are)
                (walked goes.round.led.acts goes.service goes.behind old.supply new.supply now Outside Behind goes.round.led.does goes.round.led.walks),
            goes.leaves,
          );
          is = made.is;
        }
    done (Passed cell) old new does = tt
    done (RetiredDue now) old new does = tt
    done (Called slot) old new does = tt
    done (Notified most others) old new does = tt
    done NotifiedAll old new does = tt
    done (Waited at_most now drains) old new does = tt

    -- all that came into the ports was published by the acts of the run
    pub all_published : (run : Run T) → IsPublishedBy group seen counts given accepted run
    all_published run = record {
      published = (λ these those deed old new split made does. done deed old new does);
      retiring = (λ these those now old new split made does. retired old.supply new.supply now does.0);
    }
