-- What was given back is handed out first, among the calls of a step that wants memory.
use Rattle.std.proofs.Common.{ℕ, false, List, [], ◌∷◌, Some, inl, inr, ⊎_elim}
use Rattle.mqtt_packet.specs.declared.packet.Packet.{Packet}
use Rattle.mqtt_packet.specs.declared.packet.Packet.TheVariants as packets
use Rattle.mqtt_packet.specs.declared.packet.Publish.{Publish}
use Rattle.group_jobs.specs.declared.message.Message.{Message}
use Rattle.group_jobs.specs.Stamps.{Held, under}
use Rattle.member_window.specs.Contents.{Contents, after_put}
use Rattle.session_desk.specs.declared.session.Membership.{Membership}
use Rattle.conn_rules.specs.Publishing.{message_of}
use Rattle.conn_rules.specs.declared.hand_outs.HandOutTerms.{HandOutTerms}
use Rattle.conn_supply.specs.SupplyCalls.{SupplyCall}
use Rattle.conn_supply.specs.SupplyCalls.SupplyCall.{Match, Offer, Withdraw, Kicked}
use Rattle.conn_supply.specs.HandOuts.{IsRefused, TakesSome, HandsSome}
use Rattle.conn_supply.specs.Publishing.{OffersFirst, OffersSome, IsCutShort}
use Rattle.conn_engine.specs.declared.input.Input.{Input}
use Rattle.conn_engine.specs.declared.input.Input.TheVariants as inputs
use Rattle.conn_engine.specs.declared.phase.ConnectedClient.{ConnectedClient}
use Rattle.conn_engine.specs.declared.phase.ConnPhase.{ConnPhase}
use Rattle.conn_engine.specs.declared.phase.ConnPhase.TheVariants.{Unconnected, Waiting, Connected, Ended}
use Rattle.conn_engine.specs.Answering.{FailsToAnswer}
use Rattle.conn_engine.specs.Step.{hearing, after_hand_out, hand_out_terms, GivesUp, ShutsDown, CutsOff, FailsToReact, HandsLess, FailsToHand, FailsToStep}
use Rattle.conn_laws.specs.ReturnedFirst.{CallsReturnedFirst}
use Rattle.conn_laws.proofs.Calling.{parted, swept, failed_to_attach, failed_again, some_answered}
use Rattle.conn_laws.proofs.ReturnedFirst.{none, one, behind, plain, discarded_all, allowed_and_asked, reacts}

module _ {S P : Type 0} (call : S → SupplyCall P → S → Type 0) where
  -- a message is offered to some groups
  offered_first : (slots : List ℕ) (old new : S) (number : ℕ) (message : Message) → OffersFirst call old number message slots new → CallsReturnedFirst call old new
  offered_first [] old new number message offers = absurd offers
  offered_first (slot ∷ slots) old new number message (inl last) = one call old new _ last tt
  offered_first (slot ∷ slots) old new number message (inr offers) =
      behind call old offers.1 new (one call old offers.1 (Offer slot number message offers.0) offers.3 tt) (offered_first slots offers.1 new number message offers.5)

  offered_some : (slots : List ℕ) (old new : S) (number : ℕ) (message : Message) → OffersSome call old number message slots new → CallsReturnedFirst call old new
  offered_some slots old new number message (inl nobody) = none call old new nobody
  offered_some slots old new number message (inr offers) = offered_first slots old new number message offers

  cut_short : (old new : S) (number now : ℕ) (publish : Publish) → IsCutShort call old number now publish new → CallsReturnedFirst call old new
  cut_short old new number now publish cut =
      behind call old cut.mid new (one call old cut.mid (Match publish.topic cut.slots) cut.matched tt) (offered_some cut.slots cut.mid new number (message_of now publish) cut.offered)

  -- some messages are handed out, and then an allocation fails
  refused : (old new : S) (place place' : P) → IsRefused call old place place' new → CallsReturnedFirst call old new
  refused old new place place' (inl at_once) = one call old new _ at_once.1 tt
  refused old new place place' (inr later) = behind call old later.2 new (one call old later.2 _ later.3 tt) (one call later.2 new _ later.4 tt)

  taken : (terms : HandOutTerms) (envelopes : List Held) (old new : S) (place place' : P) (window window' : Contents Held) → TakesSome call terms old place window envelopes place' window' new
      → CallsReturnedFirst call old new
  taken terms [] old new place place' window window' (same, inl nothing) = none call old new nothing.1
  taken terms [] old new place place' window window' (same, inr stop) =
      let cut = stop.1 in
      behind call old cut.mid new (discarded_all call terms cut.discarded old cut.mid place cut.between cut.passed)
      (behind call cut.mid cut.mid new (one call cut.mid cut.mid _ cut.allowed tt) (refused cut.mid new cut.between place' cut.refused))
  taken terms (envelope ∷ envelopes) old new place place' window window' takes =
      let first = takes.3 in
      behind call old takes.2 new
      (behind call old first.mid takes.2 (discarded_all call terms first.discarded old first.mid place first.between first.passed)
      (allowed_and_asked call (Some envelope) first.mid takes.2 first.between takes.1 first.allowed first.asked))
      (taken terms envelopes takes.2 new takes.1 place' (after_put window takes.0 (under terms.subscription envelope)) window' takes.6)

  handed_some : (terms : HandOutTerms) (old new : S) (membership : Membership P) (window : Contents Held) (membership' : Membership P) (window' : Contents Held)
      → HandsSome call terms old membership window membership' window' new → CallsReturnedFirst call old new
  handed_some terms old new membership window membership' window' (inl nothing) = none call old new nothing.3
  handed_some terms old new membership window membership' window' (inr some) = taken terms some.3 old new some.0 some.1 some.2 window' some.7

  module _ (slot_of : P → ℕ) where
    given_up : (phase : ConnPhase P) (old new : S) (number now : ℕ) → GivesUp call slot_of old number phase now new → CallsReturnedFirst call old new
    given_up (Unconnected opened) old new number now gives = none call old new gives
    given_up (Waiting request ticks) old new number now gives = one call old new (Withdraw number) gives tt
    given_up (Connected connected) old new number now gives = plain call old new (parted call old new connected.session now gives)
    given_up Ended old new number now gives = none call old new gives

    shut_down : (phase : ConnPhase P) (old new : S) (number : ℕ) → ShutsDown call slot_of old number phase new → CallsReturnedFirst call old new
    shut_down (Unconnected opened) old new number shuts = none call old new shuts
    shut_down (Waiting request ticks) old new number shuts = one call old new (Withdraw number) shuts tt
    shut_down (Connected connected) old new number shuts = one call old new _ shuts tt
    shut_down Ended old new number shuts = none call old new shuts

    cut_off : (input : Input) (phase : ConnPhase P) (old new : S) (number now : ℕ) → CutsOff call slot_of old number phase now input new → CallsReturnedFirst call old new
    cut_off (inputs.Packet packet) phase old new number now cuts = given_up phase old new number now cuts
    cut_off (inputs.Fault fault) phase old new number now cuts = given_up phase old new number now cuts
    cut_off inputs.Tick phase old new number now cuts = given_up phase old new number now cuts
    cut_off inputs.EndOfInput phase old new number now cuts = given_up phase old new number now cuts
    cut_off inputs.Closing phase old new number now cuts = shut_down phase old new number cuts

    failed_to_answer : (packet : Packet) (old new : S) (number now : ℕ) (connected connected' : ConnectedClient P) → FailsToAnswer call slot_of old number (hearing connected now) now packet connected' new
        → CallsReturnedFirst call old new
    failed_to_answer (packets.Publish publish) old new number now connected connected' fails = cut_short old new number now publish fails.0.0
    failed_to_answer (packets.Subscribe subscribe) old new number now connected connected' fails =
        plain call old new
        (some_answered call slot_of connected.rights old new subscribe.subscriptions connected.session.membership fails.0 fails.1)
    failed_to_answer (packets.Unsubscribe unsubscribe) old new number now connected connected' fails = none call old new fails.1
    failed_to_answer other old new number now connected connected' fails = absurd fails

    failed_to_react : (phase : ConnPhase P) (input : Input) (old new : S) (number now : ℕ) → FailsToReact call slot_of old number phase now input new
        → CallsReturnedFirst call old new
    failed_to_react (Unconnected opened) (inputs.Packet packet) old new number now fails = plain call old new (failed_to_attach call old new number now _ fails.2)
    failed_to_react (Waiting request ticks) inputs.Tick old new number now fails =
        behind call old fails.0 new (plain call old fails.0 (swept call 256 old fails.0 now fails.1))
        (plain call fails.0 new (failed_again call fails.0 new number now request fails.2))
    failed_to_react (Connected connected) (inputs.Packet packet) old new number now fails =
        let answer = fails.2 in
        behind call old fails.0 new (one call old fails.0 (Kicked number false) fails.1 tt) (
        behind call fails.0 answer.1 new (failed_to_answer packet fails.0 answer.1 number now connected answer.0 answer.2)
        (plain call answer.1 new (parted call answer.1 new answer.0.session now answer.3)))
    failed_to_react other input old new number now fails = absurd fails

    handed_less : (between : ConnPhase P) (old new : S) (now : ℕ) → HandsLess call slot_of old between now new → CallsReturnedFirst call old new
    handed_less (Connected connected) old new now hands =
        behind call old hands.2 new (handed_some (hand_out_terms connected now) old hands.2 connected.session.membership connected.session.window hands.0 hands.1 hands.3)
        (plain call hands.2 new (parted call hands.2 new (after_hand_out connected hands.0 hands.1).session now hands.4))
    handed_less other old new now hands = absurd hands

    pub failed : (old new : S) (number now : ℕ) (phase : ConnPhase P) (input : Input) → FailsToStep call slot_of old number phase now input new
        → CallsReturnedFirst call old new
    failed old new number now phase input (inl cuts) = cut_off input phase old new number now cuts
    failed old new number now phase input (inr fails) =
        ⊎_elim
        (λ (reply : FailsToReact call slot_of old number phase now input new). failed_to_react phase input old new number now reply)
        (λ (hand : FailsToHand call slot_of old number phase now input new).
        behind call old hand.mid new (reacts call slot_of phase input old hand.mid number now hand.between hand.reply hand.reacts)
        (handed_less hand.between hand.mid new now hand.hands))
        fails
