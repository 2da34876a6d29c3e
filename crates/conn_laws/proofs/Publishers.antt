-- What a step offers is offered from its connection.
use Rattle.std.proofs.Common.{◌≡◌, ℕ, List, [], ◌∷◌, ◌++◌, map, refl, sym, subst, ⊎_elim}
use Rattle.std.specs.List.{AllByRecursion}
use Rattle.std.proofs.lemmas.List.Elements.{filter_map-append}
use Rattle.mqtt_packet.specs.declared.packet.Packet.{Packet}
use Rattle.group_jobs.specs.declared.message.Message.{Message}
use Rattle.conn_rules.specs.Publishing.{message_of}
use Rattle.conn_supply.specs.declared.reply.Then.{Then}
use Rattle.conn_supply.specs.SupplyCalls.{SupplyCall}
use Rattle.conn_engine.specs.declared.input.Input.{Input}
use Rattle.conn_engine.specs.declared.phase.ConnPhase.{ConnPhase}
use Rattle.conn_engine.specs.Step.{Steps, FailsToStep}
use Rattle.conn_laws.specs.Calls.{offer_of, offered, OffersToEach, OffersNone, OffersToSome}
use Rattle.conn_laws.specs.Publishers.{CallsFrom}
use Rattle.conn_laws.proofs.Calling.{joins}
use Rattle.conn_laws.proofs.Stepping.{stepped as calls_of_step}
use Rattle.conn_laws.proofs.Failing.{failed as calls_of_failed}

-- offers from the connection of this number
abbrev AllFrom : ℕ → List (ℕ × ℕ × Message) → Type 0
AllFrom number offers = AllByRecursion (λ (offer : ℕ × ℕ × Message). offer.1 ≡ number) offers

to_each : (number : ℕ) (message : Message) (slots : List ℕ) → AllFrom number (map (λ slot. (slot, number, message)) slots)
to_each number message [] = tt
to_each number message (slot ∷ slots) = (refl, to_each number message slots)

both : (number : ℕ) (offers others : List (ℕ × ℕ × Message)) → AllFrom number offers → AllFrom number others → AllFrom number (offers ++ others)
both number [] others these those = those
both number (offer ∷ offers) others these those = (these.0, both number offers others these.1 those)

module _ {S P : Type 0} (call : S → SupplyCall P → S → Type 0) where
  pub none : (number : ℕ) (old new : S) → new ≡ old → CallsFrom call number old new
  none number old new same = record { supply_calls = []; made = same; from = tt }

  pub behind : (number : ℕ) (old mid new : S) → CallsFrom call number old mid → CallsFrom call number mid new → CallsFrom call number old new
  behind number old mid new these those =
      record {
        supply_calls = these.supply_calls ++ those.supply_calls;
        made = joins call these.supply_calls those.supply_calls old mid new these.made those.made;
        from = subst (AllFrom number) (sym (filter_map-append offer_of these.supply_calls those.supply_calls)) (both number (offered these.supply_calls) (offered those.supply_calls) these.from those.from);
      }

  module _ (slot_of : P → ℕ) where
    pub stepped : (old new : S) (number now : ℕ) (phase phase' : ConnPhase P) (input : Input) (packets : List Packet) (next : Then)
        → Steps call slot_of old number phase now input packets next phase' new → CallsFrom call number old new
    stepped old new number now phase phase' input packets next steps =
        let calls = calls_of_step call slot_of old new number now phase phase' input packets next steps in
        record {
          supply_calls = calls.supply_calls;
          made = calls.made;
          from =
              ⊎_elim
              (λ (each : OffersToEach number now phase input calls.supply_calls). subst (AllFrom number) (sym each.offers) (to_each number (message_of now each.publish) each.slots))
              (λ (nothing : OffersNone phase input calls.supply_calls next). subst (AllFrom number) (sym nothing.offers) tt)
              calls.offers;
        }

    pub failed : (old new : S) (number now : ℕ) (phase : ConnPhase P) (input : Input) → FailsToStep call slot_of old number phase now input new → CallsFrom call number old new
    failed old new number now phase input fails =
        let calls = calls_of_failed call slot_of old new number now phase input fails in
        record {
          supply_calls = calls.supply_calls;
          made = calls.made;
          from =
              ⊎_elim
              (λ (some : OffersToSome number now phase input calls.supply_calls). subst (AllFrom number) (sym some.offers) (to_each number (message_of now some.publish) some.slots))
              (λ (nothing : offered calls.supply_calls ≡ []). subst (AllFrom number) (sym nothing) tt)
              calls.offers;
        }
