-- What was written is a beginning of what was said.
use Rattle.std.proofs.Common.{◌≡◌, ℕ, Bool, List, [], ◌∷◌, ◌++◌, Option, Some, None, refl, sym, ap, ◌∙◌, append-nil, append_assoc, ⊎_elim, ◌⊎◌, inl, inr}
use Rattle.std.proofs.lemmas.Grind.{flat_map-append}
use Rattle.std.specs.Io.KnownBytes.{append_known}
use Rattle.mqtt_packet.specs.declared.packet.Packet.{Packet}
use Rattle.mqtt_wire.specs.Writing.{written}
use Rattle.transport.specs.declared.counts.Counts.{Counts}
use Rattle.transport.specs.declared.answers.Got.{Got}
use Rattle.transport.specs.declared.answers.Got.TheVariants as got
use Rattle.transport.specs.declared.answers.Put.{Put}
use Rattle.transport.specs.declared.answers.Put.TheVariants as put
use Rattle.conn_supply.specs.SupplyCalls.{SupplyCall}
use Rattle.conn_service.specs.declared.served.Served.TheVariants as served
use Rattle.conn_service.specs.Services.{ServiceState, bytes_of}
use Rattle.conn_service.specs.Acts.{Act, Enters, Leaves, Asks, Reads, Writes, Steps, Loses, Fails, Starves, IsFull, IsStopped, Stalls, GivesUp, Ends, Others, packets_sent_in, packets_sent}
use Rattle.conn_service.specs.Moments.{ending_read, ending_write}
use Rattle.conn_service.specs.Lives.{Does}
use Rattle.conn_service.specs.Transcripts.{WritesItsPackets}
use Rattle.conn_service.proofs.Folding.{one_more}

-- known bytes with some after them, and then others
append_twice : (known : Option (List ℕ)) (a b : List ℕ) → append_known (append_known known a) b ≡ append_known known (a ++ b)
append_twice None a b = refl
append_twice (Some xs) a b = ap Some (append_assoc xs a b)

module _ {P T : Type 0} (accepted : T → Option (List ℕ)) (first : T) where
  -- an act that says nothing, and leaves what was taken
  silent : (done : List Act) (act : Act) (old new : ServiceState P T) → packets_sent_in act ≡ [] → accepted new.transport ≡ accepted old.transport
      → (new.ending ≡ None → (old.ending ≡ None) × (new.outgoing ≡ old.outgoing)) → (new.ending ≡ Some served.Ended → (old.ending ≡ Some served.Ended) ⊎ ((old.ending ≡ None) × (old.outgoing ≡ [])))
      → WritesItsPackets accepted first done old → WritesItsPackets accepted first (done ++ act ∷ []) new
  silent done act old new none same goes ended kept =
      record {
        rest = kept.rest;
        begun =
            ap (λ (k : Option (List ℕ)). append_known k kept.rest) same ∙ kept.begun
            ∙ ap (λ (l : List Packet). append_known (accepted first) (bytes_of l)) (sym (append-nil (packets_sent done)) ∙ ap (λ (l : List Packet). packets_sent done ++ l) (sym none) ∙ sym (one_more packets_sent_in done act));
        waits = λ going. let it = goes going in kept.waits it.0 ∙ sym it.1;
        all = λ is. ⊎_elim (λ (e : old.ending ≡ Some served.Ended). kept.all e) (λ (e : (old.ending ≡ None) × (old.outgoing ≡ [])). kept.waits e.0 ∙ e.1) (ended is);
      }

  -- a step says something; it waits to be written, or is lost
  speaks : (done : List Act) (act : Act) (packets : List Packet) (old new : ServiceState P T) → packets_sent_in act ≡ packets → accepted new.transport ≡ accepted old.transport → old.ending ≡ None
      → (new.ending ≡ None → new.outgoing ≡ old.outgoing ++ bytes_of packets) → (new.ending ≡ Some served.Ended → ⊥)
      → WritesItsPackets accepted first done old → WritesItsPackets accepted first (done ++ act ∷ []) new
  speaks done act packets old new said same going goes never kept =
      record {
        rest = kept.rest ++ bytes_of packets;
        begun =
            ap (λ (k : Option (List ℕ)). append_known k (kept.rest ++ bytes_of packets)) same
            ∙ sym (append_twice (accepted old.transport) kept.rest (bytes_of packets))
            ∙ ap (λ (k : Option (List ℕ)). append_known k (bytes_of packets)) kept.begun
            ∙ append_twice (accepted first) (bytes_of (packets_sent done)) (bytes_of packets)
            ∙ ap (append_known (accepted first))
            (sym (flat_map-append written (packets_sent done) packets) ∙ ap (λ (l : List Packet). bytes_of (packets_sent done ++ l)) (sym said) ∙ ap bytes_of (sym (one_more packets_sent_in done act)));
        waits = λ still. ap (λ (l : List ℕ). l ++ bytes_of packets) (kept.waits going) ∙ sym (goes still);
        all = λ is. absurd (never is);
      }

  -- a write takes some of what waits
  takes : (done : List Act) (act : Act) (old new : ServiceState P T) (taken : List ℕ) → packets_sent_in act ≡ [] → old.ending ≡ None → old.outgoing ≡ taken ++ new.outgoing
      → accepted new.transport ≡ append_known (accepted old.transport) taken → (new.ending ≡ Some served.Ended → ⊥)
      → WritesItsPackets accepted first done old → WritesItsPackets accepted first (done ++ act ∷ []) new
  takes done act old new taken none going front taken_is never kept =
      record {
        rest = new.outgoing;
        begun =
            ap (λ (k : Option (List ℕ)). append_known k new.outgoing) taken_is ∙ append_twice (accepted old.transport) taken new.outgoing
            ∙ ap (append_known (accepted old.transport)) (sym front ∙ sym (kept.waits going)) ∙ kept.begun
            ∙ ap (λ (l : List Packet). append_known (accepted first) (bytes_of l)) (sym (append-nil (packets_sent done)) ∙ ap (λ (l : List Packet). packets_sent done ++ l) (sym none) ∙ sym (one_more packets_sent_in done act));
        waits = λ still. refl;
        all = λ is. absurd (never is);
      }

module _ {S P T : Type 0} (call : S → SupplyCall P → S → Type 0) (begins ends : S → S → Type 0) (visiting : S → Bool) (slot_of : P → ℕ)
    (counts : T → Counts) (given accepted : T → Option (List ℕ)) (first : T) where
  -- a read does not end it with 0
  read_never : (got : Got) → ending_read got ≡ Some served.Ended → ⊥
  read_never (got.Bytes count) is = cc
  read_never got.Idle is = cc
  read_never got.End is = cc
  read_never got.Failed is = cc

  write_never : (put : Put) → ending_write put ≡ Some served.Ended → ⊥
  write_never (put.Wrote count) is = cc
  write_never put.Idle is = cc
  write_never put.Failed is = cc

  pub written_on : (done : List Act) (act : Act) (old new : ServiceState P T) (supply supply' : S) → WritesItsPackets accepted first done old
      → Does call begins ends visiting slot_of counts given accepted act old supply new supply' → WritesItsPackets accepted first (done ++ act ∷ []) new
  written_on done (Enters is_open reads) old new supply supply' kept does =
      silent accepted first done (Enters is_open reads) old new refl (ap (λ (s : ServiceState P T). accepted s.transport) does.becomes)
      (λ going. (sym (ap (λ (s : ServiceState P T). s.ending) does.becomes) ∙ going, ap (λ (s : ServiceState P T). s.outgoing) does.becomes))
      (λ is. inl (sym (ap (λ (s : ServiceState P T). s.ending) does.becomes) ∙ is)) kept
  written_on done Leaves old new supply supply' kept does =
      silent accepted first done Leaves old new refl (ap (λ (s : ServiceState P T). accepted s.transport) does.same)
      (λ going. (sym (ap (λ (s : ServiceState P T). s.ending) does.same) ∙ going, ap (λ (s : ServiceState P T). s.outgoing) does.same))
      (λ is. inl (sym (ap (λ (s : ServiceState P T). s.ending) does.same) ∙ is)) kept
  written_on done (Asks is_kicked) old new supply supply' kept does =
      silent accepted first done (Asks is_kicked) old new refl (ap (λ (s : ServiceState P T). accepted s.transport) does.same)
      (λ going. (sym (ap (λ (s : ServiceState P T). s.ending) does.same) ∙ going, ap (λ (s : ServiceState P T). s.outgoing) does.same))
      (λ is. inl (sym (ap (λ (s : ServiceState P T). s.ending) does.same) ∙ is)) kept
  written_on done Others old new supply supply' kept does =
      silent accepted first done Others old new refl (ap (λ (s : ServiceState P T). accepted s.transport) does)
      (λ going. (sym (ap (λ (s : ServiceState P T). s.ending) does) ∙ going, ap (λ (s : ServiceState P T). s.outgoing) does))
      (λ is. inl (sym (ap (λ (s : ServiceState P T). s.ending) does) ∙ is)) kept
  written_on done (Reads size got bytes) old new supply supply' kept does =
      silent accepted first done (Reads size got bytes) old new refl does.does.gives.accepted_is
      (λ going. (does.does.may.going, ap (λ (s : ServiceState P T). s.outgoing) does.does.becomes))
      (λ is. absurd (read_never got (sym (ap (λ (s : ServiceState P T). s.ending) does.does.becomes) ∙ is))) kept
  written_on done (Starves got bytes) old new supply supply' kept does =
      silent accepted first done (Starves got bytes) old new refl does.does.gives.accepted_is
      (λ going. absurd (let e = ap (λ (s : ServiceState P T). s.ending) does.does.becomes in cc))
      (λ is. absurd (let e = ap (λ (s : ServiceState P T). s.ending) does.does.becomes in cc)) kept
  written_on done (Writes now put) old new supply supply' kept does =
      takes accepted first done (Writes now put) old new does.does.taken refl does.does.going does.does.front does.does.accepted_is
      (λ is. write_never put (sym (ap (λ (s : ServiceState P T). s.ending) does.does.becomes) ∙ is)) kept
  written_on done (Steps now input packets next) old new supply supply' kept does =
      speaks accepted first done (Steps now input packets next) packets old new refl (ap (λ (s : ServiceState P T). accepted s.transport) does.becomes) does.due.going
      (λ going. ap (λ (s : ServiceState P T). s.outgoing) does.becomes)
      (λ is. let e = ap (λ (s : ServiceState P T). s.ending) does.becomes in let n = does.due.going in cc) kept
  written_on done (Loses now input packets next) old new supply supply' kept does =
      speaks accepted first done (Loses now input packets next) packets old new refl (ap (λ (s : ServiceState P T). accepted s.transport) does.becomes) does.due.going
      (λ going. absurd (let e = ap (λ (s : ServiceState P T). s.ending) does.becomes in cc))
      (λ is. let e = ap (λ (s : ServiceState P T). s.ending) does.becomes in cc) kept
  written_on done (Fails now input) old new supply supply' kept does =
      silent accepted first done (Fails now input) old new refl (ap (λ (s : ServiceState P T). accepted s.transport) does.becomes)
      (λ going. absurd (let e = ap (λ (s : ServiceState P T). s.ending) does.becomes in cc))
      (λ is. absurd (let e = ap (λ (s : ServiceState P T). s.ending) does.becomes in cc)) kept
  written_on done (IsFull now) old new supply supply' kept does =
      silent accepted first done (IsFull now) old new refl (ap (λ (s : ServiceState P T). accepted s.transport) does.becomes)
      (λ going. absurd (let e = ap (λ (s : ServiceState P T). s.ending) does.becomes in cc))
      (λ is. absurd (let e = ap (λ (s : ServiceState P T). s.ending) does.becomes in cc)) kept
  written_on done (GivesUp now) old new supply supply' kept does =
      silent accepted first done (GivesUp now) old new refl (ap (λ (s : ServiceState P T). accepted s.transport) does.becomes)
      (λ going. absurd (does.ended (sym (ap (λ (s : ServiceState P T). s.ending) does.becomes) ∙ going)))
      (λ is. inl (sym (ap (λ (s : ServiceState P T). s.ending) does.becomes) ∙ is)) kept
  written_on done IsStopped old new supply supply' kept does =
      silent accepted first done IsStopped old new refl (ap (λ (s : ServiceState P T). accepted s.transport) does.does.becomes)
      (λ going. absurd (let e = ap (λ (s : ServiceState P T). s.ending) does.does.becomes in cc))
      (λ is. absurd (let e = ap (λ (s : ServiceState P T). s.ending) does.does.becomes in cc)) kept
  written_on done (Stalls now) old new supply supply' kept does =
      silent accepted first done (Stalls now) old new refl (ap (λ (s : ServiceState P T). accepted s.transport) does.does.becomes)
      (λ going. absurd (let e = ap (λ (s : ServiceState P T). s.ending) does.does.becomes in cc))
      (λ is. absurd (let e = ap (λ (s : ServiceState P T). s.ending) does.does.becomes in cc)) kept
  written_on done Ends old new supply supply' kept does =
      silent accepted first done Ends old new refl (ap (λ (s : ServiceState P T). accepted s.transport) does.does.becomes)
      (λ going. absurd (let e = ap (λ (s : ServiceState P T). s.ending) does.does.becomes in cc))
      (λ is. inr (does.does.going, does.does.nothing_waits)) kept

  pub unwritten : (service : ServiceState P T) → service.transport ≡ first → service.outgoing ≡ [] → service.ending ≡ None → WritesItsPackets accepted first [] service
  unwritten service is nothing going =
      record {
        rest = [];
        begun = ap (λ (t : T). append_known (accepted t) []) is;
        waits = λ still. sym nothing;
        all = λ ended. refl;
      }
