-- One packet more is read.
use Rattle.std.proofs.Common.{◌≡◌, ℕ, List, [], ◌∷◌, ◌++◌, refl, ap, ◌∙◌, sym, append_assoc, append-nil, inl, inr}
use Rattle.mqtt_packet.specs.declared.packet.Packet.{Packet}
use Rattle.mqtt_fields.specs.declared.fault.StreamFault.{StreamFault}
use Rattle.mqtt_wire.specs.Stream.{Takes, Stops}
use Rattle.conn_supply.specs.declared.reply.Then.{Then}
use Rattle.conn_supply.specs.declared.reply.Then.TheVariants.{Go, Close, Kicked}
use Rattle.conn_supply.specs.SupplyCalls.{SupplyCall}
use Rattle.conn_engine.specs.declared.input.Input.TheVariants as inputs
use Rattle.client_table.specs.Clients.{ClientState, StepOutput, ClientSteps}
use Rattle.client_table.specs.Streams.{reading_behind, ReadsAs, ReadsOne, ReadsLast, Reads, FailsToReadOne, FailsToRead, IsRead}

-- what is said after what was said
pub joined : (before after after' rest : List StepOutput) (output : StepOutput) → after ≡ before ++ output ∷ [] → after' ≡ after ++ rest → after' ≡ before ++ output ∷ rest
joined before after after' rest output one more = more ∙ ap (λ xs. xs ++ rest) one ∙ append_assoc before (output ∷ []) rest

-- nothing is said after what was said
none : (before after : List StepOutput) → after ≡ before → after ≡ before ++ []
none before after same = same ∙ sym (append-nil before)

module _ {S P : Type 0} (call : S → SupplyCall P → S → Type 0) (slot_of : P → ℕ) where
  pub packet_read : (old new : S) (client client' : ClientState P) (now : ℕ) (next : Then) (output : StepOutput) (before after : List StepOutput) (packet : Packet)
      → output.next ≡ next → after ≡ before ++ output ∷ [] → Takes client.unread packet client'.unread → ClientSteps call slot_of old client now (inputs.Packet packet) output client' new
      → ReadsAs call slot_of (reading_behind next) old client now before after client' new
  packet_read old new client client' now Go output before after packet is one taken moved = (output, one, record { packet = packet; taken = taken; moved = moved; goes = is })
  packet_read old new client client' now Close output before after packet is one taken moved =
      (output, one, record { input = inputs.Packet packet; front = taken; moved = moved; closes = λ go. cc })
  packet_read old new client client' now Kicked output before after packet is one taken moved =
      (output, one, record { input = inputs.Packet packet; front = taken; moved = moved; closes = λ go. cc })

  pub closed_by_fault : (old new : S) (client client' : ClientState P) (now : ℕ) (output : StepOutput) (fault : StreamFault) → Stops client.unread fault client'.unread
      → ClientSteps call slot_of old client now (inputs.Fault fault) output client' new → ReadsLast call slot_of old client now output client' new
  closed_by_fault old new client client' now output fault met moved = record { input = inputs.Fault fault; front = met; moved = moved; closes = tt }

  -- what is read so far: whatever reading on comes to, after what was said meanwhile, is what reading from the start comes to
  pub record IsReadOnFrom (first : S) (start : ClientState P) (now : ℕ) (before : List StepOutput) (old : S) (client : ClientState P) (kept : List StepOutput) : Type 0 where
    pub reads : (rest after : List StepOutput) (client' : ClientState P) (new : S) → after ≡ kept ++ rest → Reads call slot_of old client now rest client' new
        → (more : List StepOutput) × (after ≡ before ++ more) × Reads call slot_of first start now more client' new
    pub fails : (rest after : List StepOutput) (client' : ClientState P) (new : S) → after ≡ kept ++ rest → FailsToRead call slot_of old client now rest client' new
        → (more : List StepOutput) × (after ≡ before ++ more) × FailsToRead call slot_of first start now more client' new

  pub from_the_start : (first : S) (start : ClientState P) (now : ℕ) (before : List StepOutput) → IsReadOnFrom first start now before first start before
  from_the_start first start now before =
      record { reads = λ rest after client' new is reads. (rest, is, reads); fails = λ rest after client' new is fails. (rest, is, fails) }

  pub one_more : (first old mid : S) (start client between : ClientState P) (now : ℕ) (before kept after : List StepOutput) (output : StepOutput)
      → IsReadOnFrom first start now before old client kept → after ≡ kept ++ output ∷ [] → ReadsOne call slot_of old client now output between mid
      → IsReadOnFrom first start now before mid between after
  one_more first old mid start client between now before kept after output on one reads =
      record {
        reads = λ rest after' client' new is others. on.reads (output ∷ rest) after' client' new (joined kept after after' rest output one is) (inr (between, mid, reads, others));
        fails = λ rest after' client' new is others. on.fails (output ∷ rest) after' client' new (joined kept after after' rest output one is) (between, mid, reads, others);
      }

  pub nothing_more : (first old new : S) (start client client' : ClientState P) (now : ℕ) (before kept after : List StepOutput)
      → IsReadOnFrom first start now before old client kept → after ≡ kept → IsRead client → client' ≡ client → new ≡ old
      → (more : List StepOutput) × (after ≡ before ++ more) × Reads call slot_of first start now more client' new
  nothing_more first old new start client client' now before kept after on same read client_is new_is =
      on.reads [] after client' new (none kept after same) (read, client_is, new_is)

  pub closed_at_last : (first old new : S) (start client client' : ClientState P) (now : ℕ) (before kept after : List StepOutput) (output : StepOutput)
      → IsReadOnFrom first start now before old client kept → after ≡ kept ++ output ∷ [] → ReadsLast call slot_of old client now output client' new
      → (more : List StepOutput) × (after ≡ before ++ more) × Reads call slot_of first start now more client' new
  closed_at_last first old new start client client' now before kept after output on one reads =
      on.reads (output ∷ []) after client' new one (inl (reads, refl))

  pub failed_at_last : (first old new : S) (start client client' : ClientState P) (now : ℕ) (before kept after : List StepOutput)
      → IsReadOnFrom first start now before old client kept → after ≡ kept → FailsToReadOne call slot_of old client now client' new
      → (more : List StepOutput) × (after ≡ before ++ more) × FailsToRead call slot_of first start now more client' new
  failed_at_last first old new start client client' now before kept after on same fails = on.fails [] after client' new (none kept after same) fails
