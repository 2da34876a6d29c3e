-- A Tick, and what is read after it.
use Rattle.std.proofs.Common.{◌≡◌, ◌≢◌, ℕ, List, [], ◌∷◌, ◌++◌, refl, sym, append-nil, ◌∙◌, inl, inr}
use Rattle.conn_supply.specs.declared.reply.Then.TheVariants.{Go}
use Rattle.conn_supply.specs.SupplyCalls.{SupplyCall}
use Rattle.conn_engine.specs.declared.input.Input.TheVariants as inputs
use Rattle.client_table.specs.Clients.{ClientState, StepOutput, ClientSteps}
use Rattle.client_table.specs.Streams.{Reads, FailsToRead, Ticks, FailsToTick}
use Rattle.client_table.proofs.Reading.{joined}

module _ {S P : Type 0} (call : S → SupplyCall P → S → Type 0) (slot_of : P → ℕ) where
  pub last_tick : (old new : S) (client client' : ClientState P) (now : ℕ) (output : StepOutput) (kept before after : List StepOutput) → kept ≡ before
      → ClientSteps call slot_of old client now inputs.Tick output client' new → output.next ≢ Go → after ≡ kept ++ output ∷ []
      → (more : List StepOutput) × (after ≡ before ++ more) × Ticks call slot_of old client now more client' new
  last_tick old new client client' now output kept before after same moved closed one = (output ∷ [], rw same at one, inl (moved, closed, refl))

  pub tick_and_more : (old mid new : S) (client between client' : ClientState P) (now : ℕ) (output : StepOutput) (kept before after after' rest : List StepOutput) → kept ≡ before
      → ClientSteps call slot_of old client now inputs.Tick output between mid → output.next ≡ Go → after ≡ kept ++ output ∷ []
      → after' ≡ after ++ rest → Reads call slot_of mid between now rest client' new → between.unread ≡ client.unread
      → (more : List StepOutput) × (after' ≡ before ++ more) × Ticks call slot_of old client now more client' new
  tick_and_more old mid new client between client' now output kept before after after' rest same moved goes one more reads unread =
      (output ∷ rest, joined before after after' rest output (rw same at one) more, inr (between, mid, moved, goes, reads, unread))

  pub fails_at_tick : (old new : S) (client client' : ClientState P) (now : ℕ) (before after : List StepOutput) → after ≡ before
      → FailsToTick call slot_of old client now [] client' new
      → (more : List StepOutput) × (after ≡ before ++ more) × FailsToTick call slot_of old client now more client' new
  fails_at_tick old new client client' now before after same fails = ([], same ∙ sym (append-nil before), fails)

  pub fails_behind_tick : (old mid new : S) (client between client' : ClientState P) (now : ℕ) (output : StepOutput) (kept before after after' rest : List StepOutput) → kept ≡ before
      → ClientSteps call slot_of old client now inputs.Tick output between mid → output.next ≡ Go → after ≡ kept ++ output ∷ []
      → after' ≡ after ++ rest → FailsToRead call slot_of mid between now rest client' new → between.unread ≡ client.unread
      → (more : List StepOutput) × (after' ≡ before ++ more) × FailsToTick call slot_of old client now more client' new
  fails_behind_tick old mid new client between client' now output kept before after after' rest same moved goes one more fails unread =
      (output ∷ rest, joined before after after' rest output (rw same at one) more, (between, mid, moved, goes, fails, unread))
