-- What a step does for its session.
use Rattle.std.proofs.Common.{ℕ, Bool, List, Option, subst, inl, inr}
use Rattle.transport.specs.declared.counts.Counts.{Counts}
use Rattle.conn_supply.specs.SupplyCalls.{SupplyCall}
use Rattle.conn_laws.specs.Transcripts.{Transcribes}
use Rattle.conn_laws.proofs.Ended.{silent}
use Rattle.conn_laws.proofs.Failing as failing
use Rattle.conn_laws.proofs.Transcripts.{transcribed}
use Rattle.conn_engine.specs.declared.input.Input.TheVariants as inputs
use Rattle.client_table.specs.Clients.{ClientState, moment_of, IsGivenUp}
use Rattle.conn_service.specs.Services.{ServiceState}
use Rattle.conn_service.specs.Acts.{Act, Enters, Leaves, Asks, Reads, Writes, Steps, Loses, Fails, Starves, IsFull, IsStopped, Stalls, GivesUp, Ends, Others}
use Rattle.conn_service.specs.Lives.{Does}
use Rattle.conn_service.specs.Sessions.{TellsItsSession, TellsOfLastStep}

module _ {S P T : Type 0} (call : S → SupplyCall P → S → Type 0) (begins ends : S → S → Type 0) (visiting : S → Bool) (slot_of : P → ℕ)
    (counts : T → Counts) (given accepted : T → Option (List ℕ)) where
  given_up : (now : ℕ) (client client' : ClientState P) (supply supply' : S) → IsGivenUp call slot_of supply client now inputs.EndOfInput client' supply'
      → TellsOfLastStep call client.conn.number client.conn.phase (moment_of client now) supply client'.conn.phase supply'
  given_up now client client' supply supply' (inl moved) =
      let at = moment_of client now in
      let none = silent call slot_of supply supply' client.conn.number at client.conn.phase client'.conn.phase moved.0.packets moved.0.next moved.1.stepped in
      inl (
        moved.0.next,
        (λ going. subst (λ packets. Transcribes call supply client.conn.number client.conn.phase at inputs.EndOfInput packets moved.0.next client'.conn.phase supply') none
            (transcribed call slot_of supply supply' client.conn.number at client.conn.phase client'.conn.phase inputs.EndOfInput moved.0.packets moved.0.next moved.1.stepped going)),
      )
  given_up now client client' supply supply' (inr failed) =
      inr (failing.failed call slot_of supply supply' client.conn.number (moment_of client now) client.conn.phase inputs.EndOfInput failed.failed)

  pub tells : (act : Act) (old new : ServiceState P T) (supply supply' : S) → Does call begins ends visiting slot_of counts given accepted act old supply new supply'
      → TellsItsSession call act old supply new supply'
  tells (Steps now input packets next) old new supply supply' does =
      λ going. transcribed call slot_of supply supply' old.client.conn.number (moment_of old.client now) old.client.conn.phase new.client.conn.phase input packets next does.moved.stepped going
  tells (Loses now input packets next) old new supply supply' does =
      λ going. transcribed call slot_of supply supply' old.client.conn.number (moment_of old.client now) old.client.conn.phase new.client.conn.phase input packets next does.moved.stepped going
  tells (Fails now input) old new supply supply' does = failing.failed call slot_of supply supply' old.client.conn.number (moment_of old.client now) old.client.conn.phase input does.failed.failed
  tells (Enters is_open reads) old new supply supply' does = tt
  tells Leaves old new supply supply' does = tt
  tells (Asks is_kicked) old new supply supply' does = tt
  tells (Reads size its bytes) old new supply supply' does = tt
  tells (Writes now put) old new supply supply' does = tt
  tells (Starves its bytes) old new supply supply' does = tt
  tells (IsFull now) old new supply supply' does = given_up now old.client new.client supply supply' does.given_up
  tells IsStopped old new supply supply' does = tt
  tells (Stalls now) old new supply supply' does = tt
  tells (GivesUp now) old new supply supply' does = given_up now old.client new.client supply supply' does.given_up
  tells Ends old new supply supply' does = tt
  tells Others old new supply supply' does = tt
