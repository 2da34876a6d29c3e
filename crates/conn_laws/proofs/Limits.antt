-- No step lets a connection have more than the limit that it was opened with.
use Rattle.std.proofs.Common.{ℕ, ◌≤◌, min, List, arith}
use Rattle.mqtt_packet.specs.declared.packet.Packet.{Packet}
use Rattle.conn_rules.specs.Connecting.{or_else}
use Rattle.conn_rules.specs.declared.terms.Terms.{Terms}
use Rattle.conn_supply.specs.declared.reply.Then.{Then}
use Rattle.conn_supply.specs.SupplyCalls.{SupplyCall}
use Rattle.conn_engine.specs.declared.input.Input.{Input}
use Rattle.conn_engine.specs.declared.phase.Opening.{Opening}
use Rattle.conn_engine.specs.declared.phase.ConnPhase.{ConnPhase}
use Rattle.conn_engine.specs.declared.phase.ConnPhase.TheVariants.{Unconnected, Waiting, Connected, Ended}
use Rattle.conn_engine.specs.Step.{Steps}
use Rattle.conn_laws.specs.Quotas.{IsWithinLimit}
use Rattle.conn_laws.proofs.TermsAsked as asked

least : (limit allowed asked : ℕ) → allowed ≤ limit → min allowed asked ≤ limit
least limit allowed asked within = omega (arith, within)

module _ {S P : Type 0} (call : S → SupplyCall P → S → Type 0) (slot_of : P → ℕ) (limit : ℕ) where
  abbrev Open : Opening → Type 0
  Open opened = opened.limits.max_inflight ≤ limit

  abbrev Of : Terms → Type 0
  Of terms = terms.receive_maximum ≤ limit

  as_asked : (phase : ConnPhase P) → IsWithinLimit limit phase → asked.Within call slot_of Open Of phase
  as_asked (Unconnected opened) within = within
  as_asked (Waiting request ticks) within = within
  as_asked (Connected connected) within = within
  as_asked Ended within = tt

  as_limited : (phase : ConnPhase P) → asked.Within call slot_of Open Of phase → IsWithinLimit limit phase
  as_limited (Unconnected opened) within = within
  as_limited (Waiting request ticks) within = within
  as_limited (Connected connected) within = within
  as_limited Ended within = tt

  pub within : (number now : ℕ) (phase phase' : ConnPhase P) (input : Input) (sent : List Packet) (next : Then) (old new : S)
      → Steps call slot_of old number phase now input sent next phase' new → IsWithinLimit limit phase → IsWithinLimit limit phase'
  within number now phase phase' input sent next old new steps kept =
      as_limited phase'
      (asked.within call slot_of Open Of number now phase phase' input sent next old new steps
      (λ opened connect may before came served. least limit opened.limits.max_inflight (or_else 65535 connect.properties.receive_maximum) may) (as_asked phase kept))
