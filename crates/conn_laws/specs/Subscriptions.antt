-- What a step makes of the Subscription Identifier of a session (section 3.8.2.1.2).
use Rattle.std.specs.Prelude.{◌≡◌, ℕ, List, ◌∷◌, Option, Some, None, ⊤}
use Rattle.mqtt_packet.specs.declared.packet.Packet.{Packet}
use Rattle.mqtt_packet.specs.declared.packet.Packet.TheVariants as packets
use Rattle.mqtt_packet.specs.declared.packet.Subscribe.{Subscribe}
use Rattle.conn_rules.specs.Packets.{suback}
use Rattle.conn_supply.specs.Subscribing.{subscription_after}
use Rattle.conn_engine.specs.declared.input.Input.{Input}
use Rattle.conn_engine.specs.declared.input.Input.TheVariants as inputs
use Rattle.conn_engine.specs.declared.phase.ConnPhase.{ConnPhase}
use Rattle.conn_engine.specs.declared.phase.ConnPhase.TheVariants.{Unconnected, Waiting, Connected, Ended}

-- the SUBSCRIBE that came, if one did
abbrev pub subscribe_in : Input → Option Subscribe
subscribe_in (inputs.Packet (packets.Subscribe subscribe)) = Some subscribe
subscribe_in input = None

-- a SUBSCRIBE is answered by a SUBACK first, and where that grants an entry, the identifier is that of the SUBSCRIBE from then on, or none where it has
-- none; else it is what it was
abbrev pub IdentifiesBy : Option Subscribe → List Packet → Option ℕ → Option ℕ → Type 0
IdentifiesBy None sent before after = after ≡ before
IdentifiesBy (Some subscribe) sent before after =
    (codes : List ℕ) × (others : List Packet) × (sent ≡ suback subscribe.packet_identifier codes ∷ others)
    × (after ≡ subscription_after codes subscribe.properties.subscription_identifier before)

abbrev pub Identifies : Input → List Packet → Option ℕ → Option ℕ → Type 0
Identifies input sent before after = IdentifiesBy (subscribe_in input) sent before after

-- so it is with the session of a connection, where it has one
abbrev pub InSession : {P : Type 0} → (Option ℕ → Type 0) → ConnPhase P → Type 0
InSession IsSo (Unconnected opened) = ⊤
InSession IsSo (Waiting request ticks) = ⊤
InSession IsSo (Connected connected) = IsSo connected.session.subscription
InSession IsSo Ended = ⊤
