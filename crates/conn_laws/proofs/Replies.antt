-- How long the packets are that are no PUBLISH.
use Rattle.std.proofs.Common.{◌≡◌, ℕ, ◌+◌, ◌<◌, ◌≤◌, ◌==◌, Bool, true, false, if◌then◌else◌, List, [], ◌∷◌, ◌++◌, length, Option, Some, None, refl, sym, subst, ◌∙◌, arith, length-append, not, ◌&&◌, nat_lt, ltb-true}
use Rattle.std.specs.List.{list_any}
use Rattle.std.specs.Str.{is_utf8}
use Rattle.std.proofs.lemmas.Bool.{and_parts}
use Rattle.mqtt_packet.specs.declared.packet.Acceptance.{Acceptance}
use Rattle.mqtt_packet.specs.declared.packet.ConnectRefusal.{ConnectRefusal}
use Rattle.mqtt_packet.specs.declared.packet.Packet.{Packet}
use Rattle.mqtt_packet.specs.declared.packet.Packet.TheVariants as packets
use Rattle.mqtt_wire.specs.Connacks.{assigned, keep_alive, offer_bytes, connack_properties}
use Rattle.mqtt_packet.specs.Texts.{is_text, IsText}
use Rattle.mqtt_fields.specs.Forms.{variable_bytes}
use Rattle.mqtt_wire.specs.Writing.{written, written_body, remaining_length}
use Rattle.mqtt_fields.proofs.Variable.{at_most_three}
use Rattle.mqtt_wire.proofs.WritingLaws.{connack_size, refused_size, codes_size}
use Rattle.session_desk.specs.Names.{assigned_name}
use Rattle.conn_rules.specs.declared.terms.Overrides.{Overrides}
use Rattle.conn_rules.specs.Connecting.{offer}
use Rattle.conn_rules.specs.Packets.{accepting, refusing, puback, suback, unsuback, disconnect}
use Rattle.conn_rules.specs.Subscribing.{most_entries}
use Rattle.conn_laws.specs.Sizes.{IsSmall, IsShort, Assigns}
use Rattle.conn_laws.proofs.Lengths.{remaining_is, in_one_byte, in_three_bytes}

-- a packet whose body has so few bytes
in_few : (packet : Packet) (size : ℕ) → remaining_length packet ≡ size → size < 128 → length (written packet) ≡ 2 + size
in_few packet size is small = let less : remaining_length packet < 128 = omega arith in omega (arith, in_one_byte packet less)

in_fewer : (packet : Packet) (size : ℕ) → remaining_length packet ≤ size → size < 128 → length (written packet) ≤ 2 + size
in_fewer packet size is small = let less : remaining_length packet < 128 = omega arith in omega (arith, in_one_byte packet less)

-- ---- CONNACK

-- what is not as the client asked
abbrev overriding : Option ℕ → Option ℕ → Overrides
overriding expiry keep_alive = record { session_expiry_interval = expiry; keep_alive = keep_alive }

-- how many bytes say it
abbrev override_bytes : Option ℕ → Option ℕ → ℕ
override_bytes None None = 0
override_bytes None (Some keep_alive) = 3
override_bytes (Some expiry) None = 5
override_bytes (Some expiry) (Some keep_alive) = 8

few_override : (expiry keep_alive : Option ℕ) → override_bytes expiry keep_alive ≤ 8
few_override None None = omega arith
few_override None (Some keep_alive) = omega arith
few_override (Some expiry) None = omega arith
few_override (Some expiry) (Some keep_alive) = omega arith

accepted_body : (present : Bool) (expiry keep_alive : Option ℕ) → length (written_body (accepting present None (overriding expiry keep_alive))) ≡ 12 + override_bytes expiry keep_alive
unfolding variable_bytes
accepted_body present None None = refl
accepted_body present None (Some keep_alive) = refl
accepted_body present (Some expiry) None = refl
accepted_body present (Some expiry) (Some keep_alive) = refl

-- a packet with a body of so few bytes is small
small_body : (packet : Packet) (size : ℕ) → length (written_body packet) ≡ size → size ≤ 62 → IsSmall packet
small_body packet size is few = omega (arith, in_few packet size (remaining_is packet ∙ is) (omega arith), few)

pub accepted : (present : Bool) (overrides : Overrides) → IsSmall (accepting present None overrides)
accepted present overrides =
    let expiry = overrides.session_expiry_interval in
    let keep_alive = overrides.keep_alive in
    small_body (accepting present None overrides) (12 + override_bytes expiry keep_alive) (accepted_body present expiry keep_alive) (omega (arith, few_override expiry keep_alive))

assigned_body : (present : Bool) (number : ℕ) (expiry keep_alive : Option ℕ)
    → length (written_body (accepting present (Some (assigned_name number)) (overriding expiry keep_alive))) ≡ 28 + override_bytes expiry keep_alive
unfolding variable_bytes
assigned_body present number None None = refl
assigned_body present number None (Some keep_alive) = refl
assigned_body present number (Some expiry) None = refl
assigned_body present number (Some expiry) (Some keep_alive) = refl

pub assigned_is_small : (present : Bool) (number : ℕ) (overrides : Overrides) → IsSmall (accepting present (Some (assigned_name number)) overrides)
assigned_is_small present number overrides =
    let expiry = overrides.session_expiry_interval in
    let keep_alive = overrides.keep_alive in
    small_body (accepting present (Some (assigned_name number)) overrides) (28 + override_bytes expiry keep_alive) (assigned_body present number expiry keep_alive)
    (omega (arith, few_override expiry keep_alive))

-- a text is not too long for its length to be said
text_length : (name : List ℕ) → IsText name → length name < 65536
unfolding is_text
text_length name is = ltb-true (length name) 65536 (and_parts (nat_lt (length name) 65536) (not (list_any (λ b. b == 0) name)) (and_parts (nat_lt (length name) 65536 && not (list_any (λ b. b == 0) name)) (is_utf8 name) is).0).0

-- what is said in a CONNACK that accepts
abbrev acceptance : Bool → List ℕ → Option ℕ → Option ℕ → Acceptance
acceptance present name expiry keep_alive = record {
  session_present = present;
  session_expiry_interval = expiry;
  assigned_client_identifier = Some name;
  server_keep_alive = keep_alive;
  offer = offer;
}

properties_length : (present : Bool) (name : List ℕ) (expiry keep_alive : Option ℕ) → length (connack_properties (acceptance present name expiry keep_alive)) ≡ 12 + length name + override_bytes expiry keep_alive
properties_length present name None None = omega (arith, length-append (assigned name) (offer_bytes offer))
properties_length present name None (Some seconds) = omega (arith, length-append (assigned name) (keep_alive seconds ++ offer_bytes offer))
properties_length present name (Some longest) None = omega (arith, length-append (assigned name) (offer_bytes offer))
properties_length present name (Some longest) (Some seconds) = omega (arith, length-append (assigned name) (keep_alive seconds ++ offer_bytes offer))

pub named : (present : Bool) (name : List ℕ) (overrides : Overrides) → IsText name → IsShort (accepting present (Some name) overrides)
named present name overrides is =
    let packet : Packet = accepting present (Some name) overrides in
    let accepts : Acceptance = acceptance present name overrides.session_expiry_interval overrides.keep_alive in
    let text = text_length name is in
    let said = properties_length present name overrides.session_expiry_interval overrides.keep_alive in
    let more = few_override overrides.session_expiry_interval overrides.keep_alive in
    let few : length (connack_properties accepts) < 2097152 = omega (arith, said, text, more) in
    let body : remaining_length packet ≤ 25 + length name = omega (arith, remaining_is packet, connack_size accepts, said, more, at_most_three (length (connack_properties accepts)) few) in
    let small : remaining_length packet < 2097152 = omega (arith, body, text) in
    omega (arith, in_three_bytes packet small, body, text)

pub assigns : (packet : Packet) → Assigns packet → IsShort packet
assigns packet a = subst IsShort (sym a.is) (named a.present a.name a.overrides a.text)

pub refused : (refusal : ConnectRefusal) → length (written (refusing refusal)) ≡ 5
refused refusal =
    let packet : Packet = refusing refusal in
    in_few packet 3 (remaining_is packet ∙ refused_size refusal) (omega arith)

-- ---- PUBACK and DISCONNECT

-- a Reason Code that is left out or not
code_left : (out : Bool) (code : ℕ) → length ((if out then [] else code ∷ []) ++ []) ≤ 1
code_left true code = omega arith
code_left false code = omega arith

pub acknowledged : (identifier code : ℕ) → length (written (puback identifier code)) ≤ 5
acknowledged identifier code =
    let packet : Packet = puback identifier code in
    in_fewer packet 3 (omega (arith, remaining_is packet, code_left (code == 0) code)) (omega arith)

pub closed : (code : ℕ) → length (written (disconnect code)) ≤ 3
closed code =
    let packet : Packet = disconnect code in
    in_fewer packet 1 (omega (arith, remaining_is packet, code_left (code == 0) code)) (omega arith)

-- ---- SUBACK, UNSUBACK and PINGRESP

pub subscribed : (identifier : ℕ) (codes : List ℕ) → length codes ≤ most_entries → length (written (suback identifier codes)) ≡ 5 + length codes
subscribed identifier codes few =
    let packet : Packet = suback identifier codes in
    omega (arith, in_few packet (3 + length codes) (remaining_is packet ∙ codes_size identifier codes) (omega (arith, few)))

pub unsubscribed : (identifier : ℕ) (codes : List ℕ) → length codes ≤ most_entries → length (written (unsuback identifier codes)) ≡ 5 + length codes
unsubscribed identifier codes few =
    let packet : Packet = unsuback identifier codes in
    omega (arith, in_few packet (3 + length codes) (remaining_is packet ∙ codes_size identifier codes) (omega (arith, few)))

pub answered : length (written packets.Pingresp) ≡ 2
answered = in_few packets.Pingresp 0 (remaining_is packets.Pingresp) (omega arith)
