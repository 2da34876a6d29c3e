-- How many bytes each body is written in, and steps of writing.
use Rattle.std.proofs.Common.{◌≡◌, ℕ, ◌+◌, ◌<◌, ◌≤◌, List, [], ◌∷◌, ◌++◌, length, get_or, take, Option, Some, None, refl, ap, ◌∙◌, arith, length-append}
use Rattle.std.specs.Prelude.{◌^◌, ◌/◌, ◌%◌, MatchOption}
use Rattle.std.specs.Int.{w32, to_be_bytes}
use Rattle.std.specs.List.{flat_map}
use Rattle.std.proofs.lemmas.List.Folds.{length-flat_map-take}
use Rattle.mqtt_packet.specs.declared.packet.Connect.{Connect}
use Rattle.mqtt_packet.specs.declared.packet.Connack.TheVariants.{Accepted, Refused}
use Rattle.mqtt_packet.specs.declared.packet.Acceptance.{Acceptance}
use Rattle.mqtt_packet.specs.declared.packet.ConnectRefusal.{ConnectRefusal}
use Rattle.mqtt_packet.specs.declared.packet.Packet.{Packet}
use Rattle.mqtt_packet.specs.declared.packet.Publish.{Publish}
use Rattle.mqtt_packet.specs.declared.packet.Subscription.{Subscription}
use Rattle.mqtt_fields.specs.Forms.{u16_bytes, u32_bytes, binary_data, utf8_string, variable_bytes, variable_byte_integer}
use Rattle.mqtt_wire.specs.Connacks.{connack_properties, connack_body}
use Rattle.mqtt_wire.specs.Writing.{connect_payload, delivery_bytes, reason_bytes, options_byte, subscription_bytes, connect_body, publish_body, written_body, written, remaining_length}
use Rattle.mqtt_fields.specs.Sections.{properties}
use Rattle.mqtt_fields.specs.PropertyLists.{bytes_if, connect_list, publish_list}

-- the bytes of a Four Byte Integer, the most significant first
pub four_bytes : (n : ℕ) → n < 2 ^ 32 → to_be_bytes w32 n ≡ u32_bytes n
four_bytes n small =
    let high : n / 16777216 % 256 ≡ n / 16777216 = omega arith in
    ap (λ (byte : ℕ). byte ∷ n / 65536 % 256 ∷ n / 256 % 256 ∷ n % 256 ∷ []) high

-- a section of properties
pub properties_size : (list : List ℕ) → length (properties list) ≡ length (variable_byte_integer (length list)) + length list
properties_size list = length-append (variable_byte_integer (length list)) list

pub no_properties : properties [] ≡ 0 ∷ []
unfolding variable_bytes
no_properties = refl

no_properties_size : length (properties []) ≡ 1
no_properties_size = ap length no_properties

pub payload_size : (c : Connect) → length (connect_payload c) ≡ 2 + length c.client_identifier + length (bytes_if utf8_string c.user_name) + length (bytes_if binary_data c.password)
payload_size c =
    let names : List ℕ = bytes_if utf8_string c.user_name in
    let last : List ℕ = bytes_if binary_data c.password in
    omega (arith, length-append (utf8_string c.client_identifier) (names ++ last), length-append names last)

pub connect_size : (c : Connect) → length (connect_body c) ≡ 10 + length (properties (connect_list c.properties)) + length (connect_payload c)
connect_size c = omega (arith, length-append (properties (connect_list c.properties)) (connect_payload c))

pub connack_size : (a : Acceptance) → length (connack_body (Accepted a)) ≡ 2 + length (variable_byte_integer (length (connack_properties a))) + length (connack_properties a)
connack_size a = omega (arith, length-append (variable_byte_integer (length (connack_properties a))) (connack_properties a))

pub refused_size : (refusal : ConnectRefusal) → length (connack_body (Refused refusal)) ≡ 3
refused_size refusal = omega (arith, no_properties_size)

pub publish_size : (p : Publish) → length (publish_body p) ≡ 2 + length p.topic + length (delivery_bytes p.delivery) + length (properties (publish_list p)) + length p.payload
publish_size p =
    let section : List ℕ = properties (publish_list p) in
    omega (arith, length-append (utf8_string p.topic) (delivery_bytes p.delivery ++ (section ++ p.payload)), length-append (delivery_bytes p.delivery) (section ++ p.payload), length-append section p.payload)

-- an identifier, a section of properties, and the entries or codes after them
pub listed_size : (identifier : ℕ) (list rest : List ℕ) → length (u16_bytes identifier ++ (properties list ++ rest)) ≡ 2 + length (properties list) + length rest
listed_size identifier list rest = omega (arith, length-append (properties list) rest)

-- an identifier and codes
pub codes_size : (identifier : ℕ) (rest : List ℕ) → length (u16_bytes identifier ++ (properties [] ++ rest)) ≡ 3 + length rest
codes_size identifier rest = omega (arith, no_properties_size, listed_size identifier [] rest)

-- properties after a reason code
pub reason_some : (code : ℕ) (list : List ℕ) → 0 < length list → reason_bytes code list ≡ code ∷ properties list
reason_some code [] some = absurd (omega arith)
reason_some code (byte ∷ list) some = refl

pub reason_least : (code : ℕ) (list : List ℕ) → length list ≤ length (reason_bytes code list)
reason_least code [] = omega arith
reason_least code (byte ∷ list) = omega (arith, properties_size (byte ∷ list))

-- the entries up to one of them take no more bytes than all of them
pub entry_within : (entries : List Subscription) (i : ℕ) (entry : Subscription) → i < length entries → entry ≡ get_or entries i entry → length (flat_map subscription_bytes (take i entries)) + (3 + length entry.filter) ≤ length (flat_map subscription_bytes entries)
entry_within entries i entry lt is =
    omega (arith, length-flat_map-take subscription_bytes entries i entry lt, ap (λ (s : Subscription). length (subscription_bytes s)) is, length-append (utf8_string entry.filter) (options_byte entry.options ∷ []))

pub filter_within : (filters : List (List ℕ)) (i : ℕ) (filter : List ℕ) → i < length filters → filter ≡ get_or filters i filter → length (flat_map utf8_string (take i filters)) + (2 + length filter) ≤ length (flat_map utf8_string filters)
filter_within filters i filter lt is =
    omega (arith, length-flat_map-take utf8_string filters i filter lt, ap (λ (t : List ℕ). length (utf8_string t)) is)

-- a size that was tested is the Remaining Length
pub sized : (found : Option ℕ) (size remaining : ℕ) → size ≡ remaining → MatchOption found (268435455 < size) (λ n. (n ≡ size) × (size ≤ 268435455)) → MatchOption found (268435455 < remaining) (λ n. (n ≡ remaining) × (n ≤ 268435455))
sized None size remaining same h = omega arith
sized (Some n) size remaining same h = (h.0 ∙ same, omega arith)

-- a packet has its header and its Remaining Length
pub written_length : (packet : Packet) → length (written packet) ≡ 1 + length (variable_byte_integer (remaining_length packet)) + remaining_length packet
unfolding written remaining_length
written_length packet = omega (arith, length-append (variable_byte_integer (length (written_body packet))) (written_body packet))
