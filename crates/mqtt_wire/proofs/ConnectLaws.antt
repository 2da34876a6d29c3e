-- CONNECT: what is read is spelled so, and what is spelled so is read.
use Rattle.std.proofs.Common.{◌≡◌, ℕ, ◌+◌, ◌*◌, ◌/◌, ◌%◌, ◌<◌, ◌≤◌, Bool, true, false, eqb, ◌||◌, List, [], ◌∷◌, ◌++◌, length, Option, Some, None, Result, Ok, refl, sym, ap, subst, ◌∙◌, append_assoc, arith, inl, inr, length-append}
use Rattle.std.specs.Prelude.{bytes_eq, codes, IfSome, is_some, not, ◌&&◌}
use Rattle.std.proofs.lemmas.Bool.{eqb-true, eqb-false, or_cases, and_parts}
use Rattle.std.proofs.lemmas.List.{append-nil}
use Rattle.std.proofs.lemmas.Slice.Eq.{bytes_eq-Decides}
use Rattle.std.specs.Str.{is_utf8, chars}
use Rattle.mqtt_fields.specs.declared.fault.StreamFault.{StreamFault}
use Rattle.mqtt_packet.specs.declared.packet.Connect.{Connect}
use Rattle.mqtt_wire.specs.declared.bodies.ConnectPayload.{ConnectPayload}
use Rattle.mqtt_packet.specs.declared.packet.Packet.{Packet}
use Rattle.mqtt_packet.specs.declared.packet.Packet.TheVariants as packets
use Rattle.mqtt_packet.specs.Texts.{is_text, IsText, IsBinary}
use Rattle.mqtt_fields.specs.Forms.{u16_bytes, binary_data, utf8_string, bit, AreBytes}
use Rattle.mqtt_fields.specs.Faults.{◌>>=◌}
use Rattle.mqtt_fields.specs.Fields.{Field, byte_at, u16_at, binary_at, text_at, field_if, at_end}
use Rattle.mqtt_fields.specs.declared.property.Section.TheVariants as sections
use Rattle.mqtt_fields.specs.declared.properties.Properties.{Properties}
use Rattle.mqtt_fields.specs.Sections.{properties_at, SpellsProperties}
use Rattle.mqtt_fields.specs.PropertyLists.{bytes_if, connect_of}
use Rattle.mqtt_wire.specs.Protocol.{is_mqtt_5, are_connect_flags, has_will}
use Rattle.mqtt_wire.specs.ConnectBody.{expect, connect_payload_at, connect_fields_at, connect_5_at, connect_at}
use Rattle.mqtt_wire.specs.Writing.{protocol, connect_flags, connect_payload, packet_byte}
use Rattle.mqtt_wire.specs.Spelling.{SpellsBody, SpellsConnect, SpellsOtherVersion, SpellsWithWill}
use Rattle.mqtt_wire.specs.Ranges.{IsFromClient}
use Rattle.mqtt_fields.proofs.Steps.{bind_ok, ok_is, Front, Front-then}
use Rattle.mqtt_fields.proofs.Variable.{chosen}
use Rattle.mqtt_wire.proofs.HeaderLaws.{bit_is}
use Rattle.mqtt_fields.proofs.FieldLaws.{byte_takes, u16_takes, binary_takes, text_takes, byte_again, u16_again, binary_again, text_again}
use Rattle.mqtt_fields.proofs.SectionLaws.{properties_take, properties_again}

-- a body is a packet that a client may send, under the first byte 10
pub record IsConnect (body : List ℕ) (packet : Packet) : Type 0 where
  pub client : IsFromClient packet
  pub spelled : SpellsBody packet body
  pub byte : packet_byte packet ≡ 0x10

abbrev read : Packet → Result Packet StreamFault
read packet = Ok packet

read_is : (a b : Packet) → read a ≡ read b → a ≡ b
read_is a b e = cc

pub expected : (holds : Bool) (done : Unit {0}) → expect holds ≡ Ok done → holds ≡ true
expected true done e = refl
expected false done e = absurd cc

pub at_end_is : {A : Type 0} (rest : List ℕ) (made value : A) → at_end made rest ≡ Ok value → (rest ≡ []) × (made ≡ value)
at_end_is [] made value e = (refl, ok_is made value e)
at_end_is (byte ∷ rest) made value e = absurd cc

pub all_of : (body text rest : List ℕ) → Front body text rest → rest ≡ [] → body ≡ text
all_of body text rest f none = f.parts ∙ ap (λ (r : List ℕ). text ++ r) none ∙ append-nil text

-- ---- fields that may be left out

field_if_takes : (there : Bool) (field : List ℕ → Field (List ℕ)) (spell : List ℕ → List ℕ) (Is : List ℕ → Type 0) → ((bytes : List ℕ) (x : List ℕ × List ℕ) → AreBytes bytes → field bytes ≡ Ok x → Front bytes (spell x.0) x.1 × Is x.0) → (bytes : List ℕ) (x : Option (List ℕ) × List ℕ) → AreBytes bytes → field_if there field bytes ≡ Ok x → Front bytes (bytes_if spell x.0) x.1 × IfSome x.0 Is × (is_some x.0 ≡ there)
field_if_takes false field spell Is takes bytes x fits e =
    subst (λ (y : Option (List ℕ) × List ℕ). Front bytes (bytes_if spell y.0) y.1 × IfSome y.0 Is × (is_some y.0 ≡ false)) (ok_is (None, bytes) x e)
    (record { parts = refl; rest_fits = fits }, tt, refl)
field_if_takes true field spell Is takes bytes x fits e =
    let value = bind_ok (field bytes) _ x e in
    let t = takes bytes value.0 fits value.1 in
    subst (λ (y : Option (List ℕ) × List ℕ). Front bytes (bytes_if spell y.0) y.1 × IfSome y.0 Is × (is_some y.0 ≡ true)) (ok_is (Some value.0.0, value.0.1) x value.2)
    (t.0, t.1, refl)

name_if_again : (name : Option (List ℕ)) (rest : List ℕ) → IfSome name IsText → field_if (is_some name) text_at (bytes_if utf8_string name ++ rest) ≡ Ok (name, rest)
name_if_again None rest is = refl
name_if_again (Some name) rest is = rw (text_again name rest is) refl

binary_if_again : (binary : Option (List ℕ)) (rest : List ℕ) → field_if (is_some binary) binary_at (bytes_if binary_data binary ++ rest) ≡ Ok (binary, rest)
binary_if_again None rest = refl
binary_if_again (Some binary) rest = rw (binary_again binary rest) refl

-- ---- the flags

flags_are : (flags : ℕ) (password user : Bool) → flags < 256 → are_connect_flags flags ≡ true → has_will flags ≡ false → password ≡ eqb (flags / 64 % 2) 1 → user ≡ eqb (flags / 128 % 2) 1 → 2 * bit (eqb (flags / 2 % 2) 1) + 64 * bit password + 128 * bit user ≡ flags
flags_are flags password user small lawful none p u =
    let outer = and_parts (eqb (flags % 2) 0 && not (eqb (flags / 8 % 4) 3)) (eqb (flags / 4 % 2) 1 || eqb (flags / 8 % 8) 0) lawful in
    let even = eqb-true (flags % 2) 0 (and_parts (eqb (flags % 2) 0) (not (eqb (flags / 8 % 4) 3)) outer.0).0 in
    let no_will = eqb-false (flags / 4 % 2) 1 none in
    let no_will_flags : flags / 8 % 8 ≡ 0 = elim (or_cases (eqb (flags / 4 % 2) 1) (eqb (flags / 8 % 8) 0) outer.1) [
      | inl will ↦ absurd (let no = sym none ∙ will in cc)
      | inr zeros ↦ eqb-true (flags / 8 % 8) 0 zeros
    ] in
    let clean = bit_is (flags / 2 % 2) (omega arith) in
    let pass : bit password ≡ flags / 64 % 2 = ap bit p ∙ bit_is (flags / 64 % 2) (omega arith) in
    let named : bit user ≡ flags / 128 % 2 = ap bit u ∙ bit_is (flags / 128 % 2) (omega arith) in
    omega arith

abbrev flags_of : Bool → Bool → Bool → ℕ
flags_of clean password user = 2 * bit clean + 64 * bit password + 128 * bit user

lawful_flags : (clean password user : Bool) → (are_connect_flags (flags_of clean password user) ≡ true) × (has_will (flags_of clean password user) ≡ false)
lawful_flags true true true = (refl, refl)
lawful_flags true true false = (refl, refl)
lawful_flags true false true = (refl, refl)
lawful_flags true false false = (refl, refl)
lawful_flags false true true = (refl, refl)
lawful_flags false true false = (refl, refl)
lawful_flags false false true = (refl, refl)
lawful_flags false false false = (refl, refl)

flags_back : (clean password user : Bool) → (eqb (flags_of clean password user / 2 % 2) 1 ≡ clean) × (eqb (flags_of clean password user / 64 % 2) 1 ≡ password) × (eqb (flags_of clean password user / 128 % 2) 1 ≡ user)
flags_back true true true = (refl, refl, refl)
flags_back true true false = (refl, refl, refl)
flags_back true false true = (refl, refl, refl)
flags_back true false false = (refl, refl, refl)
flags_back false true true = (refl, refl, refl)
flags_back false true false = (refl, refl, refl)
flags_back false false true = (refl, refl, refl)
flags_back false false false = (refl, refl, refl)

-- ---- the fields after the flags

abbrev behind_flags : Connect → List ℕ → List ℕ
behind_flags c section = u16_bytes c.keep_alive ++ (section ++ connect_payload c)

-- the fields are these, and a section spells the properties
pub record AreFields (flags : ℕ) (rest : List ℕ) (c : Connect) : Type 0 where
  pub client : IsFromClient (packets.Connect c)
  pub all : Properties
  pub section : List ℕ
  pub spelled : SpellsProperties sections.Connect all section
  pub properties_are : connect_of all ≡ Ok c.properties
  pub parts : rest ≡ behind_flags c section
  pub flags_are : connect_flags c ≡ flags

abbrev payload_bytes : ConnectPayload → List ℕ
payload_bytes p = utf8_string p.client_identifier ++ (bytes_if utf8_string p.user_name ++ bytes_if binary_data p.password)

pub record IsPayload (flags : ℕ) (bytes : List ℕ) (payload : ConnectPayload) : Type 0 where
  pub parts : bytes ≡ payload_bytes payload
  pub client : IsText payload.client_identifier
  pub user : IfSome payload.user_name IsText
  pub password : IfSome payload.password IsBinary
  pub has_user : is_some payload.user_name ≡ eqb (flags / 128 % 2) 1
  pub has_password : is_some payload.password ≡ eqb (flags / 64 % 2) 1

abbrev payload_of : List ℕ → Option (List ℕ) → Option (List ℕ) → ConnectPayload
payload_of client user password = record { client_identifier = client; user_name = user; password = password }

payload_takes : (flags : ℕ) (bytes : List ℕ) (payload : ConnectPayload) → AreBytes bytes → connect_payload_at flags bytes ≡ Ok payload → IsPayload flags bytes payload
unfolding connect_payload_at
payload_takes flags bytes payload fits e =
    let client = bind_ok (text_at bytes) _ payload e in
    let user = bind_ok (field_if (eqb (flags / 128 % 2) 1) text_at client.0.1) _ payload client.2 in
    let password = bind_ok (field_if (eqb (flags / 64 % 2) 1) binary_at user.0.1) _ payload user.2 in
    let ended = at_end_is password.0.1 (payload_of client.0.0 user.0.0 password.0.0) payload password.2 in
    let t3 = text_takes bytes client.0 fits client.1 in
    let t4 = field_if_takes (eqb (flags / 128 % 2) 1) text_at utf8_string IsText text_takes client.0.1 user.0 t3.0.rest_fits user.1 in
    let t5 = field_if_takes (eqb (flags / 64 % 2) 1) binary_at binary_data IsBinary binary_takes user.0.1 password.0 t4.0.rest_fits password.1 in
    let last : user.0.1 ≡ bytes_if binary_data password.0.0 = all_of user.0.1 (bytes_if binary_data password.0.0) password.0.1 t5.0 ended.0 in
    let parts : bytes ≡ payload_bytes (payload_of client.0.0 user.0.0 password.0.0) =
    t3.0.parts ∙ ap (λ (r : List ℕ). utf8_string client.0.0 ++ r) (t4.0.parts ∙ ap (λ (r : List ℕ). bytes_if utf8_string user.0.0 ++ r) last) in
    subst (λ (y : ConnectPayload). IsPayload flags bytes y) ended.1
    (record { parts = parts; client = t3.1; user = t4.1; password = t5.1; has_user = t4.2; has_password = t5.2 })

payload_again : (c : Connect) → IsFromClient (packets.Connect c) → connect_payload_at (connect_flags c) (connect_payload c) ≡ Ok (payload_of c.client_identifier c.user_name c.password)
unfolding connect_payload_at
payload_again c is =
    let back = flags_back c.clean_start (is_some c.password) (is_some c.user_name) in
    let last : List ℕ = bytes_if binary_data c.password in
    let names : List ℕ = bytes_if utf8_string c.user_name ++ last in
    let ended : field_if (is_some c.password) binary_at last ≡ Ok (c.password, []) = ap (field_if (is_some c.password) binary_at) (sym (append-nil last)) ∙ binary_if_again c.password [] in
    rw (text_again c.client_identifier names is.0, back.1, back.2, name_if_again c.user_name last is.2, ended) refl

fields_take : (flags : ℕ) (rest : List ℕ) (c : Connect) → flags < 256 → AreBytes rest → are_connect_flags flags ≡ true → has_will flags ≡ false → connect_fields_at flags rest ≡ Ok c → AreFields flags rest c
unfolding connect_fields_at
fields_take flags rest c small fits lawful none e =
    let alive = bind_ok (u16_at rest) _ c e in
    let all = bind_ok (properties_at sections.Connect alive.0.1) _ c alive.2 in
    let list = bind_ok (connect_of all.0.0) _ c all.2 in
    let payload = bind_ok (connect_payload_at flags all.0.1) _ c list.2 in
    let made : Connect = record { clean_start = eqb (flags / 2 % 2) 1; keep_alive = alive.0.0; properties = list.0; client_identifier = payload.0.client_identifier; user_name = payload.0.user_name; password = payload.0.password } in
    let t1 = u16_takes rest alive.0 fits alive.1 in
    let t2 = properties_take sections.Connect alive.0.1 all.0 t1.0.rest_fits all.1 in
    let t3 = payload_takes flags all.0.1 payload.0 t2.front.rest_fits payload.1 in
    let parts : rest ≡ behind_flags made t2.text =
    t1.0.parts ∙ ap (λ (r : List ℕ). u16_bytes alive.0.0 ++ r) (t2.front.parts ∙ ap (λ (r : List ℕ). t2.text ++ r) t3.parts) in
    subst (λ (y : Connect). AreFields flags rest y) (ok_is made c payload.2)
    (record {
      client = (t3.client, t1.1, t3.user, t3.password);
      all = all.0.0;
      section = t2.text;
      spelled = t2.spelled;
      properties_are = list.1;
      parts = parts;
      flags_are = flags_are flags (is_some payload.0.password) (is_some payload.0.user_name) small lawful none t3.has_password t3.has_user;
    })

fields_again : (c : Connect) (all : Properties) (section : List ℕ) → IsFromClient (packets.Connect c) → SpellsProperties sections.Connect all section → length section ≤ 65536 → connect_of all ≡ Ok c.properties → connect_fields_at (connect_flags c) (behind_flags c section) ≡ Ok c
unfolding connect_fields_at
fields_again c all section is spelled small list =
    let back = flags_back c.clean_start (is_some c.password) (is_some c.user_name) in
    rw (u16_again c.keep_alive (section ++ connect_payload c), properties_again sections.Connect all section (connect_payload c) spelled small, list, payload_again c is, back.0) refl

-- ---- the whole body

protocol_parts : (bytes name : List ℕ) (version : ℕ) (rest : List ℕ) → name ≡ codes "MQTT" → version ≡ 5 → Front bytes (utf8_string name ++ version ∷ []) rest → Front bytes protocol rest
protocol_parts bytes name version rest is_name is_five f =
    subst (λ (v : ℕ). Front bytes (utf8_string (codes "MQTT") ++ v ∷ []) rest) is_five
    (subst (λ (n : List ℕ). Front bytes (utf8_string n ++ version ∷ []) rest) is_name f)

five_takes : (body rest : List ℕ) (packet : Packet) → Front body protocol rest → connect_5_at rest ≡ Ok packet → IsConnect body packet
unfolding connect_5_at
five_takes body rest packet front e =
    let flags = bind_ok (byte_at rest) _ packet e in
    let lawful = bind_ok (expect (are_connect_flags flags.0.0)) _ packet flags.2 in
    let lawful' = expected _ lawful.0 lawful.1 in
    let b = byte_takes rest flags.0 front.rest_fits flags.1 in
    let parts : body ≡ protocol ++ (flags.0.0 ∷ flags.0.1) = front.parts ∙ ap (λ (r : List ℕ). protocol ++ r) b.parts in
    let small : flags.0.0 < 256 = subst AreBytes b.parts front.rest_fits 0 in
    elim (chosen (has_will flags.0.0) (Ok packets.WithWill) (connect_fields_at flags.0.0 flags.0.1 >>= λ p. Ok (packets.Connect p)) (Ok packet) lawful.2) [
      | inl will ↦
          subst (λ (y : Packet). IsConnect body y) (read_is packets.WithWill packet will.1)
          (record { client = tt; spelled = (flags.0.0, flags.0.1, parts, lawful', will.0); byte = refl })
      | inr none ↦
          let c = bind_ok (connect_fields_at flags.0.0 flags.0.1) _ packet none.1 in
          let t = fields_take flags.0.0 flags.0.1 c.0 small b.rest_fits lawful' none.0 c.1 in
          let whole : body ≡ protocol ++ (connect_flags c.0 ∷ behind_flags c.0 t.section) =
          parts ∙ ap (λ (r : List ℕ). protocol ++ (flags.0.0 ∷ r)) t.parts ∙ ap (λ (f : ℕ). protocol ++ (f ∷ behind_flags c.0 t.section)) (sym t.flags_are) in
          let spelled : SpellsConnect c.0 body = record { all = t.all; section = t.section; spelled = t.spelled; properties_are = t.properties_are; parts = whole } in
          subst (λ (y : Packet). IsConnect body y) (read_is (packets.Connect c.0) packet c.2) (record { client = t.client; spelled = spelled; byte = refl })
    ]

pub connect_takes : (body : List ℕ) (packet : Packet) → AreBytes body → connect_at body ≡ Ok packet → IsConnect body packet
unfolding connect_at
connect_takes body packet fits e =
    let name = bind_ok (text_at body) _ packet e in
    let version = bind_ok (byte_at name.0.1) _ packet name.2 in
    let t = text_takes body name.0 fits name.1 in
    let b = byte_takes name.0.1 version.0 t.0.rest_fits version.1 in
    elim (chosen (is_mqtt_5 name.0.0 version.0.0) (connect_5_at version.0.1) (Ok (packets.OtherVersion version.0.0)) (Ok packet) version.2) [
      | inl five ↦
          let both = and_parts (bytes_eq name.0.0 (codes "MQTT")) (eqb version.0.0 5) five.0 in
          let is_name : name.0.0 ≡ codes "MQTT" = (bytes_eq-Decides name.0.0 (codes "MQTT")).0 both.0 in
          let front = Front-then body (utf8_string name.0.0) name.0.1 (version.0.0 ∷ []) version.0.1 t.0 b in
          five_takes body version.0.1 packet (protocol_parts body name.0.0 version.0.0 version.0.1 is_name (eqb-true version.0.0 5 both.1) front) five.1
      | inr other ↦
          subst (λ (y : Packet). IsConnect body y) (read_is (packets.OtherVersion version.0.0) packet other.1)
          (record { client = tt; spelled = (name.0.0, version.0.1, t.0.parts ∙ ap (λ (r : List ℕ). utf8_string name.0.0 ++ r) b.parts, t.1, other.0); byte = refl })
    ]

-- after the protocol the rest decides
protocol_again : (rest : List ℕ) → connect_at (protocol ++ rest) ≡ connect_5_at rest
unfolding connect_at is_text is_utf8 chars lib.Utf8.encode
protocol_again rest =
    let grouped : protocol ++ rest ≡ utf8_string (codes "MQTT") ++ (5 ∷ rest) = append_assoc (utf8_string (codes "MQTT")) (5 ∷ []) rest in
    let name : text_at (protocol ++ rest) ≡ Ok (codes "MQTT", 5 ∷ rest) = ap text_at grouped ∙ text_again (codes "MQTT") (5 ∷ rest) refl in
    rw (name, byte_again 5 rest) refl

connect_5_again : (c : Connect) (all : Properties) (section : List ℕ) → IsFromClient (packets.Connect c) → SpellsProperties sections.Connect all section → length section ≤ 65536 → connect_of all ≡ Ok c.properties → connect_5_at (connect_flags c ∷ behind_flags c section) ≡ Ok (packets.Connect c)
unfolding connect_5_at
connect_5_again c all section is spelled small list =
    let lawful = lawful_flags c.clean_start (is_some c.password) (is_some c.user_name) in
    rw (byte_again (connect_flags c) (behind_flags c section), lawful.0, lawful.1, fields_again c all section is spelled small list) refl

will_again : (flags : ℕ) (rest : List ℕ) → are_connect_flags flags ≡ true → has_will flags ≡ true → connect_5_at (flags ∷ rest) ≡ Ok packets.WithWill
unfolding connect_5_at
will_again flags rest lawful will = rw (byte_again flags rest, lawful, will) refl

other_again : (name : List ℕ) (version : ℕ) (rest : List ℕ) → IsText name → is_mqtt_5 name version ≡ false → connect_at (utf8_string name ++ (version ∷ rest)) ≡ Ok (packets.OtherVersion version)
unfolding connect_at
other_again name version rest is other = rw (text_again name (version ∷ rest) is, byte_again version rest, other) refl

pub connect_again : (c : Connect) (body : List ℕ) → IsFromClient (packets.Connect c) → length body ≤ 65536 → SpellsConnect c body → connect_at body ≡ Ok (packets.Connect c)
connect_again c body is small s =
    let alive : List ℕ = u16_bytes c.keep_alive in
    let inner : length s.section ≤ 65536 = omega (arith, ap length s.parts, length-append s.section (connect_payload c)) in
    ap connect_at s.parts ∙ protocol_again (connect_flags c ∷ behind_flags c s.section) ∙ connect_5_again c s.all s.section is s.spelled inner s.properties_are

pub other_version_again : (version : ℕ) (body : List ℕ) → SpellsOtherVersion version body → connect_at body ≡ Ok (packets.OtherVersion version)
other_version_again version body s = ap connect_at s.2 ∙ other_again s.0 version s.1 s.3 s.4

pub with_will_again : (body : List ℕ) → SpellsWithWill body → connect_at body ≡ Ok packets.WithWill
with_will_again body s = ap connect_at s.2 ∙ protocol_again (s.0 ∷ s.1) ∙ will_again s.0 s.1 s.3 s.4

-- ---- the shortest bodies that are not looked at

pub shortest_other_version : (version : ℕ) → SpellsOtherVersion version (utf8_string [] ++ version ∷ [])
unfolding is_text is_utf8 chars lib.Utf8.encode
shortest_other_version version = ([], [], refl, refl, refl)

pub shortest_with_will : SpellsWithWill (protocol ++ 4 ∷ [])
shortest_with_will = (4, [], refl, refl, refl)
