-- Bodies: what is read is spelled so, and what is spelled so is read.
use Rattle.std.proofs.Common.{◌≡◌, ℕ, ◌≤◌, List, ◌++◌, length, Option, None, Result, Ok, refl, sym, ap, subst, ◌∙◌, arith, length-append}
use Rattle.std.specs.List.{flat_map}
use Rattle.mqtt_fields.specs.declared.fault.StreamFault.{StreamFault}
use Rattle.mqtt_packet.specs.declared.packet.QoS.{QoS}
use Rattle.mqtt_packet.specs.declared.packet.QoS.TheVariants as qos
use Rattle.mqtt_packet.specs.declared.packet.Delivery.{Delivery}
use Rattle.mqtt_packet.specs.declared.packet.Delivery.TheVariants.{AtMostOnce, AtLeastOnce, ExactlyOnce}
use Rattle.mqtt_packet.specs.declared.packet.Publish.{Publish}
use Rattle.mqtt_packet.specs.declared.packet.Puback.{Puback}
use Rattle.mqtt_packet.specs.declared.packet.Subscribe.{Subscribe}
use Rattle.mqtt_packet.specs.declared.packet.Unsubscribe.{Unsubscribe}
use Rattle.mqtt_packet.specs.declared.packet.Disconnect.{Disconnect}
use Rattle.mqtt_packet.specs.declared.packet.Packet.{Packet}
use Rattle.mqtt_packet.specs.declared.packet.Packet.TheVariants as packets
use Rattle.mqtt_wire.specs.declared.kind.Kind.{Kind}
use Rattle.mqtt_wire.specs.declared.kind.Kind.TheVariants as kinds
use Rattle.mqtt_wire.specs.declared.kind.PublishFlags.{PublishFlags}
use Rattle.mqtt_fields.specs.declared.property.Section.TheVariants as sections
use Rattle.mqtt_packet.specs.Texts.{IsText}
use Rattle.mqtt_fields.specs.Forms.{u16_bytes, utf8_string, AreBytes}
use Rattle.mqtt_wire.specs.Kinds.{first_byte}
use Rattle.mqtt_fields.specs.Fields.{text_at, identifier_at, at_end}
use Rattle.mqtt_fields.specs.Sections.{properties_at}
use Rattle.mqtt_fields.specs.PropertyLists.{publish_of, puback_of, subscribe_of, unsubscribe_of, disconnect_of}
use Rattle.mqtt_wire.specs.Bodies.{delivery_at, publish_body_at, reason_at, puback_at, disconnect_at, subscription_at, entries_at, subscribe_at, unsubscribe_at, body_at}
use Rattle.mqtt_wire.specs.Writing.{qos_of, delivery_bytes, subscription_bytes, flags_of, packet_byte}
use Rattle.mqtt_wire.specs.Spelling.{SpellsPublish, SpellsPuback, SpellsDisconnect, SpellsSubscribe, SpellsUnsubscribe, SpellsBody}
use Rattle.mqtt_fields.specs.FieldRanges.{IsIdentifier}
use Rattle.mqtt_wire.specs.Ranges.{IsDelivery, IsFiltered, IsFromClient}
use Rattle.mqtt_fields.proofs.Steps.{bind_ok, ok_is, Front}
use Rattle.mqtt_fields.proofs.FieldLaws.{text_takes, identifier_takes, text_again, identifier_again}
use Rattle.mqtt_fields.proofs.SectionLaws.{properties_take, properties_again}
use Rattle.mqtt_wire.proofs.ReasonLaws.{reason_takes, reason_again}
use Rattle.mqtt_wire.proofs.EntryLaws.{entries_take, entries_again, subscriptions, filters}
use Rattle.mqtt_wire.proofs.ConnectLaws.{at_end_is, connect_takes, connect_again, other_version_again, with_will_again}

-- a body is a packet that a client may send, in a form of that kind
pub record IsBody (kind : Kind) (body : List ℕ) (packet : Packet) : Type 0 where
  pub client : IsFromClient packet
  pub spelled : SpellsBody packet body
  pub byte : packet_byte packet ≡ first_byte kind

abbrev read : Packet → Result Packet StreamFault
read packet = Ok packet

read_is : (a b : Packet) → read a ≡ read b → a ≡ b
read_is a b e = cc

-- ---- PUBLISH

delivery_takes : (q : QoS) (bytes : List ℕ) (x : Delivery × List ℕ) → AreBytes bytes → delivery_at q bytes ≡ Ok x → Front bytes (delivery_bytes x.0) x.1 × IsDelivery x.0 × (qos_of x.0 ≡ q)
unfolding delivery_at
delivery_takes qos.AtMostOnce bytes x fits e =
    subst (λ (y : Delivery × List ℕ). Front bytes (delivery_bytes y.0) y.1 × IsDelivery y.0 × (qos_of y.0 ≡ qos.AtMostOnce)) (ok_is (AtMostOnce, bytes) x e)
    (record { parts = refl; rest_fits = fits }, tt, refl)
delivery_takes qos.AtLeastOnce bytes x fits e =
    let identifier = bind_ok (identifier_at bytes) _ x e in
    let t = identifier_takes bytes identifier.0 fits identifier.1 in
    subst (λ (y : Delivery × List ℕ). Front bytes (delivery_bytes y.0) y.1 × IsDelivery y.0 × (qos_of y.0 ≡ qos.AtLeastOnce)) (ok_is (AtLeastOnce identifier.0.0, identifier.0.1) x identifier.2)
    (t.0, t.1, refl)
delivery_takes qos.ExactlyOnce bytes x fits e =
    let identifier = bind_ok (identifier_at bytes) _ x e in
    let t = identifier_takes bytes identifier.0 fits identifier.1 in
    subst (λ (y : Delivery × List ℕ). Front bytes (delivery_bytes y.0) y.1 × IsDelivery y.0 × (qos_of y.0 ≡ qos.ExactlyOnce)) (ok_is (ExactlyOnce identifier.0.0, identifier.0.1) x identifier.2)
    (t.0, t.1, refl)

pub publish_takes : (flags : PublishFlags) (body : List ℕ) (packet : Publish) → AreBytes body → publish_body_at flags body ≡ Ok packet → IsFromClient (packets.Publish packet) × SpellsPublish packet body × (flags_of packet ≡ flags)
unfolding publish_body_at
publish_takes flags body packet fits e =
    let topic = bind_ok (text_at body) _ packet e in
    let delivery = bind_ok (delivery_at flags.qos topic.0.1) _ packet topic.2 in
    let all = bind_ok (properties_at sections.Publish delivery.0.1) _ packet delivery.2 in
    let made : Publish = record { dup = flags.dup; retain = flags.retain; delivery = delivery.0.0; message_expiry_interval = all.0.0.message_expiry_interval; subscription_identifier = None; topic = topic.0.0; properties = publish_of all.0.0; payload = all.0.1 } in
    let t1 = text_takes body topic.0 fits topic.1 in
    let t2 = delivery_takes flags.qos topic.0.1 delivery.0 t1.0.rest_fits delivery.1 in
    let t3 = properties_take sections.Publish delivery.0.1 all.0 t2.0.rest_fits all.1 in
    let spelled : SpellsPublish made body = record {
      all = all.0.0;
      section = t3.text;
      spelled = t3.spelled;
      expiry_is = refl;
      properties_are = refl;
      parts = t1.0.parts ∙ ap (λ (r : List ℕ). utf8_string topic.0.0 ++ r) (t2.0.parts ∙ ap (λ (r : List ℕ). delivery_bytes delivery.0.0 ++ r) t3.front.parts);
    } in
    let same_flags : flags_of made ≡ flags = ap (λ (q : QoS). record flags { qos = q }) t2.2 in
    subst (λ (p : Publish). IsFromClient (packets.Publish p) × SpellsPublish p body × (flags_of p ≡ flags)) (ok_is made packet all.2)
    ((t1.1, t2.1, refl), spelled, same_flags)

abbrev published : Publish → Result Publish StreamFault
published packet = Ok packet

delivery_again : (delivery : Delivery) (rest : List ℕ) → IsDelivery delivery → delivery_at (qos_of delivery) (delivery_bytes delivery ++ rest) ≡ Ok (delivery, rest)
unfolding delivery_at
delivery_again AtMostOnce rest is = refl
delivery_again (AtLeastOnce identifier) rest is = rw (identifier_again identifier rest is.0) refl
delivery_again (ExactlyOnce identifier) rest is = rw (identifier_again identifier rest is.0) refl

pub publish_again : (packet : Publish) (body : List ℕ) → IsFromClient (packets.Publish packet) → length body ≤ 65536 → SpellsPublish packet body → publish_body_at (flags_of packet) body ≡ Ok packet
unfolding publish_body_at
publish_again packet body client small s =
    let inner : length s.section ≤ 65536 = omega (arith, ap length s.parts, length-append (utf8_string packet.topic) (delivery_bytes packet.delivery ++ (s.section ++ packet.payload)), length-append (delivery_bytes packet.delivery) (s.section ++ packet.payload), length-append s.section packet.payload) in
    ap (publish_body_at (flags_of packet)) s.parts
    ∙ rw (text_again packet.topic (delivery_bytes packet.delivery ++ (s.section ++ packet.payload)) client.0, delivery_again packet.delivery (s.section ++ packet.payload) client.1, properties_again sections.Publish s.all s.section packet.payload s.spelled inner, s.expiry_is, s.properties_are) refl
    ∙ ap (λ (identifier : Option ℕ). published (record packet { subscription_identifier = identifier })) (sym client.2)

-- ---- PUBACK and DISCONNECT

pub puback_takes : (body : List ℕ) (packet : Puback) → AreBytes body → puback_at body ≡ Ok packet → IsIdentifier packet.packet_identifier × SpellsPuback packet body
unfolding puback_at
puback_takes body packet fits e =
    let identifier = bind_ok (identifier_at body) _ packet e in
    let reason = bind_ok (reason_at sections.Puback identifier.0.1) _ packet identifier.2 in
    let t = identifier_takes body identifier.0 fits identifier.1 in
    let made : Puback = record { packet_identifier = identifier.0.0; reason_code = reason.0.0; properties = puback_of reason.0.1 } in
    let spelled : SpellsPuback made body = record {
      all = reason.0.1;
      reason = identifier.0.1;
      spelled = reason_takes sections.Puback identifier.0.1 reason.0 t.0.rest_fits reason.1;
      properties_are = refl;
      parts = t.0.parts;
    } in
    subst (λ (p : Puback). IsIdentifier p.packet_identifier × SpellsPuback p body) (ok_is made packet reason.2) (t.1, spelled)

pub puback_again : (packet : Puback) (body : List ℕ) → IsIdentifier packet.packet_identifier → length body ≤ 65536 → SpellsPuback packet body → puback_at body ≡ Ok packet
unfolding puback_at
puback_again packet body is small s =
    let inner : length s.reason ≤ 65536 = omega (arith, ap length s.parts) in
    ap puback_at s.parts
    ∙ rw (identifier_again packet.packet_identifier s.reason is.0, reason_again sections.Puback packet.reason_code s.all s.reason inner s.spelled, s.properties_are) refl

pub disconnect_takes : (body : List ℕ) (packet : Disconnect) → AreBytes body → disconnect_at body ≡ Ok packet → SpellsDisconnect packet body
unfolding disconnect_at
disconnect_takes body packet fits e =
    let reason = bind_ok (reason_at sections.Disconnect body) _ packet e in
    let made : Disconnect = record { reason_code = reason.0.0; properties = disconnect_of reason.0.1 } in
    let spelled : SpellsDisconnect made body = record { all = reason.0.1; spelled = reason_takes sections.Disconnect body reason.0 fits reason.1; properties_are = refl } in
    subst (λ (d : Disconnect). SpellsDisconnect d body) (ok_is made packet reason.2) spelled

pub disconnect_again : (packet : Disconnect) (body : List ℕ) → length body ≤ 65536 → SpellsDisconnect packet body → disconnect_at body ≡ Ok packet
unfolding disconnect_at
disconnect_again packet body small s =
    rw (reason_again sections.Disconnect packet.reason_code s.all body small s.spelled, s.properties_are) refl

-- ---- SUBSCRIBE and UNSUBSCRIBE

pub subscribe_takes : (body : List ℕ) (packet : Subscribe) → AreBytes body → subscribe_at body ≡ Ok packet → IsFromClient (packets.Subscribe packet) × SpellsSubscribe packet body
unfolding subscribe_at
subscribe_takes body packet fits e =
    let identifier = bind_ok (identifier_at body) _ packet e in
    let all = bind_ok (properties_at sections.Subscribe identifier.0.1) _ packet identifier.2 in
    let entries = bind_ok (entries_at subscription_at all.0.1) _ packet all.2 in
    let t1 = identifier_takes body identifier.0 fits identifier.1 in
    let t2 = properties_take sections.Subscribe identifier.0.1 all.0 t1.0.rest_fits all.1 in
    let t3 = entries_take subscription_at subscription_bytes IsFiltered subscriptions all.0.1 entries.0 t2.front.rest_fits entries.1 in
    let made : Subscribe = record { packet_identifier = identifier.0.0; properties = subscribe_of all.0.0; subscriptions = entries.0 } in
    let spelled : SpellsSubscribe made body = record {
      all = all.0.0;
      section = t2.text;
      spelled = t2.spelled;
      properties_are = refl;
      parts = t1.0.parts ∙ ap (λ (r : List ℕ). u16_bytes identifier.0.0 ++ r) (t2.front.parts ∙ ap (λ (r : List ℕ). t2.text ++ r) t3.0.parts);
    } in
    subst (λ (p : Subscribe). IsFromClient (packets.Subscribe p) × SpellsSubscribe p body) (ok_is made packet entries.2)
    ((t1.1, t3.1, t3.0.all), spelled)

pub subscribe_again : (packet : Subscribe) (body : List ℕ) → IsFromClient (packets.Subscribe packet) → length body ≤ 65536 → SpellsSubscribe packet body → subscribe_at body ≡ Ok packet
unfolding subscribe_at
subscribe_again packet body client small s =
    let rest : List ℕ = flat_map subscription_bytes packet.subscriptions in
    let inner : length s.section ≤ 65536 = omega (arith, ap length s.parts, length-append s.section (flat_map subscription_bytes packet.subscriptions)) in
    ap subscribe_at s.parts
    ∙ rw (identifier_again packet.packet_identifier (s.section ++ rest) client.0.0, properties_again sections.Subscribe s.all s.section rest s.spelled inner, entries_again subscription_at subscription_bytes IsFiltered subscriptions packet.subscriptions client.1 client.2, s.properties_are) refl

pub unsubscribe_takes : (body : List ℕ) (packet : Unsubscribe) → AreBytes body → unsubscribe_at body ≡ Ok packet → IsFromClient (packets.Unsubscribe packet) × SpellsUnsubscribe packet body
unfolding unsubscribe_at
unsubscribe_takes body packet fits e =
    let identifier = bind_ok (identifier_at body) _ packet e in
    let all = bind_ok (properties_at sections.Unsubscribe identifier.0.1) _ packet identifier.2 in
    let entries = bind_ok (entries_at text_at all.0.1) _ packet all.2 in
    let t1 = identifier_takes body identifier.0 fits identifier.1 in
    let t2 = properties_take sections.Unsubscribe identifier.0.1 all.0 t1.0.rest_fits all.1 in
    let t3 = entries_take text_at utf8_string IsText filters all.0.1 entries.0 t2.front.rest_fits entries.1 in
    let made : Unsubscribe = record { packet_identifier = identifier.0.0; properties = unsubscribe_of all.0.0; filters = entries.0 } in
    let spelled : SpellsUnsubscribe made body = record {
      all = all.0.0;
      section = t2.text;
      spelled = t2.spelled;
      properties_are = refl;
      parts = t1.0.parts ∙ ap (λ (r : List ℕ). u16_bytes identifier.0.0 ++ r) (t2.front.parts ∙ ap (λ (r : List ℕ). t2.text ++ r) t3.0.parts);
    } in
    subst (λ (p : Unsubscribe). IsFromClient (packets.Unsubscribe p) × SpellsUnsubscribe p body) (ok_is made packet entries.2)
    ((t1.1, t3.1, t3.0.all), spelled)

pub unsubscribe_again : (packet : Unsubscribe) (body : List ℕ) → IsFromClient (packets.Unsubscribe packet) → length body ≤ 65536 → SpellsUnsubscribe packet body → unsubscribe_at body ≡ Ok packet
unfolding unsubscribe_at
unsubscribe_again packet body client small s =
    let rest : List ℕ = flat_map utf8_string packet.filters in
    let inner : length s.section ≤ 65536 = omega (arith, ap length s.parts, length-append s.section (flat_map utf8_string packet.filters)) in
    ap unsubscribe_at s.parts
    ∙ rw (identifier_again packet.packet_identifier (s.section ++ rest) client.0.0, properties_again sections.Unsubscribe s.all s.section rest s.spelled inner, entries_again text_at utf8_string IsText filters packet.filters client.1 client.2, s.properties_are) refl

-- ---- any body

pub body_takes : (kind : Kind) (body : List ℕ) (packet : Packet) → AreBytes body → body_at kind body ≡ Ok packet → IsBody kind body packet
unfolding body_at
body_takes kinds.Connect body packet fits e =
    let t = connect_takes body packet fits e in
    record { client = t.client; spelled = t.spelled; byte = t.byte }
body_takes (kinds.Publish flags) body packet fits e =
    let p = bind_ok (publish_body_at flags body) _ packet e in
    let t = publish_takes flags body p.0 fits p.1 in
    subst (λ (y : Packet). IsBody (kinds.Publish flags) body y) (read_is (packets.Publish p.0) packet p.2)
    (record { client = t.0; spelled = t.1; byte = ap (λ (f : PublishFlags). first_byte (kinds.Publish f)) t.2 })
body_takes kinds.Puback body packet fits e =
    let p = bind_ok (puback_at body) _ packet e in
    let t = puback_takes body p.0 fits p.1 in
    subst (λ (y : Packet). IsBody kinds.Puback body y) (read_is (packets.Puback p.0) packet p.2) (record { client = t.0; spelled = t.1; byte = refl })
body_takes kinds.Subscribe body packet fits e =
    let p = bind_ok (subscribe_at body) _ packet e in
    let t = subscribe_takes body p.0 fits p.1 in
    subst (λ (y : Packet). IsBody kinds.Subscribe body y) (read_is (packets.Subscribe p.0) packet p.2) (record { client = t.0; spelled = t.1; byte = refl })
body_takes kinds.Unsubscribe body packet fits e =
    let p = bind_ok (unsubscribe_at body) _ packet e in
    let t = unsubscribe_takes body p.0 fits p.1 in
    subst (λ (y : Packet). IsBody kinds.Unsubscribe body y) (read_is (packets.Unsubscribe p.0) packet p.2) (record { client = t.0; spelled = t.1; byte = refl })
body_takes kinds.Pingreq body packet fits e =
    let ended = at_end_is body packets.Pingreq packet e in
    subst (λ (y : Packet). IsBody kinds.Pingreq body y) ended.1 (record { client = tt; spelled = ended.0; byte = refl })
body_takes kinds.Disconnect body packet fits e =
    let p = bind_ok (disconnect_at body) _ packet e in
    subst (λ (y : Packet). IsBody kinds.Disconnect body y) (read_is (packets.Disconnect p.0) packet p.2)
    (record { client = tt; spelled = disconnect_takes body p.0 fits p.1; byte = refl })
body_takes (kinds.Foreign kind) body packet fits e =
    subst (λ (y : Packet). IsBody (kinds.Foreign kind) body y) (read_is (packets.Foreign kind) packet e) (record { client = tt; spelled = tt; byte = refl })

-- a body that spells the packet is read as it, under the kind of its first byte
pub record IsRead (packet : Packet) (body : List ℕ) : Type 0 where
  pub kind : Kind
  pub byte : packet_byte packet ≡ first_byte kind
  pub read : body_at kind body ≡ Ok packet

pub body_again : (packet : Packet) (body : List ℕ) → length body ≤ 65536 → IsFromClient packet → SpellsBody packet body → IsRead packet body
unfolding body_at
body_again (packets.Connect c) body small client spelled =
    record { kind = kinds.Connect; byte = refl; read = connect_again c body client small spelled }
body_again (packets.Connack c) body small client spelled = absurd client
body_again (packets.Publish p) body small client spelled =
    record { kind = kinds.Publish (flags_of p); byte = refl; read = rw (publish_again p body client small spelled) refl }
body_again (packets.Puback p) body small client spelled =
    record { kind = kinds.Puback; byte = refl; read = rw (puback_again p body client small spelled) refl }
body_again (packets.Subscribe s) body small client spelled =
    record { kind = kinds.Subscribe; byte = refl; read = rw (subscribe_again s body client small spelled) refl }
body_again (packets.Suback s) body small client spelled = absurd client
body_again (packets.Unsubscribe u) body small client spelled =
    record { kind = kinds.Unsubscribe; byte = refl; read = rw (unsubscribe_again u body client small spelled) refl }
body_again (packets.Unsuback u) body small client spelled = absurd client
body_again packets.Pingreq body small client spelled =
    record { kind = kinds.Pingreq; byte = refl; read = ap (at_end packets.Pingreq) spelled }
body_again packets.Pingresp body small client spelled = absurd client
body_again (packets.Disconnect d) body small client spelled =
    record { kind = kinds.Disconnect; byte = refl; read = rw (disconnect_again d body small spelled) refl }
body_again (packets.Foreign kind) body small client spelled = record { kind = kinds.Foreign kind; byte = refl; read = refl }
body_again (packets.OtherVersion version) body small client spelled =
    record { kind = kinds.Connect; byte = refl; read = other_version_again version body spelled }
body_again packets.WithWill body small client spelled = record { kind = kinds.Connect; byte = refl; read = with_will_again body spelled }
