-- The fault of a body is that of the first field that is at fault.
use Rattle.std.proofs.Common.{◌≡◌, ℕ, ◌/◌, ◌%◌, ◌==◌, Bool, true, false, List, [], ◌∷◌, Result, Ok, Err, refl, sym, subst, inl, inr}
use Rattle.std.specs.Prelude.{◌↔◌, MatchBool, if◌then◌else◌}
use Rattle.mqtt_fields.specs.declared.fault.StreamFault.{StreamFault}
use Rattle.mqtt_packet.specs.declared.packet.Packet.TheVariants as packets
use Rattle.mqtt_packet.specs.declared.packet.Connect.{Connect as ConnectPacket}
use Rattle.mqtt_fields.specs.declared.property.Section.TheVariants as sections
use Rattle.mqtt_wire.specs.declared.kind.PublishFlags.{PublishFlags}
use Rattle.mqtt_wire.specs.declared.kind.Kind.{Kind}
use Rattle.mqtt_wire.specs.declared.kind.Kind.TheVariants.{Connect, Publish, Puback, Subscribe, Unsubscribe, Pingreq, Disconnect, Foreign}
use Rattle.mqtt_fields.specs.Faults.{◌>>=◌}
use Rattle.mqtt_fields.specs.Fields.{byte_at, u16_at, binary_at, text_at, identifier_at, field_if, at_end}
use Rattle.mqtt_wire.specs.Protocol.{is_mqtt_5, are_connect_flags, has_will}
use Rattle.mqtt_fields.specs.Sections.{properties_at}
use Rattle.mqtt_fields.specs.PropertyLists.{connect_of}
use Rattle.mqtt_wire.specs.ConnectBody.{expect, connect_payload_at, connect_fields_at, connect_5_at, connect_at}
use Rattle.mqtt_wire.specs.Bodies.{delivery_at, publish_body_at, reason_at, puback_at, disconnect_at, subscription_at, entries_at, subscribe_at, unsubscribe_at, body_at}
use Rattle.mqtt_wire.specs.FirstFaults.{FirstOf, NoneLeft, ended, PublishFault, PubackFault, SubscribeFault, UnsubscribeFault, PayloadFault, Connect5Fault, ConnectFault, BodyFault}
use Rattle.mqtt_fields.proofs.Steps.{ok_is}

-- an answer is a fault exactly where this says so
abbrev Tells : {A : Type 0} → Result A StreamFault → (StreamFault → Type 0) → Type 0
Tells read says = (fault : StreamFault) → (read ≡ Err fault) ↔ says fault

-- a value is no fault
right : {A B : Type 0} (value : A) (told : B) → Tells (Ok value) (NoneLeft told)
right value told fault = ((λ e. absurd cc), λ none. absurd none)

no_fault : {A : Type 0} (value : A) (fault : StreamFault) → Ok value ≡ Err fault → ⊥
no_fault value fault e = cc

-- a field, and those after it
behind : {A B : Type 0} (field : Result A StreamFault) (others : A → Result B StreamFault) (says : A → StreamFault → Type 0) → ((value : A) → Tells (others value) (says value)) → Tells (field >>= others) (FirstOf field says)
behind {A} (Ok value) others says each fault = (
  λ e. inr (value, refl, (each value fault).0 e),
  λ told. elim told [
    | inl e ↦ absurd cc
    | inr found ↦ (each value fault).1 (subst (λ (v : A). says v fault) (sym (ok_is value found.0 found.1)) found.2)
  ],
)
behind (Err other) others says each fault = (λ e. inl cc, λ told. elim told [ inl e ↦ cc | inr found ↦ absurd cc ])

-- what is made of a value changes no fault
made_of : {A B : Type 0} (read : Result A StreamFault) (says : StreamFault → Type 0) (make : A → B) → Tells read says → Tells (read >>= λ value. Ok (make value)) says
made_of (Ok value) says make tells fault = (λ e. absurd cc, λ told. absurd (no_fault value fault ((tells fault).1 told)))
made_of (Err other) says make tells fault = (λ e. (tells fault).0 cc, λ told. cc ((tells fault).1 told))

-- nothing is left over
at_end_tells : {A : Type 0} (value : A) (bytes : List ℕ) → Tells (at_end value bytes) (FirstOf (ended bytes) NoneLeft)
at_end_tells value [] fault = (λ e. absurd cc, λ told. elim told [ inl e ↦ absurd cc | inr found ↦ absurd found.2 ])
at_end_tells value (byte ∷ rest) fault = (λ e. inl cc, λ told. elim told [ inl e ↦ cc | inr found ↦ absurd found.2 ])

-- one of two ways to go on
either : {A : Type 0} (b : Bool) (one other : Result A StreamFault) (says otherwise : StreamFault → Type 0) → Tells one says → Tells other otherwise → Tells (if b then one else other) (λ fault. MatchBool b (says fault) (otherwise fault))
either true one other says otherwise first second fault = first fault
either false one other says otherwise first second fault = second fault

publish_tells : (flags : PublishFlags) (body : List ℕ) → Tells (publish_body_at flags body) (PublishFault flags body)
unfolding publish_body_at
publish_tells flags body =
    behind (text_at body) _ _ (λ topic. behind (delivery_at flags.qos topic.1) _ _ (λ identifier. behind (properties_at sections.Publish identifier.1) _ _ (λ all. right _ all)))

puback_tells : (body : List ℕ) → Tells (puback_at body) (PubackFault body)
unfolding puback_at
puback_tells body = behind (identifier_at body) _ _ (λ identifier. behind (reason_at sections.Puback identifier.1) _ _ (λ reason. right _ reason))

subscribe_tells : (body : List ℕ) → Tells (subscribe_at body) (SubscribeFault body)
unfolding subscribe_at
subscribe_tells body =
    behind (identifier_at body) _ _ (λ identifier. behind (properties_at sections.Subscribe identifier.1) _ _ (λ all. behind (entries_at subscription_at all.1) _ _ (λ entries. right _ entries)))

unsubscribe_tells : (body : List ℕ) → Tells (unsubscribe_at body) (UnsubscribeFault body)
unfolding unsubscribe_at
unsubscribe_tells body =
    behind (identifier_at body) _ _ (λ identifier. behind (properties_at sections.Unsubscribe identifier.1) _ _ (λ all. behind (entries_at text_at all.1) _ _ (λ entries. right _ entries)))

disconnect_tells : (body : List ℕ) → Tells (disconnect_at body) (FirstOf (reason_at sections.Disconnect body) NoneLeft)
unfolding disconnect_at
disconnect_tells body = behind (reason_at sections.Disconnect body) _ _ (λ reason. right _ reason)

payload_tells : (flags : ℕ) (payload : List ℕ) → Tells (connect_payload_at flags payload) (PayloadFault flags payload)
unfolding connect_payload_at
payload_tells flags payload =
    behind (text_at payload) _ _ (λ client. behind (field_if (flags / 128 % 2 == 1) text_at client.1) _ _ (λ user. behind (field_if (flags / 64 % 2 == 1) binary_at user.1) _ _ (λ password. at_end_tells _ password.1)))

fields_tell : (flags : ℕ) (bytes : List ℕ) → Tells (connect_fields_at flags bytes) (FirstOf (u16_at bytes) (λ keep_alive. FirstOf (properties_at sections.Connect keep_alive.1) (λ properties. FirstOf (connect_of properties.0) (λ method. PayloadFault flags properties.1))))
unfolding connect_fields_at
fields_tell flags bytes =
    behind (u16_at bytes) _ _ (λ keep_alive. behind (properties_at sections.Connect keep_alive.1) _ _ (λ all. behind (connect_of all.0) _ _ (λ properties.
    made_of (connect_payload_at flags all.1) (PayloadFault flags all.1) _ (payload_tells flags all.1))))

connect_5_tells : (body : List ℕ) → Tells (connect_5_at body) (Connect5Fault body)
unfolding connect_5_at
connect_5_tells body =
    behind (byte_at body) _ _ (λ flags. behind (expect (are_connect_flags flags.0)) _ _ (λ lawful.
    either (has_will flags.0) (Ok packets.WithWill) _ (λ fault. ⊥) _ (right packets.WithWill flags) (made_of (connect_fields_at flags.0 flags.1) _ (λ (p : ConnectPacket). packets.Connect p) (fields_tell flags.0 flags.1))))

connect_tells : (body : List ℕ) → Tells (connect_at body) (ConnectFault body)
unfolding connect_at
connect_tells body =
    behind (text_at body) _ _ (λ name. behind (byte_at name.1) _ _ (λ version.
    either (is_mqtt_5 name.0 version.0) (connect_5_at version.1) _ (Connect5Fault version.1) (λ fault. ⊥) (connect_5_tells version.1) (right (packets.OtherVersion version.0) name)))

pub body_tells : (kind : Kind) (body : List ℕ) (fault : StreamFault) → (body_at kind body ≡ Err fault) ↔ BodyFault kind body fault
unfolding body_at
body_tells Connect body fault = connect_tells body fault
body_tells (Publish flags) body fault = made_of (publish_body_at flags body) _ (λ p. packets.Publish p) (publish_tells flags body) fault
body_tells Puback body fault = made_of (puback_at body) _ (λ p. packets.Puback p) (puback_tells body) fault
body_tells Subscribe body fault = made_of (subscribe_at body) _ (λ p. packets.Subscribe p) (subscribe_tells body) fault
body_tells Unsubscribe body fault = made_of (unsubscribe_at body) _ (λ p. packets.Unsubscribe p) (unsubscribe_tells body) fault
body_tells Pingreq body fault = at_end_tells packets.Pingreq body fault
body_tells Disconnect body fault = made_of (disconnect_at body) _ (λ p. packets.Disconnect p) (disconnect_tells body) fault
body_tells (Foreign kind) body fault = right (packets.Foreign kind) kind fault
