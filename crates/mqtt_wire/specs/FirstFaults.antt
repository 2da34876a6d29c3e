-- Which fault of a body counts: the first in the order of its fields (section 4.13 and chapter 3).
use Rattle.std.specs.Prelude.{◌≡◌, ℕ, ◌/◌, ◌%◌, ◌==◌, ◌⊎◌, List, Result, Ok, Err, MatchBool}
use Rattle.mqtt_fields.specs.declared.fault.StreamFault.{StreamFault}
use Rattle.mqtt_fields.specs.declared.property.Section.TheVariants as sections
use Rattle.mqtt_wire.specs.declared.kind.PublishFlags.{PublishFlags}
use Rattle.mqtt_wire.specs.declared.kind.Kind.{Kind}
use Rattle.mqtt_wire.specs.declared.kind.Kind.TheVariants.{Connect, Publish, Puback, Subscribe, Unsubscribe, Pingreq, Disconnect, Foreign}
use Rattle.mqtt_fields.specs.Fields.{byte_at, u16_at, binary_at, text_at, identifier_at, field_if, at_end}
use Rattle.mqtt_wire.specs.Protocol.{is_mqtt_5, are_connect_flags, has_will}
use Rattle.mqtt_fields.specs.Sections.{properties_at}
use Rattle.mqtt_fields.specs.PropertyLists.{connect_of}
use Rattle.mqtt_wire.specs.ConnectBody.{expect}
use Rattle.mqtt_wire.specs.Bodies.{delivery_at, reason_at, subscription_at, entries_at}

-- a field is at fault; or it is right, and one of the others is, which stand behind it
abbrev pub FirstOf : {A : Type 0} → Result A StreamFault → (A → StreamFault → Type 0) → StreamFault → Type 0
FirstOf {A} field others fault = (field ≡ Err fault) ⊎ ((value : A) × (field ≡ Ok value) × others value fault)

-- no field is left
abbrev pub NoneLeft : {A : Type 0} → A → StreamFault → Type 0
NoneLeft value fault = ⊥

-- nothing is left over after the last field
abbrev pub ended : List ℕ → Result (Unit {0}) StreamFault
ended bytes = at_end tt bytes

-- 3.3: the topic, the identifier, the properties
abbrev pub PublishFault : PublishFlags → List ℕ → StreamFault → Type 0
PublishFault flags body =
    FirstOf (text_at body) (λ topic. FirstOf (delivery_at flags.qos topic.1) (λ identifier. FirstOf (properties_at sections.Publish identifier.1) NoneLeft))

-- 3.4: the identifier, the Reason Code with its properties
abbrev pub PubackFault : List ℕ → StreamFault → Type 0
PubackFault body = FirstOf (identifier_at body) (λ identifier. FirstOf (reason_at sections.Puback identifier.1) NoneLeft)

-- 3.8: the identifier, the properties, the entries in their order
abbrev pub SubscribeFault : List ℕ → StreamFault → Type 0
SubscribeFault body =
    FirstOf (identifier_at body) (λ identifier. FirstOf (properties_at sections.Subscribe identifier.1) (λ properties. FirstOf (entries_at subscription_at properties.1) NoneLeft))

-- 3.10: the identifier, the properties, the filters in their order
abbrev pub UnsubscribeFault : List ℕ → StreamFault → Type 0
UnsubscribeFault body =
    FirstOf (identifier_at body) (λ identifier. FirstOf (properties_at sections.Unsubscribe identifier.1) (λ properties. FirstOf (entries_at text_at properties.1) NoneLeft))

-- 3.1.3: the client identifier, the user name, the password, and that nothing stands behind them
abbrev pub PayloadFault : ℕ → List ℕ → StreamFault → Type 0
PayloadFault flags payload =
    FirstOf (text_at payload) (λ client. FirstOf (field_if (flags / 128 % 2 == 1) text_at client.1)
    (λ user. FirstOf (field_if (flags / 64 % 2 == 1) binary_at user.1) (λ password. FirstOf (ended password.1) NoneLeft)))

-- 3.1.2.3 to 3.1.3: the flags, and without a will the Keep Alive, the properties, that authentication data has its method, and
-- the payload
abbrev pub Connect5Fault : List ℕ → StreamFault → Type 0
Connect5Fault body =
    FirstOf (byte_at body) (λ flags. FirstOf (expect (are_connect_flags flags.0)) (λ lawful fault. MatchBool (has_will flags.0) ⊥
    (FirstOf (u16_at flags.1) (λ keep_alive. FirstOf (properties_at sections.Connect keep_alive.1) (λ properties. FirstOf (connect_of properties.0)
    (λ method. PayloadFault flags.0 properties.1))) fault)))

-- 3.1: the protocol name and its version, and what stands behind them where they are those of MQTT 5.0
abbrev pub ConnectFault : List ℕ → StreamFault → Type 0
ConnectFault body =
    FirstOf (text_at body) (λ name. FirstOf (byte_at name.1) (λ version fault. MatchBool (is_mqtt_5 name.0 version.0) (Connect5Fault version.1 fault) ⊥))

-- the fault of a body of that kind
abbrev pub BodyFault : Kind → List ℕ → StreamFault → Type 0
BodyFault Connect body = ConnectFault body
BodyFault (Publish flags) body = PublishFault flags body
BodyFault Puback body = PubackFault body
BodyFault Subscribe body = SubscribeFault body
BodyFault Unsubscribe body = UnsubscribeFault body
BodyFault Pingreq body = FirstOf (ended body) NoneLeft
BodyFault Disconnect body = FirstOf (reason_at sections.Disconnect body) NoneLeft
BodyFault (Foreign kind) body = NoneLeft kind
