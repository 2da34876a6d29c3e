-- A property's value: what is read is spelled so, and what is spelled so is read.
use Rattle.std.proofs.Common.{◌≡◌, ℕ, ◌<◌, List, ◌++◌, length, Ok, refl, ap, subst, ◌∙◌, append_assoc, arith}
use Rattle.mqtt_fields.specs.declared.property.PropertyName.{PropertyName}
use Rattle.mqtt_fields.specs.declared.property.PropertyName.TheVariants as names
use Rattle.mqtt_fields.specs.declared.property.Property.{Property}
use Rattle.mqtt_fields.specs.declared.property.Property.TheVariants.{PayloadFormatIndicator, MessageExpiryInterval, ContentType, ResponseTopic, CorrelationData, SubscriptionIdentifier, SessionExpiryInterval, AuthenticationMethod, AuthenticationData, RequestProblemInformation, RequestResponseInformation, ReasonString, ReceiveMaximum, TopicAliasMaximum, TopicAlias, UserProperty, MaximumPacketSize}
use Rattle.mqtt_packet.specs.declared.user_properties.UserProperty.{UserProperty as Pair}
use Rattle.mqtt_fields.specs.Forms.{u16_bytes, u32_bytes, utf8_string, variable_byte_integer, AreBytes}
use Rattle.mqtt_fields.specs.Fields.{Field, byte_at, u16_at, u32_at, binary_at, text_at, not_zero, flag_at, variable_field_at}
use Rattle.mqtt_fields.specs.Properties.{name_of}
use Rattle.mqtt_fields.specs.Sections.{pair_at, pair_bytes, IsPair, as_property, value_at, value_bytes, IsProperty}
use Rattle.mqtt_fields.proofs.Steps.{bind_ok, ok_is, Front, Front-then}
use Rattle.mqtt_fields.proofs.Variable.{variable_shorter}
use Rattle.mqtt_fields.proofs.FieldLaws.{byte_shorter, u16_shorter, u32_shorter, flag_shorter, not_zero_shorter, binary_shorter, text_shorter, byte_takes, u16_takes, u32_takes, flag_takes, not_zero_takes, variable_field_is, variable_field_takes, binary_takes, text_takes, byte_again, u16_again, u32_again, flag_again, not_zero_again, variable_field_again, binary_again, text_again}

-- ---- a pair of texts

pair_takes : (bytes : List ℕ) (x : Pair × List ℕ) → AreBytes bytes → pair_at bytes ≡ Ok x → Front bytes (pair_bytes x.0) x.1 × IsPair x.0
unfolding pair_at
pair_takes bytes x fits e =
    let name = bind_ok (text_at bytes) _ x e in
    let value = bind_ok (text_at name.0.1) _ x name.2 in
    let t = text_takes bytes name.0 fits name.1 in
    let u = text_takes name.0.1 value.0 t.0.rest_fits value.1 in
    let made : Pair × List ℕ = (record { name = name.0.0; value = value.0.0 }, value.0.1) in
    subst (λ (y : Pair × List ℕ). Front bytes (pair_bytes y.0) y.1 × IsPair y.0) (ok_is made x value.2)
    (Front-then bytes (utf8_string name.0.0) name.0.1 (utf8_string value.0.0) value.0.1 t.0 u.0, (t.1, u.1))

pair_again : (pair : Pair) (rest : List ℕ) → IsPair pair → pair_at (pair_bytes pair ++ rest) ≡ Ok (pair, rest)
unfolding pair_at
pair_again pair rest is =
    let grouped : pair_bytes pair ++ rest ≡ utf8_string pair.name ++ (utf8_string pair.value ++ rest) = append_assoc (utf8_string pair.name) (utf8_string pair.value) rest in
    let first : text_at (pair_bytes pair ++ rest) ≡ Ok (pair.name, utf8_string pair.value ++ rest) = ap text_at grouped ∙ text_again pair.name (utf8_string pair.value ++ rest) is.0 in
    rw (first, text_again pair.value rest is.1) refl

pair_shorter : (bytes : List ℕ) (x : Pair × List ℕ) → pair_at bytes ≡ Ok x → length x.1 < length bytes
unfolding pair_at
pair_shorter bytes x e =
    let name = bind_ok (text_at bytes) _ x e in
    let value = bind_ok (text_at name.0.1) _ x name.2 in
    let made : Pair × List ℕ = (record { name = name.0.0; value = value.0.0 }, value.0.1) in
    subst (λ (y : Pair × List ℕ). length y.1 < length bytes) (ok_is made x value.2)
    (omega (arith, text_shorter bytes name.0 name.1, text_shorter name.0.1 value.0 value.1))

variable_field_shorter : (bytes : List ℕ) (x : ℕ × List ℕ) → variable_field_at bytes ≡ Ok x → length x.1 < length bytes
variable_field_shorter bytes x e = variable_shorter 3 bytes x (variable_field_is bytes x e)

-- ---- any value

-- what holds of a field's value holds of the property that is made of it
made : {A : Type 0} (read : Field A) (make : A → Property) (P : Property → List ℕ → Type 0) → ((y : A × List ℕ) → read ≡ Ok y → P (make y.0) y.1) → (x : Property × List ℕ) → as_property make read ≡ Ok x → P x.0 x.1
made read make P holds x e =
    let value = bind_ok read _ x e in
    subst (λ (y : Property × List ℕ). P y.0 y.1) (ok_is (make value.0.0, value.0.1) x value.2) (holds value.0 value.1)

-- a value in front of the rest, of a property of that name
abbrev pub Is : List ℕ → PropertyName → Property → List ℕ → Type 0
Is bytes name property rest = Front bytes (value_bytes property) rest × IsProperty property × (name_of property ≡ name)

pub value_takes : (name : PropertyName) (bytes : List ℕ) (x : Property × List ℕ) → AreBytes bytes → value_at name bytes ≡ Ok x → Is bytes name x.0 x.1
unfolding value_at
value_takes names.PayloadFormatIndicator bytes x fits e = made (byte_at bytes) PayloadFormatIndicator (Is bytes names.PayloadFormatIndicator) (λ y f. (byte_takes bytes y fits f, tt, refl)) x e
value_takes names.MessageExpiryInterval bytes x fits e = made (u32_at bytes) MessageExpiryInterval (Is bytes names.MessageExpiryInterval) (λ y f. let t = (u32_takes bytes y fits f) in (t.0, t.1, refl)) x e
value_takes names.ContentType bytes x fits e = made (text_at bytes) ContentType (Is bytes names.ContentType) (λ y f. let t = (text_takes bytes y fits f) in (t.0, t.1, refl)) x e
value_takes names.ResponseTopic bytes x fits e = made (text_at bytes) ResponseTopic (Is bytes names.ResponseTopic) (λ y f. let t = (text_takes bytes y fits f) in (t.0, t.1, refl)) x e
value_takes names.CorrelationData bytes x fits e = made (binary_at bytes) CorrelationData (Is bytes names.CorrelationData) (λ y f. let t = (binary_takes bytes y fits f) in (t.0, t.1, refl)) x e
value_takes names.SubscriptionIdentifier bytes x fits e = made (not_zero (variable_field_at bytes)) SubscriptionIdentifier (Is bytes names.SubscriptionIdentifier) (λ y f. let t = (not_zero_takes bytes (variable_field_at bytes) variable_byte_integer 268435456 (λ z g. variable_field_takes bytes z fits g) y f) in (t.0, t.1, refl)) x e
value_takes names.SessionExpiryInterval bytes x fits e = made (u32_at bytes) SessionExpiryInterval (Is bytes names.SessionExpiryInterval) (λ y f. let t = (u32_takes bytes y fits f) in (t.0, t.1, refl)) x e
value_takes names.AuthenticationMethod bytes x fits e = made (text_at bytes) AuthenticationMethod (Is bytes names.AuthenticationMethod) (λ y f. let t = (text_takes bytes y fits f) in (t.0, t.1, refl)) x e
value_takes names.AuthenticationData bytes x fits e = made (binary_at bytes) AuthenticationData (Is bytes names.AuthenticationData) (λ y f. let t = (binary_takes bytes y fits f) in (t.0, t.1, refl)) x e
value_takes names.RequestProblemInformation bytes x fits e = made (flag_at bytes) RequestProblemInformation (Is bytes names.RequestProblemInformation) (λ y f. (flag_takes bytes y fits f, tt, refl)) x e
value_takes names.RequestResponseInformation bytes x fits e = made (flag_at bytes) RequestResponseInformation (Is bytes names.RequestResponseInformation) (λ y f. (flag_takes bytes y fits f, tt, refl)) x e
value_takes names.ReasonString bytes x fits e = made (text_at bytes) ReasonString (Is bytes names.ReasonString) (λ y f. let t = (text_takes bytes y fits f) in (t.0, t.1, refl)) x e
value_takes names.ReceiveMaximum bytes x fits e = made (not_zero (u16_at bytes)) ReceiveMaximum (Is bytes names.ReceiveMaximum) (λ y f. let t = (not_zero_takes bytes (u16_at bytes) u16_bytes 65536 (λ z g. u16_takes bytes z fits g) y f) in (t.0, t.1, refl)) x e
value_takes names.TopicAliasMaximum bytes x fits e = made (u16_at bytes) TopicAliasMaximum (Is bytes names.TopicAliasMaximum) (λ y f. let t = (u16_takes bytes y fits f) in (t.0, t.1, refl)) x e
value_takes names.TopicAlias bytes x fits e = made (u16_at bytes) TopicAlias (Is bytes names.TopicAlias) (λ y f. let t = (u16_takes bytes y fits f) in (t.0, t.1, refl)) x e
value_takes names.UserProperty bytes x fits e = made (pair_at bytes) UserProperty (Is bytes names.UserProperty) (λ y f. let t = (pair_takes bytes y fits f) in (t.0, t.1, refl)) x e
value_takes names.MaximumPacketSize bytes x fits e = made (not_zero (u32_at bytes)) MaximumPacketSize (Is bytes names.MaximumPacketSize) (λ y f. let t = (not_zero_takes bytes (u32_at bytes) u32_bytes 4294967296 (λ z g. u32_takes bytes z fits g) y f) in (t.0, t.1, refl)) x e

pub value_again : (property : Property) (rest : List ℕ) → IsProperty property → value_at (name_of property) (value_bytes property ++ rest) ≡ Ok (property, rest)
unfolding value_at
value_again (PayloadFormatIndicator v) rest is = rw (byte_again v rest) refl
value_again (MessageExpiryInterval v) rest is = rw (u32_again v rest) refl
value_again (ContentType v) rest is = rw (text_again v rest is) refl
value_again (ResponseTopic v) rest is = rw (text_again v rest is) refl
value_again (CorrelationData v) rest is = rw (binary_again v rest) refl
value_again (SubscriptionIdentifier v) rest is = rw (not_zero_again (variable_field_at (variable_byte_integer v ++ rest)) v rest (variable_field_again v rest is.1) is.0) refl
value_again (SessionExpiryInterval v) rest is = rw (u32_again v rest) refl
value_again (AuthenticationMethod v) rest is = rw (text_again v rest is) refl
value_again (AuthenticationData v) rest is = rw (binary_again v rest) refl
value_again (RequestProblemInformation v) rest is = rw (flag_again v rest) refl
value_again (RequestResponseInformation v) rest is = rw (flag_again v rest) refl
value_again (ReasonString v) rest is = rw (text_again v rest is) refl
value_again (ReceiveMaximum v) rest is = rw (not_zero_again (u16_at (u16_bytes v ++ rest)) v rest (u16_again v rest) is.0) refl
value_again (TopicAliasMaximum v) rest is = rw (u16_again v rest) refl
value_again (TopicAlias v) rest is = rw (u16_again v rest) refl
value_again (UserProperty v) rest is = rw (pair_again v rest is) refl
value_again (MaximumPacketSize v) rest is = rw (not_zero_again (u32_at (u32_bytes v ++ rest)) v rest (u32_again v rest) is.0) refl

pub value_shorter : (name : PropertyName) (bytes : List ℕ) (x : Property × List ℕ) → value_at name bytes ≡ Ok x → length x.1 < length bytes
unfolding value_at
value_shorter names.PayloadFormatIndicator bytes x e = made (byte_at bytes) PayloadFormatIndicator (λ (p : Property) (rest : List ℕ). length rest < length bytes) (λ y f. (omega (arith, byte_shorter bytes y f))) x e
value_shorter names.MessageExpiryInterval bytes x e = made (u32_at bytes) MessageExpiryInterval (λ (p : Property) (rest : List ℕ). length rest < length bytes) (λ y f. (u32_shorter bytes y f)) x e
value_shorter names.ContentType bytes x e = made (text_at bytes) ContentType (λ (p : Property) (rest : List ℕ). length rest < length bytes) (λ y f. (text_shorter bytes y f)) x e
value_shorter names.ResponseTopic bytes x e = made (text_at bytes) ResponseTopic (λ (p : Property) (rest : List ℕ). length rest < length bytes) (λ y f. (text_shorter bytes y f)) x e
value_shorter names.CorrelationData bytes x e = made (binary_at bytes) CorrelationData (λ (p : Property) (rest : List ℕ). length rest < length bytes) (λ y f. (binary_shorter bytes y f)) x e
value_shorter names.SubscriptionIdentifier bytes x e = made (not_zero (variable_field_at bytes)) SubscriptionIdentifier (λ (p : Property) (rest : List ℕ). length rest < length bytes) (λ y f. (not_zero_shorter bytes (variable_field_at bytes) (variable_field_shorter bytes) y f)) x e
value_shorter names.SessionExpiryInterval bytes x e = made (u32_at bytes) SessionExpiryInterval (λ (p : Property) (rest : List ℕ). length rest < length bytes) (λ y f. (u32_shorter bytes y f)) x e
value_shorter names.AuthenticationMethod bytes x e = made (text_at bytes) AuthenticationMethod (λ (p : Property) (rest : List ℕ). length rest < length bytes) (λ y f. (text_shorter bytes y f)) x e
value_shorter names.AuthenticationData bytes x e = made (binary_at bytes) AuthenticationData (λ (p : Property) (rest : List ℕ). length rest < length bytes) (λ y f. (binary_shorter bytes y f)) x e
value_shorter names.RequestProblemInformation bytes x e = made (flag_at bytes) RequestProblemInformation (λ (p : Property) (rest : List ℕ). length rest < length bytes) (λ y f. (flag_shorter bytes y f)) x e
value_shorter names.RequestResponseInformation bytes x e = made (flag_at bytes) RequestResponseInformation (λ (p : Property) (rest : List ℕ). length rest < length bytes) (λ y f. (flag_shorter bytes y f)) x e
value_shorter names.ReasonString bytes x e = made (text_at bytes) ReasonString (λ (p : Property) (rest : List ℕ). length rest < length bytes) (λ y f. (text_shorter bytes y f)) x e
value_shorter names.ReceiveMaximum bytes x e = made (not_zero (u16_at bytes)) ReceiveMaximum (λ (p : Property) (rest : List ℕ). length rest < length bytes) (λ y f. (not_zero_shorter bytes (u16_at bytes) (λ z g. omega (arith, u16_shorter bytes z g)) y f)) x e
value_shorter names.TopicAliasMaximum bytes x e = made (u16_at bytes) TopicAliasMaximum (λ (p : Property) (rest : List ℕ). length rest < length bytes) (λ y f. (omega (arith, u16_shorter bytes y f))) x e
value_shorter names.TopicAlias bytes x e = made (u16_at bytes) TopicAlias (λ (p : Property) (rest : List ℕ). length rest < length bytes) (λ y f. (omega (arith, u16_shorter bytes y f))) x e
value_shorter names.UserProperty bytes x e = made (pair_at bytes) UserProperty (λ (p : Property) (rest : List ℕ). length rest < length bytes) (λ y f. (pair_shorter bytes y f)) x e
value_shorter names.MaximumPacketSize bytes x e = made (not_zero (u32_at bytes)) MaximumPacketSize (λ (p : Property) (rest : List ℕ). length rest < length bytes) (λ y f. (not_zero_shorter bytes (u32_at bytes) (u32_shorter bytes) y f)) x e
