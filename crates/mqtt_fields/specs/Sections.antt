-- A section of properties as bytes (section 2.2.2): how it is read, and which bytes spell it.
use Rattle.std.specs.Prelude.{◌≡◌, ℕ, zero, suc, ◌<◌, ◌^◌, nat_lt, ◌||◌, IsTrue, if◌then◌else◌, List, [], ◌∷◌, ◌++◌, length, take, drop, Option, Some, None, Result, Ok, Err}
use Rattle.std.specs.List.{flat_map}
use Rattle.mqtt_fields.specs.declared.fault.StreamFault.{StreamFault}
use Rattle.mqtt_fields.specs.declared.fault.StreamFault.TheVariants.{Malformed, Protocol}
use Rattle.mqtt_fields.specs.declared.property.Section.{Section}
use Rattle.mqtt_fields.specs.declared.property.PropertyName.{PropertyName}
use Rattle.mqtt_fields.specs.declared.property.PropertyName.TheVariants as names
use Rattle.mqtt_fields.specs.declared.property.Property.{Property}
use Rattle.mqtt_fields.specs.declared.property.Property.TheVariants.{PayloadFormatIndicator, MessageExpiryInterval, ContentType, ResponseTopic, CorrelationData, SubscriptionIdentifier, SessionExpiryInterval, AuthenticationMethod, AuthenticationData, RequestProblemInformation, RequestResponseInformation, ReasonString, ReceiveMaximum, TopicAliasMaximum, TopicAlias, UserProperty, MaximumPacketSize}
use Rattle.mqtt_fields.specs.declared.properties.Properties.{Properties}
use Rattle.mqtt_packet.specs.declared.user_properties.UserProperty.{UserProperty as Pair}
use Rattle.mqtt_fields.specs.Faults.{◌>>=◌}
use Rattle.mqtt_packet.specs.Texts.{IsText, IsBinary}
use Rattle.mqtt_fields.specs.Forms.{u16_bytes, u32_bytes, variable_byte_integer, binary_data, utf8_string, bit}
use Rattle.mqtt_fields.specs.Fields.{Field, byte_at, u16_at, u32_at, binary_at, text_at, not_zero, flag_at, variable_field_at}
use Rattle.mqtt_fields.specs.Properties.{identifier_of, name_in, name_of, is_forbidden, is_there, may_come, nothing, with_property}

-- 1.5.7 UTF-8 String Pair
unfoldable pub pair_at : List ℕ → Field Pair
pair_at bytes = do
  name ← text_at bytes
  value ← text_at name.1
  Ok (record { name = name.0; value = value.0 }, value.1)

abbrev pub pair_bytes : Pair → List ℕ
pair_bytes pair = utf8_string pair.name ++ utf8_string pair.value

abbrev pub IsPair : Pair → Type 0
IsPair pair = IsText pair.name × IsText pair.value

-- table 2-4: the value of each property, read ..
abbrev pub as_property : {A : Type 0} → (A → Property) → Field A → Field Property
as_property make field = field >>= λ value. Ok (make value.0, value.1)

unfoldable pub value_at : PropertyName → List ℕ → Field Property
value_at names.PayloadFormatIndicator bytes = as_property PayloadFormatIndicator (byte_at bytes)
value_at names.MessageExpiryInterval bytes = as_property MessageExpiryInterval (u32_at bytes)
value_at names.ContentType bytes = as_property ContentType (text_at bytes)
value_at names.ResponseTopic bytes = as_property ResponseTopic (text_at bytes)
value_at names.CorrelationData bytes = as_property CorrelationData (binary_at bytes)
value_at names.SubscriptionIdentifier bytes = as_property SubscriptionIdentifier (not_zero (variable_field_at bytes))
value_at names.SessionExpiryInterval bytes = as_property SessionExpiryInterval (u32_at bytes)
value_at names.AuthenticationMethod bytes = as_property AuthenticationMethod (text_at bytes)
value_at names.AuthenticationData bytes = as_property AuthenticationData (binary_at bytes)
value_at names.RequestProblemInformation bytes = as_property RequestProblemInformation (flag_at bytes)
value_at names.RequestResponseInformation bytes = as_property RequestResponseInformation (flag_at bytes)
value_at names.ReasonString bytes = as_property ReasonString (text_at bytes)
value_at names.ReceiveMaximum bytes = as_property ReceiveMaximum (not_zero (u16_at bytes))
value_at names.TopicAliasMaximum bytes = as_property TopicAliasMaximum (u16_at bytes)
value_at names.TopicAlias bytes = as_property TopicAlias (u16_at bytes)
value_at names.UserProperty bytes = as_property UserProperty (pair_at bytes)
value_at names.MaximumPacketSize bytes = as_property MaximumPacketSize (not_zero (u32_at bytes))

-- .. and spelled
abbrev pub value_bytes : Property → List ℕ
value_bytes (PayloadFormatIndicator n) = n ∷ []
value_bytes (MessageExpiryInterval n) = u32_bytes n
value_bytes (ContentType text) = utf8_string text
value_bytes (ResponseTopic text) = utf8_string text
value_bytes (CorrelationData bytes) = binary_data bytes
value_bytes (SubscriptionIdentifier n) = variable_byte_integer n
value_bytes (SessionExpiryInterval n) = u32_bytes n
value_bytes (AuthenticationMethod text) = utf8_string text
value_bytes (AuthenticationData bytes) = binary_data bytes
value_bytes (RequestProblemInformation flag) = bit flag ∷ []
value_bytes (RequestResponseInformation flag) = bit flag ∷ []
value_bytes (ReasonString text) = utf8_string text
value_bytes (ReceiveMaximum n) = u16_bytes n
value_bytes (TopicAliasMaximum n) = u16_bytes n
value_bytes (TopicAlias n) = u16_bytes n
value_bytes (UserProperty pair) = pair_bytes pair
value_bytes (MaximumPacketSize n) = u32_bytes n

-- its identifier and its value
abbrev pub property_bytes : Property → List ℕ
property_bytes property = identifier_of (name_of property) ∷ value_bytes property

-- its value is in the range of its type
abbrev pub IsProperty : Property → Type 0
IsProperty (PayloadFormatIndicator n) = Unit {0}
IsProperty (MessageExpiryInterval n) = n < 2 ^ 32
IsProperty (ContentType text) = IsText text
IsProperty (ResponseTopic text) = IsText text
IsProperty (CorrelationData bytes) = IsBinary bytes
IsProperty (SubscriptionIdentifier n) = (0 < n) × (n < 2 ^ 28)
IsProperty (SessionExpiryInterval n) = n < 2 ^ 32
IsProperty (AuthenticationMethod text) = IsText text
IsProperty (AuthenticationData bytes) = IsBinary bytes
IsProperty (RequestProblemInformation flag) = Unit {0}
IsProperty (RequestResponseInformation flag) = Unit {0}
IsProperty (ReasonString text) = IsText text
IsProperty (ReceiveMaximum n) = (0 < n) × (n < 2 ^ 16)
IsProperty (TopicAliasMaximum n) = n < 2 ^ 16
IsProperty (TopicAlias n) = n < 2 ^ 16
IsProperty (UserProperty pair) = IsPair pair
IsProperty (MaximumPacketSize n) = (0 < n) × (n < 2 ^ 32)

-- an identifier that the section does not have is malformed; a second of its kind, or a forbidden one, is a protocol error
abbrev pub admitted : Section → Properties → Option PropertyName → Result PropertyName StreamFault
admitted section so_far None = Err Malformed
admitted section so_far (Some name) = if is_forbidden section name || is_there name so_far then Err Protocol else Ok name

-- one property, after those that are there
unfoldable pub property_at : Section → Properties → List ℕ → Field Property
property_at section so_far bytes = do
  identifier ← byte_at bytes
  name ← admitted section so_far (name_in section identifier.0)
  value_at name identifier.1

-- properties up to the end of the bytes; the number is at least that of the bytes, and bounds the recursion
unfoldable pub gathered_at : Section → Properties → ℕ → List ℕ → Result Properties StreamFault
gathered_at section so_far most [] = Ok so_far
gathered_at section so_far zero (byte ∷ bytes) = Err Malformed
gathered_at section so_far (suc most) (byte ∷ bytes) = do
  property ← property_at section so_far (byte ∷ bytes)
  gathered_at section (with_property property.0 so_far) most property.1

-- 2.2.2: the length of all properties, and they themselves
unfoldable pub properties_at : Section → List ℕ → Field Properties
properties_at section bytes = do
  size ← variable_field_at bytes
  if nat_lt (length size.1) size.0 then Err Malformed
      else (gathered_at section nothing (length (take size.0 size.1)) (take size.0 size.1) >>= λ all. Ok (all, drop size.0 size.1))

-- each of the properties may come after those before it, and together they are these
abbrev pub AddUp : Section → Properties → List Property → Properties → Type 0
AddUp section so_far [] all = so_far ≡ all
AddUp section so_far (property ∷ others) all =
    IsTrue (may_come section so_far (name_of property)) × IsProperty property × AddUp section (with_property property so_far) others all

-- 2.2.2 Properties as they are written: the length of all of them, and they themselves
abbrev pub properties : List ℕ → List ℕ
properties bytes = variable_byte_integer (length bytes) ++ bytes

-- the bytes are a section of these properties, in any order
abbrev pub SpellsProperties : Section → Properties → List ℕ → Type 0
SpellsProperties section all bytes = (list : List Property) × (bytes ≡ properties (flat_map property_bytes list)) × AddUp section nothing list all
