-- Which packets a client may send, and which values their fields may have (section 2.2): the types of `mqtt_packet` keep them so.
use Rattle.std.specs.Prelude.{◌≡◌, ◌<◌, ◌^◌, length, None, IfSome}
use Rattle.std.specs.List.{AllByRecursion}
use Rattle.mqtt_packet.specs.declared.packet.Delivery.{Delivery}
use Rattle.mqtt_packet.specs.declared.packet.Delivery.TheVariants.{AtMostOnce, AtLeastOnce, ExactlyOnce}
use Rattle.mqtt_packet.specs.declared.packet.Subscription.{Subscription}
use Rattle.mqtt_packet.specs.declared.packet.Packet.{Packet}
use Rattle.mqtt_packet.specs.declared.packet.Packet.TheVariants as packets
use Rattle.mqtt_packet.specs.Texts.{IsText, IsBinary}
use Rattle.mqtt_fields.specs.FieldRanges.{IsIdentifier, ConnectFits, PublishFits, PubackFits, SubscribeFits, UnsubscribeFits, DisconnectFits}

-- the identifier of a PUBLISH, where there is one, is one
abbrev pub IsDelivery : Delivery → Type 0
IsDelivery AtMostOnce = Unit {0}
IsDelivery (AtLeastOnce identifier) = IsIdentifier identifier
IsDelivery (ExactlyOnce identifier) = IsIdentifier identifier

abbrev pub IsFiltered : Subscription → Type 0
IsFiltered subscription = IsText subscription.filter

-- the packet is one that reading makes of a client's bytes, and its fields are in the range of their types; codes,
-- versions and payloads are bytes wherever the spelling is one of bytes. A client's PUBLISH has no Subscription Identifier (3.3.4)
abbrev pub IsFromClient : Packet → Type 0
IsFromClient (packets.Connect c) = IsText c.client_identifier × (c.keep_alive < 2 ^ 16) × IfSome c.user_name IsText × IfSome c.password IsBinary
IsFromClient (packets.Connack c) = ⊥
IsFromClient (packets.Publish p) = IsText p.topic × IsDelivery p.delivery × (p.subscription_identifier ≡ None)
IsFromClient (packets.Puback p) = IsIdentifier p.packet_identifier
IsFromClient (packets.Subscribe s) = IsIdentifier s.packet_identifier × (0 < length s.subscriptions) × AllByRecursion IsFiltered s.subscriptions
IsFromClient (packets.Suback s) = ⊥
IsFromClient (packets.Unsubscribe u) = IsIdentifier u.packet_identifier × (0 < length u.filters) × AllByRecursion IsText u.filters
IsFromClient (packets.Unsuback u) = ⊥
IsFromClient packets.Pingreq = Unit {0}
IsFromClient packets.Pingresp = ⊥
IsFromClient (packets.Disconnect d) = Unit {0}
IsFromClient (packets.Foreign kind) = Unit {0}
IsFromClient (packets.OtherVersion version) = Unit {0}
IsFromClient packets.WithWill = Unit {0}

-- its properties are in the range of their types too
abbrev pub PropertiesFit : Packet → Type 0
PropertiesFit (packets.Connect c) = ConnectFits c.properties
PropertiesFit (packets.Publish p) = PublishFits p
PropertiesFit (packets.Puback p) = PubackFits p.properties
PropertiesFit (packets.Subscribe s) = SubscribeFits s.properties
PropertiesFit (packets.Unsubscribe u) = UnsubscribeFits u.properties
PropertiesFit (packets.Disconnect d) = DisconnectFits d.properties
PropertiesFit _ = Unit {0}

-- a client sends packets of this kind, or they are what reading makes of one that it sent; a PUBLISH with a Subscription Identifier
-- only a server sends (3.3.4)
abbrev pub IsClientKind : Packet → Type 0
IsClientKind (packets.Connack c) = ⊥
IsClientKind (packets.Publish p) = p.subscription_identifier ≡ None
IsClientKind (packets.Suback s) = ⊥
IsClientKind (packets.Unsuback u) = ⊥
IsClientKind packets.Pingresp = ⊥
IsClientKind _ = Unit {0}
