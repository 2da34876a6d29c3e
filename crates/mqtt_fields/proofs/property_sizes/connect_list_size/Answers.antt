use Rattle.std.proofs.Common.{◌≡◌, ◌+◌, length, arith}
use Rattle.std.specs.Prelude.{min}
use Rattle.mqtt_fields.specs.declared.property.Property.TheVariants.{MaximumPacketSize, ReceiveMaximum, RequestProblemInformation, RequestResponseInformation, SessionExpiryInterval, TopicAliasMaximum}
use Rattle.mqtt_fields.specs.PropertyLists.{optional, user_bytes, connect_list}
use Rattle.mqtt_fields.specs.Sizes.{greatest}
use Rattle.mqtt_fields.proofs.PropertySizeLaws.{saturated, connect_length}
use Rattle.mqtt_fields.proofs.property_sizes.connect_list_size.Goals as goal

pub returns : goal.returns
returns c =
    let p = c.args.properties.now in
    let expiry : c.u32_size.result ≡ length (optional SessionExpiryInterval p.session_expiry_interval) = c.u32_size.ensures.value 0x11 in
    let problem : c.flag_size.result ≡ length (optional RequestProblemInformation p.request_problem_information) = c.flag_size.ensures.value 0x17 in
    let response : c.flag_size-2.result ≡ length (optional RequestResponseInformation p.request_response_information) = c.flag_size-2.ensures.value 0x19 in
    let maximum : c.receive_maximum_size.result ≡ length (optional ReceiveMaximum p.receive_maximum) = c.receive_maximum_size.ensures.value in
    let aliases : c.u16_size.result ≡ length (optional TopicAliasMaximum p.topic_alias_maximum) = c.u16_size.ensures.value 0x22 in
    let size : c.maximum_packet_size_size.result ≡ length (optional MaximumPacketSize p.maximum_packet_size) = c.maximum_packet_size_size.ensures.value in
    let users : c.user_properties_size.result ≡ min (length (user_bytes p.user_properties)) greatest = rw (← c.as_slice.ensures) c.user_properties_size.ensures in
    saturated c.saturating_add.result c.user_properties_size.result (c.u32_size.result + c.flag_size.result + c.flag_size-2.result + c.receive_maximum_size.result + c.u16_size.result + c.maximum_packet_size_size.result + c.authentication_size-authentication.result) (length (user_bytes p.user_properties)) (length (connect_list p)) c.saturating_add.ensures users
    (omega (arith, connect_length p, expiry, problem, response, maximum, aliases, size, c.authentication_size-authentication.ensures.value))
