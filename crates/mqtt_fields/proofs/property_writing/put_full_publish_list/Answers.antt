use Rattle.mqtt_fields.specs.Buffers.{Appends}
use Rattle.mqtt_fields.specs.declared.property.Property.TheVariants.{PayloadFormatIndicator, MessageExpiryInterval, ContentType, ResponseTopic, CorrelationData, SubscriptionIdentifier, TopicAlias}
use Rattle.mqtt_fields.specs.PropertyLists.{optional, user_bytes}
use Rattle.mqtt_fields.proofs.BufferLaws.{appends_both}
use Rattle.mqtt_fields.proofs.property_writing.put_full_publish_list.Goals as goal

pub returns-clause-appended : goal.returns-clause-appended
returns-clause-appended c =
    let p = c.args.publish.now in
    let q = c.args.properties.now in
    let end = c.put_user_properties.new.out in
    let users : Appends c.put_u16_if.new.out (user_bytes q.user_properties) end = rw (← c.as_slice.ensures) c.put_user_properties.ensures.appended in
    let alias = appends_both c.put_subscription_identifier.new.out c.put_u16_if.new.out end (optional TopicAlias q.topic_alias) _ c.put_u16_if.ensures.appended users in
    let identifier = appends_both c.put_binary_if.new.out c.put_subscription_identifier.new.out end (optional SubscriptionIdentifier p.subscription_identifier) _ c.put_subscription_identifier.ensures.appended alias in
    let correlation = appends_both c.put_text_if-2.new.out c.put_binary_if.new.out end (optional CorrelationData q.correlation_data) _ c.put_binary_if.ensures.appended identifier in
    let response = appends_both c.put_text_if.new.out c.put_text_if-2.new.out end (optional ResponseTopic q.response_topic) _ c.put_text_if-2.ensures.appended correlation in
    let content = appends_both c.put_u32_if.new.out c.put_text_if.new.out end (optional ContentType q.content_type) _ c.put_text_if.ensures.appended response in
    let expiry = appends_both c.put_byte_if.new.out c.put_u32_if.new.out end (optional MessageExpiryInterval p.message_expiry_interval) _ c.put_u32_if.ensures.appended content in
    rw (← c.requires.apart) (appends_both c.args.out.now c.put_byte_if.new.out end (optional PayloadFormatIndicator q.payload_format_indicator) _ c.put_byte_if.ensures expiry)
