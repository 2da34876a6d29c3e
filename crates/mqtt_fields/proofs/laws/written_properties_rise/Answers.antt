use Rattle.mqtt_fields.proofs.OrderLaws.{connect_rises, publish_rises, puback_rises, subscribe_rises, unsubscribe_rises, disconnect_rises}
use Rattle.mqtt_fields.proofs.laws.written_properties_rise.Goals as goal

pub returns : goal.returns
returns c = record { connect = connect_rises; publish = publish_rises; puback = puback_rises; subscribe = subscribe_rises; unsubscribe = unsubscribe_rises; disconnect = disconnect_rises }
