-- Whose messages a group accepts.
use Rattle.local_broker.specs.Broker.{Broker}
use Rattle.local_broker.specs.Publishers.{AcceptsThrough, AcceptsNothing, AllAddOnly}
use Rattle.local_server.specs.declared.event.ServerEvent.{ServerEvent}
use Rattle.local_server.specs.declared.event.ServerEvent.TheVariants as events

-- whatever a group accepts in an event of a connection, it accepts through the port of that connection's number; in a close it accepts nothing
abbrev pub AcceptsFrom : ServerEvent → Broker → Broker → Type 0
AcceptsFrom (events.Open number) old new = AllAddOnly (AcceptsThrough number) old new
AcceptsFrom (events.Bytes number piece) old new = AllAddOnly (AcceptsThrough number) old new
AcceptsFrom (events.Tick number) old new = AllAddOnly (AcceptsThrough number) old new
AcceptsFrom (events.End number) old new = AllAddOnly (AcceptsThrough number) old new
AcceptsFrom events.Close old new = AllAddOnly AcceptsNothing old new
