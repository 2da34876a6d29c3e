-- What a refusal to listen is called where a broker does not begin.
use Rattle.text_io.specs.declared.error.DeviceFault.{DeviceFault}
use Rattle.text_io.specs.declared.error.DeviceFault.TheVariants as faults
use Rattle.tcp_edge.specs.declared.source.ListenError.{ListenError}
use Rattle.tcp_edge.specs.declared.source.ListenError.TheVariants as refusal

-- at the port for MQTT
abbrev pub open_fault : ListenError → DeviceFault
open_fault refusal.PortInUse = faults.PortInUse
open_fault refusal.AddressElsewhere = faults.AddressElsewhere
open_fault refusal.NotPermitted = faults.NotPermitted
open_fault refusal.TooFewDescriptors = faults.TooFewDescriptors
open_fault refusal.System = faults.Other

-- at the port for metrics, which is told apart where it is in use
abbrev pub metrics_fault : ListenError → DeviceFault
metrics_fault refusal.PortInUse = faults.MetricsPortInUse
metrics_fault error = open_fault error
