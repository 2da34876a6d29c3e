-- Why a device or the network failed, as far as the system says, and the line that is said of it (profile).
use Rattle.std.specs.Prelude.{ℕ, codes, List}
use Rattle.std.specs.declared.io.ErrorKind.{ErrorKind}
use Rattle.std.specs.declared.io.ErrorKind.TheVariants as kinds
use Rattle.text_io.specs.declared.error.DeviceFault.{DeviceFault}
use Rattle.text_io.specs.declared.error.DeviceFault.TheVariants.{PortInUse, MetricsPortInUse, AddressElsewhere, TooFewDescriptors, NotPermitted, NoSpace, Other}

-- why a write failed: there is no space left, or not so much of it for this user
abbrev pub fault_of_write : ErrorKind → DeviceFault
fault_of_write kinds.StorageFull = NoSpace
fault_of_write kinds.QuotaExceeded = NoSpace
fault_of_write _ = Other

-- the line
abbrev pub device_line : DeviceFault → List ℕ
device_line PortInUse = codes "device: the port is in use\n"
device_line MetricsPortInUse = codes "device: the port of the metrics is in use\n"
device_line AddressElsewhere = codes "device: the address is not one of this machine\n"
device_line TooFewDescriptors = codes "device: too few file descriptors\n"
device_line NotPermitted = codes "device: permission denied\n"
device_line NoSpace = codes "device: no space left\n"
device_line Other = codes "device\n"
