-- The numbers of how a connection has ended.
use Rattle.std.specs.Prelude.{ℕ}
use Rattle.conn_service.specs.declared.served.Served.{Served}
use Rattle.conn_service.specs.declared.served.Served.TheVariants as served

abbrev pub number_of : Served → ℕ
number_of served.Ended = 0
number_of served.Read = 901
number_of served.Write = 902
number_of served.Memory = 903
number_of served.NoCrossing = 904
number_of served.Stalled = 905
