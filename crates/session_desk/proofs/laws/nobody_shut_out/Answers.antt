use Rattle.std.proofs.Common.{ap}
use Rattle.session_desk.proofs.ShutOut.{own_by, idle_by}
use Rattle.session_desk.proofs.laws.nobody_shut_out.Goals as goal

pub returns-clause-own : goal.returns-clause-own
returns-clause-own g c newcomers old new request answer number row named has lives attaches full = own_by newcomers request.client old new request answer number row named has lives attaches full

pub returns-clause-idle : goal.returns-clause-idle
returns-clause-idle g c newcomers old new request session ended law attaches = idle_by newcomers request.client old new request session ended law attaches
