-- A cell in which a connection was opened was free, and has one.
use Rattle.std.proofs.Common.{◌≢◌, ℕ, List, Option, Some, None}
use Rattle.group_queue.specs.Places.{PlaceState}
use Rattle.conn_engine.specs.declared.phase.Opening.{Opening}
use Rattle.conn_service.specs.Services.{ServiceState}
use Rattle.worker_connections.specs.Cells.{InCell, IsOpened, Opens}
use Rattle.worker_connections.specs.Serving.{TellsCell}
use Rattle.worker_connections.specs.declared.admission.Admission.TheVariants.{Opened}

has_one : {T : Type 0} (number : ℕ) (opening : Opening) (transport : T) (after : Option (ServiceState PlaceState T)) → IsOpened number opening transport after → after ≢ None
has_one number opening transport None is none = absurd is
has_one number opening transport (Some service) is none = cc

pub tells_cell : {T : Type 0} (old new : List (Option (ServiceState PlaceState T))) (cell number : ℕ) (opening : Opening) (transport : T) → InCell old cell (Opens number opening transport) new
    → TellsCell (Opened cell) old new
tells_cell old new cell number opening transport opens = record {
  before = opens.before;
  after = opens.after;
  has = opens.has;
  becomes = (opens.becomes.0, has_one number opening transport opens.after opens.becomes.1);
  is = opens.is;
}
