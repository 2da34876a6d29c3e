-- What `finish` answers, as its signature has it.
use Rattle.std.specs.Prelude.{◌≡◌, List, Result, Ok, Err}
use Rattle.group_jobs.specs.declared.report.Report.{Report}
use Rattle.group_jobs.specs.Stamps.{Held}
use Rattle.group_queue.specs.declared.error.FinishError.{FinishError}
use Rattle.group_queue.specs.declared.finish.Unfinished.{Unfinished}
use Rattle.group_queue.specs.declared.reserving.Lists.{Lists}
use Rattle.group_queue.specs.Ports.{GroupId, PortState}
use Rattle.group_queue.specs.Places.{PlaceState}
use Rattle.group_queue.specs.Ends.{IsWhole, IsBecause, Reports}
use Rattle.shared_ledger.specs.Givers.{HolderState, IsNewHolder}
use Rattle.group_queue.specs.Known.{AreReady}

-- a report; or why there is none, with all that was given
abbrev pub Finishes : {W : Type 0} → GroupId → List PortState → List PlaceState → List Held → Result Report (Unfinished W) → Type 0
Finishes group ports places held (Ok report) = Reports group ports places held report
Finishes group ports places held (Err left) =
    IsBecause group ports places held left.error × (left.group ≡ group) × (left.ports.items ≡ ports) × (left.places.items ≡ places) × (left.held.items ≡ held)

-- all is there, the group's ledger is in hands, and there is room for the report; or why not
abbrev pub IsPrepared : GroupId → List PortState → List PlaceState → List Held → Result (Lists × HolderState) FinishError → Type 0
IsPrepared group ports places held (Ok ready) = IsWhole group ports places held × AreReady group.shape.ports ports places held ready.0 ready.1 × IsNewHolder group.ledger ready.1
IsPrepared group ports places held (Err error) = IsBecause group ports places held error
