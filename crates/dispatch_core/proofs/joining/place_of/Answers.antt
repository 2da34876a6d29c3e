use Rattle.std.proofs.Common.{rules}
use Rattle.std.proofs.lemmas.List.Sorted.{IsPartitionPoint-from_clause}
use Rattle.dispatch_core.specs.Joining.{begins_by}
use Rattle.dispatch_core.proofs.Places.{partitioned, place_there}
use Rattle.dispatch_core.proofs.joining.place_of.Goals as goal

pub returns : goal.returns
returns c =
    let runs = c.args.runs.now in
    let job = c.args.job in
    let place = c.partition_point.result in
    place_there runs job place c.partition_point.ensures.bound
    (IsPartitionPoint-from_clause (begins_by job) runs place c.partition_point.ensures.partitioned (partitioned runs job c.requires) (λ a r q called. search rules))
