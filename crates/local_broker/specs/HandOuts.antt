-- What places are handed: as the calls of connections have it, and as the events of the groups do.
use Rattle.std.specs.Prelude.{ℕ, ◌==◌, if◌then◌else◌, List, filter_map, Option, Some, None}
use Rattle.dispatch_core.specs.declared.event.Event.{Event}
use Rattle.dispatch_core.specs.declared.event.Event.TheVariants.{Accept, First, Ack, Refuse, Discard, Back, Again, Close}
use Rattle.dispatch_core.specs.declared.event.Job.{Job}
use Rattle.group_jobs.specs.Stamps.{Held, job_of}
use Rattle.conn_laws.specs.Calls.{hand_out_of}
use Rattle.local_broker.specs.Places.{GroupPlace}
use Rattle.local_broker.specs.Histories.{Happening, Called, Closed}

-- a place is handed a message
abbrev pub HandOut : Type 0
HandOut = GroupPlace × Held

abbrev pub handed_by : Happening → Option HandOut
handed_by (Called supply_call) = hand_out_of supply_call
handed_by Closed = None

-- what places are handed by these calls, one after the other
abbrev pub handed_by_all : List Happening → List HandOut
handed_by_all happenings = filter_map handed_by happenings

-- to which member of a group an event hands which job, for the first time or again
abbrev pub handed_in : Event → Option (ℕ × Job)
handed_in (Accept port) = None
handed_in (First member job) = Some (member, job)
handed_in (Ack member job) = None
handed_in (Refuse member job) = None
handed_in (Discard member job) = None
handed_in (Back member job) = None
handed_in (Again member job) = Some (member, job)
handed_in Close = None

abbrev pub handed_in_all : List Event → List (ℕ × Job)
handed_in_all events = filter_map handed_in events

-- a hand-out as the group of this slot sees it, where the place is one of its own
abbrev pub seen_by : ℕ → HandOut → Option (ℕ × Job)
seen_by slot hand_out = if hand_out.0.slot == slot then Some (hand_out.0.number, job_of hand_out.1.stamp) else None

abbrev pub seen_by_group : ℕ → List HandOut → List (ℕ × Job)
seen_by_group slot hand_outs = filter_map (seen_by slot) hand_outs
