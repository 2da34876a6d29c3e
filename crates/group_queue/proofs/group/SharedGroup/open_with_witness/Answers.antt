-- Each new port and place is one of the group.
use Rattle.group_queue.proofs.Places.{each_port, each_place}
use Rattle.group_queue.proofs.group.SharedGroup.open_with_witness.Goals as goal

pub returns-clause-each_port : goal.returns-clause-each_port
returns-clause-each_port g c = each_port _ _ c.fill_ports.ensures.ports

pub returns-clause-each_place : goal.returns-clause-each_place
returns-clause-each_place g c = each_place _ _ _ c.fill_places.ensures.places
