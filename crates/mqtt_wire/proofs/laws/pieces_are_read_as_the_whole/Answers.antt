use Rattle.mqtt_wire.proofs.PieceLaws.{read_on, faulty_stays}
use Rattle.mqtt_wire.proofs.laws.pieces_are_read_as_the_whole.Goals as goal

pub returns : goal.returns
returns c = record { goes_on = read_on; faulty = faulty_stays }
