-- What a client does is a list of calls.
use Rattle.client_table.proofs.Calling as calling
use Rattle.client_table.proofs.laws.calls_law.Goals as goal

pub returns-clause-reads : goal.returns-clause-reads
returns-clause-reads g c now outputs client after old new does = calling.reads g.S.Supply.call g.P.Place.slot_of outputs old new client after now does

pub returns-clause-fails_to_read : goal.returns-clause-fails_to_read
returns-clause-fails_to_read g c now outputs client after old new does = calling.fails_to_read g.S.Supply.call g.P.Place.slot_of outputs old new client after now does

pub returns-clause-ticks : goal.returns-clause-ticks
returns-clause-ticks g c now outputs client after old new does = calling.ticks g.S.Supply.call g.P.Place.slot_of outputs old new client after now does

pub returns-clause-fails_to_tick : goal.returns-clause-fails_to_tick
returns-clause-fails_to_tick g c now outputs client after old new does = calling.fails_to_tick g.S.Supply.call g.P.Place.slot_of outputs old new client after now does

pub returns-clause-moves : goal.returns-clause-moves
returns-clause-moves g c now input outputs client after old new does = calling.moves g.S.Supply.call g.P.Place.slot_of old new client after now input outputs does

pub returns-clause-given_up : goal.returns-clause-given_up
returns-clause-given_up g c now input client after old new does = calling.given_up g.S.Supply.call g.P.Place.slot_of old new client after now input does
