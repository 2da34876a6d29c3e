use Rattle.std.proofs.Common.{[], ◌∷◌}
use Rattle.session_desk.specs.Calls.{ParkAsIs}
use Rattle.shared_desk.proofs.lawful.LawfulDesk.park_as_is.Given as goal

abbrev pub ghosts-note : goal.ghosts-note
ghosts-note g a = record { added = ParkAsIs g.before a._answer.now ∷ [] }
