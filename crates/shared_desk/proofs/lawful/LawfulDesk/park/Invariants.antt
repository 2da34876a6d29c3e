use Rattle.std.proofs.Common.{[], ◌∷◌}
use Rattle.session_desk.specs.Calls.{Park}
use Rattle.shared_desk.proofs.lawful.LawfulDesk.park.Given as goal

abbrev pub ghosts-note : goal.ghosts-note
ghosts-note g a = record { added = Park g.before a._asked.now a._answer.now ∷ [] }
