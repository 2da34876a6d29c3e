use Rattle.std.proofs.Common.{[], ◌∷◌}
use Rattle.session_desk.specs.Calls.{Kicked}
use Rattle.shared_desk.proofs.lawful.LawfulDesk.kicked.Given as goal

abbrev pub ghosts-note : goal.ghosts-note
ghosts-note g a = record { added = Kicked a._asked.now a._answer.now ∷ [] }
