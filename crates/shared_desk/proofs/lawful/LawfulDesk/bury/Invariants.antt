use Rattle.std.proofs.Common.{[], ◌∷◌}
use Rattle.session_desk.specs.Calls.{Bury}
use Rattle.shared_desk.proofs.lawful.LawfulDesk.bury.Given as goal

abbrev pub ghosts-note : goal.ghosts-note
ghosts-note g a = record { added = Bury g.before a._answer.now ∷ [] }
