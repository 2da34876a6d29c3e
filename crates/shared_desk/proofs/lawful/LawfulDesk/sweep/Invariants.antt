use Rattle.std.proofs.Common.{[], ◌∷◌}
use Rattle.session_desk.specs.Calls.{Sweep}
use Rattle.shared_desk.proofs.lawful.LawfulDesk.sweep.Given as goal

abbrev pub ghosts-note : goal.ghosts-note
ghosts-note g a = record { added = Sweep a._asked.now a._answer.now ∷ [] }
