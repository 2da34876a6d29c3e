use Rattle.std.proofs.Common.{[], ◌∷◌}
use Rattle.session_desk.specs.Calls.{Attach}
use Rattle.shared_desk.proofs.lawful.LawfulDesk.attach.Given as goal

abbrev pub ghosts-note : goal.ghosts-note
ghosts-note g a = record { added = Attach a._asked.now g.request a._answer.now ∷ [] }
