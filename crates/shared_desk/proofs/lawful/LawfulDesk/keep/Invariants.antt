use Rattle.std.proofs.Common.{[], ◌∷◌}
use Rattle.session_desk.specs.Calls.{Keep}
use Rattle.shared_desk.proofs.lawful.LawfulDesk.keep.Given as goal

abbrev pub ghosts-note : goal.ghosts-note
ghosts-note g a = record { added = Keep g.before a._answer.now ∷ [] }
