use Rattle.std.proofs.Common.{[], ◌∷◌}
use Rattle.session_desk.specs.Calls.{TakePlace}
use Rattle.shared_desk.proofs.lawful.LawfulDesk.take_place.Given as goal

abbrev pub ghosts-note : goal.ghosts-note
ghosts-note g a = record { added = TakePlace g.before a._answer.now ∷ [] }
