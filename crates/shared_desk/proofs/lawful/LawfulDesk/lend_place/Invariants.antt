use Rattle.std.proofs.Common.{[], ◌∷◌}
use Rattle.session_desk.specs.Calls.{LendPlace}
use Rattle.shared_desk.proofs.lawful.LawfulDesk.lend_place.Given as goal

abbrev pub ghosts-note : goal.ghosts-note
ghosts-note g a = record { added = LendPlace a._asked.now a._answer.now ∷ [] }
