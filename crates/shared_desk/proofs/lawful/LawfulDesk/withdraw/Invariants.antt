use Rattle.std.proofs.Common.{[], ◌∷◌}
use Rattle.session_desk.specs.Calls.{Withdraw}
use Rattle.shared_desk.proofs.lawful.LawfulDesk.withdraw.Given as goal

abbrev pub ghosts-note : goal.ghosts-note
ghosts-note g a = record { added = Withdraw a._asked.now ∷ [] }
