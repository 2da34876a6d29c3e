use Rattle.shared_desk.proofs.shared.SharedDesk.bury.Given as goal

abbrev pub ghost-bury : goal.ghost-bury
ghost-bury g a = a.session
