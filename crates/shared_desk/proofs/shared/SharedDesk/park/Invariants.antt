use Rattle.shared_desk.proofs.shared.SharedDesk.park.Given as goal

abbrev pub ghost-park : goal.ghost-park
ghost-park g a = a.session
