use Rattle.shared_desk.proofs.shared.SharedDesk.park_as_is.Given as goal

abbrev pub ghost-park_as_is : goal.ghost-park_as_is
ghost-park_as_is g a = a.session
