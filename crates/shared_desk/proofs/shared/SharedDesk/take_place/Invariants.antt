use Rattle.shared_desk.proofs.shared.SharedDesk.take_place.Given as goal

abbrev pub ghost-take_place : goal.ghost-take_place
ghost-take_place g a = a.place
