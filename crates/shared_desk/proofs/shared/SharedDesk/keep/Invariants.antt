use Rattle.shared_desk.proofs.shared.SharedDesk.keep.Given as goal

abbrev pub ghost-keep : goal.ghost-keep
ghost-keep g a = a.session
