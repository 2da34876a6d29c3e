use Rattle.session_desk.specs.Attaching.{asked}
use Rattle.shared_desk.proofs.shared.SharedDesk.attach.Given as goal

abbrev pub ghost-attach : goal.ghost-attach
ghost-attach g a = asked a.connection a.client.now a.clean a.now
