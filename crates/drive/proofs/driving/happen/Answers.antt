-- What is told is what was said in the event.
use Rattle.std.proofs.Common.{◌≡◌, subst, sym}
use Rattle.local_server.specs.Sizes.{AllWritable}
use Rattle.drive.proofs.driving.happen.Goals as goal

pub tell-requires : goal.tell-requires
tell-requires c =
    let happened = c.in-Ok.ensures in
    let outputs : c.deref.result.now ≡ happened.0 = cc in
    subst AllWritable (sym outputs) (c.requires happened.0 c.happen.new.self happened.2)
