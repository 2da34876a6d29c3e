use Rattle.member_window.proofs.Bits.{ones_free}
use Rattle.member_window.proofs.free.FreeIdentifiers.all.Goals as goal

pub returns : goal.returns
returns c = ones_free
