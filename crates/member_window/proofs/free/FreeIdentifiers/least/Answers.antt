use Rattle.std.proofs.Common.{refl, arith, rules}
use Rattle.member_window.proofs.Bits.{first_bit}
use Rattle.member_window.proofs.free.FreeIdentifiers.least.Goals as goal

pub returns-then-word-ne0 : goal.returns-then-word-ne0
returns-then-word-ne0 c =
    first_bit c.args.self.now.words c.loop-place.place _ c.loop-place.invariant (omega arith) (omega arith) (search rules) refl
