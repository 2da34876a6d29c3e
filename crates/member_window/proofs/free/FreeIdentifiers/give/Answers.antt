use Rattle.std.proofs.Common.{◌≡◌, ◌-◌, arith, rules}
use Rattle.member_window.proofs.Bits.{set_here, set_elsewhere}
use Rattle.member_window.proofs.free.FreeIdentifiers.give.Goals as goal

pub returns-clause-this : goal.returns-clause-this
returns-clause-this c =
    let same : c.args.identifier - 1 ≡ c.from-place.result - 1 = omega (arith, c.from-place.ensures) in
    rw same (set_here c.args.self.now.words (c.from-place.result - 1) (search rules) (omega (arith, c.from-place.ensures)))

pub returns-clause-others : goal.returns-clause-others
returns-clause-others c k lt other =
    set_elsewhere c.args.self.now.words (c.from-place.result - 1) (search rules) (omega (arith, c.from-place.ensures)) k (λ same. other (omega (arith, same, c.from-place.ensures)))
