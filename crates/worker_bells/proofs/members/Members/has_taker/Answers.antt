-- None is counted, so nobody takes.
use Rattle.std.proofs.Common.{◌≡◌, List, get_or, sym, subst, arith}
use Rattle.std.proofs.lemmas.Bool.Decides.{nat_tests}
use Rattle.worker_bells.specs.declared.members.Interest.{Interest}
use Rattle.worker_bells.specs.Wishing.{IsWished}
use Rattle.worker_bells.proofs.Wishing.{nobody}
use Rattle.worker_bells.proofs.members.Members.has_taker.Goals as goal

pub returns-then-slot-lt8 : goal.returns-then-slot-lt8
returns-then-slot-lt8 c = λ no few wished.
    let none : get_or c.self.inside.takers c.args.slot 0 ≡ 0 = grind (arith, nat_tests) in
    let Wished : List Interest → Type 0 = λ interests. IsWished c.args.slot interests in
    let here = subst Wished (sym c.self.view_is) wished in
    nobody c.self.inside.takers c.self.inside.interests.items c.args.slot c.self.invariant few none here.0 here.1 here.2 here.3
