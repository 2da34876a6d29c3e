use Rattle.std.proofs.Common.{◌+◌, ◌≤◌, refl, sym, subst, arith}
use Rattle.users.proofs.Chain.{IsAt, first_link, next_link, last_link}
use Rattle.users.proofs.hashing.pbkdf2.Goals as goal

pub iterations-init : goal.iterations-init
iterations-init c = record {
  made = first_link c.args.password.now c.args.salt.now c.digest-link.result (c.digest-link.ensures c.args.password.now c.mac_of-mac.ensures);
  none = λ e. refl;
}

pub iterations-preserved : goal.iterations-preserved
iterations-preserved c =
    let some : 1 ≤ c.iterations.counter = omega arith in
    let made = c.digest-link-in-iterations.ensures c.args.password.now c.mac_of-mac.ensures in
    record {
      made = subst (λ hash. IsAt c.args.password.now c.args.salt.now (c.iterations.counter + 1) c.digest-link-in-iterations.result hash) (sym c.add.ensures)
          (next_link c.args.password.now c.args.salt.now c.iterations.counter c.iterations.link c.iterations.hash c.digest-link-in-iterations.result some c.iterations.invariant.made made);
      none = λ e. absurd (omega arith);
    }

pub returns : goal.returns
returns c =
    last_link c.args.password.now c.args.salt.now c.iterations.counter c.args.iterations c.iterations.link c.iterations.hash (grind (arith, c.iterations.invariant.none)) c.iterations.invariant.made
