-- So far it found another place at the ledger.
use Rattle.std.proofs.Common.{◌≡◌}
use Rattle.shared_supply.proofs.settling.gather.Given as goal

abbrev pub invariant-tries : goal.invariant-tries
invariant-tries g l = l.place ≡ l.fn.place
