-- Who has the ledger in hands finds the queue empty, and so not full.
use Rattle.std.proofs.Common.{arith}
use Rattle.shared_ledger.proofs.Steps.{not_full}
use Rattle.shared_ledger.proofs.Witnessed.{puts_seen, learns_how}
use Rattle.shared_ledger.proofs.queue.put_back.Goals as goal

pub push_as-requires-clause-rule : goal.push_as-requires-clause-rule
push_as-requires-clause-rule g c = (puts_seen g.W.LedgerWitness.saw_ledger _ _ _ _ c.requires.hand c.requires.same c.requires.follows, learns_how g.W.LedgerWitness.saw_ledger _ _)

pub unreachable-requires : goal.unreachable-requires
unreachable-requires g c = let held = c.in-Err.ensures.rule.2 in absurd (omega (arith, not_full _ held.0 c.requires.hand held.2, held.1, c.requires.capacity))
