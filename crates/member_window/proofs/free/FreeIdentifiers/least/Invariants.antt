-- The words so far have no bit.
use Rattle.std.proofs.Common.{◌≡◌, ℕ, ◌*◌, ◌<◌}
use Rattle.member_window.specs.Free.{bit}
use Rattle.member_window.proofs.free.FreeIdentifiers.least.Given as goal

abbrev pub invariant-loop-place : goal.invariant-loop-place
invariant-loop-place l = (k : ℕ) → k < 64 * l.place → bit l.self.words k ≡ 0
