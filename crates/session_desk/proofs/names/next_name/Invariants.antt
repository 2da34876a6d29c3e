use Rattle.std.proofs.Common.{ℕ, ◌<◌}
use Rattle.session_desk.specs.Names.{assigned_name, HasName}
use Rattle.session_desk.specs.Layout.{seen}
use Rattle.session_desk.proofs.names.next_name.Given as goal

abbrev pub invariant-numbers : goal.invariant-numbers
invariant-numbers g l = (other : ℕ) → l.given < other → other < l.number → HasName (seen l.rows.entries) (assigned_name other)
