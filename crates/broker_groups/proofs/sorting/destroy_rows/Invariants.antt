-- Those that are left are empty.
use Rattle.std.proofs.Common.{◌≡◌, vec_len, All}
use Rattle.std.specs.Global.{Vec}
use Rattle.broker_groups.proofs.sorting.destroy_rows.Given as goal

abbrev pub invariant-rows : goal.invariant-rows
invariant-rows g l = All (λ (row : Vec g.row.T.Denot). vec_len row ≡ 0) l.rows.items

abbrev pub decreases-rows : goal.decreases-rows
decreases-rows g l = vec_len l.rows
