use Rattle.session_desk.proofs.Kept.{kept_new}
use Rattle.session_desk.proofs.table.Table.new.Goals as goal

pub invariant_of-result : goal.invariant_of-result
invariant_of-result g c = kept_new c.in_ok-rows.rows.entries c.in_ok-living.living.entries 0 18446744073709551615 c.in_ok-rows.ensures.empty c.in_ok-living.ensures.empty
