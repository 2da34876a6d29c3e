use Rattle.std.proofs.Common.{ap, ◌∙◌, arith}
use Rattle.std.specs.Ordering.{nat_cmp}
use Rattle.std.specs.FinMap as map
use Rattle.std.specs.FinMap.{len-empty}
use Rattle.session_desk.proofs.Booked.{booked}
use Rattle.session_desk.proofs.desk.Desk.add_places.Goals as goal

pub invariant_of-result : goal.invariant_of-result
invariant_of-result g c = record { few = (let none = ap (λ r. map.len r.rows) c.requires.table ∙ len-empty nat_cmp _ in omega arith); names = omega arith }

pub returns-in-Ok : goal.returns-in-Ok
returns-in-Ok g c = λ j. booked (c.requires.table j) 0 (c.requires.waits j) (c.requires.kicked j) (c.in-Ok.ensures j)
