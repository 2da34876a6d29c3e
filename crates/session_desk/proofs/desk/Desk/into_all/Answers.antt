use Rattle.std.proofs.Common.{sum_by, ap, arith}
use Rattle.std.specs.FinMap as map
use Rattle.session_desk.specs.Rows.{session_in}
use Rattle.session_desk.specs.Everything.{items_of, place_of, free_in}
use Rattle.session_desk.proofs.desk.Desk.into_all.Goals as goal

pub returns : goal.returns
returns g c = record {
  items = λ measure.
      let moved = ap (λ b. sum_by (λ entry. sum_by measure (items_of (session_in entry.1.held_by))) (map.entries b.rows)) c.self.view_is in
      let drained = c.drain.ensures.envelopes measure in
      let none = ap (sum_by measure) c.in-Ok-with_capacity.ensures.items in
      omega arith;
  places = λ measure.
      let moved = ap (λ b. sum_by (λ entry. sum_by measure (place_of (session_in entry.1.held_by))) (map.entries b.rows)) c.self.view_is in
      let free = ap (λ b. sum_by (λ cell. sum_by measure (free_in cell)) b.free) c.self.view_is in
      let drained = c.drain.ensures.places measure in
      let more = c.drain-2.ensures measure in
      let none = ap (sum_by measure) c.in-Ok.ensures.items in
      omega arith;
}
