use Rattle.std.proofs.Common.{◌≡◌, ◌+◌, ◌*◌, ◌≤◌, length, sum_by, vec_capacity}
use Rattle.session_desk.specs.Rows.{session_in}
use Rattle.session_desk.specs.Everything.{items_of, place_of}
use Rattle.session_desk.proofs.drained.drain_rows.Given as goal

abbrev pub invariant-rows : goal.invariant-rows
invariant-rows g l = record {
  places : (measure : _) → sum_by measure l.places.items + sum_by (λ entry. sum_by measure (place_of (session_in entry.1.held_by))) l.rows.entries
      ≡ sum_by measure l.fn.places.items + sum_by (λ entry. sum_by measure (place_of (session_in entry.1.held_by))) l.fn.rows.entries;
  envelopes : (measure : _) → sum_by measure l.envelopes.items + sum_by (λ entry. sum_by measure (items_of (session_in entry.1.held_by))) l.rows.entries
      ≡ sum_by measure l.fn.envelopes.items + sum_by (λ entry. sum_by measure (items_of (session_in entry.1.held_by))) l.fn.rows.entries;
  places_left : length l.places.items + length l.rows.entries ≤ vec_capacity l.places;
  envelopes_left : length l.envelopes.items + 256 * length l.rows.entries ≤ vec_capacity l.envelopes;
  same : vec_capacity l.places ≡ vec_capacity l.fn.places;
  few : length l.places.items + length l.rows.entries ≤ length l.fn.places.items + length l.fn.rows.entries;
}

abbrev pub decreases-rows : goal.decreases-rows
decreases-rows g l = length l.rows.entries
