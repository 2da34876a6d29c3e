use Rattle.std.proofs.Common.{◌≡◌, ℕ, ◌≤◌, ◌+◌, ◌-◌, [], vec_len, vec_capacity}
use Rattle.gate_word.specs.declared.step.GateView.{GateView}
use Rattle.gate_word.specs.Seats.{AreNewSeats}
use Rattle.gate_word.proofs.gate.Gate.open.Given as goal

-- the view of who has still so many of a gate's seats, from this number on
abbrev pub seats_from : ℕ → ℕ → ℕ → GateView
seats_from seats first count = record { seats = seats; first = first; count = count; steps = [] }

abbrev pub invariant-loop : goal.invariant-loop
invariant-loop l = record {
  one_word : l.word.shared.table_id.words ≡ 1;
  enough : l.fn.seats ≤ l.word.shared.key;
  gate : l.pass.table_id ≡ l.word.shared.table_id;
  rest : l.pass.me ≡ (seats_from l.word.shared.key (vec_len l.row) (l.word.shared.key - vec_len l.row), []);
  made : AreNewSeats record { word = l.word.shared.table_id; seats = l.word.shared.key } (vec_len l.row) l.row.items;
  room : l.fn.seats ≤ vec_capacity l.row;
  counted : (vec_len l.row + 1 ≡ l.counter) × (l.end ≡ l.fn.seats);
}
