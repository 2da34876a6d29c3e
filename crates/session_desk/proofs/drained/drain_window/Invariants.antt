use Rattle.std.proofs.Common.{◌≡◌, ◌+◌, ◌≤◌, ◌++◌, length, map, vec_capacity}
use Rattle.member_window.specs.Contents.{held_of, IsDown}
use Rattle.session_desk.proofs.drained.drain_window.Given as goal

abbrev pub invariant-held : goal.invariant-held
invariant-held g l = record {
  down : IsDown l.window;
  all : l.envelopes.items ++ map (λ entry. entry.1) (held_of l.window) ≡ l.fn.envelopes.items ++ map (λ entry. entry.1) (held_of l.fn.window);
  room : length l.envelopes.items + length (held_of l.window) ≤ vec_capacity l.envelopes;
  same : vec_capacity l.envelopes ≡ vec_capacity l.fn.envelopes;
}

abbrev pub decreases-held : goal.decreases-held
decreases-held g l = length (held_of l.window)
