-- Of the groups so far so many are kept, and of the others all.
use Rattle.std.proofs.Common.{◌≡◌, ◌<◌, ℕ, ◌+◌, ◌≤◌, length}
use Rattle.std.specs.Prelude.{min, slice_index}
use Rattle.shared_supply.proofs.wakes.Wakes.keep.Given as goal

abbrev pub invariant-loop-slot : goal.invariant-loop-slot
invariant-loop-slot l = record {
  kept : (slot : ℕ) → slot < l.slot → slice_index l.self.messages slot ≡ min (slice_index l.fn.self.messages slot) (slice_index l.most slot);
  all : (slot : ℕ) → slot < l.slot → slice_index l.beyond slot + slice_index l.self.messages slot ≡ slice_index l.fn.self.messages slot;
  left : (slot : ℕ) → l.slot ≤ slot → slice_index l.self.messages slot ≡ slice_index l.fn.self.messages slot;
  rest : l.self ≡ record l.fn.self { messages = l.self.messages };
  now_long : length l.self.messages ≡ 8;
  others_long : length l.beyond ≡ 8;
}
