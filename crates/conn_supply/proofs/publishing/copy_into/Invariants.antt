-- As many copies as were counted.
use Rattle.std.proofs.Common.{◌≡◌, All, vec_len}
use Rattle.conn_supply.proofs.publishing.copy_into.Given as goal

abbrev pub invariant-loop : goal.invariant-loop
invariant-loop l = record {
  counted : vec_len l.copies ≡ l.counter;
  alike : All (λ copy. copy ≡ l.fn.message) l.copies.items;
}
