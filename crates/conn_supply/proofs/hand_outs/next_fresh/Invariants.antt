-- What was discarded so far; nothing else has changed.
use Rattle.std.proofs.Common.{◌≡◌, List, length, true}
use Rattle.group_jobs.specs.Stamps.{Held}
use Rattle.conn_supply.specs.Holding.{messages}
use Rattle.conn_supply.specs.HandOuts.{Discards}
use Rattle.conn_supply.proofs.hand_outs.next_fresh.Given as goal

abbrev pub invariant-messages : goal.invariant-messages
invariant-messages g l = record {
  discarded : (envelopes : List Held) × (length envelopes ≡ l.counter) × Discards g.S.Supply.call l.terms l.fn.supply l.fn.place envelopes l.place l.supply;
  window : l.window ≡ l.fn.window;
  out : g.P.HoldingPlace.has_out l.place (messages l.fn.window);
  visiting : g.S.Supply.visiting l.supply ≡ true;
}
