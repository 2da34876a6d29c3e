-- The rounds so far.
use Rattle.std.proofs.Common.{List, ℕ, ◌≡◌, None}
use Rattle.conn_service.specs.Lives.{RoundsAll}
use Rattle.conn_service.proofs.serving.serve_on.Given as goal

abbrev pub invariant-rounds : goal.invariant-rounds
invariant-rounds g l = record {
  moments : List ℕ;
  led : RoundsAll g.S.Supply.call g.S.Supply.begins g.S.Supply.ends g.S.Supply.visiting g.P.Place.slot_of g.T.Transport.counts g.T.Transport.given g.T.Transport.accepted moments l.initial.service l.fn.supply
      l.service l.supply;
  going : l.service.ending ≡ None;
}
