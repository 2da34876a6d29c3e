-- A read, a Tick if it is one, and steps by what came.
use Rattle.std.proofs.Common.{length, [], ◌∷◌, ◌++◌, inl, refl, rules, ◌∙◌, arith}
use Rattle.conn_service.specs.Acts.{Reads}
use Rattle.conn_service.proofs.Leading.{edge_one, leads_on, leads_at_edge, leads_nothing}
use Rattle.conn_service.proofs.Rounds.{edge_then, read_then}
use Rattle.conn_service.proofs.Counting.{none_at_edge, none_both, few_after, counts_after}
use Rattle.conn_service.proofs.Advancing.{read_told}
use Rattle.conn_service.proofs.service.Service.read.Goals as goal

pub returns-in_err-got-clause-led : goal.returns-in_err-got-clause-led
unfolding leads_at_edge
returns-in_err-got-clause-led g c = record {
  led = leads_at_edge g.S.Supply.call g.S.Supply.begins g.S.Supply.ends g.S.Supply.visiting g.P.Place.slot_of g.T.Transport.counts g.T.Transport.given g.T.Transport.accepted c.args.self.now c.read_once.new.self c.args.supply.now (c.in_err-got.ensures.read.0 c.args.now);
  told = ((omega (arith, none_at_edge g.T.Transport.counts g.T.Transport.given g.T.Transport.accepted _ c.args.self.now c.read_once.new.self (c.in_err-got.ensures.read.0 c.args.now).does), search rules), search rules);
}

pub returns-in_err-tick_if-clause-led : goal.returns-in_err-tick_if-clause-led
unfolding leads_on read_then edge_then leads_at_edge edge_one
returns-in_err-tick_if-clause-led g c = record {
  led = read_then g.S.Supply.call g.S.Supply.begins g.S.Supply.ends g.S.Supply.visiting g.P.Place.slot_of g.T.Transport.counts g.T.Transport.given g.T.Transport.accepted
      (length c.args.buffer.now) c.in_ok-got.got c.in_ok-got.ensures.read.0 c.args.self.now c.read_once.new.self c.tick_if.new.self c.args.supply.now c.tick_if.new.supply
      c.in_ok-got.ensures.read.1 c.tick_if.ensures.led.led;
  told = ((few_after c.args.left.now (Reads (length c.args.buffer.now) c.in_ok-got.got c.in_ok-got.ensures.read.0 ∷ []) c.tick_if.ensures.led.led.acts refl (omega (arith, c.tick_if.ensures.led.told)), search rules), search rules);
}

pub returns-clause-led : goal.returns-clause-led
unfolding leads_on read_then edge_then leads_at_edge edge_one
returns-clause-led g c = record {
  led = leads_on g.S.Supply.call g.S.Supply.begins g.S.Supply.ends g.S.Supply.visiting g.P.Place.slot_of g.T.Transport.counts g.T.Transport.given g.T.Transport.accepted c.args.self.now
      c.tick_if.new.self c.step_each.new.self c.args.supply.now c.tick_if.new.supply c.step_each.new.supply
      (read_then g.S.Supply.call g.S.Supply.begins g.S.Supply.ends g.S.Supply.visiting g.P.Place.slot_of g.T.Transport.counts g.T.Transport.given g.T.Transport.accepted
      (length c.args.buffer.now) c.in_ok-got.got c.in_ok-got.ensures.read.0 c.args.self.now c.read_once.new.self c.tick_if.new.self c.args.supply.now c.tick_if.new.supply
      c.in_ok-got.ensures.read.1 c.tick_if.ensures.led.led) c.step_each.ensures.led.led;
  told = (
    counts_after c.step_each.result c.args.left.now c.step_each.new.left ((Reads (length c.args.buffer.now) c.in_ok-got.got c.in_ok-got.ensures.read.0 ∷ []) ++ c.tick_if.ensures.led.led.acts) c.step_each.ensures.led.led.acts
        (none_both (Reads (length c.args.buffer.now) c.in_ok-got.got c.in_ok-got.ensures.read.0 ∷ []) c.tick_if.ensures.led.led.acts refl c.tick_if.ensures.led.told) c.step_each.ensures.led.told,
    (λ reads done not_at_end. read_told g.T.Transport.counts g.T.Transport.given g.T.Transport.accepted (length c.args.buffer.now) c.in_ok-got.got c.in_ok-got.ensures.read.0 c.args.self.now c.read_once.new.self
        c.step_each.new.self (c.tick_if.ensures.led.led.acts ++ c.step_each.ensures.led.led.acts) c.in_ok-got.ensures.read.1 c.requires.room
        (c.step_each.ensures.stays.drained ∙ c.tick_if.ensures.stays.drained)),
  );
}

pub returns-then-not-may_read-clause-led : goal.returns-then-not-may_read-clause-led
unfolding leads_nothing
returns-then-not-may_read-clause-led g c = record {
  led = leads_nothing g.S.Supply.call g.S.Supply.begins g.S.Supply.ends g.S.Supply.visiting g.P.Place.slot_of g.T.Transport.counts g.T.Transport.given g.T.Transport.accepted c.args.self.now c.args.self.now c.args.supply.now c.args.supply.now refl refl;
  told = ((omega arith, omega arith), (λ reads done not_at_end none. inl (refl, c.may_read.ensures.no reads c.if-not-may_read.true none not_at_end)));
}
