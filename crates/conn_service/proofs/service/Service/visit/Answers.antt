-- What is done in a visit stands between its beginning and its end.
use Rattle.std.proofs.Common.{[], ◌∷◌, refl, sym, inl, inr, rules, arith}
use Rattle.conn_service.specs.Services.{most_packets}
use Rattle.conn_service.specs.Acts.{Leaves}
use Rattle.conn_service.proofs.Leading.{leads_past, leads_nothing, leads_one, leads_on}
use Rattle.conn_service.proofs.Rounds.{visited}
use Rattle.conn_service.proofs.Counting.{few_before}
use Rattle.conn_service.proofs.Advancing.{visit_told}
use Rattle.conn_service.proofs.service.Service.visit.Goals as goal

pub returns-then-has_ended-clause-led : goal.returns-then-has_ended-clause-led
unfolding leads_past leads_on leads_nothing
returns-then-has_ended-clause-led g c = record {
  led = leads_past g.S.Supply.call g.S.Supply.begins g.S.Supply.ends g.S.Supply.visiting g.P.Place.slot_of g.T.Transport.counts g.T.Transport.given g.T.Transport.accepted c.args.self.now c.args.self.now c.args.supply.now c.args.supply.now
      (leads_nothing g.S.Supply.call g.S.Supply.begins g.S.Supply.ends g.S.Supply.visiting g.P.Place.slot_of g.T.Transport.counts g.T.Transport.given g.T.Transport.accepted c.args.self.now c.args.self.now c.args.supply.now c.args.supply.now refl refl);
  told = (omega arith, (λ reads. ((λ none. inl (refl, inr (inl (search rules)))), inl (search rules))));
}

pub returns-clause-led : goal.returns-clause-led
unfolding visited leads_on leads_one
returns-clause-led g c = record {
  led = visited g.S.Supply.call g.S.Supply.begins g.S.Supply.ends g.S.Supply.visiting g.P.Place.slot_of g.T.Transport.counts g.T.Transport.given g.T.Transport.accepted c.begin-open.result c.args.reads c.is_still_drained-self-inside.result
      c.args.self.now _ c.step_within-all.new.self c.args.supply.now c.begin-open.new.self c.step_within-all.new.supply c.end.new.self c.self.view_is c.is_still_drained-self-inside.ensures c.begin-open.ensures.begun
      (sym c.begin-open.ensures.told) c.step_within-all.ensures.led.led c.end.ensures;
  told = (
    few_before most_packets c.step_within-all.ensures.led.led.acts (Leaves ∷ []) c.step_within-all.ensures.led.told.0 refl,
    (λ reads. visit_told c.step_within-all.result c.begin-open.result c.args.reads c.step_within-all.new.self c.step_within-all.ensures.led.led.acts reads (c.step_within-all.ensures.led.told.1 reads)),
  );
}
