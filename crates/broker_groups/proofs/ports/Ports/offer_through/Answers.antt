-- The port of the slot's group is one of that group, and the others are as they were.
use Rattle.std.proofs.Common.{refl, sym, ap, ◌∙◌, subst, arith}
use Rattle.std.specs.Prelude.{slice_get, slice_set}
use Rattle.std.proofs.lemmas.List.{length-set}
use Rattle.std.proofs.lemmas.Option.{slice_get_read}
use Rattle.group_queue.specs.Ports.{GroupId, IsPortOf}
use Rattle.group_queue.specs.Offers.{OfferAnswers}
use Rattle.broker_groups.specs.Brokers.{IsBrokerPort}
use Rattle.broker_groups.proofs.Rows.{each_set}
use Rattle.broker_groups.proofs.ports.Ports.offer_through.Goals as goal

pub offer-requires-clause-port : goal.offer-requires-clause-port
offer-requires-clause-port g c =
    let ports = c.self.inside.ports.items in
    let port = c.index_mut.result.now in
    let at = c.from.ensures in
    let all = c.self.invariant.all in
    let less = c.requires.slot in
    let there = slice_get_read ports _ c.from.result port refl (omega (arith, at, all, less)) c.index_mut.ensures.value in
    subst (λ (it : GroupId). IsPortOf it port) (ap g.B.Broker.group at ∙ sym c.group-group.ensures.group) (c.self.invariant.each c.from.result port there).1

pub invariant_of-self : goal.invariant_of-self
invariant_of-self g c =
    let group = g.B.Broker.group in
    let ports = c.self.inside.ports.items in
    let port = c.offer.new.port in
    let at = c.from.ensures in
    let all = c.self.invariant.all in
    let less = c.requires.slot in
    let of = c.offer.ensures.of in
    let here : IsBrokerPort group c.args.slot port = (of.0 ∙ c.group-group.ensures.slot, subst (λ (it : GroupId). IsPortOf it port) c.group-group.ensures.group of) in
    record {
      all = length-set ports c.from.result port ∙ all;
      each = each_set (IsBrokerPort group) ports c.from.result port (omega (arith, at, all, less)) (subst (λ n. IsBrokerPort group n port) (sym at) here) (λ k other apart there. c.self.invariant.each k other there);
    }

pub returns : goal.returns
returns g c =
    let ports = c.self.inside.ports.items in
    let before = c.index_mut.result.now in
    let at = c.from.ensures in
    let all = c.self.invariant.all in
    let less = c.requires.slot in
    record {
      before = before;
      there = ap (λ l. slice_get l c.args.slot) (sym c.self.view_is) ∙ ap (slice_get ports) (sym at) ∙ slice_get_read ports _ c.from.result before refl (omega (arith, at, all, less)) c.index_mut.ensures.value;
      after = c.offer.new.port;
      answers = subst (λ (it : GroupId). OfferAnswers g.B.Seen.Witness.saw_main it before c.args.message c.offer.result c.offer.new.port) c.group-group.ensures.group c.offer.ensures.answer;
      becomes = ap (λ n. slice_set ports n c.offer.new.port) at ∙ ap (λ l. slice_set l c.args.slot c.offer.new.port) c.self.view_is;
    }
