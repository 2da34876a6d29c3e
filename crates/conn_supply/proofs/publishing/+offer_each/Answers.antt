-- One group, and then the others.
use Rattle.std.proofs.Common.{◌≡◌, [], ◌∷◌, rules, arith}
use Rattle.std.proofs.lemmas.Result.{IfOk-weaker}
use Rattle.std.proofs.lemmas.List.{nil_from_length}
use Rattle.conn_supply.proofs.Copies.{alike_popped}
use Rattle.conn_supply.proofs.Offering.{last_offered, more_offered, cut_short_later}
use Rattle.conn_supply.proofs.publishing.+offer_each.Goals as goal

pub returns-in-None-clause-offered : goal.returns-in-None-clause-offered
returns-in-None-clause-offered g t c =
    let is : c.args.slots ≡ c.in-Some.slot ∷ c.next.new.self = search rules in
    let none : c.next.new.self ≡ [] = nil_from_length c.next.new.self (search rules) in
    let told = c.offer_one.ensures.offered in
    IfOk-weaker c.offer_one.result _ _
    (λ taken took. last_offered g.S.Supply.call c.args.supply.now c.offer_one.new.supply c.args.connection c.in-Some.slot c.args.message c.args.slots c.next.new.self taken told.0 is none told.1 took.0)
    told.2

pub returns-in-Ok-clause-offered : goal.returns-in-Ok-clause-offered
returns-in-Ok-clause-offered g t c =
    let is : c.args.slots ≡ c.in-Some.slot ∷ c.next.new.self = search rules in
    let same : c.in-Some-pop.copy ≡ c.args.message = grind (arith, alike_popped) in
    let told = c.in_ok-first-in-Some-pop.ensures.offered in
    more_offered g.S.Supply.call c.args.supply.now c.offer_one-in-Some-pop.new.supply c.offer_each.new.supply c.args.connection c.in-Some.slot c.args.message c.in-Some-pop.copy c.args.slots
    c.next.new.self c.in_ok-first-in-Some-pop.first c.in-Ok.rest told.0 is same told.1 told.2.0 c.in-Ok.ensures.offered

pub returns-in-Err-clause-cut_short : goal.returns-in-Err-clause-cut_short
returns-in-Err-clause-cut_short g t c =
    let is : c.args.slots ≡ c.in-Some.slot ∷ c.next.new.self = search rules in
    let same : c.in-Some-pop.copy ≡ c.args.message = grind (arith, alike_popped) in
    let told = c.in_ok-first-in-Some-pop.ensures.offered in
    cut_short_later g.S.Supply.call c.args.supply.now c.offer_one-in-Some-pop.new.supply c.offer_each.new.supply c.args.connection c.in-Some.slot c.args.message c.in-Some-pop.copy c.args.slots
    c.next.new.self c.in_ok-first-in-Some-pop.first told.0 is same told.1 told.2.0 c.in-Err.ensures.cut_short
