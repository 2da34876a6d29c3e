-- What was handed out goes out, or is discarded, or waits for the next connection.
use Rattle.std.proofs.Common.{rules, arith, [], ◌∷◌, ◌++◌, Option, None, Ok, refl, sym, ap, subst, ◌∙◌, append-nil, length-append}
use Rattle.group_jobs.specs.Stamps.{Held, under}
use Rattle.conn_supply.specs.Holding.{messages, with_found}
use Rattle.conn_supply.proofs.Fresh.{discarded_next, found_one, sent_one, taken_one}
use Rattle.conn_supply.proofs.hand_outs.next_fresh.Goals as goal

pub returns-in_err-envelope-clause-out : goal.returns-in_err-envelope-clause-out
returns-in_err-envelope-clause-out g c =
    subst (λ w. g.P.HoldingPlace.has_out c.ask.new.place (messages w)) (sym c.messages.invariant.window)
    (c.in_err-envelope.ensures.out (messages c.args.window.now) None c.messages.invariant.out)

pub returns-in_default-clause-out : goal.returns-in_default-clause-out
returns-in_default-clause-out g c =
    subst (λ w. g.P.HoldingPlace.has_out c.ask.new.place (messages w)) (sym c.messages.invariant.window)
    (subst (λ (found : Option Held). g.P.HoldingPlace.has_out c.ask.new.place (with_found (messages c.args.window.now) None (Ok found))) c.in_default.is
    (c.in_ok-envelope.ensures.out (messages c.args.window.now) None c.messages.invariant.out))

pub settle-requires : goal.settle-requires
settle-requires g c =
    let held = messages c.args.window.now in
    record {
      all = held ++ c.in-Some.envelope ∷ [];
      others = held;
      one = record { before = held; behind = []; together = refl; apart = sym (append-nil held) };
      out =
          subst (λ (found : Option Held). g.P.HoldingPlace.has_out c.ask.new.place (with_found held c.in-Some.envelope.subscription (Ok found))) c.in-Some.is
          (c.in_ok-envelope.ensures.out held c.in-Some.envelope.subscription c.messages.invariant.out);
    }

pub returns-in-Ok-clause-sent : goal.returns-in-Ok-clause-sent
returns-in-Ok-clause-sent g c =
    let put = c.in-Ok.ensures.put in
    let discarded = c.messages.invariant.discarded in
    let found =
    found_one g.S.Supply.call c.args.terms.now discarded.0 c.args.supply.now c.messages.supply c.ask.new.supply c.args.place.now c.messages.place c.ask.new.place c.in-Some.envelope
    (omega (arith, discarded.1, c.messages-test.true)) discarded.2 (search rules) (rw c.in-Some.is at c.in_ok-envelope.ensures.asked) (search rules) in
    sent_one g.S.Supply.call c.args.terms.now c.args.supply.now c.ask.new.supply c.args.place.now c.ask.new.place c.args.window.now c.messages.window c.put.new.window c.in-Ok.packet
    c.in-Some.envelope put.0 c.messages.invariant.window (search rules) found put.1 put.2 put.3 c.put.ensures.progress

pub returns-in-Ok-clause-out : goal.returns-in-Ok-clause-out
returns-in-Ok-clause-out g c =
    let found = under c.args.terms.now.subscription c.in-Some.envelope in
    subst (g.P.HoldingPlace.has_out c.ask.new.place) (sym (◌∙◌ {b = messages c.messages.window ++ found ∷ []} c.put.ensures.held (ap (λ w. messages w ++ found ∷ []) c.messages.invariant.window)))
    (subst (λ (f : Option Held). g.P.HoldingPlace.has_out c.ask.new.place (with_found (messages c.args.window.now) c.args.terms.now.subscription (Ok f))) c.in-Some.is
    (c.in_ok-envelope.ensures.out (messages c.args.window.now) c.args.terms.now.subscription c.messages.invariant.out))

pub returns-in-Err-put-clause-kept : goal.returns-in-Err-put-clause-kept
returns-in-Err-put-clause-kept g c =
    let put = c.in-Err-put.ensures.put in
    let discarded = c.messages.invariant.discarded in
    taken_one g.S.Supply.call c.args.terms.now discarded.0 c.args.supply.now c.messages.supply c.ask.new.supply c.args.place.now c.messages.place c.ask.new.place c.args.window.now
    c.messages.window c.put.new.window c.in-Some.envelope put.0 c.messages.invariant.window (search rules) discarded.2 (search rules)
    (rw c.in-Some.is at c.in_ok-envelope.ensures.asked) put.1 put.2

pub returns-in-Err-put-clause-out : goal.returns-in-Err-put-clause-out
returns-in-Err-put-clause-out g c =
    let found = under c.args.terms.now.subscription c.in-Some.envelope in
    subst (g.P.HoldingPlace.has_out c.ask.new.place) (sym (◌∙◌ {b = messages c.messages.window ++ found ∷ []} c.put.ensures.held (ap (λ w. messages w ++ found ∷ []) c.messages.invariant.window)))
    (subst (λ (f : Option Held). g.P.HoldingPlace.has_out c.ask.new.place (with_found (messages c.args.window.now) c.args.terms.now.subscription (Ok f))) c.in-Some.is
    (c.in_ok-envelope.ensures.out (messages c.args.window.now) c.args.terms.now.subscription c.messages.invariant.out))

pub returns-in-Err-clause-kept : goal.returns-in-Err-clause-kept
returns-in-Err-clause-kept g c =
    let discarded = c.messages.invariant.discarded in
    taken_one g.S.Supply.call c.args.terms.now discarded.0 c.args.supply.now c.messages.supply c.ask.new.supply c.args.place.now c.messages.place c.ask.new.place c.args.window.now
    c.messages.window c.hold.new.window c.in-Some.envelope _ c.messages.invariant.window (search rules) discarded.2 (search rules)
    (rw c.in-Some.is at c.in_ok-envelope.ensures.asked) c.hold.ensures.free c.hold.ensures.put

pub returns-in-Err-clause-out : goal.returns-in-Err-clause-out
returns-in-Err-clause-out g c =
    let found = under c.args.terms.now.subscription c.in-Some.envelope in
    subst (g.P.HoldingPlace.has_out c.ask.new.place) (sym (◌∙◌ {b = messages c.messages.window ++ found ∷ []} c.hold.ensures.held (ap (λ w. messages w ++ found ∷ []) c.messages.invariant.window)))
    (subst (λ (f : Option Held). g.P.HoldingPlace.has_out c.ask.new.place (with_found (messages c.args.window.now) c.args.terms.now.subscription (Ok f))) c.in-Some.is
    (c.in_ok-envelope.ensures.out (messages c.args.window.now) c.args.terms.now.subscription c.messages.invariant.out))

pub messages-preserved : goal.messages-preserved
messages-preserved g c =
    let discarded = c.messages.invariant.discarded in
    let held = messages c.args.window.now in
    record {
      discarded = (
        discarded.0 ++ c.in-Some.envelope ∷ [],
        omega (arith, discarded.1, length-append discarded.0 (c.in-Some.envelope ∷ [])),
        discarded_next g.S.Supply.call c.args.terms.now discarded.0 c.args.supply.now c.messages.supply c.ask.new.supply c.settle.new.self c.args.place.now c.messages.place
            c.ask.new.place c.settle.new.place c.in-Some.envelope discarded.2 (search rules) (rw c.in-Some.is at c.in_ok-envelope.ensures.asked) (search rules) c.settle.ensures.called,
      );
      window = c.messages.invariant.window;
      out =
          c.settle.ensures.out (held ++ c.in-Some.envelope ∷ []) held (record { before = held; behind = []; together = refl; apart = sym (append-nil held) })
          (subst (λ (found : Option Held). g.P.HoldingPlace.has_out c.ask.new.place (with_found held c.in-Some.envelope.subscription (Ok found))) c.in-Some.is
          (c.in_ok-envelope.ensures.out held c.in-Some.envelope.subscription c.messages.invariant.out));
      visiting = search rules;
    }
