use Rattle.std.proofs.Common.{◌-◌, length, sym, ap, ◌∙◌, arith}
use Rattle.mqtt_topic.proofs.SlotLaws.{no_slots_of, slot_in, slot_not_in}
use Rattle.mqtt_topic.proofs.slots.SlotIterIterator.next.Goals as goal

pub returns-then-is_in-clause-steps : goal.returns-then-is_in-clause-steps
returns-then-is_in-clause-steps c =
    sym c.loop-self.invariant.same ∙ slot_in c.loop-self.self-inside.slot c.loop-self.self-inside.byte c.loop-self-test.true c.if-is_in.true

pub returns-then-is_in-clause-goes : goal.returns-then-is_in-clause-goes
returns-then-is_in-clause-goes c =
    let e = sym c.loop-self.invariant.same ∙ slot_in c.loop-self.self-inside.slot c.loop-self.self-inside.byte c.loop-self-test.true c.if-is_in.true in
    record {
      on = λ _. (tt, tt, omega (arith, ap length e));
      keeps = tt;
      rests = λ _. tt;
    }

pub loop-self-preserved : goal.loop-self-preserved
loop-self-preserved c = record {
  within = omega arith;
  same = sym (slot_not_in c.loop-self.self-inside.slot c.loop-self.self-inside.byte c.loop-self-test.true c.if-is_in.false) ∙ c.loop-self.invariant.same;
}

pub returns-then-self-eq0-clause-steps : goal.returns-then-self-eq0-clause-steps
returns-then-self-eq0-clause-steps c =
    let none = no_slots_of (8 - c.loop-self.self-inside.slot) c.loop-self.self-inside.slot c.loop-self.self-inside.byte c.if-self-eq0.true in
    (sym c.loop-self.invariant.same ∙ none, none)
