-- One group more was tried again.
use Rattle.std.proofs.Common.{◌≡◌, ◌+◌, ℕ, List, length, slice_get, Some, Result, refl, sym, ap, ◌∙◌, subst, arith}
use Rattle.std.specs.Vec.Iter.{into_iter_items}
use Rattle.group_jobs.specs.declared.report.Report.{Report}
use Rattle.group_queue.specs.declared.finish.Unfinished.{Unfinished}
use Rattle.broker_groups.specs.Endings.{IsAgain, IsItsOwn}
use Rattle.broker_groups.proofs.Dealing.{one_longer}
use Rattle.broker_groups.proofs.Finishing.{next_is, others_are}
use Rattle.broker_groups.proofs.Rows.{All_there, each_more, one_at}
use Rattle.broker_groups.proofs.ending.finish_again.Goals as goal

pub try_again-requires : goal.try_again-requires
try_again-requires g c =
    let n = length c.slots.answers.items in
    All_there IsItsOwn c.args.first.items n c.in-Some.answer c.requires.own
    (next_is c.args.first.items (into_iter_items c.slots.rest) n c.in-Some.answer (into_iter_items c.next.new.self) c.slots.invariant.rest c.in-Some.ensures.items)

pub slots-preserved : goal.slots-preserved
slots-preserved g c =
    let before = c.slots.invariant in
    let n = length c.slots.answers.items in
    let m = length c.push_reserved.new.self.items in
    let one : m ≡ n + 1 = one_longer c.slots.answers.items c.push_reserved.new.self.items c.try_again.result c.push_reserved.ensures.items in
    let at = next_is c.args.first.items (into_iter_items c.slots.rest) n c.in-Some.answer (into_iter_items c.next.new.self) before.rest c.in-Some.ensures.items in
    let P : ℕ → Result Report (Unfinished _) → Type 0 = λ slot again. (answer : Result Report (Unfinished _)) → slice_get c.args.first.items slot ≡ Some answer → IsAgain answer again in
    let here : P n c.try_again.result = λ answer is. subst (λ (first : Result Report (Unfinished _)). IsAgain first c.try_again.result) (one_at c.args.first.items n c.in-Some.answer answer at is) c.try_again.ensures in
    record {
      rest = others_are c.args.first.items (into_iter_items c.slots.rest) n m c.in-Some.answer (into_iter_items c.next.new.self) one before.rest c.in-Some.ensures.items;
      room = omega (arith, before.room, c.push_reserved.ensures.capacity);
      each = λ slot answer again is there. each_more P c.slots.answers.items c.try_again.result n refl here (λ k other at_k first first_is. before.each k first other first_is at_k) slot again
          (ap (λ l. slice_get l slot) (sym {A = List (Result Report (Unfinished _))} c.push_reserved.ensures.items) ∙ there) answer is;
    }
