use Rattle.std.proofs.Common.{◌<◌, sym, ap, ◌∙◌, subst, arith}
use Rattle.std.specs.FinMap as map
use Rattle.session_desk.specs.Rows.{away}
use Rattle.session_desk.specs.Books.{new_session, after_end, after_new}
use Rattle.session_desk.specs.Layout.{AreFew}
use Rattle.session_desk.proofs.Booked.{booked, few_moved, few_more, len_same, next_of}
use Rattle.session_desk.proofs.desk.Desk.open_over.Goals as goal

pub invariant_of-self : goal.invariant_of-self
invariant_of-self g c =
    let i = c.self.inside in
    let row = c.requires.0 in
    let has = ap (λ b. map.get b.rows c.args.number) c.self.view_is ∙ c.requires.2 in
    let same = len_same i.table.rows c.args.number row (away row.client) has in
    subst (λ r. AreFew r.rows i.assigned) (sym (c.in-Ok-begin_over.ensures.ok row has).2)
    (few_more (map.insert i.table.rows c.args.number (away row.client)) i.assigned i.table.made _ (few_moved i.table.rows i.assigned c.args.number row (away row.client) c.self.invariant has) (let len = c.len.ensures in omega arith))

pub returns-in-Ok-begin_over : goal.returns-in-Ok-begin_over
returns-in-Ok-begin_over g c = λ row has.
    let i = c.self.inside in
    let e = c.in-Ok-begin_over.ensures.ok row (ap (λ b. map.get b.rows c.args.number) c.self.view_is ∙ has) in (
      e.0,
      subst (λ b. map.len b.rows < 131072) c.self.view_is (let len = c.len.ensures in omega arith),
      c.new-in-Ok-begin_over.ensures ∙ ap (λ w. new_session w) (e.1 ∙ ap (λ b. next_of b c.args.client.now) c.self.view_is),
      (λ j. booked (e.2 j) i.assigned (c.note.ensures j) (c.note-in-Ok-begin_over.ensures j) i.free)
          ∙ ap (λ b. after_new (after_end b c.args.number row) c.args.client.now c.args.connection) c.self.view_is,
    )
