use Rattle.std.proofs.Common.{sum_by, sym, ap, ◌∙◌, arith}
use Rattle.std.specs.FinMap as map
use Rattle.session_desk.specs.Rows.{session_in}
use Rattle.session_desk.specs.Everything.{items_of, place_of}
use Rattle.session_desk.proofs.Seen.{len_seen}
use Rattle.session_desk.proofs.TakenOut.{sum_seen}
use Rattle.session_desk.proofs.table.Table.drain.Goals as goal

pub drain_rows-requires-clause-places : goal.drain_rows-requires-clause-places
drain_rows-requires-clause-places g c =
    let len = sym (len_seen c.self.inside.rows.entries c.len-len.ensures.unique) ∙ ap (λ r. map.len r.rows) c.self.view_is in
    let room = c.requires.places in omega arith

pub drain_rows-requires-clause-envelopes : goal.drain_rows-requires-clause-envelopes
drain_rows-requires-clause-envelopes g c =
    let len = sym (len_seen c.self.inside.rows.entries c.len-len.ensures.unique) ∙ ap (λ r. map.len r.rows) c.self.view_is in
    let room = c.requires.envelopes in omega arith

pub returns-clause-places : goal.returns-clause-places
returns-clause-places g c = λ measure.
    let sum = sym (sum_seen (λ entry. sum_by measure (place_of (session_in entry.1.held_by))) c.self.inside.rows.entries c.len-len.ensures.unique)
    ∙ ap (λ r. sum_by (λ entry. sum_by measure (place_of (session_in entry.1.held_by))) (map.entries r.rows)) c.self.view_is in
    let drained = c.drain_rows.ensures.places measure in omega arith

pub returns-clause-envelopes : goal.returns-clause-envelopes
returns-clause-envelopes g c = λ measure.
    let sum = sym (sum_seen (λ entry. sum_by measure (items_of (session_in entry.1.held_by))) c.self.inside.rows.entries c.len-len.ensures.unique)
    ∙ ap (λ r. sum_by (λ entry. sum_by measure (items_of (session_in entry.1.held_by))) (map.entries r.rows)) c.self.view_is in
    let drained = c.drain_rows.ensures.envelopes measure in omega arith

pub returns-clause-few_places : goal.returns-clause-few_places
returns-clause-few_places g c =
    let len = sym (len_seen c.self.inside.rows.entries c.len-len.ensures.unique) ∙ ap (λ r. map.len r.rows) c.self.view_is in
    let few = c.drain_rows.ensures.few_places in omega arith
