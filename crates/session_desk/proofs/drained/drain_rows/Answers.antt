use Rattle.std.proofs.Common.{◌++◌, [], length, sum_by, refl, ap, ◌∙◌, arith, length-append}
use Rattle.std.specs.Option.{option_to_list}
use Rattle.std.proofs.lemmas.Bool.{false≢true}
use Rattle.session_desk.specs.Rows.{session_in}
use Rattle.session_desk.specs.Everything.{items_of, place_of}
use Rattle.session_desk.proofs.Seen.{no_length}
use Rattle.session_desk.proofs.TakenOut.{taken_row, none_left}
use Rattle.session_desk.proofs.drained.drain_rows.Goals as goal

pub rows-preserved : goal.rows-preserved
rows-preserved g c =
    let split = c.pop.ensures.entries ∙ ap (λ r. c.pop.new.self.entries ++ option_to_list r) c.in-Some.is in
    let shorter = ap length split ∙ length-append c.pop.new.self.entries _ in
    let inv = c.rows.invariant in
    record {
      places = λ measure. taken_row (λ entry. sum_by measure (place_of (session_in entry.1.held_by))) measure c.rows.rows.entries c.pop.new.self.entries (c.in-Some.field-0-0, c.in-Some.row) c.rows.places.items c.drain_row.new.places.items (place_of (session_in c.in-Some.row.held_by)) _ split c.drain_row.ensures.places refl (inv.places measure);
      envelopes = λ measure. taken_row (λ entry. sum_by measure (items_of (session_in entry.1.held_by))) measure c.rows.rows.entries c.pop.new.self.entries (c.in-Some.field-0-0, c.in-Some.row) c.rows.envelopes.items c.drain_row.new.envelopes.items (items_of (session_in c.in-Some.row.held_by)) _ split c.drain_row.ensures.envelopes refl (inv.envelopes measure);
      places_left = (let a = c.drain_row.ensures.few_places in let b = c.drain_row.ensures.places_room in omega arith);
      envelopes_left = (let a = c.drain_row.ensures.few_envelopes in let b = c.drain_row.ensures.envelopes_room in omega arith);
      same = c.drain_row.ensures.places_room ∙ inv.same;
      few = (let a = c.drain_row.ensures.few_places in omega arith);
    }

pub destroy_empty-requires : goal.destroy_empty-requires
destroy_empty-requires g c =
    no_length c.pop.new.self.entries (let old = ap length c.in_default.ensures.entries ∙ length-append c.pop.new.self.entries [] in let none = none_left (length c.rows.rows.entries) (λ some. false≢true (c.in_default.ensures.found.1 some)) in omega arith)

pub returns-clause-places : goal.returns-clause-places
returns-clause-places g c = λ measure.
    let none = no_length c.rows.rows.entries (none_left (length c.rows.rows.entries) (λ some. false≢true (c.in_default.ensures.found.1 some))) in
    let empty = ap (sum_by (λ entry. sum_by measure (place_of (session_in entry.1.held_by)))) none in
    let kept = c.rows.invariant.places measure in
    omega arith

pub returns-clause-envelopes : goal.returns-clause-envelopes
returns-clause-envelopes g c = λ measure.
    let none = no_length c.rows.rows.entries (none_left (length c.rows.rows.entries) (λ some. false≢true (c.in_default.ensures.found.1 some))) in
    let empty = ap (sum_by (λ entry. sum_by measure (items_of (session_in entry.1.held_by)))) none in
    let kept = c.rows.invariant.envelopes measure in
    omega arith
