use Rattle.std.proofs.Common.{◌≡◌, ◌<◌, ℕ, Bool, false, eqb, length, sym, ◌∙◌, arith}
use Rattle.std.proofs.lemmas.Bool.{eqb-false, eqb-true}
use Rattle.std.proofs.lemmas.Result.{err_from_is_err_and}
use Rattle.std.proofs.lemmas.List.{nil_from_length}
use Rattle.mqtt_fields.specs.Fields.{text_at}
use Rattle.mqtt_wire.specs.Bodies.{entries_within, entries_at}
use Rattle.mqtt_wire.proofs.Entries.{goes_on, ends, is_done}
use Rattle.mqtt_fields.proofs.FieldLaws.{text_shorter}
use Rattle.mqtt_wire.proofs.bodies.read_filters.Goals as goal

not_empty : (n : ℕ) (answer : Bool) → answer ≡ eqb n 0 → answer ≡ false → 0 < n
not_empty n answer e f = let g = eqb-false n 0 (sym e ∙ f) in omega arith

pub returns-in_err-read_text : goal.returns-in_err-read_text
unfolding entries_at
returns-in_err-read_text c =
    let p = err_from_is_err_and c.from_residual.result c.from_residual.ensures.1 in
    let body = c.loop-entries.body in
    rw (p.1, p.2)
    (ends text_at c.in_err-read_text.field-0.0 c.loop-entries.entries.items body (entries_within text_at (length c.args.body) c.args.body) (not_empty (length body) c.is_empty.result c.is_empty.ensures c.loop-entries-test.true) c.in_err-read_text.ensures.field c.loop-entries.invariant)

pub loop-entries-preserved : goal.loop-entries-preserved
loop-entries-preserved c =
    rw c.in_ok-push.ensures.items
    (goes_on text_at text_shorter c.loop-entries.entries.items c.loop-entries.body c.in_ok-read_text.field-0 c.read_text.new.body (entries_within text_at (length c.args.body) c.args.body) c.in_ok-read_text.ensures.field c.loop-entries.invariant)

pub returns : goal.returns
unfolding entries_at
returns c =
    let body = c.loop-entries.body in
    let nothing = nil_from_length body (eqb-true (length body) 0 (sym c.is_empty.ensures ∙ c.loop-entries-test.false)) in
    let all = is_done text_at c.loop-entries.entries.items body (entries_within text_at (length c.args.body) c.args.body) nothing c.loop-entries.invariant in
    rw all c.at_least_one.ensures
