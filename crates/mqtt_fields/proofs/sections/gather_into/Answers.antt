use Rattle.std.proofs.Common.{◌≡◌, ◌<◌, ℕ, Bool, false, eqb, length, sym, ◌∙◌, arith}
use Rattle.std.proofs.lemmas.Bool.{eqb-false, eqb-true}
use Rattle.std.proofs.lemmas.Result.{err_from_is_err_and}
use Rattle.std.proofs.lemmas.List.{nil_from_length}
use Rattle.mqtt_fields.specs.Sections.{gathered_at}
use Rattle.mqtt_fields.proofs.SectionLaws.{goes_on, ends, is_done}
use Rattle.mqtt_fields.proofs.sections.gather_into.Goals as goal

not_empty : (n : ℕ) (answer : Bool) → answer ≡ eqb n 0 → answer ≡ false → 0 < n
not_empty n answer e f = let g = eqb-false n 0 (sym e ∙ f) in omega arith

pub returns-in_err-property : goal.returns-in_err-property
returns-in_err-property c =
    let p = err_from_is_err_and c.from_residual.result c.from_residual.ensures.1 in
    let list = c.loop-section.list in
    rw (p.1, p.2)
    (ends c.args.section c.in_err-property.field-0.0 c.loop-section.properties list (gathered_at c.args.section c.args.properties.now (length c.args.list) c.args.list) (not_empty (length list) c.is_empty.result c.is_empty.ensures c.loop-section-test.true) c.in_err-property.ensures.field c.loop-section.invariant)

pub loop-section-preserved : goal.loop-section-preserved
loop-section-preserved c =
    rw c.in_ok-add.ensures
    (goes_on c.args.section c.loop-section.properties c.loop-section.list c.in_ok-property.property c.read_property.new.list (gathered_at c.args.section c.args.properties.now (length c.args.list) c.args.list) c.in_ok-property.ensures.field c.loop-section.invariant)

pub returns : goal.returns
returns c =
    let list = c.loop-section.list in
    let nothing = nil_from_length list (eqb-true (length list) 0 (sym c.is_empty.ensures ∙ c.loop-section-test.false)) in
    is_done c.args.section c.loop-section.properties list (gathered_at c.args.section c.args.properties.now (length c.args.list) c.args.list) nothing c.loop-section.invariant
