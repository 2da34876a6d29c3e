-- The message at a place tells the same as all from there on, where it is too long, and else those after it do.
use Rattle.std.proofs.Common.{◌<◌, ℕ, ◌+◌, ◌||◌, length, drop, sym, ap, ◌∙◌, arith}
use Rattle.std.specs.List.{list_any}
use Rattle.group_jobs.specs.Stamps.{Held}
use Rattle.member_window.specs.Contents.{held_of}
use Rattle.conn_rules.specs.HandOuts.{is_message_too_long}
use Rattle.conn_engine.proofs.Sizes.{any_from}
use Rattle.conn_engine.proofs.connecting.holds_message_too_long.Goals as goal

pub returns-then-branch : goal.returns-then-branch
returns-then-branch c =
    let held = held_of c.args.window.now in
    let test = λ (entry : ℕ × Held). is_message_too_long c.args.terms.now.maximum_packet_size entry.1.subscription entry.1.message in
    let within : c.held.place < length held = omega (arith, c.held-test.true, c.len-place-end.ensures.value) in
    sym (c.held.invariant ∙ any_from test held c.held.place c.in_ok-is_too_long_at.field-0 within c.in_ok-is_too_long_at.ensures
    ∙ ap (λ one. one || list_any test (drop (c.held.place + 1) held)) c.if-branch.true)

pub held-preserved : goal.held-preserved
held-preserved c =
    let held = held_of c.args.window.now in
    let test = λ (entry : ℕ × Held). is_message_too_long c.args.terms.now.maximum_packet_size entry.1.subscription entry.1.message in
    let within : c.held.place < length held = omega (arith, c.held-test.true, c.len-place-end.ensures.value) in
    c.held.invariant ∙ any_from test held c.held.place c.in_ok-is_too_long_at.field-0 within c.in_ok-is_too_long_at.ensures
    ∙ ap (λ one. one || list_any test (drop (c.held.place + 1) held)) c.if-branch.false
