use Rattle.std.proofs.Common.{◌∙◌, ◌≡◌, [], codes, inr, map, refl, subst, sym}
use Rattle.std.specs.Borrow.{Bor}
use Rattle.clap.specs.Words.{Text, all_of, found_of, rows_of}
use Rattle.arguments.specs.Groups.{AddsEach, RefusesOne}
use Rattle.arguments.specs.Options.{HaveCapacity, HaveMaxInflight, pairs_in}
use Rattle.arguments.proofs.Read.{all_is, values_are}
use Rattle.arguments.proofs.setup.setup_of.Goals as goal

pub returns-in-Ok-clause-ok : goal.returns-in-Ok-clause-ok
returns-in-Ok-clause-ok c =
    let found = found_of c.args.options.now in
    let pairs : map (λ (v : Bor Text). v.now) c.unwrap_or.result.now ≡ pairs_in (rows_of found) = rw c.unwrap_or.ensures (values_are c.get_strs.result _ (all_of (codes "group") (rows_of found)) refl (c.get_strs.ensures ∙ sym (all_is found (codes "group")))) in
    let all : AddsEach [] (map (λ (v : Bor Text). v.now) c.unwrap_or.result.now) c.in-Ok.groups = rw c.in-Ok.is at c.in_ok-groups.ensures in (
      subst (HaveCapacity (rows_of found)) (sym c.capacity_of.ensures) c.messages-messages.ensures,
      subst (HaveMaxInflight (rows_of found)) (sym c.limit_of.ensures) c.packets-packets.ensures,
      subst (λ texts. AddsEach [] texts c.in-Ok.groups) pairs all,
    )

pub returns-in_ok-wrong-in-Err-clause-err : goal.returns-in_ok-wrong-in-Err-clause-err
returns-in_ok-wrong-in-Err-clause-err c =
    let found = found_of c.args.options.now in
    let pairs : map (λ (v : Bor Text). v.now) c.unwrap_or.result.now ≡ pairs_in (rows_of found) = rw c.unwrap_or.ensures (values_are c.get_strs.result _ (all_of (codes "group") (rows_of found)) refl (c.get_strs.ensures ∙ sym (all_is found (codes "group")))) in
    let one : RefusesOne [] (map (λ (v : Bor Text). v.now) c.unwrap_or.result.now) c.in-Err.refused.refusal = rw c.in-Err.is at c.in_ok-groups.ensures in
    inr (c.in_ok-wrong-in-Err.ensures, (c.in-Err.refused.refusal, subst (λ texts. RefusesOne [] texts c.in-Err.refused.refusal) pairs one))
