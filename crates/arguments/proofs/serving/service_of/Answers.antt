-- What the options tell is a service, and where they tell none there is none.
use Rattle.std.proofs.Common.{◌≡◌, ◌∙◌, [], codes, inr, map, refl, subst, sym}
use Rattle.std.specs.Borrow.{Bor}
use Rattle.std.specs.Net.Grammar.{IsIpv4Text, Parses}
use Rattle.clap.specs.Words.{Text, all_of, found_of, one_text, rows_of}
use Rattle.arguments.specs.Options.{pairs_in}
use Rattle.arguments.specs.Groups.{AddsEach, RefusesOne}
use Rattle.arguments.proofs.OneRequest.{each_or_refused}
use Rattle.arguments.proofs.Read.{all_is, one_is, values_are}
use Rattle.arguments.proofs.Values.{value_read}
use Rattle.arguments.proofs.serving.service_of.Goals as goal

pub returns-in_default-clause-err : goal.returns-in_default-clause-err
returns-in_default-clause-err c =
    let found = found_of c.args.options.now in
    inr (c.in_ok-wrong.ensures, λ service by. (c.in_default.ensures.value by.text (sym (one_is found (codes "address")) ∙ by.value)).1 service.address by.address)

pub returns-in-Ok-clause-ok : goal.returns-in-Ok-clause-ok
returns-in-Ok-clause-ok c =
    let found = found_of c.args.options.now in
    let read = value_read {E = Unit {0}} (Parses IsIpv4Text) (one_text found (codes "address")) c.in-Some.address c.in-Some.ensures.none c.in-Some.ensures.value in
    let pairs : map (λ (v : Bor Text). v.now) c.unwrap_or.result.now ≡ pairs_in (rows_of found) = rw c.unwrap_or.ensures (values_are c.get_strs.result _ (all_of (codes "group") (rows_of found)) refl (c.get_strs.ensures ∙ sym (all_is found (codes "group")))) in
    let all : AddsEach [] (map (λ (v : Bor Text). v.now) c.unwrap_or.result.now) c.in-Ok.groups = rw c.in-Ok.is at c.in_ok-groups.ensures in
    record {
      text = read.0;
      value = one_is found (codes "address") ∙ read.1;
      address = read.2;
      port = c.in-Some-numbers_of.ensures.0;
      workers = c.in-Some-numbers_of.ensures.1;
      until = c.in-Some-until_of.ensures;
      drain = c.in-Some-numbers_of.ensures.2;
      metrics = c.in-Some-numbers_of.ensures.3;
      log = c.in-Some-level_of.ensures;
      sessions = c.in-Some-numbers_of.ensures.4;
      keep_parked = c.in-Some-flag_of.ensures;
      declared_groups = c.in-Some-flag_of-2.ensures;
      per_address = c.in-Some-numbers_of.ensures.5;
      max_expiry = c.in-Some-numbers_of.ensures.6;
      max_keep_alive = c.in-Some-numbers_of.ensures.7;
      users = c.in_ok-users.ensures;
      capacity = c.in-Some-numbers_of.ensures.8;
      max_inflight = c.in-Some-numbers_of.ensures.9;
      groups = subst (λ texts. AddsEach [] texts c.in-Ok.groups) pairs all;
    }

pub returns-in_ok-wrong-in-Err-clause-err : goal.returns-in_ok-wrong-in-Err-clause-err
returns-in_ok-wrong-in-Err-clause-err c =
    let found = found_of c.args.options.now in
    let pairs : map (λ (v : Bor Text). v.now) c.unwrap_or.result.now ≡ pairs_in (rows_of found) = rw c.unwrap_or.ensures (values_are c.get_strs.result _ (all_of (codes "group") (rows_of found)) refl (c.get_strs.ensures ∙ sym (all_is found (codes "group")))) in
    let one : RefusesOne [] (map (λ (v : Bor Text). v.now) c.unwrap_or.result.now) c.in-Err.refused.refusal = rw c.in-Err.is at c.in_ok-groups.ensures in
    inr (c.in_ok-wrong-in-Err.ensures, λ service by. each_or_refused (pairs_in (rows_of found)) [] service.groups c.in-Err.refused.refusal by.groups (subst (λ texts. RefusesOne [] texts c.in-Err.refused.refusal) pairs one))
