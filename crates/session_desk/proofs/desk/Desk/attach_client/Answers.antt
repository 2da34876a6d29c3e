use Rattle.std.proofs.Common.{refl, sym, ap, ◌∙◌, subst}
use Rattle.std.specs.FinMap as map
use Rattle.session_desk.specs.Attaching.{IsStale}
use Rattle.session_desk.proofs.Kept.{same_parked}
use Rattle.session_desk.proofs.desk.Desk.attach_client.Goals as goal

pub returns-in-Lent : goal.returns-in-Lent
returns-in-Lent g c =
    let found = c.in-Some.ensures in
    let row = found.0 in
    let has = sym (ap (λ b. map.get b.rows c.in-Some.number) c.self.view_is) ∙ found.1 in
    let seen = c.in-Lent.ensures row found.1 in
    let other = c.if-is_awaited.ensures row seen.1 in (
      record {
        number = c.in-Some.number;
        row = row;
        holder = c.in-Lent.holder;
        its = record { has = has; its = found.2.its; stands = seen.0 };
        other = other.0;
        waits = other.1;
        another = other.2;
      },
      refl,
    )

pub returns-in-Lent-2 : goal.returns-in-Lent-2
returns-in-Lent-2 g c =
    let found = c.in-Some.ensures in
    let row = found.0 in
    let has = sym (ap (λ b. map.get b.rows c.in-Some.number) c.self.view_is) ∙ found.1 in
    let seen = c.in-Lent.ensures row found.1 in
    record {
      number = c.in-Some.number;
      row = row;
      its = record { has = has; its = found.2.its; stands = seen.0 };
      alone = c.if-is_awaited.ensures row seen.1;
      after = c.replace.ensures row has;
    }

pub returns-in-Fresh : goal.returns-in-Fresh
returns-in-Fresh g c =
    let found = c.in-Some.ensures in
    let row = found.0 in
    let has = sym (ap (λ b. map.get b.rows c.in-Some.number) c.self.view_is) ∙ found.1 in
    let seen = c.in-Fresh.ensures row found.1 in
    let given = c.resume.ensures row has in
    record {
      number = c.in-Some.number;
      row = row;
      its = record { has = has; its = found.2.its; stands = given.0 };
      fresh = λ stale. seen.2 (subst (λ s. IsStale s c.args.clean c.args.now) (same_parked c.resume.result seen.0 (sym given.0 ∙ seen.1)) stale);
      after = given.1;
    }
