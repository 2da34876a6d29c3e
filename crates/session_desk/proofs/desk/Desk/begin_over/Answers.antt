use Rattle.std.proofs.Common.{sym, ◌∙◌, subst, inl}
use Rattle.session_desk.specs.Attaching.{IsStale}
use Rattle.session_desk.proofs.Kept.{same_parked}
use Rattle.session_desk.proofs.desk.Desk.begin_over.Goals as goal

pub returns-in-Ok : goal.returns-in-Ok
returns-in-Ok g c =
    let row = c.requires.0 in
    let clients = c.requires.2 in
    let opens = c.in-Ok.ensures row clients.has in
    inl record {
      number = c.args.number;
      row = row;
      its = record { has = clients.has; its = clients.its; stands = opens.0 };
      stale = subst (λ s. IsStale s c.args.clean c.args.now) (same_parked c.requires.1 c.in-Ok.ended (sym clients.stands ∙ opens.0)) c.requires.3;
      fits = opens.1;
      is = opens.2;
      after = opens.3;
    }
