use Rattle.std.proofs.Common.{sym, ◌∙◌, subst}
use Rattle.session_desk.specs.Idle.{IsParkedLongest}
use Rattle.session_desk.specs.Newcomers.{IsRoom}
use Rattle.session_desk.proofs.Kept.{same_parked}
use Rattle.session_desk.proofs.desk.Desk.begin.Goals as goal

pub returns-in-Ok-open_displacing : goal.returns-in-Ok-open_displacing
returns-in-Ok-open_displacing g c =
    let old = c.args.self.now in
    let room = subst (IsRoom old.rows c.args.newcomers) c.in-InPlaceOf.is c.requires.room in
    let row = room.0 in
    let goes = room.2 in
    let opens = c.in-Ok-open_displacing.ensures row goes.longest.has in
    record {
      none = c.requires.none;
      number = c.in-InPlaceOf.number;
      row = row;
      goes = record {
        most = goes.most;
        displaces = goes.displaces;
        full = goes.full;
        longest = subst (IsParkedLongest old.rows c.in-InPlaceOf.number row) (same_parked room.1 c.in-Ok-open_displacing.ended (sym goes.longest.stands ∙ opens.0)) goes.longest;
      };
      fits = opens.1;
      is = opens.2;
      after = opens.3;
    }
