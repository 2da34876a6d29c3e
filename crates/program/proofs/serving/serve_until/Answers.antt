-- A broker that serves until standard input ends read that; one that serves until it is killed read nothing, and ended with an error.
use Rattle.std.proofs.Common.{subst}
use Rattle.std.proofs.KnownBytes.{Keeps-refl}
use Rattle.broker_log.specs.Lines.{BeginsToLog}
use Rattle.program.specs.Ending.{IsLoggedUnread}
use Rattle.program.proofs.serving.serve_until.Goals as goal

pub returns-in-Stdin-clause-read : goal.returns-in-Stdin-clause-read
returns-in-Stdin-clause-read g c = rw c.in-Stdin.is c.serve_logged.ensures.read

pub returns-in-Stdin-clause-logged : goal.returns-in-Stdin-clause-logged
returns-in-Stdin-clause-logged g c =
    let old = g.E.Write.contents c.args.errors.now in
    let new = g.E.Write.contents c.serve_logged.new.errors in
    rw c.in-Stdin.is (subst (λ level. BeginsToLog level old new) c.requires c.serve_logged.ensures.logged)

pub returns-in-Killed-clause-read : goal.returns-in-Killed-clause-read
returns-in-Killed-clause-read g c = rw c.in-Killed.is (Keeps-refl (g.R.Read.remaining c.args.reader.now), c.serve_unread.ensures.failed)

pub returns-in-Killed-clause-logged : goal.returns-in-Killed-clause-logged
returns-in-Killed-clause-logged g c =
    let old = g.E.Write.contents c.args.errors.now in
    let new = g.E.Write.contents c.serve_unread.new.errors in
    rw c.in-Killed.is (subst (λ level. IsLoggedUnread level old new) c.requires c.serve_unread.ensures.logged)
