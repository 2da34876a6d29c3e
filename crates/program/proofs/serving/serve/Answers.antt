-- A broker was served with the users that were asked for; and one that was given none read nothing, wrote nothing and said nothing.
use Rattle.std.proofs.Common.{inl, inr, subst}
use Rattle.std.proofs.KnownBytes.{Keeps-refl}
use Rattle.program.specs.Ending.{IsServedWith}
use Rattle.program.proofs.Unsaid.{unread, unsaid}
use Rattle.program.proofs.serving.serve.Goals as goal

pub returns-in-Ok-clause-written : goal.returns-in-Ok-clause-written
returns-in-Ok-clause-written g c =
    let old = g.W.Write.contents c.args.output.now in
    let new = g.W.Write.contents c.serve_limited.new.output in
    inl (record {
      users = c.in-Ok.users;
      are_asked_for = c.in-Ok.ensures.ok;
      served = subst (λ limits. IsServedWith c.args.service.now limits c.serve_limited.result old new) c.limits_of-limits.ensures c.serve_limited.ensures.written;
    })

pub returns-in-Err-clause-written : goal.returns-in-Err-clause-written
returns-in-Err-clause-written g c = inr (c.in-Err.ensures.err, Keeps-refl (g.W.Write.contents c.args.output.now))

pub returns-in-Err-clause-read : goal.returns-in-Err-clause-read
returns-in-Err-clause-read g c = unread c.args.service.now.until c.in-Err.error (g.R.Read.remaining c.args.reader.now)

pub returns-in-Err-clause-logged : goal.returns-in-Err-clause-logged
returns-in-Err-clause-logged g c = unsaid c.args.service.now.until c.args.service.now.log (g.E.Write.contents c.args.errors.now)
