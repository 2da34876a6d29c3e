-- Where memory is refused for its log, a broker read nothing, wrote nothing and said nothing.
use Rattle.text_io.specs.declared.error.RunError.TheVariants.{Memory}
use Rattle.program.proofs.Unsaid.{unread, unsaid, unserved}
use Rattle.program.proofs.serving.serve_limited.Goals as goal

pub returns-in-Err-clause-written : goal.returns-in-Err-clause-written
returns-in-Err-clause-written g c = unserved c.args.service.now c.args.limits.now (g.W.Write.contents c.args.output.now)

pub returns-in-Err-clause-read : goal.returns-in-Err-clause-read
returns-in-Err-clause-read g c = unread c.args.service.now.until Memory (g.R.Read.remaining c.args.reader.now)

pub returns-in-Err-clause-logged : goal.returns-in-Err-clause-logged
returns-in-Err-clause-logged g c = unsaid c.args.service.now.until c.args.service.now.log (g.E.Write.contents c.args.errors.now)
