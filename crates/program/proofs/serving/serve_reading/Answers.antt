-- Where the limits have too many owners, nothing was served.
use Rattle.std.proofs.lemmas.Result.{err_from_is_err_and}
use Rattle.program.proofs.Unsaid.{unserved}
use Rattle.program.proofs.serving.serve_reading.Goals as goal

pub returns-in_err-share-clause-written : goal.returns-in_err-share-clause-written
returns-in_err-share-clause-written g c =
    let told = err_from_is_err_and c.from_residual.result c.from_residual.ensures.1 in
    rw (told.1, told.2) (unserved c.args.serving.service.now c.args.serving.limits.now (g.W.Write.contents c.args.output.now))
