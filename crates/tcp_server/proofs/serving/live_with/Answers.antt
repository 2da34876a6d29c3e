-- There was no memory for what the workers count, or they got no place to wait at, and nothing was written; or the first line was not, and a beginning of it was.
use Rattle.std.proofs.Common.{inl, refl}
use Rattle.text_io.specs.declared.error.RunError.TheVariants.{Memory}
use Rattle.tcp_server.proofs.Served.{not_set_up, not_written}
use Rattle.tcp_server.proofs.serving.live_with.Goals as goal

pub returns-in_default-shared_counts-clause-failed : goal.returns-in_default-shared_counts-clause-failed
returns-in_default-shared_counts-clause-failed g c = not_set_up c.args.listening.line.now Memory (g.O.Write.contents c.args.output.now) (inl refl)

pub returns-in-Err-clause-failed : goal.returns-in-Err-clause-failed
returns-in-Err-clause-failed g c = not_set_up c.args.listening.line.now c.in-Err.error (g.O.Write.contents c.args.output.now) c.in-Err.ensures.cause

pub returns-in-Err-write_all-clause-failed : goal.returns-in-Err-write_all-clause-failed
returns-in-Err-write_all-clause-failed g c =
    not_written c.args.listening.line.now c.in-Err-write_all.error (g.O.Write.contents c.args.output.now) (g.O.Write.contents c.write_all.new.writer) c.in-Err-write_all.ensures.cause c.in-Err-write_all.ensures.err
