-- The port was to be had, and memory was refused for the metrics: nothing was written.
use Rattle.std.proofs.Common.{inl}
use Rattle.text_io.proofs.PassingLaws.{Keeps-refl}
use Rattle.tcp_server.proofs.serving.serve_at.Goals as goal

pub returns-in-Err-Memory-clause-written : goal.returns-in-Err-Memory-clause-written
returns-in-Err-Memory-clause-written g c = inl (c.in-Ok.source.port, c.in-Ok.ensures.port, inl (inl (Keeps-refl (g.O.Write.contents c.args.output.now))))
