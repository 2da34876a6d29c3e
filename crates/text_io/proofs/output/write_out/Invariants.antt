use Rattle.text_io.proofs.PassingLaws.{Passes}
use Rattle.text_io.proofs.output.write_out.Given as goal

-- the writer got the bytes in front of the rest
abbrev pub invariant-loop : goal.invariant-loop
invariant-loop g l = Passes (g.W.Write.contents l.initial.writer) (g.W.Write.contents l.writer) l.bytes l.rest
