use Rattle.std.proofs.lemmas.List.{take_rest}
use Rattle.text_io.proofs.PassingLaws.{Passes-write, Passes-keeps}
use Rattle.text_io.proofs.output.write_out.Goals as goal
use Rattle.text_io.proofs.output.write_out.Goals.{in-Ok, in-Err}

pub loop-preserved : goal.loop-preserved
loop-preserved g c = elim c.match-write.branch [
  | in-Ok w ↦ rw w.rest-is (rw take_rest (Passes-write _ _ _ _ _ _ c.loop.invariant w.in-Ok.ensures.bytes))
  | in-Err w ↦ rw w.rest-is (Passes-keeps _ _ _ _ _ c.loop.invariant w.in-Err.ensures.bytes)
]
