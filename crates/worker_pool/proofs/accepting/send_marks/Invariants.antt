-- Nothing but end marks was sent so far.
use Rattle.worker_pool.specs.Accepting.{OnlyMarks}
use Rattle.worker_pool.proofs.accepting.send_marks.Given as goal

abbrev pub invariant-marks : goal.invariant-marks
invariant-marks g l = OnlyMarks l.fn.sender l.sender
