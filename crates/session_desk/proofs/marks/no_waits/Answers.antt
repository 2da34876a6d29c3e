use Rattle.std.proofs.Common.{None, Some, refl}
use Rattle.session_desk.proofs.marks.no_waits.Goals as goal

pub returns : goal.returns
returns c = c.in_ok-vec.ensures.items_if_clones_equal (elim [ None ↦ λ same. refl | Some x ↦ λ same. absurd same ])
