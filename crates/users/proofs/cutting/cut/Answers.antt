use Rattle.users.proofs.Cuts.{cut_some, cut_none}
use Rattle.users.proofs.cutting.cut.Goals as goal

pub returns-in-Some : goal.returns-in-Some
returns-in-Some c = cut_some c.args.separator c.args.text.now c.in-Some.at c.in-Some.ensures.place

pub returns-in-None : goal.returns-in-None
returns-in-None c = cut_none c.args.separator c.args.text.now c.in-None.ensures.place
