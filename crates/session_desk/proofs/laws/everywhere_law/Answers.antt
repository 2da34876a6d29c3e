use Rattle.session_desk.proofs.Everywhere.{nothing, onward, out}
use Rattle.session_desk.proofs.laws.everywhere_law.Goals as goal

pub returns-clause-first : goal.returns-clause-first
returns-clause-first g c = nothing g.R.Rule.holds g.R.Rule.fits

pub returns-clause-onward : goal.returns-clause-onward
returns-clause-onward g c cell call old new made so going = onward g.R.Rule.holds g.R.Rule.fits g.R.Rule.begins g.R.Rule.timeless g.R.Rule.frees cell old new call made so going

pub returns-clause-out : goal.returns-clause-out
returns-clause-out g c cell call old new made so going = out g.R.Rule.holds g.R.Rule.fits g.R.Rule.begins g.R.Rule.timeless g.R.Rule.frees cell old new call made so going
