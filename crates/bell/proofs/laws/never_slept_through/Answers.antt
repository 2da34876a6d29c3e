use Rattle.bell.proofs.SleptThrough.{heard, stays, called}
use Rattle.bell.proofs.laws.never_slept_through.Goals as goal

pub returns-clause-heard : goal.returns-clause-heard
returns-clause-heard c worker known since after later earlier even few is none = heard worker known since after later earlier even few is none

pub returns-clause-stays : goal.returns-clause-stays
returns-clause-stays c worker since before idle none = stays worker since before idle none

pub returns-clause-roused : goal.returns-clause-roused
returns-clause-roused c worker since before idle over = called worker since before idle over
