-- What every run of a model keeps.
use Rattle.solo_output.specs.Runs.{run_of}
use Rattle.solo_output.proofs.Taken.{answered}
use Rattle.solo_output.proofs.Lasting.{lasts_ran}
use Rattle.solo_output.proofs.StepLaws.{step_goes_to}
use Rattle.solo_output.proofs.Lawful.{kept_of, fits_all, within_maximum, accepted_all, told_all, own_all, bound_all, silent, settles_one, settled_all, eager_all}
use Rattle.solo_output.proofs.Grouped.{groups_all, slots_all, fates_all}
use Rattle.solo_output.proofs.Discarded.{discarded_all}
use Rattle.solo_output.proofs.laws.every_run_is_lawful.Goals as goal

pub returns-clause-receive_maximum : goal.returns-clause-receive_maximum
returns-clause-receive_maximum c = within_maximum

pub returns-clause-quota : goal.returns-clause-quota
returns-clause-quota c setup packets = (kept_of setup packets).room

pub returns-clause-identifiers : goal.returns-clause-identifiers
returns-clause-identifiers c setup packets = ((kept_of setup packets).small, (kept_of setup packets).distinct)

pub returns-clause-groups : goal.returns-clause-groups
returns-clause-groups c = groups_all

pub returns-clause-slots : goal.returns-clause-slots
returns-clause-slots c = slots_all

pub returns-clause-accepted : goal.returns-clause-accepted
returns-clause-accepted c = accepted_all

pub returns-clause-answered : goal.returns-clause-answered
returns-clause-answered c solo publish identifier connected answer = answered publish identifier solo connected answer

pub returns-clause-waiting : goal.returns-clause-waiting
returns-clause-waiting c setup packets slot = ((kept_of setup packets).lives slot, fits_all setup packets slot)

pub returns-clause-in_order : goal.returns-clause-in_order
returns-clause-in_order c setup packets slot = ((told_all setup packets).many, (kept_of setup packets).order slot, (told_all setup packets).each slot)

pub returns-clause-discarded : goal.returns-clause-discarded
returns-clause-discarded c = discarded_all

pub returns-clause-members : goal.returns-clause-members
returns-clause-members c setup packets packet = step_goes_to packet (run_of setup packets).solo

pub returns-clause-one_group : goal.returns-clause-one_group
returns-clause-one_group c = own_all

pub returns-clause-bound : goal.returns-clause-bound
returns-clause-bound c = bound_all

pub returns-clause-settles : goal.returns-clause-settles
returns-clause-settles c setup packets = settles_one (run_of setup packets).solo

pub returns-clause-settled : goal.returns-clause-settled
returns-clause-settled c setup packets place code one there coded = settled_all setup packets place code one there coded

pub returns-clause-for_good : goal.returns-clause-for_good
returns-clause-for_good c setup packets more = lasts_ran more (run_of setup packets).solo

pub returns-clause-one_fate : goal.returns-clause-one_fate
returns-clause-one_fate c = fates_all

pub returns-clause-eager : goal.returns-clause-eager
returns-clause-eager c = eager_all

pub returns-clause-closed : goal.returns-clause-closed
returns-clause-closed c = silent
