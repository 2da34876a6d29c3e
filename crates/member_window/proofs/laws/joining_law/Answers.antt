use Rattle.member_window.proofs.Law.{made_append, transcript_append}
use Rattle.member_window.proofs.laws.joining_law.Goals as goal

pub returns-clause-made : goal.returns-clause-made
returns-clause-made g c old mid new before behind made more = made_append old mid new before behind made more

pub returns-clause-transcript : goal.returns-clause-transcript
returns-clause-transcript g c before behind = transcript_append before behind
