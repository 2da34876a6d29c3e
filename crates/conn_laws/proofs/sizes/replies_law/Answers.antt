-- How long the packets are that are no PUBLISH.
use Rattle.conn_laws.proofs.Replies as replies
use Rattle.conn_laws.proofs.sizes.replies_law.Goals as goal

pub returns-clause-accepted : goal.returns-clause-accepted
returns-clause-accepted c present overrides = replies.accepted present overrides

pub returns-clause-assigned : goal.returns-clause-assigned
returns-clause-assigned c present number overrides = replies.assigned_is_small present number overrides

pub returns-clause-named : goal.returns-clause-named
returns-clause-named c present name overrides text = replies.named present name overrides text

pub returns-clause-refused : goal.returns-clause-refused
returns-clause-refused c refusal = replies.refused refusal

pub returns-clause-acknowledged : goal.returns-clause-acknowledged
returns-clause-acknowledged c identifier code = replies.acknowledged identifier code

pub returns-clause-subscribed : goal.returns-clause-subscribed
returns-clause-subscribed c identifier codes few = replies.subscribed identifier codes few

pub returns-clause-unsubscribed : goal.returns-clause-unsubscribed
returns-clause-unsubscribed c identifier codes few = replies.unsubscribed identifier codes few

pub returns-clause-closed : goal.returns-clause-closed
returns-clause-closed c code = replies.closed code

pub returns-clause-answered : goal.returns-clause-answered
returns-clause-answered c = replies.answered
