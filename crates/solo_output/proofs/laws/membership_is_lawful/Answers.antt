-- How a client comes into a group, and out of it.
use Rattle.solo_output.proofs.Members.{step_joins, step_joined, step_identifies, step_identified, step_leaves, step_left, step_leaving, step_parts, owes_all, step_admits, step_readmits, step_releases}
use Rattle.solo_output.proofs.laws.membership_is_lawful.Goals as goal

pub returns-clause-joins : goal.returns-clause-joins
returns-clause-joins c = step_joins

pub returns-clause-joined : goal.returns-clause-joined
returns-clause-joined c = step_joined

pub returns-clause-identifies : goal.returns-clause-identifies
returns-clause-identifies c = step_identifies

pub returns-clause-identified : goal.returns-clause-identified
returns-clause-identified c = step_identified

pub returns-clause-leaves : goal.returns-clause-leaves
returns-clause-leaves c = step_leaves

pub returns-clause-left : goal.returns-clause-left
returns-clause-left c = step_left

pub returns-clause-leaving : goal.returns-clause-leaving
returns-clause-leaving c = step_leaving

pub returns-clause-admits : goal.returns-clause-admits
returns-clause-admits c = step_admits

pub returns-clause-readmits : goal.returns-clause-readmits
returns-clause-readmits c = step_readmits

pub returns-clause-releases : goal.returns-clause-releases
returns-clause-releases c = step_releases

pub returns-clause-parts : goal.returns-clause-parts
returns-clause-parts c = step_parts

pub returns-clause-owes : goal.returns-clause-owes
returns-clause-owes c = owes_all
