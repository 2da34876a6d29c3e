use Rattle.std.proofs.Common.{subst}
use Rattle.session_desk.specs.Attaching.{attaches_by}
use Rattle.session_desk.proofs.Unnamed.{refused_at_end}
use Rattle.session_desk.proofs.laws.names_run_out.Goals as goal

pub returns : goal.returns
returns g c newcomers old new request answer none all attaches =
    refused_at_end newcomers old new request.connection answer all (subst (λ client. attaches_by newcomers client old request answer new) none attaches)
