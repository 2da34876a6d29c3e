-- What is accepted in the steps of a run, and in one more.
use Rattle.std.proofs.Common.{◌≡◌, List, [], ◌∷◌, ◌++◌, filter_map, refl, sym, ap, ◌∙◌, append_assoc, append-nil}
use Rattle.std.proofs.lemmas.Grind.{flat_map-append}
use Rattle.group_jobs.specs.Stamps.{Held}
use Rattle.local_server.specs.ConnSteps.{ConnStep}
use Rattle.local_server.specs.Messages.{Accepted, IsBrought, AllAccept, sent_in, all_sent}

pub accept_on : (conn_steps : List ConnStep) (conn_step : ConnStep) (accepted more : List Accepted) → AllAccept conn_steps accepted → IsBrought conn_step.connection conn_step.at conn_step.input more
    → AllAccept (conn_steps ++ conn_step ∷ []) (accepted ++ more)
accept_on [] conn_step accepted more none brought = (more, [], brought, refl, ap (λ (l : List Accepted). l ++ more) none ∙ sym (append-nil more))
accept_on (first ∷ others) conn_step accepted more all brought = (
  all.0,
  all.1 ++ more,
  all.2,
  accept_on others conn_step all.1 more all.3 brought,
  ap (λ (l : List Accepted). l ++ more) all.4 ∙ append_assoc all.0 all.1 more,
)

pub more_sent : (conn_steps : List ConnStep) (conn_step : ConnStep) → all_sent (conn_steps ++ conn_step ∷ []) ≡ all_sent conn_steps ++ filter_map sent_in conn_step.marks
more_sent conn_steps conn_step =
    flat_map-append (λ (t : ConnStep). filter_map sent_in t.marks) conn_steps (conn_step ∷ [])
    ∙ ap (λ (m : List Held). all_sent conn_steps ++ m) (append-nil (filter_map sent_in conn_step.marks))
