-- One event more.
use Rattle.std.proofs.Common.{List, [], ◌∷◌, ◌++◌, refl, ap, sym, subst, ◌∙◌, append_assoc, append-nil, Ok}
use Rattle.client_table.specs.Clients.{StepOutput}
use Rattle.local_server.specs.declared.event.TimedEvent.{TimedEvent}
use Rattle.local_server.specs.Servers.{ServerState}
use Rattle.local_server.specs.Happening.{Happens, HappensAll}

pub more_happens : (events : List TimedEvent) (event : TimedEvent) (old mid new : ServerState) (outputs more : List StepOutput)
    → HappensAll old events outputs mid → Happens mid event.moment event.event more (Ok tt) new → HappensAll old (events ++ event ∷ []) (outputs ++ more) new
more_happens [] event old mid new outputs more run happens =
    (new, more, [], subst (λ s. Happens s event.moment event.event more (Ok tt) new) run.1 happens, (refl, refl), ap (λ xs. xs ++ more) run.0 ∙ sym (append-nil more))
more_happens (first ∷ others) event old mid new outputs more run happens =
    (run.0, run.1, run.2 ++ more, run.3, more_happens others event run.0 mid new run.2 more run.4 happens, ap (λ xs. xs ++ more) run.5 ∙ append_assoc run.1 run.2 more)
