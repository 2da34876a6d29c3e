-- The headline, read off the runs of groups and the quotas of connections.
use Rattle.std.proofs.Common.{◌≡◌, ◌≢◌, ℕ, List, Contains, sym, subst, ◌∙◌, ⊎_elim}
use Rattle.std.proofs.lemmas.Bool.{cases_eq}
use Rattle.dispatch_core.specs.declared.event.Event.{Event}
use Rattle.dispatch_core.specs.declared.event.Job.{Job}
use Rattle.dispatch_core.specs.GroupState.{GroupState, firsts_of}
use Rattle.dispatch_core.specs.History.{IsRun}
use Rattle.dispatch_core.specs.Lawful.{IsLawful, RisesByPort, StandsOnce}
use Rattle.dispatch_core.specs.Told.{firsts_in}
use Rattle.dispatch_core.proofs.RunLaws.{refused_run, discarded_run, closed_run}
use Rattle.dispatch_core.proofs.ToldLaws.{firsts_run}
use Rattle.local_group.specs.Groups.{Group}
use Rattle.local_group.proofs.Fates.{one_fate}
use Rattle.local_server.specs.declared.event.TimedEvent.{TimedEvent}
use Rattle.conn_rules.specs.declared.setup.Setup.{Setup}
use Rattle.local_server.specs.Servers.{ServerState, IsNewServer}
use Rattle.local_server.specs.GoingThrough.{GoesThrough}
use Rattle.local_server.specs.Headline.{IsOneFirst, KeepsPromises, HoldsTheHeadline}
use Rattle.local_server.specs.Runs.{RunsLawfully}
use Rattle.local_server.proofs.Happened.{runs}
use Rattle.local_server.proofs.Quotas.{within}

one_member : (events : List Event) (state : GroupState) → IsRun events state → IsLawful state → (member : ℕ) (job : Job) → Contains (firsts_in events member) job → IsOneFirst events member job
one_member events state run lawful member job there =
    let told : (m : ℕ) → firsts_of state m ≡ firsts_in events m = λ m. firsts_run events state m run in
    let here : Contains (firsts_of state member) job = subst (λ jobs. Contains jobs job) (sym (told member)) there in
    let out = lawful.handed_out member job here in
    let first = lawful.one_first job out.0 out.1 in
    let same : member ≡ first.member = ⊎_elim (λ (is : member ≡ first.member). is) (λ (other : member ≢ first.member). absurd (first.no_other member other here)) (cases_eq member first.member) in
    record {
      once = subst (λ jobs. StandsOnce jobs job) (told member) (subst (λ m. StandsOnce (firsts_of state m) job) (sym same) first.once);
      no_other = λ other differs found. first.no_other other (λ is. differs (is ∙ sym same)) (subst (λ jobs. Contains jobs job) (sym (told other)) found);
    }

keeps : (group : Group) → RunsLawfully group → KeepsPromises group
keeps group lawfully = record {
  one_member = one_member group.events group.state lawfully.run lawfully.lawful;
  in_order = λ member. subst RisesByPort (firsts_run group.events group.state member lawfully.run) (lawfully.lawful.rising member);
  refused = λ before behind member job is. (refused_run before behind member job group.state (subst (λ events. IsRun events group.state) is lawfully.run)).0;
  discarded = λ before behind member job is. (discarded_run before behind member job group.state (subst (λ events. IsRun events group.state) is lawfully.run)).0;
  closed = λ before behind is. (closed_run before behind group.state (subst (λ events. IsRun events group.state) is lawfully.run)).0;
  one_fate = λ report reports job. one_fate group report lawfully.lawful reports job;
}

pub headline : (setup : Setup) (events : List TimedEvent) (first last : ServerState) → IsNewServer setup first → GoesThrough first events last → HoldsTheHeadline last
headline setup events first last new all = record {
  groups = λ slot group there. keeps group (runs setup events first last new all slot group there);
  quota = within setup events first last new all;
}
