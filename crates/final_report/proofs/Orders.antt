-- What `finish` of a group says of the order of first hand-outs, in the words of messages.
use Rattle.std.proofs.Common.{◌≡◌, zero, suc, ◌<◌, List, ◌∷◌, ◌++◌, get_or, drop, Contains, sym, ap, ◌∙◌, arith}
use Rattle.std.specs.Prelude.{slice_get, Some}
use Rattle.std.specs.List.{AllPairs}
use Rattle.std.proofs.lemmas.List.Elements.{Contains-get_or}
use Rattle.dispatch_core.specs.declared.event.Job.{Job}
use Rattle.dispatch_core.specs.Lawful.{RisesByPort}
use Rattle.group_jobs.specs.declared.report.Report.{Report}
use Rattle.group_jobs.specs.Stamps.{Held}
use Rattle.group_jobs.specs.Balance.{Account}
use Rattle.group_queue.specs.declared.posted.Posted.{Posted}
use Rattle.group_queue.specs.Ports.{GroupId, PortState}
use Rattle.group_queue.specs.Places.{PlaceState, account_of, jobs_in}
use Rattle.group_queue.specs.Ends.{Reports}
use Rattle.final_report.specs.Promises.{StandsBefore, AreInItsOrder, KeepsOrder}
use Rattle.final_report.proofs.Lists.{All-mapped, AllPairs-mapped, cut_at}

-- a list in which two stand at their numbers has the one before the other
pub before_of : (sent : List Posted) (one other : Posted) → slice_get sent one.job.number ≡ Some one → slice_get sent other.job.number ≡ Some other → one.job.number < other.job.number
    → StandsBefore sent one other
before_of sent one other at at' less =
    let n = one.job.number in
    let first = cut_at sent zero n one at (omega arith) in
    let second = cut_at sent (suc n) other.job.number other at' (omega arith) in
    (first.0, second.0, drop (suc other.job.number) sent, first.1 ∙ ap (λ l. first.0 ++ one ∷ l) second.1)

module _ (group : GroupId) (ports : List PortState) (places : List PlaceState) (held : List Held) (report : Report) (r : Reports group ports places held report) where
  rises_at : (place : PlaceState) → Contains places place → RisesByPort (jobs_in place.firsts)
  rises_at place there = All-mapped (λ (a : Account). RisesByPort a.firsts) account_of places place r.orderly.rising there

  ordered_at : (place : PlaceState) → Contains places place → AllPairs (AreInItsOrder ports) place.firsts
  ordered_at place there =
      let pairs = AllPairs-mapped (λ (a b : Job). a.port ≡ b.port → a.number < b.number) (λ (posted : Posted). posted.job) place.firsts (rises_at place there) in
      λ i j d less within port among one other.
      before_of port.sent (get_or place.firsts i d) (get_or place.firsts j d) one.1 other.1 (pairs i j d less within (sym one.0 ∙ other.0))

  pub keeps_order : KeepsOrder ports places held report
  keeps_order = record {
    in_order = (λ k d less. ordered_at (get_or places k d) (Contains-get_or places k d less));
    numbered = r.carries.as_sent;
    rises = (λ k d less. rises_at (get_or places k d) (Contains-get_or places k d less));
  }
