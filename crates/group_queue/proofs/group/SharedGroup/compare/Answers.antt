-- What the lists tell.
use Rattle.std.proofs.Common.{ap, sym, ◌∙◌, ◌<◌, subst}
use Rattle.dispatch_core.specs.JobRuns.{jobs_of}
use Rattle.group_jobs.specs.declared.stamp.Stamp.{Stamp}
use Rattle.group_jobs.specs.Stamps.{stamp_of}
use Rattle.group_queue.specs.Ends.{times_held, times_out}
use Rattle.group_queue.specs.Known.{IsAmong}
use Rattle.group_queue.proofs.Compared.{lacking, strange, none_lacks_here, all_same}
use Rattle.group_queue.proofs.group.SharedGroup.compare.Goals as goal

pub returns-then-not-are_same : goal.returns-then-not-are_same
returns-then-not-are_same g c =
    let found = c.in_ok-job.ensures in
    let group = c.args.self.now in
    let places = c.args.places.now in
    let held = c.args.held.now in
    let stamp = c.of-stamp.ensures ∙ ap (λ slot. stamp_of slot c.in_ok-job.job) (ap (λ g. g.slot) c.self.view_is) in
    subst (λ (s : Stamp). times_held s held < times_out group s places) (sym stamp)
    (lacking group places held (jobs_of c.in-Ok.out.runs) (jobs_of c.in-Ok-list_known.known.runs) c.in-Ok.ensures.counts c.in-Ok-list_known.ensures found.0 c.in_ok-job.job found.1 found.2 found.3)

pub returns-in-Some : goal.returns-in-Some
returns-in-Some g c =
    let group = c.args.self.now in
    let places = c.args.places.now in
    let held = c.args.held.now in
    let out = jobs_of c.in-Ok.out.runs in
    let known = jobs_of c.in-Ok-list_known.known.runs in
    let same = ap jobs_of (c.are_same.ensures c.if-not-are_same.false) in
    let found = c.in-Some.ensures in
    let none = subst (λ (s : Stamp). ¬ IsAmong group out s) (sym found.2) found.3 in (
      none_lacks_here group places held out known c.in-Ok.ensures.counts c.in-Ok-list_known.ensures same,
      subst (λ (s : Stamp). times_out group s places < times_held s held) found.2 (strange group places held out known c.in-Ok.ensures.counts c.in-Ok-list_known.ensures found.0 found.1 none),
    )

pub returns : goal.returns
returns g c =
    all_same c.args.self.now c.args.places.now c.args.held.now (jobs_of c.in-Ok.out.runs) (jobs_of c.in-Ok-list_known.known.runs) c.in-Ok.ensures.counts c.in-Ok-list_known.ensures
    (ap jobs_of (c.are_same.ensures c.if-not-are_same.false)) c.in-None.ensures
