use Rattle.std.proofs.Common.{◌≡◌, true, List, Contains, sym, ap, ◌∙◌, subst, ⊎_elim}
use Rattle.std.specs.List.{list_any}
use Rattle.std.proofs.lemmas.Bool.{false≢true}
use Rattle.dispatch_core.specs.declared.runs.Run.{Run}
use Rattle.dispatch_core.specs.JobRuns.{jobs_of, EachBefore, BeginsBefore, LiesApart}
use Rattle.dispatch_core.specs.Joining.{covers}
use Rattle.dispatch_core.specs.Merging.{merged}
use Rattle.dispatch_core.proofs.Stored.{any_covers}
use Rattle.dispatch_core.proofs.MergedLists.{merged_has, has_first, has_second}
use Rattle.dispatch_core.specs.Tiered.{both}
use Rattle.dispatch_core.proofs.runs.Runs.contains.Goals as goal

pub returns-then-any_has : goal.returns-then-any_has
returns-then-any_has c =
    let i = c.self.inside in
    subst (λ (rs : List Run). (c.any_has.result ≡ true → Contains (jobs_of rs) c.args.job) × (Contains (jobs_of rs) c.args.job → c.any_has.result ≡ true)) (ap (λ r. r.runs) c.self.view_is)
    (λ is. has_first (both i.older) i.recent.items c.args.job (c.any_has.ensures.0 is), λ has. c.if-any_has.true)

pub returns-else-any_has : goal.returns-else-any_has
returns-else-any_has c =
    let i = c.self.inside in
    let second = c.any_has-else-any_has.ensures ∙ ap (list_any (covers c.args.job)) c.deref.ensures.value in
    subst (λ (rs : List Run). (c.any_has-else-any_has.result ≡ true → Contains (jobs_of rs) c.args.job) × (Contains (jobs_of rs) c.args.job → c.any_has-else-any_has.result ≡ true)) (ap (λ r. r.runs) c.self.view_is) (
      λ is. has_second (both i.older) i.recent.items c.args.job ((any_covers i.recent.items c.args.job).0 (sym second ∙ is)),
      λ has.
          ⊎_elim
          (λ (l : Contains (jobs_of (both i.older)) c.args.job). absurd (false≢true (sym c.if-any_has.false ∙ c.any_has.ensures.1 l)))
          (λ (r : Contains (jobs_of i.recent.items) c.args.job). second ∙ (any_covers i.recent.items c.args.job).1 r)
          (merged_has (both i.older) i.recent.items c.args.job has),
    )

pub has_either-requires-clause-sorted : goal.has_either-requires-clause-sorted
has_either-requires-clause-sorted c =
    let i = c.self.inside in
    subst (λ rs. EachBefore BeginsBefore (merged (both i.older) rs)) (sym c.deref-else-self.ensures.value) c.self.invariant.stored.in_order

pub has_either-requires-clause-apart : goal.has_either-requires-clause-apart
has_either-requires-clause-apart c =
    let i = c.self.inside in
    subst (λ rs. EachBefore LiesApart (merged (both i.older) rs)) (sym c.deref-else-self.ensures.value) (c.self.invariant.stored.apart c.if-self.false)
