use Rattle.std.proofs.Common.{Contains, sym, ap, ◌∙◌, ⊎_elim}
use Rattle.std.specs.List.{list_any}
use Rattle.std.proofs.lemmas.Bool.{false≢true}
use Rattle.dispatch_core.specs.JobRuns.{jobs_of}
use Rattle.dispatch_core.specs.Joining.{covers}
use Rattle.dispatch_core.proofs.Stored.{any_covers}
use Rattle.dispatch_core.proofs.MergedLists.{merged_has, has_first, has_second}
use Rattle.dispatch_core.proofs.tiers.Tiers.any_has.Goals as goal

pub returns-then-any_has : goal.returns-then-any_has
returns-then-any_has c =
    let i = c.args.self.now in
    let answer = c.any_has.ensures ∙ ap (list_any (covers c.args.job)) c.deref.ensures.value in
    (λ is. has_first i.long.items i.short.items c.args.job ((any_covers i.long.items c.args.job).0 (sym answer ∙ is)), λ has. c.if-any_has.true)

pub returns-else-any_has : goal.returns-else-any_has
returns-else-any_has c =
    let i = c.args.self.now in
    let first = c.any_has.ensures ∙ ap (list_any (covers c.args.job)) c.deref.ensures.value in
    let second = c.any_has-else-any_has.ensures ∙ ap (list_any (covers c.args.job)) c.deref-else-any_has.ensures.value in (
      λ is. has_second i.long.items i.short.items c.args.job ((any_covers i.short.items c.args.job).0 (sym second ∙ is)),
      λ has.
          ⊎_elim
          (λ (l : Contains (jobs_of i.long.items) c.args.job). absurd (false≢true (sym c.if-any_has.false ∙ first ∙ (any_covers i.long.items c.args.job).1 l)))
          (λ (r : Contains (jobs_of i.short.items) c.args.job). second ∙ (any_covers i.short.items c.args.job).1 r)
          (merged_has i.long.items i.short.items c.args.job has),
    )
