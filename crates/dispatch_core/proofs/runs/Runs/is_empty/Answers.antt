use Rattle.std.proofs.Common.{vec_len, length, eq-eqb, sym, ap, ◌∙◌, arith}
use Rattle.std.proofs.lemmas.Bool.{eqb-true, false≢true}
use Rattle.std.proofs.lemmas.List.{nil_from_length}
use Rattle.dispatch_core.specs.JobRuns.{jobs_of}
use Rattle.dispatch_core.specs.Merging.{merged}
use Rattle.dispatch_core.specs.Tiered.{both}
use Rattle.dispatch_core.proofs.MergedLists.{length-merged}
use Rattle.dispatch_core.proofs.Stored.{no_jobs}
use Rattle.dispatch_core.proofs.runs.Runs.is_empty.Goals as goal

pub returns-then-is_empty : goal.returns-then-is_empty
returns-then-is_empty c =
    let i = c.self.inside in
    let view = ap (λ r. r.runs) c.self.view_is in
    let all = merged (both i.older) i.recent.items in (
      λ is.
          let first = ap length (c.is_empty.ensures.0 c.if-is_empty.true) in
          let second = eqb-true (vec_len i.recent) 0 (sym c.is_empty-then-is_empty.ensures ∙ is) in
          sym (ap jobs_of view) ∙ ap jobs_of (nil_from_length all (omega (arith, length-merged (both i.older) i.recent.items))),
      λ none.
          let nothing = no_jobs all c.self.invariant.stored.filled (ap jobs_of view ∙ none) in
          c.is_empty-then-is_empty.ensures ∙ eq-eqb (vec_len i.recent) 0 (omega (arith, length-merged (both i.older) i.recent.items)),
    )

pub returns-else-is_empty : goal.returns-else-is_empty
returns-else-is_empty c =
    let i = c.self.inside in
    let view = ap (λ r. r.runs) c.self.view_is in
    let all = merged (both i.older) i.recent.items in (
      λ is. absurd (false≢true (sym c.if-is_empty.false ∙ is)),
      λ none.
          let nothing = no_jobs all c.self.invariant.stored.filled (ap jobs_of view ∙ none) in
          c.is_empty.ensures.1 (nil_from_length (both i.older) (omega (arith, length-merged (both i.older) i.recent.items))),
    )
