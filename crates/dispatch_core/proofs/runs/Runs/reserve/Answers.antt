use Rattle.std.proofs.Common.{◌≤◌, vec_capacity, ap, ◌∙◌, inl, arith}
use Rattle.dispatch_core.specs.Merging.{merged}
use Rattle.dispatch_core.specs.Tiered.{both}
use Rattle.dispatch_core.proofs.Added.{kept_same}
use Rattle.dispatch_core.proofs.runs.Runs.reserve.Goals as goal

pub invariant_of-self-2 : goal.invariant_of-self-2
invariant_of-self-2 c =
    let i = c.self.inside in
    let recent = c.reserve-2.new.self in
    let short = c.reserve-3.new.self in
    let long = c.reserve-4.new.self in
    let some : 1 ≤ c.recent_room-2.result = c.recent_room-2.ensures.some (omega arith) in
    let older = ap (λ rs. merged rs short.items) c.reserve-4.ensures.items ∙ ap (merged i.older.long.items) c.reserve-3.ensures.items in
    kept_same (both i.older) i.recent.items (vec_capacity i.older.long) (vec_capacity i.recent) i.has_repeats c.self.invariant (merged long.items short.items) recent.items (vec_capacity long) (vec_capacity recent)
    (ap (λ rs. merged rs recent.items) older ∙ ap (merged (both i.older)) c.reserve-2.ensures.items) (omega (arith, c.reserve-4.ensures.capacity)) (inl (omega (arith, c.in_ok-reserve.ensures.ok)))
