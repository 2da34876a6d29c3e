-- The job is taken off where it first stands.
use Rattle.std.proofs.Common.{subst, slice_get, Some, ◌≡◌, OnSome}
use Rattle.std.specs.List.{remove}
use Rattle.group_jobs.proofs.Taking.{takes_first, takes_off}
use Rattle.group_jobs.proofs.docket.take_off.Goals as goal

pub returns-then-place-eq0-clause-taken : goal.returns-then-place-eq0-clause-taken
returns-then-place-eq0-clause-taken c =
    rw c.pop_front.ensures.rest (takes_first _ _ (subst (λ place. slice_get c.args.out.now.items place ≡ Some c.args.job) c.if-place-eq0.true c.place_of-place.ensures.there))

pub returns-else-place-eq0-clause-taken : goal.returns-else-place-eq0-clause-taken
returns-else-place-eq0-clause-taken c =
    let removed = subst (λ other. OnSome other (c.remove.new.self.items ≡ remove c.args.out.now.items c.place_of-place.result)) (c.remove.ensures.succeeds c.args.job c.place_of-place.ensures.within) c.remove.ensures.items in
    rw removed (takes_off _ _ _ c.place_of-place.ensures.there c.place_of-place.ensures.first)
