-- Where none is counted, no connection would be handed a job.
use Rattle.std.proofs.Common.{◌≡◌, ◌≢◌, ◌<◌, ◌≤◌, ℕ, List, get_or, slice_get, Option, Some, sum_by, refl, sym, subst, ap, ◌∙◌, arith}
use Rattle.std.proofs.lemmas.List.Sums.{get_or-le-sum_by}
use Rattle.std.proofs.lemmas.Option.{slice_get_within, get_or_from_slice_get}
use Rattle.std.proofs.lemmas.Bool.Decides.{nat_tests}
use Rattle.worker_bells.specs.declared.members.Interest.{Interest}
use Rattle.worker_bells.specs.Wishing.{AreCounted, none_or_one}

one_here : (k slot : ℕ) → k ≡ slot → none_or_one k (Some slot) ≡ 1
one_here k slot is = grind (arith, nat_tests)

pub nobody : (takers : List ℕ) (interests : List Interest) (slot : ℕ) → AreCounted takers interests → slot < 8 → get_or takers slot 0 ≡ 0
    → (cell : ℕ) (interest : Interest) → slice_get interests cell ≡ Some interest → interest.takes ≢ Some slot
nobody takers interests slot counted few none cell interest has takes =
    let one : Interest → ℕ = λ w. none_or_one slot w.takes in
    let within = slice_get_within interests cell interest has in
    let part : one (get_or interests cell interest) ≤ sum_by one interests = get_or-le-sum_by one interests cell interest within in
    let this : one interest ≤ sum_by one interests = subst (λ (w : Interest). one w ≤ sum_by one interests) (get_or_from_slice_get interests cell interest interest has) part in
    let is_one : one interest ≡ 1 = ap (λ (o : Option ℕ). none_or_one slot o) takes ∙ one_here slot slot refl in
    let all : sum_by one interests ≡ 0 = sym (counted.each slot few) ∙ none in
    absurd (omega (arith, this, is_one, all))
