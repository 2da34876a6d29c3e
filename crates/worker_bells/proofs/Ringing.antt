-- Where a worker rang: at one bell, and at one bell after the other.
use Rattle.std.proofs.Common.{◌≡◌, ◌≢◌, ◌⊎◌, ◌<◌, ◌≤◌, ◌+◌, ◌-◌, ◌&&◌, ℕ, Bool, true, false, List, [], ◌∷◌, ◌++◌, length, slice_get, Some, refl, sym, ap, subst, ◌∙◌, inl, inr, ⊎_elim, arith}
use Rattle.std.specs.List.{slice_set}
use Rattle.std.proofs.Math.ListN.{length-set}
use Rattle.std.proofs.lemmas.Option.{slice_get_within, get_or_from_slice_get}
use Rattle.std.proofs.lemmas.List.Sums.{sum_by-set}
use Rattle.std.proofs.lemmas.Bool.{cases_eq}
use Rattle.bell.specs.declared.step.BellStep.{BellStep}
use Rattle.bell.specs.declared.step.BellStep.TheVariants.{Listened, Settled, Rang, Called}
use Rattle.bell.specs.History.{wakes}
use Rattle.bell.specs.Calls.{CalledBelow, Rings}
use Rattle.worker_bells.specs.declared.members.Interest.{Interest}
use Rattle.worker_bells.specs.Wishing.{IsWished}
use Rattle.worker_bells.proofs.Places.{others_stay, put_there, some_is}
use Rattle.worker_bells.specs.Ringing.{AreRung, CallsAll, ListeningState, RingingState, HasSettledAt, IsAtSame, IsRung, RingsAt, RingsFor, woken}

-- calls that found their workers idle stay
wakes_more : (before since : List BellStep) → wakes before ≤ wakes (since ++ before)
wakes_more before [] = omega arith
wakes_more before (Listened worker ∷ since) = wakes_more before since
wakes_more before (Settled worker ∷ since) = wakes_more before since
wakes_more before (Rang ∷ since) = wakes_more before since
wakes_more before (Called worker ∷ since) = omega (arith, wakes_more before since)

-- a ring at one bell
pub rang : (slot left count : ℕ) (old new : RingingState) → old.slot ≡ slot → IsAtSame old new → Rings old.workers left count old.ringing.history new.ringing.history
    → RingsFor slot left (left - count) old new
rang slot left count old new here same rings = record {
  same = same;
  other = λ elsewhere. absurd (elsewhere here);
  woken = omega (arith, rings.most, rings.idle, wakes_more old.ringing.history rings.others);
  fewer = omega arith;
  each = λ _. ⊎_elim
      (λ (enough : count ≡ left). inl (omega (arith, enough)))
      (λ (called : CalledBelow old.workers (rings.others ++ old.ringing.history) rings.since).
      inr (record { others = rings.others; since = rings.since; is = rings.is; each = called }))
      rings.each;
}

-- the same at the first of these bells, so many of them: so many are still to be woken
pub record IsRungBelow (bound slot wanted left : ℕ) (old new : List RingingState) : Type 0 where
  pub count : length new ≡ length old
  pub rest : (k : ℕ) → bound ≤ k → slice_get new k ≡ slice_get old k
  pub woken_so_far : wanted + woken old ≤ left + woken new
  pub same : (k : ℕ) (ringing : RingingState) → slice_get old k ≡ Some ringing → (ringing' : RingingState) × (slice_get new k ≡ Some ringing') × IsAtSame ringing ringing' × (ringing.slot ≢ slot → ringing' ≡ ringing)
  pub each : (left ≡ 0) ⊎ ((k : ℕ) (ringing ringing' : RingingState) → k < bound → slice_get old k ≡ Some ringing → slice_get new k ≡ Some ringing' → ringing.slot ≡ slot → CallsAll ringing ringing')

-- before the first bell
pub none_rung : (slot wanted : ℕ) (ringings : List RingingState) → IsRungBelow 0 slot wanted wanted ringings ringings
none_rung slot wanted ringings = record {
  count = refl;
  rest = λ k _. refl;
  woken_so_far = omega arith;
  same = λ k ringing has. (ringing, has, record { slot = refl; workers = refl; bell = refl }, λ _. refl);
  each = inr (λ k ringing ringing' below has has' here. absurd (omega (arith, below)));
}

-- one bell more
pub one_more : (bound slot wanted left left' : ℕ) (old mid new : List RingingState) → IsRungBelow bound slot wanted left old mid → RingsAt bound slot left left' mid new
    → IsRungBelow (bound + 1) slot wanted left' old new
one_more bound slot wanted left left' old mid new before one = record {
  count = ap length one.is ∙ (length-set mid bound one.ringing' ∙ before.count);
  rest = λ k above. get_is k ∙ (others_stay mid bound k one.ringing' (omega (arith, above)) ∙ before.rest k (omega (arith, above)));
  woken_so_far = omega (arith, before.woken_so_far, one.rings.woken, added);
  same = λ k ringing has. ⊎_elim (same_here k ringing has) (same_there k ringing has) (cases_eq k bound);
  each = ⊎_elim (λ (none : left ≡ 0). inl (omega (arith, none, one.rings.fewer))) each_on before.each;
}
  where
    get_is : (k : ℕ) → slice_get new k ≡ slice_get (slice_set mid bound one.ringing') k
    get_is k = ap (λ (ringings : List RingingState). slice_get ringings k) one.is

    here_now : slice_get new bound ≡ Some one.ringing'
    here_now = get_is bound ∙ put_there mid bound one.ringing' (slice_get_within mid bound one.ringing one.has)

    there_now : (k : ℕ) → k ≢ bound → slice_get new k ≡ slice_get mid k
    there_now k other = get_is k ∙ others_stay mid bound k one.ringing' other

    added : woken new + wakes one.ringing.ringing.history ≡ woken mid + wakes one.ringing'.ringing.history
    added = rw (one.is) (subst (λ (h : RingingState). woken (slice_set mid bound one.ringing') + wakes h.ringing.history ≡ woken mid + wakes one.ringing'.ringing.history)
        (get_or_from_slice_get mid bound one.ringing one.ringing one.has) (sum_by-set {X = RingingState} (λ h. wakes h.ringing.history) mid bound one.ringing' one.ringing (slice_get_within mid bound one.ringing one.has)))

    first_was : (ringing : RingingState) → slice_get old bound ≡ Some ringing → one.ringing ≡ ringing
    first_was ringing has = some_is one.ringing ringing (sym one.has ∙ (before.rest bound (omega arith) ∙ has))

    same_here : (k : ℕ) (ringing : RingingState) → slice_get old k ≡ Some ringing → k ≡ bound
        → (ringing' : RingingState) × (slice_get new k ≡ Some ringing') × IsAtSame ringing ringing' × (ringing.slot ≢ slot → ringing' ≡ ringing)
    same_here k ringing has is =
        let Same : RingingState → Type 0 = λ h. IsAtSame h one.ringing' × (h.slot ≢ slot → one.ringing' ≡ h) in
        let both = subst Same (first_was ringing (subst (λ n. slice_get old n ≡ Some ringing) is has)) (one.rings.same, one.rings.other) in
        (one.ringing', subst (λ n. slice_get new n ≡ Some one.ringing') (sym is) here_now, both.0, both.1)

    same_there : (k : ℕ) (ringing : RingingState) → slice_get old k ≡ Some ringing → k ≢ bound
        → (ringing' : RingingState) × (slice_get new k ≡ Some ringing') × IsAtSame ringing ringing' × (ringing.slot ≢ slot → ringing' ≡ ringing)
    same_there k ringing has other = let was = before.same k ringing has in (was.0, there_now k other ∙ was.1, was.2, was.3)

    each_on : ((k : ℕ) (ringing ringing' : RingingState) → k < bound → slice_get old k ≡ Some ringing → slice_get mid k ≡ Some ringing' → ringing.slot ≡ slot → CallsAll ringing ringing')
        → (left' ≡ 0) ⊎ ((k : ℕ) (ringing ringing' : RingingState) → k < bound + 1 → slice_get old k ≡ Some ringing → slice_get new k ≡ Some ringing' → ringing.slot ≡ slot → CallsAll ringing ringing')
    each_on each = ⊎_elim
        (λ (here : one.ringing.slot ≡ slot). ⊎_elim
        (λ (none : left' ≡ 0). inl none)
        (λ (calls : CallsAll one.ringing one.ringing'). inr (λ k ringing ringing' below has has' is_of. ⊎_elim
        (λ (is : k ≡ bound).
        let was = first_was ringing (subst (λ n. slice_get old n ≡ Some ringing) is has) in
        let now = some_is one.ringing' ringing' (sym here_now ∙ subst (λ n. slice_get new n ≡ Some ringing') is has') in
        subst (λ (h : RingingState). CallsAll h ringing') was (subst (λ (h : RingingState). CallsAll one.ringing h) now calls))
        (λ (other : k ≢ bound). each k ringing ringing' (omega (arith, below, other)) has (sym (there_now k other) ∙ has') is_of)
        (cases_eq k bound)))
        (one.rings.each here))
        (λ (elsewhere : one.ringing.slot ≢ slot). inr (λ k ringing ringing' below has has' is_of. ⊎_elim
        (λ (is : k ≡ bound).
        let was = first_was ringing (subst (λ n. slice_get old n ≡ Some ringing) is has) in
        absurd (elsewhere (ap (λ (h : RingingState). h.slot) was ∙ is_of)))
        (λ (other : k ≢ bound). each k ringing ringing' (omega (arith, below, other)) has (sym (there_now k other) ∙ has') is_of)
        (cases_eq k bound)))
        (cases_eq one.ringing.slot slot)

-- after the last bell
pub all_rung : (slot wanted left : ℕ) (old new : List RingingState) → IsRungBelow (length old) slot wanted left old new → IsRung slot wanted old new
all_rung slot wanted left old new below = record {
  count = below.count;
  same = below.same;
  each = ⊎_elim
      (λ (none : left ≡ 0). inl (omega (arith, none, below.woken_so_far)))
      (λ (all : (k : ℕ) (ringing ringing' : RingingState) → k < length old → slice_get old k ≡ Some ringing → slice_get new k ≡ Some ringing' → ringing.slot ≡ slot → CallsAll ringing ringing').
      inr (λ k ringing ringing' has has' here. all k ringing ringing' (slice_get_within old k ringing has) has has' here))
      below.each;
}

-- one group more
pub group_more : (slot wanted : ℕ) (before : List ℕ) (old mid new : List RingingState) → AreRung slot before old mid → IsRung (slot + length before) wanted mid new
    → AreRung slot (before ++ wanted ∷ []) old new
group_more slot wanted [] old mid new rung one =
    (new, subst (λ (h : List RingingState). IsRung slot wanted h new) rung (subst (λ n. IsRung n wanted mid new) (omega arith) one), refl)
group_more slot wanted (first ∷ before) old mid new rung one =
    (rung.0, rung.1, group_more (slot + 1) wanted before rung.0 mid new rung.2 (subst (λ n. IsRung n wanted mid new) (omega arith) one))

both : (a b : Bool) → (a && b) ≡ true → (a ≡ true) × (b ≡ true)
both true true holds = (refl, refl)
both true false holds = cc holds
both false b holds = cc holds

-- idle at one bell more
pub settles_more : (a b : Bool) (slot : ℕ) (interests : List Interest) (old new : List ListeningState) → slot < 8
    → (a ≡ true → (k : ℕ) → k < slot → IsWished k interests → HasSettledAt old k) → (b ≡ true → slot < 8 → IsWished slot interests → HasSettledAt new slot)
    → ((k : ℕ) → k ≢ slot → slice_get new k ≡ slice_get old k) → (a && b) ≡ true → (k : ℕ) → k < slot + 1 → IsWished k interests → HasSettledAt new k
settles_more a b slot interests old new few before here others holds k below wished = ⊎_elim
    (λ (is : k ≡ slot). subst (HasSettledAt new) (sym is) (here (both a b holds).1 few (subst (λ n. IsWished n interests) is wished)))
    (λ (other : k ≢ slot). let was = before (both a b holds).0 k (omega (arith, below, other)) wished in (was.0, others k other ∙ was.1, was.2, was.3))
    (cases_eq k slot)
