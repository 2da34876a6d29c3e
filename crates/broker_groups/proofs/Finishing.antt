-- What is left of some rows, one after the other.
use Rattle.std.proofs.Common.{◌≡◌, ℕ, suc, ◌+◌, List, [], ◌∷◌, ◌++◌, length, length-append, slice_get, Some, sym, ap, ◌∙◌, subst, All, Result, Ok, Err, arith}
use Rattle.group_jobs.specs.Stamps.{Held}
use Rattle.group_jobs.specs.declared.report.Report.{Report}
use Rattle.group_queue.specs.declared.finish.Unfinished.{Unfinished}
use Rattle.group_queue.specs.Ports.{GroupId, PortState, IsPortOf}
use Rattle.group_queue.specs.Places.{PlaceState, IsPlaceOf}
use Rattle.group_queue.specs.Finishing.{Finishes}
use Rattle.broker_groups.specs.Endings.{joined, IsItsOwn}

module _ {X : Type 0} where
  -- all but the first of these
  pub record IsRest (all : List X) (n : ℕ) (rest : List X) : Type 0 where
    pub at : (k : ℕ) → slice_get rest k ≡ slice_get all (n + k)
    pub many : n + length rest ≡ length all

  pub all_left : (all : List X) → IsRest all 0 all
  all_left all = record {
    at = λ k. let same : k ≡ 0 + k = omega arith in ap (slice_get all) same;
    many = omega arith;
  }

  pub next_is : (all rest : List X) (n : ℕ) (x : X) (others : List X) → IsRest all n rest → rest ≡ x ∷ others → slice_get all n ≡ Some x
  next_is all rest n x others left is =
      let none : n ≡ n + 0 = omega arith in
      ap (slice_get all) none ∙ sym (left.at 0) ∙ ap (λ l. slice_get l 0) is

  pub others_are : (all rest : List X) (n m : ℕ) (x : X) (others : List X) → m ≡ n + 1 → IsRest all n rest → rest ≡ x ∷ others → IsRest all m others
  others_are all rest n m x others one left is = record {
    at = λ k. let same : n + suc k ≡ m + k = omega (arith, one) in ap (λ l. slice_get l (suc k)) (sym is) ∙ left.at (suc k) ∙ ap (slice_get all) same;
    many = omega (arith, one, left.many, ap length is);
  }

-- the ports of one worker more
pub joined_length : (before : List (List PortState)) (ports : List PortState) → length (joined (before ++ ports ∷ [])) ≡ length (joined before) + length ports
joined_length [] ports = omega (arith, length-append ports [])
joined_length (first ∷ before) ports = length-append first (joined (before ++ ports ∷ [])) ∙ omega (arith, joined_length before ports, length-append first (joined before))

-- what comes back of a group that was given its own is its own
pub own_of : {W : Type 0} (group : GroupId) (ports : List PortState) (places : List PlaceState) (held : List Held) (answer : Result Report (Unfinished W)) → All (IsPortOf group) ports → All (IsPlaceOf group) places
    → Finishes group ports places held answer → IsItsOwn answer
own_of group ports places held (Ok report) of_ports of_places is = tt
own_of group ports places held (Err left) of_ports of_places is = (
  subst (λ (one : GroupId). All (IsPortOf one) left.ports.items) (sym is.1) (subst (All (IsPortOf group)) (sym is.2) of_ports),
  subst (λ (one : GroupId). All (IsPlaceOf one) left.places.items) (sym is.1) (subst (All (IsPlaceOf group)) (sym is.3) of_places),
)
