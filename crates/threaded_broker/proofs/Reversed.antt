-- New places in the other order are new places.
use Rattle.std.proofs.Common.{◌≡◌, ◌≤◌, ℕ, List, [], ◌∷◌, ◌++◌, reverse, All, sym, subst, ap, arith, refl}
use Rattle.std.specs.Prelude.{sum_by}
use Rattle.std.proofs.lemmas.List.{reverse-append}
use Rattle.std.proofs.lemmas.List.Elements.{All-append, All-cons, All-head, All-nil, All-tail}
use Rattle.std.proofs.lemmas.List.Sums.{sum_by-append, sum_by-cons}
use Rattle.group_queue.specs.Ports.{GroupId}
use Rattle.group_queue.specs.Places.{IsNewPlace, PlaceState}
use Rattle.broker_groups.specs.Naming.{AreNewPlacesOf, once_at}

turned : {X : Type 0} (x : X) (xs : List X) → reverse (x ∷ xs) ≡ reverse xs ++ x ∷ []
turned x xs = reverse-append (x ∷ []) xs

sum_turned : {X : Type 0} (f : X → ℕ) (xs : List X) → sum_by f (reverse xs) ≡ sum_by f xs
sum_turned f [] = refl
sum_turned f (x ∷ xs) =
    omega (arith, ap (sum_by f) (turned x xs), sum_by-append f (reverse xs) (x ∷ []), sum_turned f xs, sum_by-cons f x xs, sum_by-cons f x [])

all_turned : {X : Type 0} (P : X → Type 0) (xs : List X) → All P xs → All P (reverse xs)
all_turned P [] all = all
all_turned P (x ∷ xs) all =
    subst (All P) (sym (turned x xs)) (All-append P (reverse xs) (x ∷ []) (all_turned P xs (All-tail P x xs all)) (All-cons P x [] (All-head P x xs all) (All-nil P)))

pub reversed_new : (group : ℕ → GroupId) (places : List PlaceState) → AreNewPlacesOf group places → AreNewPlacesOf group (reverse places)
reversed_new group places new = record {
  new = all_turned (λ (place : PlaceState). IsNewPlace (group place.group) place.number place) places new.new;
  once = λ slot number. subst (λ n. n ≤ 1) (sym (sum_turned (once_at slot number) places)) (new.once slot number);
}
