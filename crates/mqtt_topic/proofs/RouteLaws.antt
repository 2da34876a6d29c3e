-- Tables of shares, and the slots that a name is routed to.
use Rattle.std.proofs.Common.{◌≡◌, ℕ, zero, suc, ◌+◌, ◌<◌, ◌≤◌, Bool, true, false, List, [], ◌∷◌, ◌++◌, length, get_or, Some, None, refl, arith}
use Rattle.std.specs.Prelude.{bytes_eq, cond, not}
use Rattle.std.proofs.lemmas.Bool.{ltb-false}
use Rattle.std.specs.List.{AllByRecursion, position_or_len}
use Rattle.mqtt_topic.specs.Names.{Share}
use Rattle.mqtt_topic.specs.Routes.{slot_of, places_of, AreDistinct}

all_more : {A : Type 0} (P : A → Type 0) (xs : List A) (x : A) → AllByRecursion P xs → P x → AllByRecursion P (xs ++ x ∷ [])
all_more P [] x all here = (here, tt)
all_more P (first ∷ others) x all here = (all.0, all_more P others x all.1 here)

none_here : (b : Bool) (at left : ℕ) → suc left ≤ cond (not b) (1 + at) 0 → (b ≡ false) × (left ≤ at)
none_here true at left le = absurd (omega arith)
none_here false at left le = (refl, omega arith)

none_of : {A : Type 0} (p : A → Bool) (xs : List A) → length xs ≤ position_or_len p xs → AllByRecursion (λ x. p x ≡ false) xs
none_of p [] le = tt
none_of p (x ∷ xs) le =
    let here = none_here (p x) (position_or_len p xs) (length xs) le in (here.0, none_of p xs here.1)

not_found : (t : Bool) (at : ℕ) → cond t (Some at) None ≡ None → t ≡ false
not_found true at e = absurd cc
not_found false at e = refl

-- a text that is bound to no slot is that of no share
pub none_has : (text : List ℕ) (shares : List Share) → slot_of text shares ≡ None → AllByRecursion (λ share. bytes_eq share.text text ≡ false) shares
none_has text shares e =
    none_of (λ (share : Share). bytes_eq share.text text) shares
    (ltb-false (position_or_len (λ (share : Share). bytes_eq share.text text) shares) (length shares) (not_found _ _ e))

-- one more share, of a text that none has
pub distinct_more : (shares : List Share) (share : Share) → AreDistinct shares → AllByRecursion (λ other. bytes_eq other.text share.text ≡ false) shares → AreDistinct (shares ++ share ∷ [])
distinct_more [] share all none = (tt, tt)
distinct_more (first ∷ others) share all none =
    (all_more (λ other. bytes_eq first.text other.text ≡ false) others share all.0 none.0, distinct_more others share all.1 none.1)

-- the places of a list are below its end
pub places_below : (place : ℕ) (flags : List Bool) (limit : ℕ) → place + length flags ≤ limit → (k d : ℕ) → k < length (places_of place flags) → get_or (places_of place flags) k d < limit
places_below place [] limit le k d lt = absurd (omega arith)
places_below place (true ∷ others) limit le zero d lt = omega arith
places_below place (true ∷ others) limit le (suc k) d lt = places_below (place + 1) others limit (omega arith) k d (omega arith)
places_below place (false ∷ others) limit le k d lt = places_below (place + 1) others limit (omega arith) k d lt
