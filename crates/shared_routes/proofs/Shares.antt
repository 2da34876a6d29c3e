-- Lists of shares.
use Rattle.std.proofs.Common.{◌≡◌, ℕ, ◌+◌, Bool, false, List, [], ◌∷◌, ◌++◌, length, map, Some, None, refl, ap, arith}
use Rattle.std.specs.Prelude.{bytes_eq, cond, not, nat_lt, position}
use Rattle.std.specs.List.{AllByRecursion, position_or_len}
use Rattle.std.proofs.lemmas.List.{length-map}
use Rattle.mqtt_topic.specs.Names.{Share}
use Rattle.mqtt_topic.specs.Routes.{slot_of}
use Rattle.mqtt_topic.proofs.RouteLaws.{none_has}

first_of_map : {A B : Type 0} (p : B → Bool) (f : A → B) (xs : List A) → position_or_len p (map f xs) ≡ position_or_len (λ x. p (f x)) xs
first_of_map p f [] = refl
first_of_map p f (x ∷ xs) = ap (λ (n : ℕ). cond (not (p (f x))) (1 + n) 0) (first_of_map p f xs)

-- the first place in a list is that in the list it was made of
pub position_of_map : {A B : Type 0} (p : B → Bool) (f : A → B) (xs : List A) → position p (map f xs) ≡ position (λ x. p (f x)) xs
position_of_map p f xs = rw (first_of_map p f xs) (rw (length-map xs f) refl)

all_more : {A : Type 0} (P : A → Type 0) (xs : List A) (x : A) → AllByRecursion P xs → P x → AllByRecursion P (xs ++ x ∷ [])
all_more P [] x all here = (here, tt)
all_more P (first ∷ others) x all here = (all.0, all_more P others x all.1 here)

none_before : {A : Type 0} (p : A → Bool) (xs : List A) → AllByRecursion (λ x. p x ≡ false) xs → position_or_len p xs ≡ length xs
none_before p [] none = refl
none_before p (x ∷ xs) none = rw none.0 (omega (arith, none_before p xs none.1))

nowhere : (at many : ℕ) → at ≡ many → cond (nat_lt at many) (Some at) None ≡ None
nowhere at many is = grind (arith, is)

-- one more share, of another text
pub unknown_more : (text : List ℕ) (shares : List Share) (share : Share) → slot_of text shares ≡ None → bytes_eq share.text text ≡ false → slot_of text (shares ++ share ∷ []) ≡ None
unknown_more text shares share unknown other =
    nowhere (position_or_len (λ (one : Share). bytes_eq one.text text) (shares ++ share ∷ [])) (length (shares ++ share ∷ []))
    (none_before (λ (one : Share). bytes_eq one.text text) (shares ++ share ∷ [])
    (all_more (λ (one : Share). bytes_eq one.text text ≡ false) shares share (none_has text shares unknown) other))
