-- Steps of reading that did not fail, and what they took from the front.
use Rattle.std.proofs.Common.{◌≡◌, ℕ, ◌+◌, ◌-◌, ◌<◌, Bool, true, false, cond, List, ◌∷◌, ◌++◌, length, get_or, take, drop, Result, Ok, Err, refl, sym, ap, subst, ◌∙◌, append_assoc, arith, inl, inr}
use Rattle.std.proofs.lemmas.Bool.{cases_lt}
use Rattle.std.proofs.lemmas.List.{get_or-drop, get_or-take, get_or_past, length-take, get_or-append-add, get_or_append_left}
use Rattle.mqtt_fields.specs.declared.fault.StreamFault.{StreamFault}
use Rattle.mqtt_fields.specs.Faults.{◌>>=◌}
use Rattle.mqtt_fields.specs.Forms.{AreBytes}

-- the value of a step that did not fail
pub bind_ok : {A B : Type 0} (r : Result A StreamFault) (f : A → Result B StreamFault) (y : B) → (r >>= f) ≡ Ok y → (x : A) × (r ≡ Ok x) × (f x ≡ Ok y)
bind_ok (Ok x) f y e = (x, refl, e)
bind_ok (Err d) f y e = absurd cc

-- tests that did not fail
pub unless_ok : {A : Type 0} (b : Bool) (d : StreamFault) (r : Result A StreamFault) (y : A) → cond b (Err d) r ≡ Ok y → (b ≡ false) × (r ≡ Ok y)
unless_ok true d r y e = absurd cc
unless_ok false d r y e = (refl, e)

pub if_ok : {A : Type 0} (b : Bool) (d : StreamFault) (r : Result A StreamFault) (y : A) → cond b r (Err d) ≡ Ok y → (b ≡ true) × (r ≡ Ok y)
if_ok true d r y e = (refl, e)
if_ok false d r y e = absurd cc

abbrev done : {A : Type 0} → A → Result A StreamFault
done x = Ok x

pub ok_is : {A : Type 0} (x y : A) → done x ≡ done y → x ≡ y
ok_is x y e = cc

pub drop_bytes : (n : ℕ) (bytes : List ℕ) → AreBytes bytes → AreBytes (drop n bytes)
drop_bytes n bytes h i = rw get_or-drop (h (n + i))

pub take_bytes : (n : ℕ) (bytes : List ℕ) → AreBytes bytes → AreBytes (take n bytes)
take_bytes n bytes h i =
    elim (cases_lt i n) [
      | inl lt ↦ rw (get_or-take n bytes i 0 lt) (h i)
      | inr le ↦ rw (get_or_past (take n bytes) i 0 (omega (arith, length-take n bytes))) (omega arith)
    ]

pub rest_bytes : (byte : ℕ) (bytes : List ℕ) → AreBytes (byte ∷ bytes) → AreBytes bytes
rest_bytes byte bytes h i = drop_bytes 1 (byte ∷ bytes) h i

-- a reader took the text from the front and left the rest
pub record Front (bytes text rest : List ℕ) : Type 0 where
  pub parts : bytes ≡ text ++ rest
  pub rest_fits : AreBytes rest

pub Front-then : (a x b y c : List ℕ) → Front a x b → Front b y c → Front a (x ++ y) c
Front-then a x b y c p q =
    record { parts = p.parts ∙ ap (λ (t : List ℕ). x ++ t) q.parts ∙ sym (append_assoc x y c); rest_fits = q.rest_fits }

pub append_bytes : (a b : List ℕ) → AreBytes a → AreBytes b → AreBytes (a ++ b)
append_bytes a b p q i =
    elim (cases_lt i (length a)) [
      | inl lt ↦ rw (get_or_append_left a b 0 i lt) (p i)
      | inr le ↦ let there : length a + (i - length a) ≡ i = omega arith in
          subst (λ (k : ℕ). get_or (a ++ b) k 0 < 256) there (rw (get_or-append-add a b (i - length a) 0) (q (i - length a)))
    ]
