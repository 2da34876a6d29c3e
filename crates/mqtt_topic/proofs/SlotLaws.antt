-- Sets of slots as bytes.
use Rattle.std.proofs.Common.{◌≡◌, ℕ, zero, suc, ◌+◌, ◌-◌, ◌*◌, ◌/◌, ◌%◌, ◌<◌, ◌≤◌, Bool, true, false, eqb, List, [], ◌∷◌, length, refl, ap, ◌∙◌, arith}
use Rattle.std.proofs.lemmas.Bool.{eq-eqb, ne_eqb}
use mir.Val.{bool_byte}
use Rattle.mqtt_topic.specs.Routes.{sets_of, byte_of, slots_in, places_of}

pub few_sets : (slots : ℕ) → slots ≤ 7 → sets_of slots ≤ 128
few_sets zero h = omega arith
few_sets (suc zero) h = omega arith
few_sets (suc (suc zero)) h = omega arith
few_sets (suc (suc (suc zero))) h = omega arith
few_sets (suc (suc (suc (suc zero)))) h = omega arith
few_sets (suc (suc (suc (suc (suc zero))))) h = omega arith
few_sets (suc (suc (suc (suc (suc (suc zero)))))) h = omega arith
few_sets (suc (suc (suc (suc (suc (suc (suc zero))))))) h = omega arith
few_sets (suc (suc (suc (suc (suc (suc (suc (suc more)))))))) h = absurd (omega arith)

no_slots : (left slot : ℕ) → slots_in left slot 0 ≡ []
no_slots zero slot = refl
no_slots (suc left) slot = no_slots left (slot + 1)

pub no_slots_of : (left slot byte : ℕ) → byte ≡ 0 → slots_in left slot byte ≡ []
no_slots_of left slot byte none = ap (slots_in left slot) none ∙ no_slots left slot

-- a byte of so many bits has the places of the bits that are set
pub slots_of_byte : (left slot : ℕ) (slots : List Bool) → length slots ≤ left → slots_in left slot (byte_of slots) ≡ places_of slot slots
slots_of_byte left slot [] h = no_slots left slot
slots_of_byte zero slot (first ∷ others) h = absurd (omega arith)
slots_of_byte (suc left) slot (true ∷ others) h =
    let odd : eqb ((1 + 2 * byte_of others) % 2) 1 ≡ true = eq-eqb _ _ (omega arith) in
    let half : (1 + 2 * byte_of others) / 2 ≡ byte_of others = omega arith in
    rw (odd, half) (ap (λ (l : List ℕ). slot ∷ l) (slots_of_byte left (slot + 1) others (omega arith)))
slots_of_byte (suc left) slot (false ∷ others) h =
    let even : eqb ((0 + 2 * byte_of others) % 2) 1 ≡ false = ne_eqb _ _ (omega arith) in
    let half : (0 + 2 * byte_of others) / 2 ≡ byte_of others = omega arith in
    rw (even, half) (slots_of_byte left (slot + 1) others (omega arith))

pub below : (byte slots : ℕ) → byte < sets_of slots → slots ≤ 7 → byte < 128
below byte slots less few = omega (arith, few_sets slots few)

pub bool_byte_small : (b : Bool) → bool_byte b ≤ 1
bool_byte_small true = omega arith
bool_byte_small false = omega arith

-- ---- one slot after another

next_slots : (slot byte : ℕ) → slot < 8 → slots_in (8 - slot) slot byte ≡ slots_in (suc (8 - (slot + 1))) slot byte
next_slots slot byte less =
    let left : 8 - slot ≡ suc (8 - (slot + 1)) = omega arith in
    ap (λ (k : ℕ). slots_in k slot byte) left

pub slot_in : (slot byte : ℕ) → slot < 8 → byte % 2 ≡ 1 → slots_in (8 - slot) slot byte ≡ slot ∷ slots_in (8 - (slot + 1)) (slot + 1) (byte / 2)
slot_in slot byte less odd = next_slots slot byte less ∙ rw (eq-eqb (byte % 2) 1 odd) refl

pub slot_not_in : (slot byte : ℕ) → slot < 8 → (byte % 2 ≡ 1 → ⊥) → slots_in (8 - slot) slot byte ≡ slots_in (8 - (slot + 1)) (slot + 1) (byte / 2)
slot_not_in slot byte less even = next_slots slot byte less ∙ rw (ne_eqb (byte % 2) 1 even) refl
