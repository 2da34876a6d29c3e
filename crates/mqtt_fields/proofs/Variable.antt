-- Variable Byte Integers: what is read is spelled so, and what is spelled so is read.
use Rattle.std.proofs.Common.{◌≡◌, ℕ, zero, suc, ◌+◌, ◌-◌, ◌*◌, ◌/◌, ◌%◌, ◌<◌, ◌≤◌, Bool, true, false, cond, ltb, eqb, List, [], ◌∷◌, ◌++◌, length, drop, Option, Some, None, Result, Ok, refl, sym, ap, subst, ◌∙◌, arith, inl, inr, ◌⊎◌, length-append}
use Rattle.std.proofs.lemmas.Bool.{ltb-true, ltb-false, lt-ltb, le-ltb, eqb-false, ne_eqb, cases_lt}
use Rattle.std.proofs.lemmas.List.{drop_at}
use Rattle.mqtt_fields.specs.declared.fault.StreamFault.{StreamFault}
use Rattle.mqtt_fields.specs.declared.fault.StreamFault.TheVariants.{Malformed}
use Rattle.mqtt_fields.specs.Faults.{◌>>=◌}
use Rattle.mqtt_fields.specs.Fields.{variable_at, longer}
use Rattle.mqtt_fields.specs.Forms.{AreBytes, variable_bytes, variable_limit}
use Rattle.mqtt_fields.proofs.Steps.{bind_ok, if_ok, unless_ok, rest_bytes, Front}

pub limit_least : (more : ℕ) → 128 ≤ variable_limit more
limit_least zero = omega arith
limit_least (suc more) = omega (arith, limit_least more)

pub limit_small : (more : ℕ) → more < 3 → variable_limit more ≤ 2097152
limit_small zero h = omega arith
limit_small (suc zero) h = omega arith
limit_small (suc (suc zero)) h = omega arith
limit_small (suc (suc (suc more))) h = absurd (omega arith)

abbrev found : ℕ × List ℕ → Result (Option (ℕ × List ℕ)) StreamFault
found x = Ok (Some x)

some_is : (x y : ℕ × List ℕ) → found x ≡ found y → x ≡ y
some_is x y e = cc

pub chosen : {A : Type 0} (b : Bool) (x y z : A) → cond b x y ≡ z → ((b ≡ true) × (x ≡ z)) ⊎ ((b ≡ false) × (y ≡ z))
chosen true x y z e = inl (refl, e)
chosen false x y z e = inr (refl, e)

-- ---- what is read is spelled so, and fits

digit : (byte high : ℕ) → 128 ≤ byte → byte < 256 → 0 < high → (ltb (byte - 128 + 128 * high) 128 ≡ false) × ((byte - 128 + 128 * high) % 128 + 128 ≡ byte) × ((byte - 128 + 128 * high) / 128 ≡ high)
digit byte high p q r = (le-ltb (byte - 128 + 128 * high) 128 (omega arith), omega arith, omega arith)

longer_bytes : (more byte high : ℕ) → 128 ≤ byte → byte < 256 → 0 < high → variable_bytes (suc more) (byte - 128 + 128 * high) ≡ byte ∷ variable_bytes more high
unfolding variable_bytes
longer_bytes more byte high p q r =
    let d = digit byte high p q r in
    rw (d.0, d.1, d.2) refl

longer_takes : (more byte : ℕ) (rest : List ℕ) (x : ℕ × List ℕ) (o : Option (ℕ × List ℕ)) → 128 ≤ byte → byte < 256 → longer byte o ≡ Ok (Some x) → ((high : ℕ × List ℕ) → o ≡ Some high → Front rest (variable_bytes more high.0) high.1 × (high.0 < variable_limit more)) → Front (byte ∷ rest) (variable_bytes (suc more) x.0) x.1 × (x.0 < variable_limit (suc more))
longer_takes more byte rest x None p q e behind = absurd cc
longer_takes more byte rest x (Some high) p q e behind =
    let some = unless_ok (eqb high.0 0) Malformed (Ok (Some (byte - 128 + 128 * high.0, high.1))) (Some x) e in
    let positive : 0 < high.0 = let n = eqb-false high.0 0 some.0 in omega arith in
    let inner = behind high refl in
    subst (λ (y : ℕ × List ℕ). Front (byte ∷ rest) (variable_bytes (suc more) y.0) y.1 × (y.0 < variable_limit (suc more))) (some_is (byte - 128 + 128 * high.0, high.1) x some.1)
    (record { parts = ap (λ (t : List ℕ). byte ∷ t) inner.0.parts ∙ ap (λ (t : List ℕ). t ++ high.1) (sym (longer_bytes more byte high.0 p q positive)); rest_fits = inner.0.rest_fits }, omega (arith, inner.1))

pub variable_takes : (more : ℕ) (bytes : List ℕ) (x : ℕ × List ℕ) → AreBytes bytes → variable_at more bytes ≡ Ok (Some x) → Front bytes (variable_bytes more x.0) x.1 × (x.0 < variable_limit more)
unfolding variable_at variable_bytes
variable_takes zero [] x fits e = absurd cc
variable_takes (suc more) [] x fits e = absurd cc
variable_takes zero (byte ∷ rest) x fits e =
    let small = if_ok (ltb byte 128) Malformed (Ok (Some (byte, rest))) (Some x) e in
    subst (λ (y : ℕ × List ℕ). Front (byte ∷ rest) (y.0 ∷ []) y.1 × (y.0 < 128)) (some_is (byte, rest) x small.1)
    (record { parts = refl; rest_fits = rest_bytes byte rest fits }, ltb-true byte 128 small.0)
variable_takes (suc more) (byte ∷ rest) x fits e =
    elim (chosen (ltb byte 128) (Ok (Some (byte, rest))) (variable_at more rest >>= longer byte) (Ok (Some x)) e) [
      | inl small ↦
          subst (λ (y : ℕ × List ℕ). Front (byte ∷ rest) (variable_bytes (suc more) y.0) y.1 × (y.0 < variable_limit (suc more))) (some_is (byte, rest) x small.1)
          (record { parts = rw small.0 refl; rest_fits = rest_bytes byte rest fits }, omega (arith, ltb-true byte 128 small.0, limit_least more))
      | inr large ↦
          let step = bind_ok (variable_at more rest) (longer byte) (Some x) large.1 in
          longer_takes more byte rest x step.0 (omega (arith, ltb-false byte 128 large.0)) (fits 0) step.2
          (λ high e. variable_takes more rest high (rest_bytes byte rest fits) (step.1 ∙ ap (λ (o : Option (ℕ × List ℕ)). Ok o) e))
    ]

-- ---- what is spelled so is read

pub variable_again : (more n : ℕ) (rest : List ℕ) → n < variable_limit more → variable_at more (variable_bytes more n ++ rest) ≡ Ok (Some (n, rest))
unfolding variable_at variable_bytes
variable_again zero n rest h = rw (lt-ltb n 128 h) refl
variable_again (suc more) n rest h =
    elim (cases_lt n 128) [
      | inl small ↦ let t = lt-ltb n 128 small in rw (t, t) refl
      | inr large ↦
          let t = le-ltb n 128 large in
          let high = n / 128 in
          let inner : variable_at more (variable_bytes more (n / 128) ++ rest) ≡ Ok (Some (n / 128, rest)) = variable_again more (n / 128) rest (omega arith) in
          let f : ltb (n % 128 + 128) 128 ≡ false = le-ltb (n % 128 + 128) 128 (omega arith) in
          let some : eqb (n / 128) 0 ≡ false = ne_eqb (n / 128) 0 (omega arith) in
          let whole : n % 128 + 128 - 128 + 128 * (n / 128) ≡ n = omega arith in
          rw (t, f, inner, some, whole) refl
    ]

-- ---- what is left is an end of the bytes

longer_end : (byte : ℕ) (rest : List ℕ) (x : ℕ × List ℕ) (o : Option (ℕ × List ℕ)) → longer byte o ≡ Ok (Some x) → ((high : ℕ × List ℕ) → o ≡ Some high → (front : List ℕ) × (rest ≡ front ++ high.1)) → (front : List ℕ) × (byte ∷ rest ≡ front ++ x.1)
longer_end byte rest x None e behind = absurd cc
longer_end byte rest x (Some high) e behind =
    let some = unless_ok (eqb high.0 0) Malformed (Ok (Some (byte - 128 + 128 * high.0, high.1))) (Some x) e in
    let inner = behind high refl in
    let same = some_is (byte - 128 + 128 * high.0, high.1) x some.1 in
    (byte ∷ inner.0, ap (λ (t : List ℕ). byte ∷ t) inner.1 ∙ ap (λ (y : ℕ × List ℕ). (byte ∷ inner.0) ++ y.1) same)

pub variable_end : (more : ℕ) (bytes : List ℕ) (x : ℕ × List ℕ) → variable_at more bytes ≡ Ok (Some x) → (front : List ℕ) × (bytes ≡ front ++ x.1)
unfolding variable_at
variable_end zero [] x e = absurd cc
variable_end (suc more) [] x e = absurd cc
variable_end zero (byte ∷ rest) x e =
    let small = if_ok (ltb byte 128) Malformed (Ok (Some (byte, rest))) (Some x) e in
    (byte ∷ [], ap (λ (y : ℕ × List ℕ). byte ∷ y.1) (some_is (byte, rest) x small.1))
variable_end (suc more) (byte ∷ rest) x e =
    elim (chosen (ltb byte 128) (Ok (Some (byte, rest))) (variable_at more rest >>= longer byte) (Ok (Some x)) e) [
      | inl small ↦ (byte ∷ [], ap (λ (y : ℕ × List ℕ). byte ∷ y.1) (some_is (byte, rest) x small.1))
      | inr large ↦
          let step = bind_ok (variable_at more rest) (longer byte) (Some x) large.1 in
          longer_end byte rest x step.0 step.2 (λ high f. variable_end more rest high (step.1 ∙ ap (λ (o : Option (ℕ × List ℕ)). Ok o) f))
    ]

-- ---- how many bytes it has

one_byte : (more n : ℕ) → n < 128 → length (variable_bytes more n) ≡ 1
unfolding variable_bytes
one_byte zero n h = refl
one_byte (suc more) n h = rw (lt-ltb n 128 h) refl

a_byte_more : (more n : ℕ) → 128 ≤ n → length (variable_bytes (suc more) n) ≡ suc (length (variable_bytes more (n / 128)))
unfolding variable_bytes
a_byte_more more n h = rw (le-ltb n 128 h) refl

at_zero : (n : ℕ) → 1 ≤ length (variable_bytes 0 n)
unfolding variable_bytes
at_zero n = omega arith

some_byte : (more n : ℕ) → 1 ≤ length (variable_bytes more n)
some_byte zero n = at_zero n
some_byte (suc more) n =
    elim (cases_lt n 128) [ inl small ↦ omega (arith, one_byte (suc more) n small) | inr large ↦ omega (arith, a_byte_more more n large) ]

pub at_most_three : (n : ℕ) → n < 2097152 → length (variable_bytes 3 n) ≤ 3
at_most_three n h =
    elim (cases_lt n 128) [
      | inl small ↦ omega (arith, one_byte 3 n small)
      | inr more ↦ elim (cases_lt (n / 128) 128) [
        | inl small ↦ omega (arith, a_byte_more 2 n more, one_byte 2 (n / 128) small)
        | inr again ↦ let third : n / 128 / 128 < 128 = omega arith in
            omega (arith, a_byte_more 2 n more, a_byte_more 1 (n / 128) again, one_byte 1 (n / 128 / 128) third)
      ]
    ]

pub at_least_three : (n : ℕ) → 16384 ≤ n → 3 ≤ length (variable_bytes 3 n)
at_least_three n h =
    let first : 128 ≤ n = omega arith in
    let second : 128 ≤ n / 128 = omega arith in
    omega (arith, a_byte_more 2 n first, a_byte_more 1 (n / 128) second, some_byte 1 (n / 128 / 128))

pub is_one_byte : (n : ℕ) → n < 128 → length (variable_bytes 3 n) ≡ 1
is_one_byte n h = one_byte 3 n h

pub is_two_bytes : (n : ℕ) → 128 ≤ n → n < 16384 → length (variable_bytes 3 n) ≡ 2
is_two_bytes n large h =
    let high : n / 128 < 128 = omega arith in
    omega (arith, a_byte_more 2 n large, one_byte 2 (n / 128) high)

pub is_three_bytes : (n : ℕ) → 16384 ≤ n → n < 2097152 → length (variable_bytes 3 n) ≡ 3
is_three_bytes n large h = let least = at_least_three n large in let most = at_most_three n h in omega arith

last_byte : (n : ℕ) → length (variable_bytes 0 n) ≡ 1
unfolding variable_bytes
last_byte n = refl

pub is_four_bytes : (n : ℕ) → 2097152 ≤ n → n < 268435456 → length (variable_bytes 3 n) ≡ 4
is_four_bytes n large h =
    let first : 128 ≤ n = omega arith in
    let second : 128 ≤ n / 128 = omega arith in
    let third : 128 ≤ n / 128 / 128 = omega arith in
    omega (arith, a_byte_more 2 n first, a_byte_more 1 (n / 128) second, a_byte_more 0 (n / 128 / 128) third, last_byte (n / 128 / 128 / 128))

longer_shorter : (byte : ℕ) (rest : List ℕ) (x : ℕ × List ℕ) (o : Option (ℕ × List ℕ)) → longer byte o ≡ Ok (Some x) → ((high : ℕ × List ℕ) → o ≡ Some high → length high.1 < length rest) → length x.1 < length (byte ∷ rest)
longer_shorter byte rest x None e behind = absurd cc
longer_shorter byte rest x (Some high) e behind =
    let some = unless_ok (eqb high.0 0) Malformed (Ok (Some (byte - 128 + 128 * high.0, high.1))) (Some x) e in
    let less = behind high refl in
    subst (λ (y : ℕ × List ℕ). length y.1 < length (byte ∷ rest)) (some_is (byte - 128 + 128 * high.0, high.1) x some.1) (omega arith)

pub variable_shorter : (more : ℕ) (bytes : List ℕ) (x : ℕ × List ℕ) → variable_at more bytes ≡ Ok (Some x) → length x.1 < length bytes
unfolding variable_at
variable_shorter zero [] x e = absurd cc
variable_shorter (suc more) [] x e = absurd cc
variable_shorter zero (byte ∷ rest) x e =
    let small = if_ok (ltb byte 128) Malformed (Ok (Some (byte, rest))) (Some x) e in
    subst (λ (y : ℕ × List ℕ). length y.1 < length (byte ∷ rest)) (some_is (byte, rest) x small.1) (omega arith)
variable_shorter (suc more) (byte ∷ rest) x e =
    elim (chosen (ltb byte 128) (Ok (Some (byte, rest))) (variable_at more rest >>= longer byte) (Ok (Some x)) e) [
      | inl small ↦ subst (λ (y : ℕ × List ℕ). length y.1 < length (byte ∷ rest)) (some_is (byte, rest) x small.1) (omega arith)
      | inr large ↦
          let step = bind_ok (variable_at more rest) (longer byte) (Some x) large.1 in
          longer_shorter byte rest x step.0 step.2 (λ high f. variable_shorter more rest high (step.1 ∙ ap (λ (o : Option (ℕ × List ℕ)). Ok o) f))
    ]

rest_of : (front rest bytes : List ℕ) → bytes ≡ front ++ rest → drop (length bytes - length rest) bytes ≡ rest
rest_of front rest bytes e =
    let size : length bytes - length rest ≡ length front = omega (arith, ap length e, length-append front rest) in
    ap (λ (n : ℕ). drop n bytes) size ∙ ap (drop (length front)) e ∙ drop_at front rest (length front) refl

-- what is after the number is what is left where its bytes are dropped
pub variable_rest : (more : ℕ) (bytes : List ℕ) (x : ℕ × List ℕ) → variable_at more bytes ≡ Ok (Some x) → drop (length bytes - length x.1) bytes ≡ x.1
variable_rest more bytes x e =
    let parts = variable_end more bytes x e in
    rest_of parts.0 x.1 bytes parts.1
