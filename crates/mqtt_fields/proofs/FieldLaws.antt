-- A field that is read is the field that was spelled, and what was spelled is read again.
use Rattle.std.proofs.Common.{◌≡◌, ℕ, ◌+◌, ◌*◌, ◌/◌, ◌%◌, ◌<◌, ◌≤◌, Bool, true, false, cond, ltb, eqb, List, [], ◌∷◌, ◌++◌, length, take, drop, Option, Some, None, Ok, Err, inl, inr, refl, sym, ap, subst, ◌∙◌, arith, length-append, length-drop}
use Rattle.std.proofs.lemmas.List.{length-take-le}
use Rattle.std.proofs.lemmas.Bool.{ltb-false, le-ltb, eqb-true, eqb-false, ne_eqb}
use Rattle.std.proofs.lemmas.List.{take_at, drop_at, take-append-drop}
use Rattle.mqtt_packet.specs.Texts.{is_text, IsText, IsBinary}
use Rattle.mqtt_fields.specs.Forms.{u16_bytes, u32_bytes, binary_data, utf8_string, variable_byte_integer, bit, AreBytes}
use Rattle.mqtt_fields.specs.Fields.{Field, byte_at, u16_at, u32_at, binary_at, text_at, not_zero, identifier_at, flag_at, variable_at, whole, variable_field_at}
use Rattle.mqtt_fields.specs.FieldRanges.{IsIdentifier}
use Rattle.mqtt_fields.specs.declared.fault.StreamFault.TheVariants.{Protocol}
use Rattle.mqtt_fields.proofs.Steps.{bind_ok, unless_ok, if_ok, ok_is, drop_bytes, rest_bytes, Front}
use Rattle.mqtt_fields.proofs.Variable.{chosen, variable_takes, variable_again}

-- ---- what is left is shorter

pub byte_shorter : (bytes : List ℕ) (x : ℕ × List ℕ) → byte_at bytes ≡ Ok x → length x.1 + 1 ≡ length bytes
unfolding byte_at
byte_shorter [] x e = absurd cc
byte_shorter (byte ∷ rest) x e = subst (λ (y : ℕ × List ℕ). length y.1 + 1 ≡ length (byte ∷ rest)) (ok_is (byte, rest) x e) (omega arith)

pub u16_shorter : (bytes : List ℕ) (x : ℕ × List ℕ) → u16_at bytes ≡ Ok x → length x.1 + 2 ≡ length bytes
unfolding u16_at
u16_shorter [] x e = absurd cc
u16_shorter (high ∷ []) x e = absurd cc
u16_shorter (high ∷ low ∷ rest) x e =
    subst (λ (y : ℕ × List ℕ). length y.1 + 2 ≡ length (high ∷ low ∷ rest)) (ok_is (256 * high + low, rest) x e) (omega arith)

pub binary_shorter : (bytes : List ℕ) (x : List ℕ × List ℕ) → binary_at bytes ≡ Ok x → length x.1 < length bytes
unfolding binary_at
binary_shorter bytes x e =
    let size = bind_ok (u16_at bytes) _ x e in
    let whole = unless_ok _ _ _ x size.2 in
    subst (λ (y : List ℕ × List ℕ). length y.1 < length bytes) (ok_is (take size.0.0 size.0.1, drop size.0.0 size.0.1) x whole.1)
    (omega (arith, length-drop size.0.0 size.0.1, u16_shorter bytes size.0 size.1))

pub text_shorter : (bytes : List ℕ) (x : List ℕ × List ℕ) → text_at bytes ≡ Ok x → length x.1 < length bytes
unfolding text_at
text_shorter bytes x e =
    let binary = bind_ok (binary_at bytes) _ x e in
    let text = if_ok _ _ _ x binary.2 in
    subst (λ (y : List ℕ × List ℕ). length y.1 < length bytes) (ok_is binary.0 x text.1) (binary_shorter bytes binary.0 binary.1)

pub u32_shorter : (bytes : List ℕ) (x : ℕ × List ℕ) → u32_at bytes ≡ Ok x → length x.1 < length bytes
unfolding u32_at
u32_shorter [] x e = absurd cc
u32_shorter (a ∷ []) x e = absurd cc
u32_shorter (a ∷ b ∷ []) x e = absurd cc
u32_shorter (a ∷ b ∷ c ∷ []) x e = absurd cc
u32_shorter (a ∷ b ∷ c ∷ d ∷ rest) x e =
    subst (λ (y : ℕ × List ℕ). length y.1 < length (a ∷ b ∷ c ∷ d ∷ rest)) (ok_is (16777216 * a + 65536 * b + 256 * c + d, rest) x e) (omega arith)

pub flag_shorter : (bytes : List ℕ) (x : Bool × List ℕ) → flag_at bytes ≡ Ok x → length x.1 < length bytes
unfolding flag_at
flag_shorter bytes x e =
    let byte = bind_ok (byte_at bytes) _ x e in
    let less : length byte.0.1 < length bytes = omega (arith, byte_shorter bytes byte.0 byte.1) in
    elim (chosen (eqb byte.0.0 0) (Ok (false, byte.0.1)) (cond (eqb byte.0.0 1) (Ok (true, byte.0.1)) (Err Protocol)) (Ok x) byte.2) [
      | inl zero' ↦ subst (λ (y : Bool × List ℕ). length y.1 < length bytes) (ok_is (false, byte.0.1) x zero'.1) less
      | inr other ↦ subst (λ (y : Bool × List ℕ). length y.1 < length bytes) (ok_is (true, byte.0.1) x (if_ok (eqb byte.0.0 1) Protocol (Ok (true, byte.0.1)) x other.1).1) less
    ]

pub not_zero_shorter : (bytes : List ℕ) (read : Field ℕ) → ((x : ℕ × List ℕ) → read ≡ Ok x → length x.1 < length bytes) → (x : ℕ × List ℕ) → not_zero read ≡ Ok x → length x.1 < length bytes
not_zero_shorter bytes read shorter x e =
    let number = bind_ok read _ x e in
    let some = unless_ok _ _ _ x number.2 in
    subst (λ (y : ℕ × List ℕ). length y.1 < length bytes) (ok_is number.0 x some.1) (shorter number.0 number.1)

-- ---- what is read is spelled so

u16_back : (high low : ℕ) (rest : List ℕ) → high < 256 → low < 256 → high ∷ low ∷ rest ≡ u16_bytes (256 * high + low) ++ rest
u16_back high low rest p q =
    let a : high ≡ (256 * high + low) / 256 = omega arith in
    let b : low ≡ (256 * high + low) % 256 = omega arith in
    cc

pub u16_takes : (bytes : List ℕ) (x : ℕ × List ℕ) → AreBytes bytes → u16_at bytes ≡ Ok x → Front bytes (u16_bytes x.0) x.1 × (x.0 < 65536)
unfolding u16_at
u16_takes [] x fits e = absurd cc
u16_takes (high ∷ []) x fits e = absurd cc
u16_takes (high ∷ low ∷ rest) x fits e =
    let first : high < 256 = fits 0 in
    let second : low < 256 = fits 1 in
    subst (λ (y : ℕ × List ℕ). Front (high ∷ low ∷ rest) (u16_bytes y.0) y.1 × (y.0 < 65536)) (ok_is (256 * high + low, rest) x e)
    (record { parts = u16_back high low rest first second; rest_fits = rest_bytes low rest (rest_bytes high (low ∷ rest) fits) }, omega arith)

pub byte_takes : (bytes : List ℕ) (x : ℕ × List ℕ) → AreBytes bytes → byte_at bytes ≡ Ok x → Front bytes (x.0 ∷ []) x.1
unfolding byte_at
byte_takes [] x fits e = absurd cc
byte_takes (byte ∷ rest) x fits e =
    subst (λ (y : ℕ × List ℕ). Front (byte ∷ rest) (y.0 ∷ []) y.1) (ok_is (byte, rest) x e) (record { parts = refl; rest_fits = rest_bytes byte rest fits })

data_parts : (bytes : List ℕ) (n : ℕ) (rest : List ℕ) → bytes ≡ u16_bytes n ++ rest → n ≤ length rest → bytes ≡ binary_data (take n rest) ++ drop n rest
data_parts bytes n rest e le =
    e ∙ ap (λ (t : List ℕ). u16_bytes n ++ t) (sym (take-append-drop n rest))
    ∙ ap (λ (k : ℕ). u16_bytes k ++ (take n rest ++ drop n rest)) (sym (length-take-le n rest le))

pub binary_takes : (bytes : List ℕ) (x : List ℕ × List ℕ) → AreBytes bytes → binary_at bytes ≡ Ok x → Front bytes (binary_data x.0) x.1 × IsBinary x.0
unfolding binary_at
binary_takes bytes x fits e =
    let size = bind_ok (u16_at bytes) _ x e in
    let u = u16_takes bytes size.0 fits size.1 in
    let long = unless_ok _ _ _ x size.2 in
    let within = ltb-false _ _ long.0 in
    subst (λ (y : List ℕ × List ℕ). Front bytes (binary_data y.0) y.1 × IsBinary y.0) (ok_is (take size.0.0 size.0.1, drop size.0.0 size.0.1) x long.1)
    (record { parts = data_parts bytes size.0.0 size.0.1 u.0.parts within; rest_fits = drop_bytes size.0.0 size.0.1 u.0.rest_fits }, omega (arith, length-take-le size.0.0 size.0.1 within, u.1))

pub text_takes : (bytes : List ℕ) (x : List ℕ × List ℕ) → AreBytes bytes → text_at bytes ≡ Ok x → Front bytes (utf8_string x.0) x.1 × IsText x.0
unfolding text_at
text_takes bytes x fits e =
    let binary = bind_ok (binary_at bytes) _ x e in
    let t = binary_takes bytes binary.0 fits binary.1 in
    let text = if_ok _ _ _ x binary.2 in
    subst (λ (y : List ℕ × List ℕ). Front bytes (utf8_string y.0) y.1 × IsText y.0) (ok_is binary.0 x text.1) (t.0, text.0)

u32_back : (a b c d : ℕ) (rest : List ℕ) → a < 256 → b < 256 → c < 256 → d < 256 → a ∷ b ∷ c ∷ d ∷ rest ≡ u32_bytes (16777216 * a + 65536 * b + 256 * c + d) ++ rest
u32_back a b c d rest p q r s =
    let first : a ≡ (16777216 * a + 65536 * b + 256 * c + d) / 16777216 = omega arith in
    let second : b ≡ (16777216 * a + 65536 * b + 256 * c + d) / 65536 % 256 = omega arith in
    let third : c ≡ (16777216 * a + 65536 * b + 256 * c + d) / 256 % 256 = omega arith in
    let fourth : d ≡ (16777216 * a + 65536 * b + 256 * c + d) % 256 = omega arith in
    cc

pub u32_takes : (bytes : List ℕ) (x : ℕ × List ℕ) → AreBytes bytes → u32_at bytes ≡ Ok x → Front bytes (u32_bytes x.0) x.1 × (x.0 < 4294967296)
unfolding u32_at
u32_takes [] x fits e = absurd cc
u32_takes (a ∷ []) x fits e = absurd cc
u32_takes (a ∷ b ∷ []) x fits e = absurd cc
u32_takes (a ∷ b ∷ c ∷ []) x fits e = absurd cc
u32_takes (a ∷ b ∷ c ∷ d ∷ rest) x fits e =
    let p : a < 256 = fits 0 in
    let q : b < 256 = fits 1 in
    let r : c < 256 = fits 2 in
    let s : d < 256 = fits 3 in
    subst (λ (y : ℕ × List ℕ). Front (a ∷ b ∷ c ∷ d ∷ rest) (u32_bytes y.0) y.1 × (y.0 < 4294967296)) (ok_is (16777216 * a + 65536 * b + 256 * c + d, rest) x e)
    (record { parts = u32_back a b c d rest p q r s; rest_fits = λ i. drop_bytes 4 (a ∷ b ∷ c ∷ d ∷ rest) fits i }, omega arith)

pub flag_takes : (bytes : List ℕ) (x : Bool × List ℕ) → AreBytes bytes → flag_at bytes ≡ Ok x → Front bytes (bit x.0 ∷ []) x.1
unfolding flag_at
flag_takes bytes x fits e =
    let byte = bind_ok (byte_at bytes) _ x e in
    let b = byte_takes bytes byte.0 fits byte.1 in
    elim (chosen (eqb byte.0.0 0) (Ok (false, byte.0.1)) (cond (eqb byte.0.0 1) (Ok (true, byte.0.1)) (Err Protocol)) (Ok x) byte.2) [
      | inl zero' ↦ subst (λ (y : Bool × List ℕ). Front bytes (bit y.0 ∷ []) y.1) (ok_is (false, byte.0.1) x zero'.1) (subst (λ (n : ℕ). Front bytes (n ∷ []) byte.0.1) (eqb-true byte.0.0 0 zero'.0) b)
      | inr other ↦
          let one = if_ok (eqb byte.0.0 1) Protocol (Ok (true, byte.0.1)) x other.1 in
          subst (λ (y : Bool × List ℕ). Front bytes (bit y.0 ∷ []) y.1) (ok_is (true, byte.0.1) x one.1) (subst (λ (n : ℕ). Front bytes (n ∷ []) byte.0.1) (eqb-true byte.0.0 1 one.0) b)
    ]

pub not_zero_takes : (bytes : List ℕ) (read : Field ℕ) (spell : ℕ → List ℕ) (limit : ℕ) → ((x : ℕ × List ℕ) → read ≡ Ok x → Front bytes (spell x.0) x.1 × (x.0 < limit)) → (x : ℕ × List ℕ) → not_zero read ≡ Ok x → Front bytes (spell x.0) x.1 × ((0 < x.0) × (x.0 < limit))
not_zero_takes bytes read spell limit takes x e =
    let number = bind_ok read _ x e in
    let t = takes number.0 number.1 in
    let some = unless_ok _ _ _ x number.2 in
    let positive : 0 < number.0.0 = let no = eqb-false number.0.0 0 some.0 in omega arith in
    subst (λ (y : ℕ × List ℕ). Front bytes (spell y.0) y.1 × ((0 < y.0) × (y.0 < limit))) (ok_is number.0 x some.1) (t.0, (positive, t.1))

pub identifier_takes : (bytes : List ℕ) (x : ℕ × List ℕ) → AreBytes bytes → identifier_at bytes ≡ Ok x → Front bytes (u16_bytes x.0) x.1 × IsIdentifier x.0
unfolding identifier_at
identifier_takes bytes x fits e = not_zero_takes bytes (u16_at bytes) u16_bytes 65536 (λ y f. u16_takes bytes y fits f) x e

whole_is : (o : Option (ℕ × List ℕ)) (x : ℕ × List ℕ) → whole o ≡ Ok x → o ≡ Some x
whole_is None x e = absurd cc
whole_is (Some number) x e = ap (λ (n : ℕ × List ℕ). Some n) (ok_is number x e)

pub variable_field_is : (bytes : List ℕ) (x : ℕ × List ℕ) → variable_field_at bytes ≡ Ok x → variable_at 3 bytes ≡ Ok (Some x)
unfolding variable_field_at
variable_field_is bytes x e =
    let o = bind_ok (variable_at 3 bytes) whole x e in
    o.1 ∙ ap (λ (n : Option (ℕ × List ℕ)). Ok n) (whole_is o.0 x o.2)

pub variable_field_takes : (bytes : List ℕ) (x : ℕ × List ℕ) → AreBytes bytes → variable_field_at bytes ≡ Ok x → Front bytes (variable_byte_integer x.0) x.1 × (x.0 < 268435456)
variable_field_takes bytes x fits e = variable_takes 3 bytes x fits (variable_field_is bytes x e)

-- ---- what is spelled so is read

pub u16_again : (n : ℕ) (rest : List ℕ) → u16_at (u16_bytes n ++ rest) ≡ Ok (n, rest)
unfolding u16_at
u16_again n rest = let e : 256 * (n / 256) + n % 256 ≡ n = omega arith in ap (λ (k : ℕ). Ok (k, rest)) e

pub byte_again : (byte : ℕ) (rest : List ℕ) → byte_at (byte ∷ rest) ≡ Ok (byte, rest)
unfolding byte_at
byte_again byte rest = refl

pub binary_again : (binary rest : List ℕ) → binary_at (binary_data binary ++ rest) ≡ Ok (binary, rest)
unfolding binary_at
binary_again binary rest =
    let size : u16_at (binary_data binary ++ rest) ≡ Ok (length binary, binary ++ rest) = u16_again (length binary) (binary ++ rest) in
    let long : ltb (length (binary ++ rest)) (length binary) ≡ false = le-ltb _ _ (omega (arith, length-append binary rest)) in
    rw (size, long, take_at binary rest (length binary) refl, drop_at binary rest (length binary) refl) refl

pub text_again : (text rest : List ℕ) → IsText text → text_at (utf8_string text ++ rest) ≡ Ok (text, rest)
unfolding text_at
text_again text rest is_text = rw (binary_again text rest, is_text) refl

pub u32_again : (n : ℕ) (rest : List ℕ) → u32_at (u32_bytes n ++ rest) ≡ Ok (n, rest)
unfolding u32_at
u32_again n rest =
    let e : 16777216 * (n / 16777216) + 65536 * (n / 65536 % 256) + 256 * (n / 256 % 256) + n % 256 ≡ n = omega arith in
    ap (λ (k : ℕ). Ok (k, rest)) e

pub flag_again : (flag : Bool) (rest : List ℕ) → flag_at (bit flag ∷ rest) ≡ Ok (flag, rest)
unfolding flag_at
flag_again true rest = rw (byte_again 1 rest) refl
flag_again false rest = rw (byte_again 0 rest) refl

pub not_zero_again : (read : Field ℕ) (n : ℕ) (rest : List ℕ) → read ≡ Ok (n, rest) → 0 < n → not_zero read ≡ Ok (n, rest)
not_zero_again read n rest e positive = rw (e, ne_eqb n 0 (omega arith)) refl

pub identifier_again : (n : ℕ) (rest : List ℕ) → 0 < n → identifier_at (u16_bytes n ++ rest) ≡ Ok (n, rest)
unfolding identifier_at
identifier_again n rest positive = not_zero_again (u16_at (u16_bytes n ++ rest)) n rest (u16_again n rest) positive

pub variable_field_again : (n : ℕ) (rest : List ℕ) → n < 268435456 → variable_field_at (variable_byte_integer n ++ rest) ≡ Ok (n, rest)
unfolding variable_field_at
variable_field_again n rest small = rw (variable_again 3 n rest small) refl
