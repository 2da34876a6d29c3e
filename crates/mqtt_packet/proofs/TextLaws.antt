-- The test for UTF-8 answers what the definition says.
use Rattle.std.proofs.Common.{◌≡◌, ◌<◌, ◌==◌, Bool, true, false, List, ℕ, length, ltb, lt-ltb, refl, sym}
use Rattle.std.specs.Prelude.{IsTrue, ◌↔◌, not, ◌&&◌}
use Rattle.std.proofs.lemmas.Bool.{and_parts, ltb-true}
use Rattle.std.specs.Str.{is_utf8, IsUtf8}
use Rattle.std.specs.List.{list_any}
use Rattle.mqtt_packet.specs.Texts.{is_text}
use Rattle.std.proofs.lemmas.Str.{IsUtf8-from_is_utf8, is_utf8-from_IsUtf8}

same : (a b : Bool) → (a ≡ true → b ≡ true) → (b ≡ true → a ≡ true) → a ≡ b
same true b f g = sym (f refl)
same false true f g = g refl
same false false f g = refl

pub decided : (answer : Bool) (bytes : List ℕ) → (IsTrue answer ↔ IsUtf8 bytes) → answer ≡ is_utf8 bytes
decided answer bytes h =
    same answer (is_utf8 bytes) (λ e. is_utf8-from_IsUtf8 bytes (h.0 e)) (λ e. h.1 (IsUtf8-from_is_utf8 bytes e))

-- a short text without U+0000 is one exactly where it is UTF-8
pub is_text-short : (bytes : List ℕ) → length bytes < 65536 → list_any (λ b. b == 0) bytes ≡ false → is_utf8 bytes ≡ is_text bytes
unfolding is_text
is_text-short bytes lt none = rw (none, lt-ltb (length bytes) 65536 lt) refl

pub text_is_short : (bytes : List ℕ) → is_text bytes ≡ true → length bytes < 65536
unfolding is_text
text_is_short bytes e =
    let outer = and_parts (ltb (length bytes) 65536 && not (list_any (λ b. b == 0) bytes)) (is_utf8 bytes) e in
    let inner = and_parts (ltb (length bytes) 65536) (not (list_any (λ b. b == 0) bytes)) outer.0 in
    ltb-true (length bytes) 65536 inner.0
