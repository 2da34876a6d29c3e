-- Steps of writing after a buffer's bytes.
use Rattle.std.proofs.Common.{◌≡◌, ℕ, zero, suc, ◌+◌, ◌-◌, ◌/◌, ◌%◌, ◌<◌, ◌≤◌, List, ◌∷◌, ◌++◌, refl, ap, ◌∙◌, append_assoc, arith, le-ltb, length-append}
use Rattle.std.specs.Prelude.{Vec}
use Rattle.std.specs.declared.alloc.Global.{Global}
use Rattle.mqtt_fields.specs.Forms.{variable_bytes, variable_limit}
use Rattle.mqtt_fields.specs.Buffers.{Appends}

-- the next byte of a Variable Byte Integer
pub next_byte : (more n : ℕ) → 128 ≤ n → n < variable_limit more → variable_bytes more n ≡ (n % 128 + 128) ∷ variable_bytes (more - 1) (n / 128)
unfolding variable_bytes
next_byte zero n large h = absurd (omega arith)
next_byte (suc more) n large h =
    let less : suc more - 1 ≡ more = omega arith in
    rw (le-ltb n 128 large, less) refl

-- what is written after what was written
pub appends_both : (old middle new : Vec ℕ Global) (first others : List ℕ) →
    Appends old first middle → Appends middle others new → Appends old (first ++ others) new
appends_both old middle new first others a b = record {
  items = b.items ∙ ap (λ (o : List ℕ). o ++ others) a.items ∙ append_assoc old.items first others;
  len = omega (arith, a.len, b.len, length-append first others);
  capacity = omega (arith, a.capacity, b.capacity);
}
