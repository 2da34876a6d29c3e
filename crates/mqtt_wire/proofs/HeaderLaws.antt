-- A header that is read is the header that was spelled, and what was spelled is read again.
use Rattle.std.proofs.Common.{◌≡◌, ℕ, zero, suc, ◌/◌, ◌%◌, ◌<◌, ◌≤◌, Bool, true, false, cond, ltb, eqb, List, [], ◌∷◌, ◌++◌, Option, Some, None, Result, Ok, refl, sym, ap, subst, ◌∙◌, arith, inl, inr}
use Rattle.std.specs.Prelude.{option_and_then}
use Rattle.std.proofs.lemmas.Bool.{ltb-false, le-ltb, eqb-true}
use Rattle.mqtt_fields.specs.declared.fault.StreamFault.{StreamFault}
use Rattle.mqtt_fields.specs.declared.fault.StreamFault.TheVariants.{TooLarge}
use Rattle.mqtt_packet.specs.declared.packet.QoS.{QoS}
use Rattle.mqtt_packet.specs.declared.packet.QoS.TheVariants.{AtMostOnce, AtLeastOnce, ExactlyOnce}
use Rattle.mqtt_wire.specs.declared.kind.Kind.{Kind}
use Rattle.mqtt_packet.specs.declared.packet.ForeignKind.TheVariants as foreign
use Rattle.mqtt_wire.specs.declared.kind.Kind.TheVariants.{Connect, Publish, Puback, Subscribe, Unsubscribe, Pingreq, Disconnect, Foreign}
use Rattle.mqtt_fields.specs.Forms.{variable_byte_integer, bit, AreBytes}
use Rattle.mqtt_wire.specs.Kinds.{qos_bits, qos_at, first_byte, publish_at, kinds_of_one_byte, kind_among, kind_at}
use Rattle.mqtt_fields.specs.Fields.{variable_at}
use Rattle.mqtt_wire.specs.Stream.{Header, header_at, header_of, header_from}
use Rattle.mqtt_fields.proofs.Steps.{bind_ok, unless_ok, rest_bytes}
use Rattle.mqtt_fields.proofs.Variable.{chosen, variable_takes, variable_again, variable_end}

-- ---- the first byte

publish_again : (dup : Bool) (qos : QoS) (retain : Bool) → let kind = Publish (record { dup = dup; qos = qos; retain = retain }) in kind_at (first_byte kind) ≡ Some kind
publish_again true AtMostOnce true = refl
publish_again true AtMostOnce false = refl
publish_again true AtLeastOnce true = refl
publish_again true AtLeastOnce false = refl
publish_again true ExactlyOnce true = refl
publish_again true ExactlyOnce false = refl
publish_again false AtMostOnce true = refl
publish_again false AtMostOnce false = refl
publish_again false AtLeastOnce true = refl
publish_again false AtLeastOnce false = refl
publish_again false ExactlyOnce true = refl
publish_again false ExactlyOnce false = refl

pub kind_again : (kind : Kind) → kind_at (first_byte kind) ≡ Some kind
kind_again Connect = refl
kind_again (Publish flags) = publish_again flags.dup flags.qos flags.retain
kind_again Puback = refl
kind_again Subscribe = refl
kind_again Unsubscribe = refl
kind_again Pingreq = refl
kind_again Disconnect = refl
kind_again (Foreign foreign.Connack) = refl
kind_again (Foreign foreign.Pubrec) = refl
kind_again (Foreign foreign.Pubrel) = refl
kind_again (Foreign foreign.Pubcomp) = refl
kind_again (Foreign foreign.Suback) = refl
kind_again (Foreign foreign.Unsuback) = refl
kind_again (Foreign foreign.Pingresp) = refl
kind_again (Foreign foreign.Auth) = refl

pub bit_is : (n : ℕ) → n < 2 → bit (eqb n 1) ≡ n
bit_is zero h = refl
bit_is (suc zero) h = refl
bit_is (suc (suc n)) h = absurd (omega arith)

qos_is : (a b : QoS) → Some a ≡ Some b → a ≡ b
qos_is a b e = cc

pub qos_takes : (bits : ℕ) (qos : QoS) → qos_at bits ≡ Some qos → qos_bits qos ≡ bits
qos_takes bits qos e =
    elim (chosen (eqb bits 0) (Some AtMostOnce) (cond (eqb bits 1) (Some AtLeastOnce) (cond (eqb bits 2) (Some ExactlyOnce) None)) (Some qos) e) [
      | inl here ↦ ap qos_bits (sym (qos_is AtMostOnce qos here.1)) ∙ sym (eqb-true bits 0 here.0)
      | inr a ↦ elim (chosen (eqb bits 1) (Some AtLeastOnce) (cond (eqb bits 2) (Some ExactlyOnce) None) (Some qos) a.1) [
        | inl here ↦ ap qos_bits (sym (qos_is AtLeastOnce qos here.1)) ∙ sym (eqb-true bits 1 here.0)
        | inr b ↦ elim (chosen (eqb bits 2) (Some ExactlyOnce) None (Some qos) b.1) [
          | inl here ↦ ap qos_bits (sym (qos_is ExactlyOnce qos here.1)) ∙ sym (eqb-true bits 2 here.0)
          | inr none ↦ absurd (let no = none.1 in cc)
        ]
      ]
    ]

some_kind : (o : Option QoS) (f : QoS → Kind) (kind : Kind) → option_and_then (λ qos. Some (f qos)) o ≡ Some kind → (qos : QoS) × (o ≡ Some qos) × (f qos ≡ kind)
some_kind None f kind e = absurd cc
some_kind (Some qos) f kind e = (qos, refl, cc)

kind_is : (a b : Kind) → Some a ≡ Some b → a ≡ b
kind_is a b e = cc

publish_takes : (first : ℕ) (kind : Kind) → first < 256 → publish_at first ≡ Some kind → first_byte kind ≡ first
publish_takes first kind small e =
    elim (chosen (eqb (first / 16) 3) (option_and_then (λ qos. Some (Publish (record { dup = eqb (first / 8 % 2) 1; qos = qos; retain = eqb (first % 2) 1 }))) (qos_at (first / 2 % 4))) None (Some kind) e) [
      | inl three ↦
          let made = some_kind (qos_at (first / 2 % 4)) (λ qos. Publish (record { dup = eqb (first / 8 % 2) 1; qos = qos; retain = eqb (first % 2) 1 })) kind three.1 in
          let bits = qos_takes (first / 2 % 4) made.0 made.1 in
          let upper = eqb-true (first / 16) 3 three.0 in
          let dup = bit_is (first / 8 % 2) (omega arith) in
          let retain = bit_is (first % 2) (omega arith) in
          ap first_byte (sym made.2) ∙ (omega arith)
      | inr other ↦ absurd (let no = other.1 in cc)
    ]

among_takes : (kinds : List Kind) (first : ℕ) (kind : Kind) → first < 256 → kind_among kinds first ≡ Some kind → first_byte kind ≡ first
among_takes [] first kind small e = publish_takes first kind small e
among_takes (k ∷ kinds) first kind small e =
    elim (chosen (eqb first (first_byte k)) (Some k) (kind_among kinds first) (Some kind) e) [
      | inl here ↦ ap first_byte (sym (kind_is k kind here.1)) ∙ sym (eqb-true first (first_byte k) here.0)
      | inr other ↦ among_takes kinds first kind small other.1
    ]

pub kind_takes : (first : ℕ) (kind : Kind) → first < 256 → kind_at first ≡ Some kind → first_byte kind ≡ first
kind_takes first kind small e = among_takes kinds_of_one_byte first kind small e

-- ---- the header

-- the parts of a header that was found
pub record Parts (o : Option Kind) (bytes : List ℕ) (header : Header) : Type 0 where
  pub kind : o ≡ Some header.kind
  pub size : variable_at 3 bytes ≡ Ok (Some (header.remaining, header.rest))
  pub small : header.remaining ≤ 65532

abbrev found : Header → Result (Option Header) StreamFault
found header = Ok (Some header)

found_is : (a b : Header) → found a ≡ found b → a ≡ b
found_is a b e = cc

parts_from : (kind : Kind) (bytes : List ℕ) (size : Option (ℕ × List ℕ)) (header : Header) → variable_at 3 bytes ≡ Ok size → header_from kind size ≡ Ok (Some header) → Parts (Some kind) bytes header
parts_from kind bytes None header e f = absurd cc
parts_from kind bytes (Some size) header e f =
    let made : Header = record { kind = kind; remaining = size.0; rest = size.1 } in
    let within = unless_ok (ltb 65532 size.0) TooLarge (Ok (Some made)) (Some header) f in
    subst (λ (h : Header). Parts (Some kind) bytes h) (found_is made header within.1)
    (record { kind = refl; size = e; small = ltb-false 65532 size.0 within.0 })

pub header_parts : (o : Option Kind) (bytes : List ℕ) (header : Header) → header_of o bytes ≡ Ok (Some header) → Parts o bytes header
header_parts None bytes header e = absurd cc
header_parts (Some kind) bytes header e =
    let step = bind_ok (variable_at 3 bytes) (header_from kind) (Some header) e in
    parts_from kind bytes step.0 header step.1 step.2

-- what is read is spelled so
pub record Spelled (bytes : List ℕ) (header : Header) : Type 0 where
  pub parts : bytes ≡ first_byte header.kind ∷ variable_byte_integer header.remaining ++ header.rest
  pub small : header.remaining ≤ 65532
  pub rest_fits : AreBytes header.rest

pub header_takes : (bytes : List ℕ) (header : Header) → AreBytes bytes → header_at bytes ≡ Ok (Some header) → Spelled bytes header
unfolding header_at
header_takes [] header fits e = absurd cc
header_takes (first ∷ bytes) header fits e =
    let p = header_parts (kind_at first) bytes header e in
    let v = variable_takes 3 bytes (header.remaining, header.rest) (rest_bytes first bytes fits) p.size in
    let byte = kind_takes first header.kind (fits 0) p.kind in
    record {
      parts = ap (λ (t : List ℕ). first ∷ t) v.0.parts ∙ ap (λ (b : ℕ). b ∷ variable_byte_integer header.remaining ++ header.rest) (sym byte);
      small = p.small;
      rest_fits = v.0.rest_fits;
    }

-- what is spelled so is read
pub header_again : (kind : Kind) (remaining : ℕ) (rest : List ℕ) → remaining ≤ 65532 → header_at (first_byte kind ∷ variable_byte_integer remaining ++ rest) ≡ Ok (Some (record { kind = kind; remaining = remaining; rest = rest }))
unfolding header_at
header_again kind remaining rest small =
    let within : ltb 65532 remaining ≡ false = le-ltb 65532 remaining small in
    rw (kind_again kind, variable_again 3 remaining rest (omega arith), within) refl

-- what is left is an end of the bytes
pub header_end : (bytes : List ℕ) (header : Header) → header_at bytes ≡ Ok (Some header) → (front : List ℕ) × (bytes ≡ front ++ header.rest)
unfolding header_at
header_end [] header e = absurd cc
header_end (first ∷ bytes) header e =
    let p = header_parts (kind_at first) bytes header e in
    let v = variable_end 3 bytes (header.remaining, header.rest) p.size in
    (first ∷ v.0, ap (λ (t : List ℕ). first ∷ t) v.1)
