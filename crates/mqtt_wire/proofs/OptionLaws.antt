-- Subscription Options: what is read is spelled so, and what is spelled so is read.
use Rattle.std.proofs.Common.{◌≡◌, ℕ, ◌/◌, ◌%◌, ◌<◌, ◌≤◌, Bool, true, false, cond, ltb, eqb, Option, Some, None, Ok, refl, sym, ap, ◌∙◌, arith, inl, inr}
use Rattle.std.proofs.lemmas.Bool.{ltb-true, lt-ltb, eqb-true}
use Rattle.mqtt_packet.specs.declared.packet.QoS.{QoS}
use Rattle.mqtt_packet.specs.declared.packet.QoS.TheVariants.{AtMostOnce, AtLeastOnce, ExactlyOnce}
use Rattle.mqtt_packet.specs.declared.packet.RetainHandling.{RetainHandling}
use Rattle.mqtt_packet.specs.declared.packet.RetainHandling.TheVariants.{Send, SendIfNew, DoNotSend}
use Rattle.mqtt_packet.specs.declared.packet.SubscriptionOptions.{SubscriptionOptions}
use Rattle.mqtt_fields.specs.Forms.{bit}
use Rattle.mqtt_wire.specs.Kinds.{qos_bits, qos_at}
use Rattle.mqtt_wire.specs.Bodies.{retain_handling_at, options_from, options_at}
use Rattle.mqtt_wire.specs.Writing.{retain_handling_bits, options_byte}
use Rattle.mqtt_fields.proofs.Steps.{if_ok, ok_is}
use Rattle.mqtt_fields.proofs.Variable.{chosen}
use Rattle.mqtt_wire.proofs.HeaderLaws.{bit_is, qos_takes}

handling_is : (a b : RetainHandling) → Some a ≡ Some b → a ≡ b
handling_is a b e = cc

handling_takes : (bits : ℕ) (handling : RetainHandling) → retain_handling_at bits ≡ Some handling → retain_handling_bits handling ≡ bits
handling_takes bits handling e =
    elim (chosen (eqb bits 0) (Some Send) (cond (eqb bits 1) (Some SendIfNew) (cond (eqb bits 2) (Some DoNotSend) None)) (Some handling) e) [
      | inl here ↦ ap retain_handling_bits (sym (handling_is Send handling here.1)) ∙ sym (eqb-true bits 0 here.0)
      | inr a ↦ elim (chosen (eqb bits 1) (Some SendIfNew) (cond (eqb bits 2) (Some DoNotSend) None) (Some handling) a.1) [
        | inl here ↦ ap retain_handling_bits (sym (handling_is SendIfNew handling here.1)) ∙ sym (eqb-true bits 1 here.0)
        | inr b ↦ elim (chosen (eqb bits 2) (Some DoNotSend) None (Some handling) b.1) [
          | inl here ↦ ap retain_handling_bits (sym (handling_is DoNotSend handling here.1)) ∙ sym (eqb-true bits 2 here.0)
          | inr none ↦ absurd (let no = none.1 in cc)
        ]
      ]
    ]

options_parts : (byte : ℕ) (qos : Option QoS) (handling : Option RetainHandling) (o : SubscriptionOptions) → byte < 64 → ((q : QoS) → qos ≡ Some q → qos_bits q ≡ byte % 4) → ((h : RetainHandling) → handling ≡ Some h → retain_handling_bits h ≡ byte / 16 % 4) → options_from byte qos handling ≡ Ok o → options_byte o ≡ byte
options_parts byte None handling o small p q e = absurd cc
options_parts byte (Some qos) None o small p q e = absurd cc
options_parts byte (Some qos) (Some handling) o small p q e =
    let low = p qos refl in
    let high = q handling refl in
    let no_local = bit_is (byte / 4 % 2) (omega arith) in
    let as_published = bit_is (byte / 8 % 2) (omega arith) in
    ap options_byte (sym (ok_is (record { maximum_qos = qos; no_local = eqb (byte / 4 % 2) 1; retain_as_published = eqb (byte / 8 % 2) 1; retain_handling = handling }) o e)) ∙ (omega arith)

pub options_takes : (byte : ℕ) (o : SubscriptionOptions) → options_at byte ≡ Ok o → options_byte o ≡ byte
unfolding options_at
options_takes byte o e =
    let lawful = if_ok (ltb byte 64) _ _ o e in
    options_parts byte (qos_at (byte % 4)) (retain_handling_at (byte / 16 % 4)) o (ltb-true byte 64 lawful.0) (qos_takes (byte % 4)) (handling_takes (byte / 16 % 4)) lawful.1

qos_small : (qos : QoS) → qos_bits qos ≤ 2
qos_small AtMostOnce = omega arith
qos_small AtLeastOnce = omega arith
qos_small ExactlyOnce = omega arith

pub qos_again : (qos : QoS) → qos_at (qos_bits qos) ≡ Some qos
qos_again AtMostOnce = refl
qos_again AtLeastOnce = refl
qos_again ExactlyOnce = refl

handling_small : (handling : RetainHandling) → retain_handling_bits handling ≤ 2
handling_small Send = omega arith
handling_small SendIfNew = omega arith
handling_small DoNotSend = omega arith

handling_again : (handling : RetainHandling) → retain_handling_at (retain_handling_bits handling) ≡ Some handling
handling_again Send = refl
handling_again SendIfNew = refl
handling_again DoNotSend = refl

pub bit_small : (b : Bool) → bit b ≤ 1
bit_small true = omega arith
bit_small false = omega arith

pub bit_again : (b : Bool) → eqb (bit b) 1 ≡ b
bit_again true = refl
bit_again false = refl

pub options_again : (o : SubscriptionOptions) → options_at (options_byte o) ≡ Ok o
unfolding options_at
options_again o =
    let q = qos_small o.maximum_qos in
    let h = handling_small o.retain_handling in
    let a = bit_small o.no_local in
    let b = bit_small o.retain_as_published in
    let small : ltb (options_byte o) 64 ≡ true = lt-ltb (options_byte o) 64 (omega arith) in
    let low : options_byte o % 4 ≡ qos_bits o.maximum_qos = omega arith in
    let third : options_byte o / 4 % 2 ≡ bit o.no_local = omega arith in
    let fourth : options_byte o / 8 % 2 ≡ bit o.retain_as_published = omega arith in
    let high : options_byte o / 16 % 4 ≡ retain_handling_bits o.retain_handling = omega arith in
    rw (small, low, high, qos_again o.maximum_qos, handling_again o.retain_handling, third, fourth, bit_again o.no_local, bit_again o.retain_as_published) refl
