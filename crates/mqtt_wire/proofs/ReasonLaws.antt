-- Reason codes and the properties after them: what is read is spelled so, and what is spelled so is read.
use Rattle.std.proofs.Common.{◌≡◌, ℕ, ◌<◌, ◌≤◌, List, [], ◌∷◌, length, Ok, refl, sym, ap, subst, ◌∙◌, arith, inl, inr, length-append}
use Rattle.std.proofs.lemmas.List.{append-nil}
use Rattle.mqtt_fields.specs.declared.property.Section.{Section}
use Rattle.mqtt_fields.specs.declared.properties.Properties.{Properties}
use Rattle.mqtt_fields.specs.Properties.{nothing}
use Rattle.mqtt_fields.specs.declared.property.Property.{Property}
use Rattle.mqtt_fields.specs.Forms.{variable_byte_integer, AreBytes}
use Rattle.mqtt_fields.specs.Sections.{property_bytes, properties_at, AddUp, properties, SpellsProperties}
use Rattle.mqtt_wire.specs.Writing.{reason_bytes}
use Rattle.std.specs.List.{flat_map}
use Rattle.std.proofs.lemmas.List.Concat.{flat_map-cons}
use Rattle.std.proofs.lemmas.Bool.{cases_eq, eq-eqb, ne_eqb}
use Rattle.mqtt_fields.proofs.PropertyListLaws.{spelled}
use Rattle.mqtt_wire.specs.Bodies.{last_properties_at, reason_at}
use Rattle.mqtt_wire.specs.Spelling.{SpellsReason}
use Rattle.mqtt_fields.proofs.Steps.{bind_ok, ok_is, rest_bytes}
use Rattle.mqtt_wire.proofs.ConnectLaws.{at_end_is, all_of}
use Rattle.mqtt_fields.proofs.SectionLaws.{Gathered, properties_take, properties_again}

abbrev reason : ℕ → Properties → ℕ × Properties
reason code all = (code, all)

last_properties_take : (section : Section) (bytes : List ℕ) (all : Properties) → AreBytes bytes → last_properties_at section bytes ≡ Ok all → SpellsProperties section all bytes
unfolding last_properties_at
last_properties_take section bytes all fits e =
    let read = bind_ok (properties_at section bytes) _ all e in
    let ended = at_end_is read.0.1 read.0.0 all read.2 in
    let t = properties_take section bytes read.0 fits read.1 in
    let whole : bytes ≡ t.text = all_of bytes t.text read.0.1 t.front ended.0 in
    subst (λ (y : Properties). SpellsProperties section y bytes) ended.1 (subst (SpellsProperties section read.0.0) (sym whole) t.spelled)

last_properties_again : (section : Section) (all : Properties) (bytes : List ℕ) → length bytes ≤ 65536 → SpellsProperties section all bytes → last_properties_at section bytes ≡ Ok all
unfolding last_properties_at
last_properties_again section all bytes small s =
    let read : properties_at section bytes ≡ Ok (all, []) = ap (properties_at section) (sym (append-nil bytes)) ∙ properties_again section all bytes [] s small in
    rw read refl

pub reason_takes : (section : Section) (bytes : List ℕ) (x : ℕ × Properties) → AreBytes bytes → reason_at section bytes ≡ Ok x → SpellsReason section x.0 x.1 bytes
unfolding reason_at
reason_takes section [] x fits e =
    subst (λ (y : ℕ × Properties). SpellsReason section y.0 y.1 []) (ok_is (reason 0 nothing) x e) (refl, refl)
reason_takes section (byte ∷ []) x fits e =
    subst (λ (y : ℕ × Properties). SpellsReason section y.0 y.1 (byte ∷ [])) (ok_is (reason byte nothing) x e) (refl, refl)
reason_takes section (byte ∷ next ∷ rest) x fits e =
    let all = bind_ok (last_properties_at section (next ∷ rest)) _ x e in
    let t = last_properties_take section (next ∷ rest) all.0 (λ i. rest_bytes byte (next ∷ rest) fits i) all.1 in
    subst (λ (y : ℕ × Properties). SpellsReason section y.0 y.1 (byte ∷ next ∷ rest)) (ok_is (reason byte all.0) x all.2) (refl, t)

pub reason_again : (section : Section) (code : ℕ) (all : Properties) (bytes : List ℕ) → length bytes ≤ 65536 → SpellsReason section code all bytes → reason_at section bytes ≡ Ok (code, all)
unfolding reason_at
reason_again section code all [] small s = ap (λ (c : ℕ). Ok (reason c nothing)) (sym s.0) ∙ ap (λ (p : Properties). Ok (reason code p)) (sym s.1)
reason_again section code all (byte ∷ []) small s = ap (λ (c : ℕ). Ok (reason c nothing)) s.0 ∙ ap (λ (p : Properties). Ok (reason code p)) (sym s.1)
reason_again section code all (byte ∷ next ∷ rest) small s =
    let read : last_properties_at section (next ∷ rest) ≡ Ok all = last_properties_again section all (next ∷ rest) (omega arith) s.1 in
    rw read (ap (λ (c : ℕ). Ok (reason c all)) s.0)

-- ---- a reason as it is written

none_gathered : (section : Section) (list : List Property) (all : Properties) → [] ≡ flat_map property_bytes list → AddUp section nothing list all → all ≡ nothing
none_gathered section [] all e adds = sym adds
none_gathered section (property ∷ others) all e adds =
    absurd (omega (arith, ap length e, ap length (flat_map-cons property_bytes property others), length-append (property_bytes property) (flat_map property_bytes others)))

-- a section has a byte
with_section : (section : Section) (code : ℕ) (all : Properties) (bytes : List ℕ) → 0 < length bytes → SpellsProperties section all bytes → SpellsReason section code all (code ∷ bytes)
with_section section code all [] some s = absurd (omega arith)
with_section section code all (byte ∷ rest) some s = (refl, s)

without_section : (section : Section) (code : ℕ) (all : Properties) → all ≡ nothing → SpellsReason section code all (reason_bytes code [])
without_section section code all none =
    elim (cases_eq code 0) [
      | inl zero' ↦ rw (eq-eqb code 0 zero') (zero', none)
      | inr some ↦ rw (ne_eqb code 0 some) (refl, none)
    ]

pub reason_written : (section : Section) (code : ℕ) (list : List ℕ) (all : Properties) → Gathered section nothing list all → SpellsReason section code all (reason_bytes code list)
reason_written section code [] all g = without_section section code all (none_gathered section g.list all g.parts g.adds)
reason_written section code (byte ∷ list) all g =
    let some : 0 < length (properties (byte ∷ list)) = omega (arith, length-append (variable_byte_integer (length (byte ∷ list))) (byte ∷ list)) in
    with_section section code all (properties (byte ∷ list)) some (spelled section (byte ∷ list) all g)
