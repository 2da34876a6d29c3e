-- Sections of properties: what is read is spelled so, and what is spelled so is read.
use Rattle.std.proofs.Common.{◌≡◌, ℕ, zero, suc, ◌<◌, ◌≤◌, Bool, true, false, eqb, ◌||◌, List, [], ◌∷◌, ◌++◌, length, take, drop, Option, Some, None, Result, Ok, Err, refl, sym, ap, subst, ◌∙◌, append_assoc, arith, inl, inr, length-append}
use Rattle.std.specs.Prelude.{is_some, not, ◌&&◌, OnOk}
use Rattle.std.specs.List.{flat_map}
use Rattle.std.proofs.lemmas.Bool.{eqb-true, and_parts, ltb-false, le-ltb}
use Rattle.std.proofs.lemmas.List.{length-take-le, take-append-drop, take_at, drop_at}
use Rattle.std.proofs.lemmas.List.Concat.{flat_map-cons}
use Rattle.mqtt_fields.specs.declared.fault.StreamFault.{StreamFault}
use Rattle.mqtt_fields.specs.declared.fault.StreamFault.TheVariants.{Protocol}
use Rattle.mqtt_fields.specs.declared.fault.Fault.{Fault}
use Rattle.mqtt_fields.specs.declared.fault.Fault.TheVariants as errors
use Rattle.mqtt_fields.specs.declared.property.Section.{Section}
use Rattle.mqtt_fields.specs.declared.property.PropertyName.{PropertyName}
use Rattle.mqtt_fields.specs.declared.property.PropertyName.TheVariants as names
use Rattle.mqtt_fields.specs.declared.property.Property.{Property}
use Rattle.mqtt_fields.specs.declared.properties.Properties.{Properties}
use Rattle.mqtt_fields.specs.Faults.{◌>>=◌, Fails, GivesField}
use Rattle.mqtt_fields.specs.Forms.{variable_byte_integer, AreBytes}
use Rattle.mqtt_fields.specs.Fields.{Field, byte_at, variable_field_at}
use Rattle.mqtt_fields.specs.Properties.{identifier_of, names_of, name_among, name_in, name_of, is_forbidden, is_there, may_come, nothing, with_property}
use Rattle.mqtt_fields.specs.Sections.{value_bytes, property_bytes, IsProperty, admitted, property_at, gathered_at, properties_at, AddUp, properties, SpellsProperties}
use Rattle.mqtt_fields.proofs.Steps.{bind_ok, unless_ok, ok_is, Front, Front-then, take_bytes, drop_bytes}
use Rattle.mqtt_fields.proofs.Variable.{chosen}
use Rattle.mqtt_fields.proofs.FieldLaws.{byte_takes, byte_again, byte_shorter, variable_field_takes, variable_field_again}
use Rattle.mqtt_fields.proofs.PropertyLaws.{value_takes, value_again, value_shorter}

-- ---- names and identifiers

some_is : (a b : PropertyName) → Some a ≡ Some b → a ≡ b
some_is a b e = cc

among_is : (names : List PropertyName) (identifier : ℕ) (name : PropertyName) → name_among names identifier ≡ Some name → identifier_of name ≡ identifier
among_is [] identifier name e = absurd cc
among_is (first ∷ others) identifier name e =
    elim (chosen (eqb identifier (identifier_of first)) (Some first) (name_among others identifier) (Some name) e) [
      | inl here ↦ ap identifier_of (sym (some_is first name here.1)) ∙ sym (eqb-true identifier (identifier_of first) here.0)
      | inr other ↦ among_is others identifier name other.1
    ]

abbrev all_names : List PropertyName
all_names =
    names.PayloadFormatIndicator ∷ names.MessageExpiryInterval ∷ names.ContentType ∷ names.ResponseTopic ∷ names.CorrelationData ∷ names.SubscriptionIdentifier
    ∷ names.SessionExpiryInterval ∷ names.AuthenticationMethod ∷ names.AuthenticationData ∷ names.RequestProblemInformation ∷ names.RequestResponseInformation
    ∷ names.ReasonString ∷ names.ReceiveMaximum ∷ names.TopicAliasMaximum ∷ names.TopicAlias ∷ names.UserProperty ∷ names.MaximumPacketSize ∷ []

found_by_identifier : (name : PropertyName) → name_among all_names (identifier_of name) ≡ Some name
found_by_identifier names.PayloadFormatIndicator = refl
found_by_identifier names.MessageExpiryInterval = refl
found_by_identifier names.ContentType = refl
found_by_identifier names.ResponseTopic = refl
found_by_identifier names.CorrelationData = refl
found_by_identifier names.SubscriptionIdentifier = refl
found_by_identifier names.SessionExpiryInterval = refl
found_by_identifier names.AuthenticationMethod = refl
found_by_identifier names.AuthenticationData = refl
found_by_identifier names.RequestProblemInformation = refl
found_by_identifier names.RequestResponseInformation = refl
found_by_identifier names.ReasonString = refl
found_by_identifier names.ReceiveMaximum = refl
found_by_identifier names.TopicAliasMaximum = refl
found_by_identifier names.TopicAlias = refl
found_by_identifier names.UserProperty = refl
found_by_identifier names.MaximumPacketSize = refl

same_name : (a b : PropertyName) → identifier_of a ≡ identifier_of b → a ≡ b
same_name a b e = some_is a b (sym (found_by_identifier a) ∙ ap (name_among all_names) e ∙ found_by_identifier b)

some_name : (o : Option PropertyName) → is_some o ≡ true → (name : PropertyName) × (o ≡ Some name)
some_name None e = absurd cc
some_name (Some name) e = (name, refl)

found_in : (section : Section) (name : PropertyName) → is_some (name_in section (identifier_of name)) ≡ true → name_in section (identifier_of name) ≡ Some name
found_in section name e =
    let found = some_name (name_in section (identifier_of name)) e in
    found.1 ∙ ap (λ (n : PropertyName). Some n) (same_name found.0 name (among_is (names_of section) (identifier_of name) found.0 found.1))

admitted_is : (section : Section) (so_far : Properties) (o : Option PropertyName) (name : PropertyName) → admitted section so_far o ≡ Ok name → (o ≡ Some name) × ((is_forbidden section name || is_there name so_far) ≡ false)
admitted_is section so_far None name e = absurd cc
admitted_is section so_far (Some other) name e =
    let free = unless_ok (is_forbidden section other || is_there other so_far) Protocol (Ok other) name e in
    let same = ok_is other name free.1 in
    (ap (λ (n : PropertyName). Some n) same, subst (λ (n : PropertyName). (is_forbidden section n || is_there n so_far) ≡ false) same free.0)

-- ---- one property

both : (a b : Bool) → a ≡ true → b ≡ false → (a && not b) ≡ true
both true false e f = refl
both true true e f = absurd cc
both false b e f = absurd cc

not_true : (b : Bool) → not b ≡ true → b ≡ false
not_true false e = refl
not_true true e = absurd cc

-- a property in front of the rest, which may come after those that are there
pub record IsNext (section : Section) (so_far : Properties) (bytes : List ℕ) (property : Property) (rest : List ℕ) : Type 0 where
  pub front : Front bytes (property_bytes property) rest
  pub value : IsProperty property
  pub may : may_come section so_far (name_of property) ≡ true

property_takes : (section : Section) (so_far : Properties) (bytes : List ℕ) (x : Property × List ℕ) → AreBytes bytes → property_at section so_far bytes ≡ Ok x → IsNext section so_far bytes x.0 x.1
unfolding property_at
property_takes section so_far bytes x fits e =
    let identifier = bind_ok (byte_at bytes) _ x e in
    let name = bind_ok (admitted section so_far (name_in section identifier.0.0)) _ x identifier.2 in
    let is = admitted_is section so_far (name_in section identifier.0.0) name.0 name.1 in
    let b = byte_takes bytes identifier.0 fits identifier.1 in
    let v = value_takes name.0 identifier.0.1 x b.rest_fits name.2 in
    let number : identifier_of name.0 ≡ identifier.0.0 = among_is (names_of section) identifier.0.0 name.0 is.0 in
    let here : is_some (name_in section (identifier_of name.0)) ≡ true = ap (λ (n : ℕ). is_some (name_in section n)) number ∙ ap (λ (o : Option PropertyName). is_some o) is.0 in
    let may : may_come section so_far name.0 ≡ true = both (is_some (name_in section (identifier_of name.0))) (is_forbidden section name.0 || is_there name.0 so_far) here is.1 in
    let whole = Front-then bytes (identifier.0.0 ∷ []) identifier.0.1 (value_bytes x.0) x.1 b v.0 in
    let same : identifier.0.0 ≡ identifier_of (name_of x.0) = sym number ∙ ap identifier_of (sym v.2) in
    record {
      front = subst (λ (n : ℕ). Front bytes (n ∷ value_bytes x.0) x.1) same whole;
      value = v.1;
      may = subst (λ (n : PropertyName). may_come section so_far n ≡ true) (sym v.2) may;
    }

property_again : (section : Section) (so_far : Properties) (property : Property) (rest : List ℕ) → IsProperty property → may_come section so_far (name_of property) ≡ true → property_at section so_far (property_bytes property ++ rest) ≡ Ok (property, rest)
unfolding property_at
property_again section so_far property rest is may =
    let name = name_of property in
    let parts = and_parts (is_some (name_in section (identifier_of (name_of property)))) (not (is_forbidden section (name_of property) || is_there (name_of property) so_far)) may in
    let found = found_in section (name_of property) parts.0 in
    let free = not_true (is_forbidden section (name_of property) || is_there (name_of property) so_far) parts.1 in
    rw (byte_again (identifier_of (name_of property)) (value_bytes property ++ rest), found, free, value_again property rest is) refl

pub property_shorter : (section : Section) (so_far : Properties) (bytes : List ℕ) (x : Property × List ℕ) → property_at section so_far bytes ≡ Ok x → length x.1 < length bytes
unfolding property_at
property_shorter section so_far bytes x e =
    let identifier = bind_ok (byte_at bytes) _ x e in
    let name = bind_ok (admitted section so_far (name_in section identifier.0.0)) _ x identifier.2 in
    omega (arith, byte_shorter bytes identifier.0 identifier.1, value_shorter name.0 identifier.0.1 x name.2)

-- ---- properties up to the end

-- the bytes are properties that add up
pub record Gathered (section : Section) (so_far : Properties) (bytes : List ℕ) (all : Properties) : Type 0 where
  pub list : List Property
  pub parts : bytes ≡ flat_map property_bytes list
  pub adds : AddUp section so_far list all

gathered_takes : (section : Section) (so_far : Properties) (most : ℕ) (bytes : List ℕ) (all : Properties) → length bytes ≤ most → AreBytes bytes → gathered_at section so_far most bytes ≡ Ok all → Gathered section so_far bytes all
unfolding gathered_at
gathered_takes section so_far zero [] all room fits e = record { list = []; parts = refl; adds = ok_is so_far all e }
gathered_takes section so_far (suc most) [] all room fits e = record { list = []; parts = refl; adds = ok_is so_far all e }
gathered_takes section so_far zero (byte ∷ bytes) all room fits e = absurd (omega arith)
gathered_takes section so_far (suc most) (byte ∷ bytes) all room fits e =
    let property = bind_ok (property_at section so_far (byte ∷ bytes)) _ all e in
    let t = property_takes section so_far (byte ∷ bytes) property.0 fits property.1 in
    let less = property_shorter section so_far (byte ∷ bytes) property.0 property.1 in
    let behind = gathered_takes section (with_property property.0.0 so_far) most property.0.1 all (omega arith) t.front.rest_fits property.2 in
    record {
      list = property.0.0 ∷ behind.list;
      parts = t.front.parts ∙ ap (λ (r : List ℕ). property_bytes property.0.0 ++ r) behind.parts ∙ sym (flat_map-cons property_bytes property.0.0 behind.list);
      adds = (t.may, t.value, behind.adds);
    }

one_again : (section : Section) (so_far : Properties) (most : ℕ) (property : Property) (rest : List ℕ) (all : Properties) (bytes : List ℕ) → bytes ≡ property_bytes property ++ rest → IsProperty property → may_come section so_far (name_of property) ≡ true → gathered_at section (with_property property so_far) most rest ≡ Ok all → gathered_at section so_far (suc most) bytes ≡ Ok all
unfolding gathered_at
one_again section so_far most property rest all [] e is may behind = absurd cc
one_again section so_far most property rest all (byte ∷ bytes) e is may behind =
    let read : property_at section so_far (byte ∷ bytes) ≡ Ok (property, rest) = ap (property_at section so_far) e ∙ property_again section so_far property rest is may in
    rw (read, behind) refl

gathered_again : (section : Section) (so_far : Properties) (most : ℕ) (list : List Property) (all : Properties) → length (flat_map property_bytes list) ≤ most → AddUp section so_far list all → gathered_at section so_far most (flat_map property_bytes list) ≡ Ok all
unfolding gathered_at
gathered_again section so_far zero [] all room adds = ap (λ (p : Properties). Ok p) adds
gathered_again section so_far (suc most) [] all room adds = ap (λ (p : Properties). Ok p) adds
gathered_again section so_far zero (property ∷ others) all room adds =
    absurd (omega (arith, ap length (flat_map-cons property_bytes property others), length-append (property_bytes property) (flat_map property_bytes others)))
gathered_again section so_far (suc most) (property ∷ others) all room adds =
    let rest : List ℕ = flat_map property_bytes others in
    let cons = flat_map-cons property_bytes property others in
    let behind : gathered_at section (with_property property so_far) most rest ≡ Ok all = gathered_again section (with_property property so_far) most others all (omega (arith, ap length cons, length-append (property_bytes property) rest)) adds.2 in
    one_again section so_far most property rest all (flat_map property_bytes (property ∷ others)) cons adds.1 adds.0 behind

-- ---- the loop of the code

-- what a reader of a field leaves is shorter, where what the definition leaves is
pub field_shorter : {A : Type 0} (r : Result A Fault) (rest bytes : List ℕ) (field : Field A) → ((x : A × List ℕ) → field ≡ Ok x → length x.1 < length bytes) → GivesField r rest field → OnOk r (length rest < length bytes)
field_shorter (Ok value) rest bytes field less given = less (value, rest) given
field_shorter (Err e) rest bytes field less given = tt

same_behind : (f g : Property × List ℕ → Result Properties StreamFault) (read : Field Property) → ((x : Property × List ℕ) → read ≡ Ok x → f x ≡ g x) → (read >>= f) ≡ (read >>= g)
same_behind f g (Err fault) same = refl
same_behind f g (Ok first) same = same first refl

-- room for more properties than there are bytes changes nothing
enough_room : (section : Section) (so_far : Properties) (a b : ℕ) (bytes : List ℕ) → length bytes ≤ a → length bytes ≤ b → gathered_at section so_far a bytes ≡ gathered_at section so_far b bytes
unfolding gathered_at
enough_room section so_far zero zero [] p q = refl
enough_room section so_far zero (suc b) [] p q = refl
enough_room section so_far (suc a) zero [] p q = refl
enough_room section so_far (suc a) (suc b) [] p q = refl
enough_room section so_far zero b (byte ∷ bytes) p q = absurd (omega arith)
enough_room section so_far (suc a) zero (byte ∷ bytes) p q = absurd (omega arith)
enough_room section so_far (suc a) (suc b) (byte ∷ bytes) p q =
    same_behind (λ x. gathered_at section (with_property x.0 so_far) a x.1) (λ x. gathered_at section (with_property x.0 so_far) b x.1) (property_at section so_far (byte ∷ bytes))
    (λ x e. let less = property_shorter section so_far (byte ∷ bytes) x e in enough_room section (with_property x.0 so_far) a b x.1 (omega arith) (omega arith))

-- a property was read ..
pub goes_on : (section : Section) (so_far : Properties) (bytes : List ℕ) (property : Property) (after : List ℕ) (total : Result Properties StreamFault) → property_at section so_far bytes ≡ Ok (property, after) → gathered_at section so_far (length bytes) bytes ≡ total → gathered_at section (with_property property so_far) (length after) after ≡ total
unfolding gathered_at
goes_on section so_far [] property after total e is = absurd (omega (arith, property_shorter section so_far [] (property, after) e))
goes_on section so_far (byte ∷ bytes) property after total e is =
    let less = property_shorter section so_far (byte ∷ bytes) (property, after) e in
    enough_room section (with_property property so_far) (length after) (length bytes) after (omega arith) (omega arith)
    ∙ sym (ap (λ (r : Field Property). r >>= λ x. gathered_at section (with_property x.0 so_far) (length bytes) x.1) e) ∙ is

-- .. or a fault ends it ..
pub ends : (section : Section) (e : Fault) (so_far : Properties) (bytes : List ℕ) (total : Result Properties StreamFault) → 0 < length bytes → Fails e (property_at section so_far bytes) → gathered_at section so_far (length bytes) bytes ≡ total → Fails e total
unfolding gathered_at
ends section errors.Memory so_far bytes total some h is = tt
ends section (errors.Stream fault) so_far [] total some h is = absurd (omega arith)
ends section (errors.Stream fault) so_far (byte ∷ bytes) total some h is =
    sym is ∙ ap (λ (r : Field Property). r >>= λ x. gathered_at section (with_property x.0 so_far) (length bytes) x.1) h

-- .. or nothing is left
pub is_done : (section : Section) (so_far : Properties) (bytes : List ℕ) (total : Result Properties StreamFault) → bytes ≡ [] → gathered_at section so_far (length bytes) bytes ≡ total → total ≡ Ok so_far
unfolding gathered_at
is_done section so_far [] total none is = sym is
is_done section so_far (byte ∷ bytes) total none is = absurd cc

-- ---- the section

-- a section in front of the rest
pub record IsSection (section : Section) (bytes : List ℕ) (all : Properties) (rest : List ℕ) : Type 0 where
  pub text : List ℕ
  pub front : Front bytes text rest
  pub spelled : SpellsProperties section all text

abbrev pair_of : Properties → List ℕ → Properties × List ℕ
pair_of all rest = (all, rest)

pub properties_take : (section : Section) (bytes : List ℕ) (x : Properties × List ℕ) → AreBytes bytes → properties_at section bytes ≡ Ok x → IsSection section bytes x.0 x.1
unfolding properties_at
properties_take section bytes x fits e =
    let size = bind_ok (variable_field_at bytes) _ x e in
    let u = variable_field_takes bytes size.0 fits size.1 in
    let long = unless_ok _ _ _ x size.2 in
    let within = ltb-false _ _ long.0 in
    let list : List ℕ = take size.0.0 size.0.1 in
    let rest : List ℕ = drop size.0.0 size.0.1 in
    let all = bind_ok (gathered_at section nothing (length (take size.0.0 size.0.1)) (take size.0.0 size.0.1)) _ x long.1 in
    let g = gathered_takes section nothing (length (take size.0.0 size.0.1)) (take size.0.0 size.0.1) all.0 (omega arith) (λ i. take_bytes size.0.0 size.0.1 u.0.rest_fits i) all.1 in
    let count : size.0.0 ≡ length list = sym (length-take-le size.0.0 size.0.1 within) in
    let whole : bytes ≡ properties list ++ rest =
    u.0.parts ∙ ap (λ (t : List ℕ). variable_byte_integer size.0.0 ++ t) (sym (take-append-drop size.0.0 size.0.1))
    ∙ sym (append_assoc (variable_byte_integer size.0.0) list rest) ∙ ap (λ (n : ℕ). variable_byte_integer n ++ list ++ rest) count in
    subst (λ (y : Properties × List ℕ). IsSection section bytes y.0 y.1) (ok_is (pair_of all.0 rest) x all.2)
    (record {
      text = properties list;
      front = record { parts = whole; rest_fits = λ i. drop_bytes size.0.0 size.0.1 u.0.rest_fits i };
      spelled = (g.list, ap properties g.parts, g.adds);
    })

pub properties_again : (section : Section) (all : Properties) (text rest : List ℕ) → SpellsProperties section all text → length text ≤ 65536 → properties_at section (text ++ rest) ≡ Ok (all, rest)
unfolding properties_at
properties_again section all text rest s small =
    let list : List ℕ = flat_map property_bytes s.0 in
    let short : length list < 268435456 = omega (arith, ap length s.1, length-append (variable_byte_integer (length list)) list) in
    let grouped : text ++ rest ≡ variable_byte_integer (length list) ++ (list ++ rest) = ap (λ (t : List ℕ). t ++ rest) s.1 ∙ append_assoc (variable_byte_integer (length list)) list rest in
    let size : variable_field_at (text ++ rest) ≡ Ok (length list, list ++ rest) = ap variable_field_at grouped ∙ variable_field_again (length list) (list ++ rest) short in
    let long = le-ltb (length (list ++ rest)) (length list) (omega (arith, length-append list rest)) in
    let read : gathered_at section nothing (length list) list ≡ Ok all = gathered_again section nothing (length list) s.0 all (omega arith) s.2 in
    rw (size, long, take_at list rest (length list) refl, drop_at list rest (length list) refl, read) refl
