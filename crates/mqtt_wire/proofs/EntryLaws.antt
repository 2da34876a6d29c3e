-- The entries of a SUBSCRIBE or an UNSUBSCRIBE: what is read is spelled so, and what is spelled so is read.
use Rattle.std.proofs.Common.{◌≡◌, ℕ, zero, suc, ◌<◌, ◌≤◌, List, [], ◌∷◌, ◌++◌, length, Result, Ok, Err, refl, sym, ap, subst, ◌∙◌, append_assoc, arith, length-append}
use Rattle.std.specs.List.{flat_map, AllByRecursion}
use Rattle.std.proofs.lemmas.List.Concat.{flat_map-cons}
use Rattle.mqtt_fields.specs.declared.fault.StreamFault.{StreamFault}
use Rattle.mqtt_packet.specs.declared.packet.Subscription.{Subscription}
use Rattle.mqtt_fields.specs.Faults.{◌>>=◌}
use Rattle.mqtt_packet.specs.Texts.{IsText}
use Rattle.mqtt_fields.specs.Forms.{utf8_string, AreBytes}
use Rattle.mqtt_fields.specs.Fields.{Field, byte_at, text_at}
use Rattle.mqtt_wire.specs.Bodies.{options_at, subscription_at, entries_within, at_least_one, entries_at}
use Rattle.mqtt_wire.specs.Writing.{options_byte, subscription_bytes}
use Rattle.mqtt_wire.specs.Ranges.{IsFiltered}
use Rattle.mqtt_fields.proofs.Steps.{bind_ok, ok_is, Front, Front-then}
use Rattle.mqtt_fields.proofs.FieldLaws.{byte_takes, byte_again, text_takes, text_shorter, text_again}
use Rattle.mqtt_wire.proofs.OptionLaws.{options_takes, options_again}
use Rattle.mqtt_wire.proofs.Entries.{Shortens, subscription_shorter}

pub subscription_takes : (bytes : List ℕ) (x : Subscription × List ℕ) → AreBytes bytes → subscription_at bytes ≡ Ok x → Front bytes (subscription_bytes x.0) x.1 × IsFiltered x.0
unfolding subscription_at
subscription_takes bytes x fits e =
    let filter = bind_ok (text_at bytes) _ x e in
    let byte = bind_ok (byte_at filter.0.1) _ x filter.2 in
    let options = bind_ok (options_at byte.0.0) _ x byte.2 in
    let t = text_takes bytes filter.0 fits filter.1 in
    let b = byte_takes filter.0.1 byte.0 t.0.rest_fits byte.1 in
    let both = Front-then bytes (utf8_string filter.0.0) filter.0.1 (byte.0.0 ∷ []) byte.0.1 t.0 b in
    let made : Subscription × List ℕ = (record { filter = filter.0.0; options = options.0 }, byte.0.1) in
    subst (λ (y : Subscription × List ℕ). Front bytes (subscription_bytes y.0) y.1 × IsFiltered y.0) (ok_is made x options.2)
    (rw (options_takes byte.0.0 options.0 options.1) both, t.1)

pub subscription_again : (s : Subscription) (rest : List ℕ) → IsFiltered s → subscription_at (subscription_bytes s ++ rest) ≡ Ok (s, rest)
unfolding subscription_at
subscription_again s rest filtered =
    let grouped : subscription_bytes s ++ rest ≡ utf8_string s.filter ++ (options_byte s.options ∷ rest) = append_assoc (utf8_string s.filter) (options_byte s.options ∷ []) rest in
    let filter : text_at (subscription_bytes s ++ rest) ≡ Ok (s.filter, options_byte s.options ∷ rest) = ap text_at grouped ∙ text_again s.filter (options_byte s.options ∷ rest) filtered in
    rw (filter, byte_again (options_byte s.options) rest, options_again s.options) refl

-- how an entry is spelled: what is read is spelled so, and what is spelled so is read; no entry is empty
pub record Spelt {A : Type 0} (entry : List ℕ → Field A) (spell : A → List ℕ) (Is : A → Type 0) : Type 0 where
  pub shorter : Shortens entry
  pub takes : (bytes : List ℕ) (x : A × List ℕ) → AreBytes bytes → entry bytes ≡ Ok x → Front bytes (spell x.0) x.1 × Is x.0
  pub again : (value : A) (rest : List ℕ) → Is value → entry (spell value ++ rest) ≡ Ok (value, rest)
  pub some : (value : A) → 0 < length (spell value)

-- the bytes are spelled by the entries
pub record AreEntries {A : Type 0} (spell : A → List ℕ) (Is : A → Type 0) (bytes : List ℕ) (entries : List A) : Type 0 where
  pub parts : bytes ≡ flat_map spell entries
  pub all : AllByRecursion Is entries

entries_take_within : {A : Type 0} (entry : List ℕ → Field A) (spell : A → List ℕ) (Is : A → Type 0) → Spelt entry spell Is → (most : ℕ) (bytes : List ℕ) (entries : List A) → length bytes ≤ most → AreBytes bytes → entries_within entry most bytes ≡ Ok entries → AreEntries spell Is bytes entries
unfolding entries_within
entries_take_within {A} entry spell Is by zero [] entries room fits e = subst (λ (y : List A). AreEntries spell Is [] y) (ok_is [] entries e) (record { parts = refl; all = tt })
entries_take_within {A} entry spell Is by (suc most) [] entries room fits e = subst (λ (y : List A). AreEntries spell Is [] y) (ok_is [] entries e) (record { parts = refl; all = tt })
entries_take_within entry spell Is by zero (byte ∷ bytes) entries room fits e = absurd (omega arith)
entries_take_within {A} entry spell Is by (suc most) (byte ∷ bytes) entries room fits e =
    let first = bind_ok (entry (byte ∷ bytes)) _ entries e in
    let others = bind_ok (entries_within entry most first.0.1) _ entries first.2 in
    let t = by.takes (byte ∷ bytes) first.0 fits first.1 in
    let less = by.shorter (byte ∷ bytes) first.0 first.1 in
    let behind = entries_take_within entry spell Is by most first.0.1 others.0 (omega arith) t.0.rest_fits others.1 in
    subst (λ (y : List A). AreEntries spell Is (byte ∷ bytes) y) (ok_is (first.0.0 ∷ others.0) entries others.2)
    (record {
      parts = t.0.parts ∙ ap (λ (r : List ℕ). spell first.0.0 ++ r) behind.parts ∙ sym (flat_map-cons spell first.0.0 others.0);
      all = (t.1, behind.all);
    })

-- at least one, where the entries are at least one
some_entries : {A : Type 0} (read : Result (List A) StreamFault) (entries : List A) → (read >>= at_least_one) ≡ Ok entries → (read ≡ Ok entries) × (0 < length entries)
some_entries (Err fault) entries e = absurd cc
some_entries (Ok []) entries e = absurd cc
some_entries {A} (Ok (first ∷ others)) entries e =
    let same = ok_is (first ∷ others) entries e in
    (e, subst (λ (y : List A). 0 < length y) same (omega arith))

pub entries_take : {A : Type 0} (entry : List ℕ → Field A) (spell : A → List ℕ) (Is : A → Type 0) → Spelt entry spell Is → (bytes : List ℕ) (entries : List A) → AreBytes bytes → entries_at entry bytes ≡ Ok entries → AreEntries spell Is bytes entries × (0 < length entries)
unfolding entries_at
entries_take entry spell Is by bytes entries fits e =
    let read = some_entries (entries_within entry (length bytes) bytes) entries e in
    (entries_take_within entry spell Is by (length bytes) bytes entries (omega arith) fits read.0, read.1)

-- what begins with an entry is read as it and the others
one_again : {A : Type 0} (entry : List ℕ → Field A) (spell : A → List ℕ) (Is : A → Type 0) → Spelt entry spell Is → (most : ℕ) (first : A) (rest : List ℕ) (others : List A) (bytes : List ℕ) → bytes ≡ spell first ++ rest → Is first → entries_within entry most rest ≡ Ok others → entries_within entry (suc most) bytes ≡ Ok (first ∷ others)
unfolding entries_within
one_again entry spell Is by most first rest others [] e is behind =
    absurd (omega (arith, ap length e, length-append (spell first) rest, by.some first))
one_again entry spell Is by most first rest others (byte ∷ bytes) e is behind =
    let read : entry (byte ∷ bytes) ≡ Ok (first, rest) = ap entry e ∙ by.again first rest is in
    rw (read, behind) refl

entries_again_within : {A : Type 0} (entry : List ℕ → Field A) (spell : A → List ℕ) (Is : A → Type 0) → Spelt entry spell Is → (most : ℕ) (entries : List A) → length (flat_map spell entries) ≤ most → AllByRecursion Is entries → entries_within entry most (flat_map spell entries) ≡ Ok entries
unfolding entries_within
entries_again_within entry spell Is by zero [] room all = refl
entries_again_within entry spell Is by (suc most) [] room all = refl
entries_again_within entry spell Is by zero (first ∷ entries) room all =
    absurd (omega (arith, ap length (flat_map-cons spell first entries), length-append (spell first) (flat_map spell entries), by.some first))
entries_again_within entry spell Is by (suc most) (first ∷ entries) room all =
    let rest : List ℕ = flat_map spell entries in
    let cons = flat_map-cons spell first entries in
    let behind : entries_within entry most rest ≡ Ok entries = entries_again_within entry spell Is by most entries (omega (arith, ap length cons, length-append (spell first) rest, by.some first)) all.1 in
    one_again entry spell Is by most first rest entries (flat_map spell (first ∷ entries)) cons all.0 behind

pub entries_again : {A : Type 0} (entry : List ℕ → Field A) (spell : A → List ℕ) (Is : A → Type 0) → Spelt entry spell Is → (entries : List A) → 0 < length entries → AllByRecursion Is entries → entries_at entry (flat_map spell entries) ≡ Ok entries
unfolding entries_at
entries_again entry spell Is by [] some all = absurd (omega arith)
entries_again entry spell Is by (first ∷ entries) some all =
    rw (entries_again_within entry spell Is by (length (flat_map spell (first ∷ entries))) (first ∷ entries) (omega arith) all) refl

-- ---- of a SUBSCRIBE and of an UNSUBSCRIBE

subscription_some : (s : Subscription) → 0 < length (subscription_bytes s)
subscription_some s = omega (arith, length-append (utf8_string s.filter) (options_byte s.options ∷ []))

pub subscriptions : Spelt subscription_at subscription_bytes IsFiltered
subscriptions = record { shorter = subscription_shorter; takes = subscription_takes; again = subscription_again; some = subscription_some }

pub filters : Spelt text_at utf8_string IsText
filters = record { shorter = text_shorter; takes = text_takes; again = text_again; some = λ text. omega arith }
