-- The entries of a SUBSCRIBE or an UNSUBSCRIBE, read one after another.
use Rattle.std.proofs.Common.{◌≡◌, ℕ, zero, suc, ◌<◌, ◌≤◌, List, [], ◌∷◌, ◌++◌, length, Result, Ok, Err, refl, sym, ap, subst, ◌∙◌, append_assoc, arith}
use Rattle.std.proofs.lemmas.List.{append-nil}
use Rattle.mqtt_fields.specs.declared.fault.StreamFault.{StreamFault}
use Rattle.mqtt_fields.specs.declared.fault.Fault.{Fault}
use Rattle.mqtt_fields.specs.declared.fault.Fault.TheVariants as errors
use Rattle.mqtt_packet.specs.declared.packet.Subscription.{Subscription}
use Rattle.mqtt_fields.specs.Faults.{◌>>=◌, Fails}
use Rattle.mqtt_fields.specs.Fields.{Field, byte_at, text_at}
use Rattle.mqtt_wire.specs.Bodies.{options_at, subscription_at, entries_within, at_least_one}
use Rattle.mqtt_fields.proofs.Steps.{bind_ok, ok_is}
use Rattle.mqtt_fields.proofs.FieldLaws.{byte_shorter, text_shorter}

-- what is left behind an entry is shorter
abbrev pub Shortens : {A : Type 0} → (List ℕ → Field A) → Type 0
Shortens {A} entry = (bytes : List ℕ) (x : A × List ℕ) → entry bytes ≡ Ok x → length x.1 < length bytes

pub subscription_shorter : (bytes : List ℕ) (x : Subscription × List ℕ) → subscription_at bytes ≡ Ok x → length x.1 < length bytes
unfolding subscription_at
subscription_shorter bytes x e =
    let filter = bind_ok (text_at bytes) _ x e in
    let byte = bind_ok (byte_at filter.0.1) _ x filter.2 in
    let options = bind_ok (options_at byte.0.0) _ x byte.2 in
    let made : Subscription × List ℕ = (record { filter = filter.0.0; options = options.0 }, byte.0.1) in
    subst (λ (y : Subscription × List ℕ). length y.1 < length bytes) (ok_is made x options.2)
    (omega (arith, text_shorter bytes filter.0 filter.1, byte_shorter filter.0.1 byte.0 byte.1))

-- what was read before, and what is still read
abbrev pub with_front : {A : Type 0} → List A → Result (List A) StreamFault → Result (List A) StreamFault
with_front front read = read >>= λ others. Ok (front ++ others)

-- an entry in front of the others
abbrev then_others : {A : Type 0} → (A × List ℕ → Result (List A) StreamFault) → A × List ℕ → Result (List A) StreamFault
then_others others first = others first >>= λ rest. Ok (first.0 ∷ rest)

same_behind : {A : Type 0} (f g : A × List ℕ → Result (List A) StreamFault) (read : Field A) → ((x : A × List ℕ) → read ≡ Ok x → f x ≡ g x) → (read >>= then_others f) ≡ (read >>= then_others g)
same_behind f g (Err fault) same = refl
same_behind {A} f g (Ok first) same = ap (λ (r : Result (List A) StreamFault). r >>= λ rest. Ok (first.0 ∷ rest)) (same first refl)

-- room for more entries than there are bytes changes nothing
pub enough_room : {A : Type 0} (entry : List ℕ → Field A) → Shortens entry → (a b : ℕ) (bytes : List ℕ) → length bytes ≤ a → length bytes ≤ b → entries_within entry a bytes ≡ entries_within entry b bytes
unfolding entries_within
enough_room entry shorter zero zero [] p q = refl
enough_room entry shorter zero (suc b) [] p q = refl
enough_room entry shorter (suc a) zero [] p q = refl
enough_room entry shorter (suc a) (suc b) [] p q = refl
enough_room entry shorter zero b (byte ∷ bytes) p q = absurd (omega arith)
enough_room entry shorter (suc a) zero (byte ∷ bytes) p q = absurd (omega arith)
enough_room entry shorter (suc a) (suc b) (byte ∷ bytes) p q =
    same_behind (λ x. entries_within entry a x.1) (λ x. entries_within entry b x.1) (entry (byte ∷ bytes))
    (λ x e. enough_room entry shorter a b x.1 (omega (arith, shorter (byte ∷ bytes) x e)) (omega (arith, shorter (byte ∷ bytes) x e)))

-- one entry more
pub one_more : {A : Type 0} (entry : List ℕ → Field A) → Shortens entry → (bytes : List ℕ) (first : A × List ℕ) → entry bytes ≡ Ok first → entries_within entry (length bytes) bytes ≡ (entries_within entry (length first.1) first.1 >>= λ rest. Ok (first.0 ∷ rest))
unfolding entries_within
one_more entry shorter [] first e = absurd (omega (arith, shorter [] first e))
one_more {A} entry shorter (byte ∷ bytes) first e =
    let less = shorter (byte ∷ bytes) first e in
    ap (λ (r : Field A). r >>= then_others (λ x. entries_within entry (length bytes) x.1)) e
    ∙ ap (λ (r : Result (List A) StreamFault). r >>= λ rest. Ok (first.0 ∷ rest)) (enough_room entry shorter (length bytes) (length first.1) first.1 (omega arith) (omega arith))

regroup : {A : Type 0} (front : List A) (first : A) (read : Result (List A) StreamFault) → with_front front (read >>= λ rest. Ok (first ∷ rest)) ≡ with_front (front ++ first ∷ []) read
regroup {A} front first (Ok rest) = ap (λ (all : List A). Ok all) (sym (append_assoc front (first ∷ []) rest))
regroup front first (Err fault) = refl

-- the loop of the code: an entry was read ..
pub goes_on : {A : Type 0} (entry : List ℕ → Field A) → Shortens entry → (front : List A) (bytes : List ℕ) (first : A) (after : List ℕ) (total : Result (List A) StreamFault) → entry bytes ≡ Ok (first, after) → with_front front (entries_within entry (length bytes) bytes) ≡ total → with_front (front ++ first ∷ []) (entries_within entry (length after) after) ≡ total
goes_on entry shorter front bytes first after total e so_far =
    sym (regroup front first (entries_within entry (length after) after)) ∙ ap (with_front front) (sym (one_more entry shorter bytes (first, after) e)) ∙ so_far

-- .. or a fault ends it ..
pub ends : {A : Type 0} (entry : List ℕ → Field A) (e : Fault) (front : List A) (bytes : List ℕ) (total : Result (List A) StreamFault) → 0 < length bytes → Fails e (entry bytes) → with_front front (entries_within entry (length bytes) bytes) ≡ total → Fails e (total >>= at_least_one)
unfolding entries_within
ends entry errors.Memory front bytes total some h so_far = tt
ends entry (errors.Stream fault) front [] total some h so_far = absurd (omega arith)
ends {A} entry (errors.Stream fault) front (byte ∷ bytes) total some h so_far =
    let one : with_front front (entries_within entry (length (byte ∷ bytes)) (byte ∷ bytes)) ≡ Err fault =
    ap (λ (r : Field A). with_front front (r >>= then_others (λ x. entries_within entry (length bytes) x.1))) h in
    ap (λ (r : Result (List A) StreamFault). r >>= at_least_one) (sym so_far ∙ one)

-- .. or nothing is left
pub is_done : {A : Type 0} (entry : List ℕ → Field A) (front : List A) (bytes : List ℕ) (total : Result (List A) StreamFault) → bytes ≡ [] → with_front front (entries_within entry (length bytes) bytes) ≡ total → total ≡ Ok front
unfolding entries_within
is_done {A} entry front bytes total none so_far =
    let one : with_front front (entries_within entry 0 []) ≡ Ok front = ap (λ (all : List A). Ok all) (append-nil front) in
    let here : with_front front (entries_within entry (length bytes) bytes) ≡ with_front front (entries_within entry 0 []) = ap (λ (b : List ℕ). with_front front (entries_within entry (length b) b)) none in
    sym so_far ∙ here ∙ one
