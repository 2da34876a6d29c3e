-- What a change of the entries, or of how many are owed, makes of a window's contents.
use Rattle.std.proofs.Common.{◌≡◌, ℕ, zero, suc, ◌+◌, ◌-◌, ◌<◌, ◌≤◌, Bool, true, List, [], ◌∷◌, ◌++◌, map, length, take, drop, slice_index_or, slice_get, Option, Some, None, MatchOption, refl, sym, ap, ◌∙◌, subst, arith, take_all, take_at, drop_at, length-append, length-take-le, take-append-drop, length-drop}
use Rattle.std.proofs.lemmas.List.{drop_all, map-append, get_or-take, get_or-drop}
use Rattle.std.proofs.lemmas.List.Edits.{remove-append_left, remove-append_right, length-remove}
use Rattle.std.specs.List.{remove, HoldsAt}
use Rattle.member_window.specs.Identifiers.{identifiers, AreDistinct}
use Rattle.member_window.specs.Contents.{Contents, held_of, after_put, after_resend, after_ack, after_take, after_restore, IsQuotaKept}
use Rattle.member_window.specs.Layout.{contents_of}
use Rattle.member_window.proofs.Lists.{distinct_left, distinct_right, distinct_disjoint, found_identifier, without_absent, without_found}

abbrev contents : {T : Type 0} → Option ℕ → Bool → List (ℕ × T) → List (ℕ × T) → Contents T
contents quota retired owed waiting = record { owed = owed; waiting = waiting; quota = quota; retired = retired }

same_contents : {T : Type 0} (quota : Option ℕ) (retired : Bool) (owed other_owed waiting other_waiting : List (ℕ × T)) → owed ≡ other_owed → waiting ≡ other_waiting → contents quota retired owed waiting ≡ contents quota retired other_owed other_waiting
same_contents quota retired owed other_owed waiting other_waiting e f = λ i. contents quota retired (e i) (f i)

pub held_is : {T : Type 0} (es : List (ℕ × T)) (n : ℕ) (quota : Option ℕ) (retired : Bool) → held_of (contents_of es n quota retired) ≡ es
held_is es n quota retired = take-append-drop n es

none_behind : {X : Type 0} (xs : List X) (n : ℕ) → n ≤ length xs → drop n xs ≡ [] → n ≡ length xs
none_behind xs n le none = let e = ap length none in omega (arith, length-drop n xs)

pub view_put : {T : Type 0} (es : List (ℕ × T)) (n : ℕ) (quota : Option ℕ) (retired : Bool) (k : ℕ) (item : T) → n ≤ length es → drop n es ≡ [] → contents_of (es ++ (k, item) ∷ []) (n + 1) quota retired ≡ after_put (contents_of es n quota retired) k item
view_put es n quota retired k item le none =
    let all = none_behind es n le none in
    let long = length-append es ((k, item) ∷ []) in
    same_contents quota retired _ _ _ _
    (take_all (n + 1) (es ++ (k, item) ∷ []) (omega arith) ∙ ap (λ xs. xs ++ (k, item) ∷ []) (sym (take_all n es (omega arith))))
    (drop_all (n + 1) (es ++ (k, item) ∷ []) (omega arith) ∙ sym none)

-- one place on
take_next : {X : Type 0} (xs : List X) (n : ℕ) (x : X) (rest : List X) → drop n xs ≡ x ∷ rest → (take (suc n) xs ≡ take n xs ++ x ∷ []) × (drop (suc n) xs ≡ rest) × (slice_get xs n ≡ Some x)
take_next [] zero x rest e = absurd (cc)
take_next [] (suc n) x rest e = absurd (cc)
take_next (y ∷ ys) zero x rest e = (cc, cc, cc)
take_next (y ∷ ys) (suc n) x rest e = let h = take_next ys n x rest e in (ap (λ zs. y ∷ zs) h.0, h.1, h.2)

pub some_behind : {X : Type 0} (xs : List X) (n : ℕ) → n < length xs → (x : X) × (rest : List X) × (drop n xs ≡ x ∷ rest)
some_behind [] n lt = absurd (omega arith)
some_behind (x ∷ xs) zero lt = (x, xs, refl)
some_behind (x ∷ xs) (suc n) lt = some_behind xs n (omega arith)

pub view_resend : {T : Type 0} (es : List (ℕ × T)) (n : ℕ) (quota : Option ℕ) (retired : Bool) (e : ℕ × T) (rest : List (ℕ × T)) → drop n es ≡ e ∷ rest → contents_of es (n + 1) quota retired ≡ after_resend (contents_of es n quota retired) (Some e)
view_resend es n quota retired e rest first =
    let next = take_next es n e rest first in
    let more : n + 1 ≡ suc n = omega arith in
    same_contents quota retired _ _ _ _ (ap (λ m. take m es) more ∙ next.0) (ap (λ m. drop m es) more ∙ next.1 ∙ sym (ap (drop 1) first))

pub get_next : {T : Type 0} (es : List (ℕ × T)) (n : ℕ) (e : ℕ × T) (rest : List (ℕ × T)) → drop n es ≡ e ∷ rest → slice_get es n ≡ Some e
get_next es n e rest first = (take_next es n e rest first).2

-- an entry that is taken out
pub view_ack_owed : {T : Type 0} (es : List (ℕ × T)) (n place : ℕ) (quota : Option ℕ) (retired : Bool) (k : ℕ) → n ≤ length es → place < n → HoldsAt (λ entry. entry.0 ≡ k) es place → AreDistinct (identifiers es) → contents_of (remove es place) (n - 1) quota retired ≡ after_ack (contents_of es n quota retired) k
view_ack_owed {T} es n place quota retired k le lt at distinct =
    let f : ℕ × T → ℕ = λ e. e.0 in
    let a = take n es in
    let b = drop n es in
    let whole : a ++ b ≡ es = take-append-drop n es in
    let long : length a ≡ n = length-take-le n es le in
    let parts : AreDistinct (identifiers a ++ identifiers b) = subst AreDistinct (sym (ap (map f) whole) ∙ map-append f a b) distinct in
    let at_a : HoldsAt (λ entry. entry.0 ≡ k) a place = λ d. ap f (get_or-take n es place d lt) ∙ at d in
    let gone : remove es place ≡ remove a place ++ b = ap (λ xs. remove xs place) (sym whole) ∙ remove-append_left a b place (omega arith) in
    let fewer : length (remove a place) + 1 ≡ length a = length-remove a place (omega arith) in
    let less : length (remove a place) ≡ n - 1 = omega arith in
    let absent = distinct_disjoint (identifiers a) (identifiers b) k parts (found_identifier a place k (omega arith) at_a) in
    same_contents quota retired _ _ _ _
    (ap (take (n - 1)) gone ∙ take_at (remove a place) b (n - 1) less ∙ without_found k a place (distinct_left (identifiers a) (identifiers b) parts) (omega arith) at_a)
    (ap (drop (n - 1)) gone ∙ drop_at (remove a place) b (n - 1) less ∙ sym (without_absent k b absent))

pub view_ack_waiting : {T : Type 0} (es : List (ℕ × T)) (n place : ℕ) (quota : Option ℕ) (retired : Bool) (k : ℕ) → n ≤ place → place < length es → HoldsAt (λ entry. entry.0 ≡ k) es place → AreDistinct (identifiers es) → contents_of (remove es place) n quota retired ≡ after_ack (contents_of es n quota retired) k
view_ack_waiting {T} es n place quota retired k le lt at distinct =
    let f : ℕ × T → ℕ = λ e. e.0 in
    let a = take n es in
    let b = drop n es in
    let whole : a ++ b ≡ es = take-append-drop n es in
    let long : length a ≡ n = length-take-le n es (omega arith) in
    let behind : length b ≡ length es - n = length-drop n es in
    let parts : AreDistinct (identifiers a ++ identifiers b) = subst AreDistinct (sym (ap (map f) whole) ∙ map-append f a b) distinct in
    let there : n + (place - n) ≡ place = omega arith in
    let at_b : HoldsAt (λ entry. entry.0 ≡ k) b (place - n) = λ d. ap f (get_or-drop n es (place - n) d ∙ ap (λ m. slice_index_or es m d) there) ∙ at d in
    let gone : remove es place ≡ a ++ remove b (place - n) = ap (λ xs. remove xs place) (sym whole) ∙ remove-append_right a b n place long le in
    let found = found_identifier b (place - n) k (omega arith) at_b in
    same_contents quota retired _ _ _ _
    (ap (take n) gone ∙ take_at a (remove b (place - n)) n long ∙ sym (without_absent k a (λ c. distinct_disjoint (identifiers a) (identifiers b) k parts c found)))
    (ap (drop n) gone ∙ drop_at a (remove b (place - n)) n long ∙ without_found k b (place - n) (distinct_right (identifiers a) (identifiers b) parts) (omega arith) at_b)

-- an ending session owes nothing
pub nothing_owed : {T : Type 0} (es : List (ℕ × T)) (n : ℕ) (quota : Option ℕ) (retired : Bool) → n ≤ length es → IsQuotaKept (contents_of es n quota retired) → quota ≡ None → n ≡ 0
nothing_owed {T} es n quota retired le kept down =
    let none : take n es ≡ [] = subst (λ (o : Option ℕ). MatchOption o (take n es ≡ []) (λ q. (length (take n es) ≤ q) × (q ≤ 256))) down kept in
    let e = ap length none in
    omega (arith, length-take-le n es le)

pub view_take : {T : Type 0} (es rest : List (ℕ × T)) (n : ℕ) (quota : Option ℕ) (retired : Bool) → n ≡ 0 → contents_of rest n quota true ≡ after_take (contents_of es n quota retired) rest
view_take es rest n quota retired none = same_contents quota true _ _ _ _ (ap (λ m. take m rest) none) (ap (λ m. drop m rest) none)

pub view_restore : {T : Type 0} (es : List (ℕ × T)) (n : ℕ) (quota : Option ℕ) (retired : Bool) (k : ℕ) (item : T) → n ≡ 0 → contents_of ((k, item) ∷ es) n quota retired ≡ after_restore (contents_of es n quota retired) k item
view_restore es n quota retired k item none =
    same_contents quota retired _ _ _ _ (ap (λ m. take m ((k, item) ∷ es)) none) (ap (λ m. drop m ((k, item) ∷ es)) none ∙ ap (λ xs. (k, item) ∷ xs) (sym (held_is es n quota retired)))
