-- How a window keeps its contents is right after each call.
use Rattle.std.proofs.Common.{◌≡◌, ℕ, ◌+◌, ◌-◌, ◌<◌, ◌≤◌, Bool, true, false, if◌then◌else◌, ltb, lt-ltb, le-ltb, ⊎_elim, List, [], ◌∷◌, ◌++◌, length, slice_get, Option, Some, None, Contains, refl, sym, ap, ◌∙◌, subst, arith, length-append, option_to_list, IfSome, IsSome}
use Rattle.std.proofs.lemmas.Bool.{false≢true, cases_lt}
use Rattle.std.proofs.lemmas.List.Edits.{length-remove}
use Rattle.std.specs.List.{remove, HoldsAt}
use Rattle.std.specs.Int.{from_bool}
use Rattle.member_window.specs.Identifiers.{identifiers, IsLeastFree}
use Rattle.member_window.specs.Contents.{HasRoom, after_ack, after_take, AreEntries, IsSound}
use Rattle.member_window.specs.Calls.{MayRestore}
use Rattle.member_window.specs.Layout.{contents_of, IsKept}
use Rattle.member_window.proofs.Sound.{sound_put, sound_ack, sound_take, sound_take_none, sound_restore}
use Rattle.member_window.proofs.View.{held_is, view_put, view_ack_owed, view_ack_waiting, nothing_owed, view_take, view_restore}

-- what holds of the entries themselves
pub entries_of : {T : Type 0} (es : List (ℕ × T)) (n : ℕ) (quota : Option ℕ) (retired : Bool) → IsKept es n quota retired → AreEntries es
entries_of es n quota retired kept = subst AreEntries (held_is es n quota retired) kept.sound.entries

pub kept_put : {T : Type 0} (es : List (ℕ × T)) (n : ℕ) (quota : Option ℕ) (retired : Bool) (k : ℕ) (item : T) (more : List (ℕ × T)) → IsKept es n quota retired → HasRoom (contents_of es n quota retired) → IsLeastFree (identifiers es) k → more ≡ es ++ (k, item) ∷ [] → IsKept more (n + 1) quota retired
kept_put es n quota retired k item more kept room least same =
    let within = kept.within in
    let one = ap length same ∙ length-append es ((k, item) ∷ []) in
    let old = contents_of es n quota retired in
    let free = subst (λ xs. IsLeastFree (identifiers xs) k) (sym (held_is es n quota retired)) least in
    record {
      within = omega arith;
      sound = subst IsSound (sym (ap (λ xs. contents_of xs (n + 1) quota retired) same ∙ view_put es n quota retired k item within room.1)) (sound_put old k item kept.sound room free);
    }

kept_ack_owed : {T : Type 0} (es : List (ℕ × T)) (n : ℕ) (quota : Option ℕ) (retired : Bool) (k place : ℕ) (left : List (ℕ × T)) → IsKept es n quota retired → place < n → HoldsAt (λ entry. entry.0 ≡ k) es place → left ≡ remove es place → IsKept left (n - 1) quota retired × (contents_of left (n - 1) quota retired ≡ after_ack (contents_of es n quota retired) k)
kept_ack_owed es n quota retired k place left kept lt at same =
    let within = kept.within in
    let fewer = length-remove es place (omega arith) in
    let one = ap length same in
    let view = ap (λ xs. contents_of xs (n - 1) quota retired) same ∙ view_ack_owed es n place quota retired k within lt at (entries_of es n quota retired kept).distinct in
    (record { within = omega arith; sound = subst IsSound (sym view) (sound_ack (contents_of es n quota retired) k kept.sound) }, view)

kept_ack_waiting : {T : Type 0} (es : List (ℕ × T)) (n : ℕ) (quota : Option ℕ) (retired : Bool) (k place : ℕ) (left : List (ℕ × T)) → IsKept es n quota retired → n ≤ place → place < length es → HoldsAt (λ entry. entry.0 ≡ k) es place → left ≡ remove es place → IsKept left n quota retired × (contents_of left n quota retired ≡ after_ack (contents_of es n quota retired) k)
kept_ack_waiting es n quota retired k place left kept le lt at same =
    let fewer = length-remove es place lt in
    let one = ap length same in
    let view = ap (λ xs. contents_of xs n quota retired) same ∙ view_ack_waiting es n place quota retired k le lt at (entries_of es n quota retired kept).distinct in
    (record { within = omega arith; sound = subst IsSound (sym view) (sound_ack (contents_of es n quota retired) k kept.sound) }, view)

pub kept_ack : {T : Type 0} (es : List (ℕ × T)) (n : ℕ) (quota : Option ℕ) (retired : Bool) (k place : ℕ) (left : List (ℕ × T)) (less : ℕ) → IsKept es n quota retired → (place < length es) × HoldsAt (λ entry. entry.0 ≡ k) es place → left ≡ remove es place → less ≡ from_bool (ltb place n) → IsKept left (n - less) quota retired × (contents_of left (n - less) quota retired ≡ after_ack (contents_of es n quota retired) k)
kept_ack es n quota retired k place left less kept found same is =
    ⊎_elim
    (λ (owed : place < n).
    let one : less ≡ 1 = is ∙ ap from_bool (lt-ltb place n owed) in
    rw one (kept_ack_owed es n quota retired k place left kept owed found.1 same))
    (λ (waits : n ≤ place).
    let all : n - less ≡ n = omega (arith, is ∙ ap from_bool (le-ltb place n waits)) in
    rw all (kept_ack_waiting es n quota retired k place left kept waits found.0 found.1 same))
    (cases_lt place n)

none_left : {X : Type 0} (es : List X) → (0 < length es → IsSome (let none : Option X = None in none)) → es ≡ []
none_left [] some = refl
none_left (e ∷ es) some = absurd (false≢true (some (omega arith)))

pub kept_take : {T : Type 0} (es : List (ℕ × T)) (n : ℕ) (quota : Option ℕ) (retired : Bool) (answer : Option (ℕ × T)) (left : List (ℕ × T)) → IsKept es n quota retired → quota ≡ None → es ≡ option_to_list answer ++ left → (0 < length es → IsSome answer) → IsKept left n quota true
kept_take es n quota retired None left kept down same some =
    let none = nothing_owed es n quota retired kept.within kept.sound.kept down in
    record {
      within = omega arith;
      sound = subst IsSound (sym (view_take es left n quota retired none ∙ ap (after_take (contents_of es n quota retired)) (sym same ∙ none_left es some))) (sound_take_none (contents_of es n quota retired) kept.sound down);
    }
kept_take es n quota retired (Some e) left kept down same some =
    let none = nothing_owed es n quota retired kept.within kept.sound.kept down in
    record {
      within = omega arith;
      sound = subst IsSound (sym (view_take es left n quota retired none)) (sound_take (contents_of es n quota retired) e left kept.sound down (held_is es n quota retired ∙ same));
    }

pub kept_restore : {T : Type 0} (es : List (ℕ × T)) (n : ℕ) (quota : Option ℕ) (retired : Bool) (k : ℕ) (item : T) (more : List (ℕ × T)) → IsKept es n quota retired → MayRestore (contents_of es n quota retired) k → more ≡ (k, item) ∷ es → IsKept more n quota retired
kept_restore es n quota retired k item more kept may same =
    let none = nothing_owed es n quota retired kept.within kept.sound.kept (kept.sound.ending may.retired) in
    record {
      within = omega arith;
      sound = subst IsSound (sym (ap (λ xs. contents_of xs n quota retired) same ∙ view_restore es n quota retired k item none)) (sound_restore (contents_of es n quota retired) k item kept.sound may);
    }

-- what was taken out may be put back
pub may_put_back : {T : Type 0} (es : List (ℕ × T)) (n : ℕ) (quota : Option ℕ) (retired : Bool) (answer : Option (ℕ × T)) (left : List (ℕ × T)) → IsKept es n quota retired → es ≡ option_to_list answer ++ left → IfSome answer (λ entry. MayRestore (contents_of left n quota true) entry.0)
may_put_back es n quota retired None left kept same = tt
may_put_back es n quota retired (Some e) left kept same =
    let all = subst AreEntries same (entries_of es n quota retired kept) in
    let few = all.few in
    let range = all.in_range 0 e (omega arith) in
    let is = held_is left n quota true in
    record {
      retired = refl;
      few = omega (arith, ap length is);
      not_zero = range.0;
      small = range.1;
      free = subst (λ xs. ¬ Contains (identifiers xs) e.0) (sym is) all.distinct.0;
    }

-- the first of what is held, and the others
pub removed_first : {X : Type 0} (es : List X) (e : X) → slice_get es 0 ≡ Some e → es ≡ e ∷ remove es 0
removed_first [] e at = absurd (cc)
removed_first (x ∷ xs) e at = let same : x ≡ e = cc in ap (λ y. y ∷ xs) same

pub as_number : (b : Bool) → (if b then 1 else 0) ≡ from_bool b
as_number true = refl
as_number false = refl
