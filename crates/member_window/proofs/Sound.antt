-- What holds of every window holds after each call.
use Rattle.std.proofs.Common.{◌≡◌, ℕ, ◌+◌, ◌-◌, ◌<◌, ◌≤◌, false, List, [], ◌∷◌, ◌++◌, length, drop, Option, Some, None, MatchOption, IsSomeAnd, refl, sym, ap, ◌∙◌, subst, arith, append_assoc, append-nil, length-append}
use Rattle.std.proofs.lemmas.Bool.{false≢true}
use Rattle.std.proofs.lemmas.List.{length-map, length_push, map_push}
use Rattle.std.proofs.lemmas.List.Elements.{filter-append, All-push, All-cons, All-tail, All-filter}
use Rattle.member_window.specs.Identifiers.{identifiers, entries_without, IsLeastFree, AreDistinct}
use Rattle.member_window.specs.Contents.{Contents, held_of, new_contents, HasQuota, HasRoom, after_up, after_down, after_put, after_resend, after_ack, after_take, after_restore, AreEntries, IsSound}
use Rattle.member_window.specs.Calls.{MayRestore}
use Rattle.member_window.proofs.Lists.{pigeonhole, distinct_without, distinct_push, identifiers-without, length-entries_without}

-- in a window that is ending no connection is up
pub no_quota_while_down : {T : Type 0} (w : Contents T) → w.quota ≡ None → ¬ HasQuota w
no_quota_while_down w down h = subst (λ (o : Option ℕ). IsSomeAnd o (λ quota. length w.owed < quota)) down h

pub sound_new : {T : Type 0} → IsSound (new_contents {T = T})
sound_new {T} =
    record {
      entries = record { few = omega arith; in_range = λ k d lt. absurd (omega arith); distinct = tt };
      kept = refl;
      ending = λ e. absurd (false≢true e);
    }

pub sound_up : {T : Type 0} (w : Contents T) (receive_maximum : ℕ) → IsSound w → w.retired ≡ false → IsSound (after_up w receive_maximum)
sound_up w receive_maximum s stays =
    record { entries = s.entries; kept = (omega arith, omega arith); ending = λ e. absurd (false≢true (sym stays ∙ e)) }

pub sound_down : {T : Type 0} (w : Contents T) → IsSound w → IsSound (after_down w)
sound_down w s = record { entries = s.entries; kept = refl; ending = λ e. refl }

-- a fresh item
pub put_held : {X : Type 0} (xs ys : List X) (x : X) → ys ≡ [] → (xs ++ x ∷ []) ++ ys ≡ (xs ++ ys) ++ x ∷ []
put_held xs ys x none = rw none (append-nil (xs ++ x ∷ []) ∙ ap (λ zs. zs ++ x ∷ []) (sym (append-nil xs)))

pub least_is_small : (used : List ℕ) (identifier : ℕ) → IsLeastFree used identifier → length used < 256 → identifier ≤ 256
least_is_small used identifier least few =
    let crowd = pigeonhole (identifier - 1) used (λ k low high. least.least k low (omega arith)) in
    omega arith

few_owed : (quota : Option ℕ) (n : ℕ) (P : Type 0) → IsSomeAnd quota (λ q. n < q) → MatchOption quota P (λ q. (n ≤ q) × (q ≤ 256)) → n < 256
few_owed None n P has kept = absurd has
few_owed (Some q) n P has kept = omega arith

more_owed : (quota : Option ℕ) (n m : ℕ) (P Q : Type 0) → m ≡ n + 1 → IsSomeAnd quota (λ q. n < q) → MatchOption quota P (λ q. (n ≤ q) × (q ≤ 256)) → MatchOption quota Q (λ q. (m ≤ q) × (q ≤ 256))
more_owed None n m P Q e has kept = absurd has
more_owed (Some q) n m P Q e has kept = (omega arith, kept.1)

pub room_is_few : {T : Type 0} (w : Contents T) → IsSound w → HasRoom w → length (held_of w) < 256
room_is_few w s room =
    let few = few_owed w.quota (length w.owed) (w.owed ≡ []) room.0 s.kept in
    let same = ap length room.1 in
    omega (arith, length-append w.owed w.waiting)

pub entries_push : {T : Type 0} (es : List (ℕ × T)) (identifier : ℕ) (item : T) → AreEntries es → length es < 256 → IsLeastFree (identifiers es) identifier → AreEntries (es ++ (identifier, item) ∷ [])
entries_push {T} es identifier item s few least =
    let f : ℕ × T → ℕ = λ e. e.0 in
    let long : length (identifiers es) ≡ length es = length-map es f in
    let small : identifier ≤ 256 = least_is_small (identifiers es) identifier least (omega arith) in
    record {
      few = omega (arith, length_push es (identifier, item));
      in_range = All-push (λ entry. (1 ≤ entry.0) × (entry.0 ≤ 256)) es (identifier, item) s.in_range (least.not_zero, small);
      distinct = subst AreDistinct (sym (map_push f es (identifier, item))) (distinct_push (identifiers es) identifier s.distinct least.free);
    }

pub sound_put : {T : Type 0} (w : Contents T) (identifier : ℕ) (item : T) → IsSound w → HasRoom w → IsLeastFree (identifiers (held_of w)) identifier → IsSound (after_put w identifier item)
sound_put w identifier item s room least =
    record {
      entries = subst AreEntries (sym (put_held w.owed w.waiting (identifier, item) room.1)) (entries_push (held_of w) identifier item s.entries (room_is_few w s room) least);
      kept = more_owed w.quota (length w.owed) (length (w.owed ++ (identifier, item) ∷ [])) (w.owed ≡ []) (w.owed ++ (identifier, item) ∷ [] ≡ []) (length_push w.owed (identifier, item)) room.0 s.kept;
      ending = s.ending;
    }

-- an item that is sent again
pub resend_held : {X : Type 0} (xs ys : List X) (x : X) (rest : List X) → ys ≡ x ∷ rest → (xs ++ x ∷ []) ++ rest ≡ xs ++ ys
resend_held xs ys x rest e = append_assoc xs (x ∷ []) rest ∙ ap (λ zs. xs ++ zs) (sym e)

pub first_waiting : {T : Type 0} (w : Contents T) (entry : ℕ × T) (rest : List (ℕ × T)) → w.waiting ≡ entry ∷ rest → w.waiting ≡ entry ∷ drop 1 w.waiting
first_waiting w entry rest first = first ∙ ap (λ es. entry ∷ es) (sym (ap (drop 1) first))

pub sound_resend : {T : Type 0} (w : Contents T) (entry : ℕ × T) (rest : List (ℕ × T)) → IsSound w → HasQuota w → w.waiting ≡ entry ∷ rest → IsSound (after_resend w (Some entry))
sound_resend w entry rest s has first =
    record {
      entries = subst AreEntries (sym (resend_held w.owed w.waiting entry (drop 1 w.waiting) (first_waiting w entry rest first))) s.entries;
      kept = more_owed w.quota (length w.owed) (length (w.owed ++ entry ∷ [])) (w.owed ≡ []) (w.owed ++ entry ∷ [] ≡ []) (length_push w.owed entry) has s.kept;
      ending = s.ending;
    }

-- an item that is acknowledged
pub ack_held : {T : Type 0} (k : ℕ) (xs ys : List (ℕ × T)) → entries_without k xs ++ entries_without k ys ≡ entries_without k (xs ++ ys)
ack_held k xs ys = sym (filter-append _ xs ys)

pub entries_fewer : {T : Type 0} (k : ℕ) (es : List (ℕ × T)) → AreEntries es → AreEntries (entries_without k es)
entries_fewer {T} k es s =
    let fewer = length-entries_without k es in
    record {
      few = omega (arith, s.few);
      in_range = All-filter _ (λ entry. (1 ≤ entry.0) × (entry.0 ≤ 256)) es s.in_range;
      distinct = subst AreDistinct (sym (identifiers-without k es)) (distinct_without k (identifiers es) s.distinct);
    }

less_owed : {T : Type 0} (quota : Option ℕ) (k : ℕ) (owed : List (ℕ × T)) → MatchOption quota (owed ≡ []) (λ q. (length owed ≤ q) × (q ≤ 256)) → MatchOption quota (entries_without k owed ≡ []) (λ q. (length (entries_without k owed) ≤ q) × (q ≤ 256))
less_owed None k owed none = ap (entries_without k) none
less_owed (Some q) k owed kept = let fewer = length-entries_without k owed in (omega arith, kept.1)

pub sound_ack : {T : Type 0} (w : Contents T) (k : ℕ) → IsSound w → IsSound (after_ack w k)
sound_ack w k s =
    record {
      entries = subst AreEntries (sym (ack_held k w.owed w.waiting)) (entries_fewer k (held_of w) s.entries);
      kept = less_owed w.quota k w.owed s.kept;
      ending = s.ending;
    }

-- an ending session
kept_while_down : {T : Type 0} (quota : Option ℕ) (owed : List (ℕ × T)) → quota ≡ None → owed ≡ [] → MatchOption quota (owed ≡ []) (λ q. (length owed ≤ q) × (q ≤ 256))
kept_while_down {T} quota owed down none = subst (λ (o : Option ℕ). MatchOption o (owed ≡ []) (λ q. (length owed ≤ q) × (q ≤ 256))) (sym down) none

pub sound_take_none : {T : Type 0} (w : Contents T) → IsSound w → w.quota ≡ None → IsSound (after_take w [])
sound_take_none w s down =
    record {
      entries = record { few = omega arith; in_range = λ k d lt. absurd (omega arith); distinct = tt };
      kept = kept_while_down w.quota [] down refl;
      ending = λ e. down;
    }

pub sound_take : {T : Type 0} (w : Contents T) (entry : ℕ × T) (rest : List (ℕ × T)) → IsSound w → w.quota ≡ None → held_of w ≡ entry ∷ rest → IsSound (after_take w rest)
sound_take w entry rest s down first =
    let all = subst AreEntries first s.entries in
    record {
      entries = record { few = omega (arith, all.few); in_range = All-tail (λ entry. (1 ≤ entry.0) × (entry.0 ≤ 256)) entry rest all.in_range; distinct = all.distinct.1 };
      kept = kept_while_down w.quota [] down refl;
      ending = λ e. down;
    }

pub sound_restore : {T : Type 0} (w : Contents T) (identifier : ℕ) (item : T) → IsSound w → MayRestore w identifier → IsSound (after_restore w identifier item)
sound_restore w identifier item s may =
    record {
      entries = record {
        few = omega (arith, may.few);
        in_range = All-cons (λ entry. (1 ≤ entry.0) × (entry.0 ≤ 256)) (identifier, item) (held_of w) (may.not_zero, may.small) s.entries.in_range;
        distinct = (may.free, s.entries.distinct);
      };
      kept = kept_while_down w.quota [] (s.ending may.retired) refl;
      ending = s.ending;
    }
