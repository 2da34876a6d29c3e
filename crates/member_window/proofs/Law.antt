-- The window law: the transcript of every list of calls is legal, and leaves the session where the window says.
use Rattle.std.proofs.Common.{◌≡◌, ℕ, ◌<◌, ◌≤◌, Bool, true, false, ◌||◌, List, [], ◌∷◌, ◌++◌, map, length, drop, Option, Some, None, Ok, Err, MatchOption, IfSome, IsSomeAnd, IsSome, Contains, All, refl, sym, ap, ◌∙◌, subst, ⊎_elim, arith, append-nil, append_assoc}
use Rattle.std.specs.List.{list_any}
use Rattle.std.proofs.lemmas.Bool.{false≢true, cases_Bool}
use Rattle.std.proofs.lemmas.List.{length-map, map_push, map-append}
use Rattle.member_window.specs.Identifiers.{identifiers, IsLeastFree, AreDistinct}
use Rattle.member_window.specs.Marks.{Mark, WindowState, window_after, window_after_all}
use Rattle.member_window.specs.Transcript.{IsWithinQuota, MaySend, MayResend, IsLegalFrom, IsLegal}
use Rattle.member_window.specs.Contents.{Contents, held_of, new_contents, HasQuota, HasRoom, after_up, IsSound}
use Rattle.member_window.specs.Calls.{Call, Up, Down, Put, NextResend, Ack, TakeFirst, Restore, IsAllowed, Makes}
use Rattle.member_window.specs.Runs.{MakesAll, marks_of, transcript_of, window_state, is_take_first}
use Rattle.member_window.proofs.Lists.{distinct_apart, identifiers-without, own_identifiers, contains_identifier}
use Rattle.member_window.proofs.Legality.{legal_append, legal_within}
use Rattle.member_window.proofs.Sound.{no_quota_while_down, sound_new, sound_up, sound_down, put_held, sound_put, resend_held, first_waiting, sound_resend, ack_held, sound_ack, sound_take_none, sound_take, sound_restore}

-- each call keeps a window sound
sound_after : {T : Type 0} (w mid : Contents T) (call : Call T) → IsSound w → IsAllowed w call → Makes w call mid → IsSound mid
sound_after w mid (Up receive_maximum) sound may made = subst IsSound (sym made) (sound_up w receive_maximum sound may)
sound_after w mid Down sound may made = subst IsSound (sym made) (sound_down w sound)
sound_after w mid (Put item (Ok identifier)) sound may made = subst IsSound (sym made.2) (sound_put w identifier item sound made.0 made.1)
sound_after w mid (Put item (Err back)) sound may made = subst IsSound (sym made.2) sound
sound_after w mid (NextResend (Some entry)) sound may made =
    subst IsSound (sym made.1) (sound_resend w entry made.0.1.0 sound made.0.0 made.0.1.1)
sound_after w mid (NextResend None) sound may made = subst IsSound (sym made.1) sound
sound_after w mid (Ack identifier code (Some item)) sound may made = subst IsSound (sym made.1) (sound_ack w identifier sound)
sound_after w mid (Ack identifier code None) sound may made = subst IsSound (sym made.1) sound
sound_after w mid (TakeFirst (Some entry)) sound may made = subst IsSound (sym made.2) (sound_take w entry made.0 sound may made.1)
sound_after w mid (TakeFirst None) sound may made = subst IsSound (sym made.1) (sound_take_none w sound may)
sound_after w mid (Restore identifier item) sound may made = subst IsSound (sym made) (sound_restore w identifier item sound may)

pub sound_after_all : {T : Type 0} (old new : Contents T) (calls : List (Call T)) → IsSound old → MakesAll old calls new → IsSound new
sound_after_all old new [] sound made = subst IsSound (sym made) sound
sound_after_all old new (call ∷ calls) sound made =
    sound_after_all made.1.0 new calls (sound_after old made.1.0 call sound made.0 made.1.1) made.1.2

-- a session is ending from the first `take_first` on
or-false : (b : Bool) → b ≡ (b || false)
or-false true = refl
or-false false = refl

or-true : (b : Bool) → true ≡ (b || true)
or-true true = refl
or-true false = refl

retired_after : {T : Type 0} (w mid : Contents T) (call : Call T) → Makes w call mid → mid.retired ≡ (w.retired || is_take_first call)
retired_after w mid (Up receive_maximum) made = ap (λ m. m.retired) made ∙ or-false w.retired
retired_after w mid Down made = ap (λ m. m.retired) made ∙ or-false w.retired
retired_after w mid (Put item (Ok identifier)) made = ap (λ m. m.retired) made.2 ∙ or-false w.retired
retired_after w mid (Put item (Err back)) made = ap (λ m. m.retired) made.2 ∙ or-false w.retired
retired_after w mid (NextResend (Some entry)) made = ap (λ m. m.retired) made.1 ∙ or-false w.retired
retired_after w mid (NextResend None) made = ap (λ m. m.retired) made.1 ∙ or-false w.retired
retired_after w mid (Ack identifier code (Some item)) made = ap (λ m. m.retired) made.1 ∙ or-false w.retired
retired_after w mid (Ack identifier code None) made = ap (λ m. m.retired) made.1 ∙ or-false w.retired
retired_after w mid (TakeFirst (Some entry)) made = ap (λ m. m.retired) made.2 ∙ or-true w.retired
retired_after w mid (TakeFirst None) made = ap (λ m. m.retired) made.1 ∙ or-true w.retired
retired_after w mid (Restore identifier item) made = ap (λ m. m.retired) made ∙ or-false w.retired

or_assoc : (a b c : Bool) → ((a || b) || c) ≡ (a || (b || c))
or_assoc true b c = refl
or_assoc false b c = refl

pub retired_after_all : {T : Type 0} (old new : Contents T) (calls : List (Call T)) → MakesAll old calls new → new.retired ≡ (old.retired || list_any is_take_first calls)
retired_after_all old new [] made = ap (λ m. m.retired) made ∙ or-false old.retired
retired_after_all old new (call ∷ calls) made =
    retired_after_all made.1.0 new calls made.1.2 ∙ ap (λ b. b || list_any is_take_first calls) (retired_after old made.1.0 call made.1.1) ∙ or_assoc old.retired (is_take_first call) (list_any is_take_first calls)

-- a window's quota is kept in the transcript
within : {T : Type 0} (quota : Option ℕ) (owed : List (ℕ × T)) → MatchOption quota (owed ≡ []) (λ q. (length owed ≤ q) × (q ≤ 256)) → IfSome quota (λ q. length (identifiers owed) ≤ q)
within None owed kept = tt
within {T} (Some q) owed kept = let f : ℕ × T → ℕ = λ e. e.0 in omega (arith, length-map owed f)

within_quota : {T : Type 0} (w : Contents T) → IsSound w → IsWithinQuota (window_state w)
within_quota w sound = within w.quota w.owed sound.kept

-- what an item needs to be sent
has_up : (quota : Option ℕ) (n : ℕ) → IsSomeAnd quota (λ q. n < q) → IsSome quota
has_up None n has = absurd has
has_up (Some q) n has = refl

may_send : {T : Type 0} (w : Contents T) (identifier : ℕ) → HasRoom w → IsLeastFree (identifiers (held_of w)) identifier → MaySend (window_state w) identifier
may_send w identifier room least =
    record {
      up = has_up w.quota (length w.owed) room.0;
      least = least;
      none_waits = subst (All (λ entry. Contains (identifiers w.owed) entry.0)) (sym (ap (λ es. w.owed ++ es) room.1 ∙ append-nil w.owed)) (own_identifiers w.owed);
    }

may_resend : {T : Type 0} (w : Contents T) (entry : ℕ × T) (rest : List (ℕ × T)) → IsSound w → HasQuota w → w.waiting ≡ entry ∷ rest → MayResend (window_state w) entry.0 entry.1
may_resend {T} w entry rest sound has first =
    let all = ap (λ es. w.owed ++ es) first in
    let f : ℕ × T → ℕ = λ e. e.0 in
    record {
      up = has_up w.quota (length w.owed) has;
      before = w.owed;
      behind = rest;
      is_held = all;
      unsent = distinct_apart (identifiers w.owed) entry.0 (identifiers rest) (subst AreDistinct (ap (map f) all ∙ map-append f w.owed (entry ∷ rest)) sound.entries.distinct);
      in_order = own_identifiers w.owed;
    }

-- where a mark leads, the window is
abbrev state : {T : Type 0} → Option ℕ → List (ℕ × T) → List ℕ → WindowState T
state quota held owed = record { held = held; owed = owed; quota = quota }

same_window_state : {T : Type 0} (quota : Option ℕ) (held other_held : List (ℕ × T)) (owed other_owed : List ℕ) → held ≡ other_held → owed ≡ other_owed → state quota held owed ≡ state quota other_held other_owed
same_window_state quota held other_held owed other_owed e f = λ i. state quota (e i) (f i)

window_follows : {T : Type 0} (w mid : Contents T) (call : Call T) → w.retired ≡ false → mid.retired ≡ false → IsAllowed w call → Makes w call mid → window_state mid ≡ window_after_all (window_state w) (marks_of call)
window_follows w mid (Up receive_maximum) was stays may made = ap window_state made
window_follows w mid Down was stays may made = ap window_state made
window_follows {T} w mid (Put item (Ok identifier)) was stays may made =
    let f : ℕ × T → ℕ = λ e. e.0 in
    ap window_state made.2 ∙ same_window_state w.quota _ _ _ _ (put_held w.owed w.waiting (identifier, item) made.0.1) (map_push f w.owed (identifier, item))
window_follows w mid (Put item (Err back)) was stays may made = ap window_state made.2
window_follows {T} w mid (NextResend (Some entry)) was stays may made =
    let f : ℕ × T → ℕ = λ e. e.0 in
    ap window_state made.1 ∙ same_window_state w.quota _ _ _ _ (resend_held w.owed w.waiting entry (drop 1 w.waiting) (first_waiting w entry made.0.1.0 made.0.1.1)) (map_push f w.owed entry)
window_follows w mid (NextResend None) was stays may made = ap window_state made.1
window_follows w mid (Ack identifier code (Some item)) was stays may made =
    ap window_state made.1 ∙ same_window_state w.quota _ _ _ _ (ack_held identifier w.owed w.waiting) (identifiers-without identifier w.owed)
window_follows w mid (Ack identifier code None) was stays may made = ap window_state made.1
window_follows w mid (TakeFirst (Some entry)) was stays may made = absurd (false≢true (sym stays ∙ ap (λ m. m.retired) made.2))
window_follows w mid (TakeFirst None) was stays may made = absurd (false≢true (sym stays ∙ ap (λ m. m.retired) made.1))
window_follows w mid (Restore identifier item) was stays may made = absurd (false≢true (sym was ∙ may.retired))

-- the mark of a call may come next
legal_call : {T : Type 0} (w mid : Contents T) (call : Call T) → IsSound w → IsAllowed w call → Makes w call mid → w.retired ≡ false → IsLegalFrom (window_state w) (marks_of call)
legal_call w mid (Up receive_maximum) sound may made was = (within_quota w sound, tt, within_quota (after_up w receive_maximum) (sound_up w receive_maximum sound may))
legal_call w mid Down sound may made was = (within_quota w sound, tt, tt)
legal_call w mid (Put item (Ok identifier)) sound may made was =
    let after = sound_after w mid (Put item (Ok identifier)) sound may made in
    let there = window_follows w mid (Put item (Ok identifier)) was (ap (λ m. m.retired) made.2 ∙ was) may made in
    (within_quota w sound, may_send w identifier made.0 made.1, subst IsWithinQuota there (within_quota mid after))
legal_call w mid (Put item (Err back)) sound may made was = within_quota w sound
legal_call w mid (NextResend (Some entry)) sound may made was =
    let after = sound_after w mid (NextResend (Some entry)) sound may made in
    let there = window_follows w mid (NextResend (Some entry)) was (ap (λ m. m.retired) made.1 ∙ was) may made in
    (within_quota w sound, may_resend w entry made.0.1.0 sound made.0.0 made.0.1.1, subst IsWithinQuota there (within_quota mid after))
legal_call w mid (NextResend None) sound may made was = within_quota w sound
legal_call w mid (Ack identifier code (Some item)) sound may made was =
    let after = sound_after w mid (Ack identifier code (Some item)) sound may made in
    let there = window_follows w mid (Ack identifier code (Some item)) was (ap (λ m. m.retired) made.1 ∙ was) may made in
    (within_quota w sound, contains_identifier (held_of w) identifier item made.0, subst IsWithinQuota there (within_quota mid after))
legal_call w mid (Ack identifier code None) sound may made was = within_quota w sound
legal_call w mid (TakeFirst answer) sound may made was = within_quota w sound
legal_call w mid (Restore identifier item) sound may made was = within_quota w sound

-- of a session that is ending no call adds a mark but `down`
quiet_call : {T : Type 0} (s : WindowState T) (w mid : Contents T) (call : Call T) → IsSound w → w.retired ≡ true → IsWithinQuota s → IsAllowed w call → Makes w call mid → IsLegalFrom s (marks_of call)
quiet_call s w mid (Up receive_maximum) sound gone kept may made = absurd (false≢true (sym may ∙ gone))
quiet_call s w mid Down sound gone kept may made = (kept, tt, tt)
quiet_call s w mid (Put item (Ok identifier)) sound gone kept may made = absurd (no_quota_while_down w (sound.ending gone) made.0.0)
quiet_call s w mid (Put item (Err back)) sound gone kept may made = kept
quiet_call s w mid (NextResend (Some entry)) sound gone kept may made = absurd (no_quota_while_down w (sound.ending gone) made.0.0)
quiet_call s w mid (NextResend None) sound gone kept may made = kept
quiet_call s w mid (Ack identifier code answer) sound gone kept may made = absurd (false≢true (sym may ∙ gone))
quiet_call s w mid (TakeFirst answer) sound gone kept may made = kept
quiet_call s w mid (Restore identifier item) sound gone kept may made = kept

quiet_calls : {T : Type 0} (s : WindowState T) (old new : Contents T) (calls : List (Call T)) → IsSound old → old.retired ≡ true → IsWithinQuota s → MakesAll old calls new → IsLegalFrom s (transcript_of calls)
quiet_calls s old new [] sound gone kept made = kept
quiet_calls s old new (call ∷ calls) sound gone kept made =
    let mid = made.1.0 in
    let one = quiet_call s old mid call sound gone kept made.0 made.1.1 in
    let gone_on = retired_after old mid call made.1.1 ∙ ap (λ b. b || is_take_first call) gone in
    legal_append s (marks_of call) (transcript_of calls) one
    (quiet_calls (window_after_all s (marks_of call)) mid new calls (sound_after old mid call sound made.0 made.1.1) gone_on (legal_within s (marks_of call) one) made.1.2)

-- one call after the other
pub legal_calls : {T : Type 0} (old new : Contents T) (calls : List (Call T)) → IsSound old → old.retired ≡ false → MakesAll old calls new → IsLegalFrom (window_state old) (transcript_of calls)
legal_calls old new [] sound was made = within_quota old sound
legal_calls {T} old new (call ∷ calls) sound was made =
    let mid = made.1.0 in
    let after = sound_after old mid call sound made.0 made.1.1 in
    let one = legal_call old mid call sound made.0 made.1.1 was in
    legal_append (window_state old) (marks_of call) (transcript_of calls) one
    (
    ⊎_elim
    (λ (gone : mid.retired ≡ true). quiet_calls (window_after_all (window_state old) (marks_of call)) mid new calls after gone (legal_within (window_state old) (marks_of call) one) made.1.2)
    (λ (stays : mid.retired ≡ false). subst (λ (s : WindowState T). IsLegalFrom s (transcript_of calls)) (window_follows old mid call was stays made.0 made.1.1) (legal_calls mid new calls after stays made.1.2))
    (cases_Bool mid.retired)
    )

pub legal_transcript : {T : Type 0} (calls : List (Call T)) (w : Contents T) → MakesAll new_contents calls w → IsLegal [] (transcript_of calls)
legal_transcript calls w made = legal_calls new_contents w calls sound_new refl made

-- while a session isn't ending, its transcript leaves it where the window says
or_parts : (a b : Bool) → (a || b) ≡ false → a ≡ false
or_parts true b e = e
or_parts false b e = refl

window_after_append : {T : Type 0} (s : WindowState T) (before behind : List (Mark T)) → window_after_all s (before ++ behind) ≡ window_after_all (window_after_all s before) behind
window_after_append s [] behind = refl
window_after_append s (mark ∷ before) behind = window_after_append (window_after s mark) before behind

pub window_after_calls : {T : Type 0} (old new : Contents T) (calls : List (Call T)) → new.retired ≡ false → MakesAll old calls new → window_after_all (window_state old) (transcript_of calls) ≡ window_state new
window_after_calls old new [] stays made = sym (ap window_state made)
window_after_calls old new (call ∷ calls) stays made =
    let mid = made.1.0 in
    let stayed = or_parts mid.retired (list_any is_take_first calls) (sym (retired_after_all mid new calls made.1.2) ∙ stays) in
    let was = or_parts old.retired (is_take_first call) (sym (retired_after old mid call made.1.1) ∙ stayed) in
    window_after_append (window_state old) (marks_of call) (transcript_of calls)
    ∙ ap (λ s. window_after_all s (transcript_of calls)) (sym (window_follows old mid call was stayed made.0 made.1.1))
    ∙ window_after_calls mid new calls stays made.1.2

-- from a window that is down
pub legal_from_down : {T : Type 0} (old new : Contents T) (calls : List (Call T)) → IsSound old → old.retired ≡ false → old.quota ≡ None → MakesAll old calls new → IsLegal (held_of old) (transcript_of calls)
legal_from_down {T} old new calls sound was down made =
    let none : old.owed ≡ [] = subst (λ (o : Option ℕ). MatchOption o (old.owed ≡ []) (λ q. (length old.owed ≤ q) × (q ≤ 256))) down sound.kept in
    subst (λ (s : WindowState T). IsLegalFrom s (transcript_of calls)) (λ i. state (down i) (held_of old) (identifiers (none i))) (legal_calls old new calls sound was made)

-- lists of calls, joined
pub made_append : {T : Type 0} (old mid new : Contents T) (before behind : List (Call T)) → MakesAll old before mid → MakesAll mid behind new → MakesAll old (before ++ behind) new
made_append old mid new [] behind made more = subst (λ w. MakesAll w behind new) made more
made_append old mid new (call ∷ before) behind made more = (made.0, (made.1.0, made.1.1, made_append made.1.0 mid new before behind made.1.2 more))

pub transcript_append : {T : Type 0} (before behind : List (Call T)) → transcript_of (before ++ behind) ≡ transcript_of before ++ transcript_of behind
transcript_append [] behind = refl
transcript_append (call ∷ before) behind =
    ap (λ marks. marks_of call ++ marks) (transcript_append before behind) ∙ sym (append_assoc (marks_of call) (transcript_of before) (transcript_of behind))
