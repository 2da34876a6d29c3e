-- A session is in one pair of hands: what one call does, and then what all calls do.
use Rattle.std.proofs.Common.{◌≡◌, ◌≢◌, ℕ, ◌+◌, ◌<◌, nat_eq, nat_lt, if◌then◌else◌, Bool, true, false, cond, List, [], ◌∷◌, Option, Some, None, Result, Ok, Err, refl, sym, ap, ◌∙◌, subst, ⊎_elim, inl, inr, arith, le-ltb}
use Rattle.std.specs.Ordering.{nat_cmp}
use Rattle.std.specs.FinMap as map
use Rattle.std.specs.FinMap.{get-empty, len-empty}
use Rattle.session_desk.specs.declared.attached.Attached.{Attached}
use Rattle.session_desk.specs.declared.attached.Attached.TheVariants.{New, Resumed, Replace, Busy}
use Rattle.session_desk.specs.declared.error.DeskError.{DeskError}
use Rattle.session_desk.specs.declared.error.DeskError.TheVariants.{Full, NoPlace, Memory, NoName}
use Rattle.session_desk.specs.declared.session.Session.{Session}
use Rattle.session_desk.specs.declared.row.Row.{Row}
use Rattle.session_desk.specs.declared.row.Holder.{Holder}
use Rattle.session_desk.specs.declared.row.Holder.TheVariants.{Lent, Parked, Kept}
use Rattle.std.proofs.Math.Nat.{min-le_right}
use Rattle.limits.specs.Limits.{most_sessions}
use Rattle.session_desk.specs.Rows.{Rows, HasRow, NoneLivesAs, NoRow, most_rows, IsKept, IsOverdue, IsRowOf, is_living, session_in, away, new_row, with_holder, with_wait}
use Rattle.session_desk.specs.Books.{Books, new_session, with_rows}
use Rattle.session_desk.specs.Names.{assigned_name}
use Rattle.session_desk.specs.declared.newcomers.Newcomers.{Newcomers}
use Rattle.session_desk.specs.declared.newcomers.Newcomers.TheVariants.{IfRoom, Displace, Refused}
use Rattle.session_desk.specs.Newcomers.{HasSpace, Begins, room_for}
use Rattle.session_desk.specs.Attaching.{Request, AttachesClient, AttachesUnnamed, attaches_by}
use Rattle.session_desk.specs.Keeping.{parked_at, EndsLent, IsLent}
use Rattle.session_desk.specs.Sweeping.{HandsOut}
use Rattle.session_desk.specs.Calls.{Call, Attach, Withdraw, Kicked, Park, ParkAsIs, Keep, Bury, Sweep, LendPlace, TakePlace, IsAllowed, Makes, MakesAll}
use Rattle.session_desk.specs.Hands.{once, attached_out, handed_out, handed_in, buried, total, outs, rows_of, once_in, living_row, living_in, DeskLaw}
use Rattle.session_desk.proofs.Kept.{none_of, still_none}
use Rattle.session_desk.proofs.Living.{living_within, living_moved, none_living}
use Rattle.session_desk.proofs.Booked.{len_same}
use Rattle.session_desk.proofs.Hands.{out_of, outs_moved, rows_moved, outs_begun, rows_begun, outs_removed, rows_removed, below_next, law_moved, law_begun, law_removed, none_lives}

abbrev pub below : ℕ → ℕ → ℕ
below n made = if nat_lt n made then 1 else 0

-- what a step from these rows to those does: so often it hands the session with this number out, takes it in, and buries it
record Does {E P : Type 0} (old new : Rows E P) (made after : ℕ) (out taken ended : ℕ → ℕ) : Type 0 where
  law : DeskLaw old made → DeskLaw new after
  hands : DeskLaw old made → (n : ℕ) → outs new n + taken n ≡ outs old n + out n
  rows : DeskLaw old made → (n : ℕ) → rows_of new n + ended n + below n made ≡ rows_of old n + below n after

abbrev zero_each : ℕ → ℕ
zero_each n = 0

-- nothing moves, or what is handed in is handed back
stays : {E P : Type 0} (old new : Rows E P) (made : ℕ) (both : ℕ → ℕ) → new ≡ old → Does old new made made both both zero_each
stays {E} {P} old new made both same =
    subst (λ (r : Rows E P). Does old r made made both both zero_each) (sym same)
    (record { law = λ law. law; hands = λ law n. refl; rows = λ law n. omega arith })

-- a session with this number changes hands
moves : {E P : Type 0} (old : Rows E P) (made k : ℕ) (before after : Row E P) (i o : ℕ) → HasRow old k before → after.client ≡ before.client
    → (is_living after.held_by ≡ true → is_living before.held_by ≡ true)
    → (DeskLaw old made → (session : Session E P) → session_in after.held_by ≡ Some session → session.identity ≡ record { number = k; client = after.client })
    → (DeskLaw old made → (session : Session E P) → after.held_by ≡ Parked session → session.window.retired ≡ false)
    → out_of after.held_by + i ≡ out_of before.held_by + o
    → Does old (map.insert old k after) made made (λ n. cond (nat_eq k n) o 0) (λ n. cond (nat_eq k n) i 0) zero_each
moves old made k before after i o has client lives own quiet counts =
    record {
      law = λ law. law_moved old made k before after law has client lives (own law) (quiet law);
      hands = λ law n. outs_moved old k n before after i o has counts;
      rows = λ law n. (let same = rows_moved old k n before after has in omega arith);
    }

-- a session is new
begins : {E P : Type 0} (old : Rows E P) (made : ℕ) (client : List ℕ) (connection : ℕ) → (DeskLaw old made → NoneLivesAs old client) → (DeskLaw old made → living_in old < most_sessions) → (DeskLaw old made → map.len old < most_rows)
    → Does old (map.insert old made (new_row client connection)) made (made + 1) (λ n. cond (nat_eq made n) 1 0) zero_each zero_each
begins {E} {P} old made client connection none room fits =
    let absent = λ (law : DeskLaw old made). none_of (map.get old made) (λ row has. let less = law.made_before made row has in omega arith) in
    record {
      law = λ law. law_begun old made client connection law (none law) (room law) (fits law);
      hands = λ law n. (let more = outs_begun {E = E} {P = P} old made n client connection (absent law) in omega arith);
      rows = λ law n. (let more = rows_begun {E = E} {P = P} old made n (new_row client connection) (absent law) in let next = below_next made n in omega arith);
    }

-- one step after another
then_does : {E P : Type 0} (old mid new : Rows E P) (made middle after : ℕ) (out more : ℕ → ℕ)
    → Does old mid made middle out zero_each zero_each → Does mid new middle after more zero_each zero_each → Does old new made after (λ n. out n + more n) zero_each zero_each
then_does old mid new made middle after out more one two =
    record {
      law = λ law. two.law (one.law law);
      hands = λ law n. (let a = one.hands law n in let b = two.hands (one.law law) n in omega arith);
      rows = λ law n. (let a = one.rows law n in let b = two.rows (one.law law) n in omega arith);
    }

-- the same, under other names for how often
as_often : {E P : Type 0} (old new : Rows E P) (made after : ℕ) (out taken ended out' taken' ended' : ℕ → ℕ) → Does old new made after out taken ended
    → (DeskLaw old made → (n : ℕ) → out' n ≡ out n) → (DeskLaw old made → (n : ℕ) → taken' n ≡ taken n) → (DeskLaw old made → (n : ℕ) → ended' n ≡ ended n)
    → Does old new made after out' taken' ended'
as_often old new made after out taken ended out' taken' ended' does o t e =
    record {
      law = does.law;
      hands = λ law n. (let h = does.hands law n in let p = o law n in let q = t law n in omega arith);
      rows = λ law n. (let h = does.rows law n in let p = e law n in omega arith);
    }

-- a step may be known from the law that holds before it
as_lawful : {E P : Type 0} (old new : Rows E P) (made after : ℕ) (out : ℕ → ℕ) → (DeskLaw old made → Does old new made after out zero_each zero_each) → Does old new made after out zero_each zero_each
as_lawful old new made after out does =
    record { law = λ law. (does law).law law; hands = λ law n. (does law).hands law n; rows = λ law n. (does law).rows law n }

-- the number of a session in a row
number_in : {E P : Type 0} (rows : Rows E P) (made k : ℕ) (row : Row E P) (session : Session E P) → DeskLaw rows made → HasRow rows k row → session_in row.held_by ≡ Some session → session.identity.number ≡ k
number_in rows made k row session law has inside = ap (λ w. w.number) (law.own k row session has inside)

once_at : {E P : Type 0} (k n : ℕ) (session : Session E P) → session.identity.number ≡ k → once n session ≡ cond (nat_eq k n) 1 0
once_at k n session is = ap (λ t. cond (nat_eq t n) 1 0) is

false_true : false ≡ true → ⊥
false_true e = cc

none_some : {A : Type 0} (a : A) → None ≡ Some a → ⊥
none_some a e = cc

nothing : (b : Bool) → cond {A = ℕ} b 0 0 ≡ 0
nothing true = refl
nothing false = refl

-- an ending session is handed out by a sweep
hands_out : {E P : Type 0} (old new : Rows E P) (made : ℕ) (IsSo : Row E P → Type 0) (held_by : Holder E P) (session : Session E P) → session_in held_by ≡ Some session → out_of held_by ≡ 0
    → HandsOut old IsSo held_by new → Does old new made made (λ n. once n session) zero_each zero_each
hands_out {E} {P} old new made IsSo held_by session inside none h =
    let row = h.oldest.row in
    let within : session_in row.held_by ≡ Some session = ap session_in h.stood ∙ inside in
    subst (λ (r : Rows E P). Does old r made made (λ n. once n session) zero_each zero_each) (sym h.after)
    (as_often old (map.insert old h.number (away row.client)) made made (λ n. cond (nat_eq h.number n) 1 0) (λ n. cond (nat_eq h.number n) 0 0) zero_each (λ n. once n session) zero_each zero_each
    (moves old made h.number row (away row.client) 0 1 h.oldest.has refl (λ e. absurd (false_true e)) (λ law s e. absurd (none_some s e)) (λ law s e. absurd (let f = e in cc)) (let is = ap out_of h.stood ∙ none in omega arith))
    (λ law n. once_at h.number n session (number_in old made h.number row session law h.oldest.has within)) (λ law n. sym (nothing (nat_eq h.number n))) (λ law n. refl))

one_session : {E P : Type 0} (a b : Session E P) → Some a ≡ Some b → a ≡ b
one_session a b e = cc

parked_session : {E P : Type 0} (a b : Session E P) → Parked a ≡ Parked b → a ≡ b
parked_session a b e = cc

-- a lent session is parked
parks : {E P : Type 0} (old : Rows E P) (made connection : ℕ) (row : Row E P) (session kept : Session E P) → IsRowOf old session row (Lent connection) → kept.identity ≡ session.identity
    → kept.window.retired ≡ false
    → Does old (map.insert old session.identity.number (with_holder row (Parked kept))) made made zero_each (λ n. once n session) zero_each
parks old made connection row session kept is same quiet =
    as_often old (map.insert old session.identity.number (with_holder row (Parked kept))) made made (λ n. cond (nat_eq session.identity.number n) 0 0) (λ n. once n session) zero_each zero_each (λ n. once n session) zero_each
    (moves old made session.identity.number row (with_holder row (Parked kept)) 1 0 is.has refl (λ e. ap is_living is.stands)
    (λ law s e. ap (λ t. t.identity) (sym (one_session kept s e)) ∙ same ∙ (λ i. record { number = session.identity.number; client = sym is.its i }))
    (λ law s e. ap (λ t. t.window.retired) (sym (parked_session kept s e)) ∙ quiet)
    (let o = ap out_of is.stands in omega arith))
    (λ law n. sym (nothing (nat_eq session.identity.number n))) (λ law n. refl) (λ law n. refl)

-- a new session of a client that has none
does_begin : {E P : Type 0} (old : Rows E P) (made : ℕ) (client : List ℕ) (connection : ℕ) (session : Session E P) → NoneLivesAs old client → map.len old < most_sessions
    → session ≡ new_session (record { number = made; client = client })
    → Does old (map.insert old made (new_row client connection)) made (made + 1) (λ n. once n session + 0) zero_each zero_each
does_begin old made client connection session none room is =
    as_often old (map.insert old made (new_row client connection)) made (made + 1) (λ n. cond (nat_eq made n) 1 0) zero_each zero_each (λ n. once n session + 0) zero_each zero_each
    (begins old made client connection (λ law. none) (λ law. (let less = living_within old in omega arith)) (λ law. omega arith))
    (λ law n. (let o = once_at made n session (ap (λ s. s.identity.number) is) in omega arith)) (λ law n. refl) (λ law n. refl)

-- where a parked session ends for it
does_begin_over : {E P : Type 0} (old : Rows E P) (made k : ℕ) (client : List ℕ) (connection : ℕ) (row : Row E P) (session ended : Session E P) → HasRow old k row
    → row.held_by ≡ Parked ended → (DeskLaw old made → NoneLivesAs (map.insert old k (away row.client)) client) → map.len old < most_rows → session ≡ new_session (record { number = made; client = client })
    → Does old (map.insert (map.insert old k (away row.client)) made (new_row client connection)) made (made + 1) (λ n. once n session + once n ended) zero_each zero_each
does_begin_over {E} {P} old made k client connection row session ended has stands none fits is =
    let mid : Rows E P = map.insert old k (away row.client) in
    let gives : Does old mid made made (λ n. once n ended) zero_each zero_each = as_often old mid made made (λ n. cond (nat_eq k n) 1 0) (λ n. cond (nat_eq k n) 0 0) zero_each (λ n. once n ended) zero_each zero_each
    (moves old made k row (away row.client) 0 1 has refl (λ e. absurd (false_true e)) (λ law s e. absurd (none_some s e)) (λ law s e. absurd (let f = e in cc)) (let o = ap out_of stands in omega arith))
    (λ law n. once_at k n ended (number_in old made k row ended law has (ap session_in stands))) (λ law n. sym (nothing (nat_eq k n))) (λ law n. refl) in
    let lived : living_row row ≡ 1 = ap (λ (h : Holder E P). cond (is_living h) 1 0) stands in
    as_lawful old (map.insert mid made (new_row client connection)) made (made + 1) (λ n. once n session + once n ended) (λ law.
    as_often old (map.insert mid made (new_row client connection)) made (made + 1) (λ n. once n ended + cond (nat_eq made n) 1 0) zero_each zero_each (λ n. once n session + once n ended) zero_each zero_each
    (then_does old mid (map.insert mid made (new_row client connection)) made made (made + 1) (λ n. once n ended) (λ n. cond (nat_eq made n) 1 0) gives
    (begins mid made client connection (λ _. none law) (λ _. (let moved = living_moved old k row (away row.client) has in let few = law.few in omega arith)) (λ _. (let same = len_same old k row (away row.client) has in omega arith))))
    (λ _ n. (let o = once_at made n session (ap (λ s. s.identity.number) is) in omega arith)) (λ _ n. refl) (λ _ n. refl))

within : {E P : Type 0} (most : ℕ) (rows : Rows E P) → map.len rows < room_for most → map.len rows < most_sessions
within most rows room =
    let less = min-le_right most most_sessions in
    omega arith

pub has_space : {E P : Type 0} (newcomers : Newcomers) (rows : Rows E P) → HasSpace newcomers rows → map.len rows < most_sessions
has_space (IfRoom most) rows room = within most rows room
has_space (Displace most) rows room = within most rows room
has_space Refused rows room = absurd room

-- what a client gets that has no session
does_newcomer : {E P : Type 0} (newcomers : Newcomers) (old new : Books E P) (client : List ℕ) (connection : ℕ) (session : Session E P) (ended : Option (Session E P))
    → Begins newcomers old client connection (Ok (New session ended)) new
    → Does old.rows new.rows old.made new.made (λ n. once n session + once_in n ended) zero_each zero_each
does_newcomer newcomers old new client connection session None h =
    subst (λ b. Does old.rows b.rows old.made b.made (λ n. once n session + 0) zero_each zero_each) (sym h.after)
    (does_begin old.rows old.made client connection session h.none (has_space newcomers old.rows h.room) h.is)
does_newcomer newcomers old new client connection session (Some ended) h =
    let longest = h.goes.longest in
    subst (λ b. Does old.rows b.rows old.made b.made (λ n. once n session + once n ended) zero_each zero_each) (sym h.after)
    (does_begin_over old.rows old.made h.number client connection h.row session ended longest.has longest.stands (λ _. still_none old.rows h.number client h.row.client h.none) h.fits h.is)

along : {E P : Type 0} (old new target : Books E P) (out taken ended : ℕ → ℕ) → new ≡ target → Does old.rows target.rows old.made target.made out taken ended
    → Does old.rows new.rows old.made new.made out taken ended
along {E} {P} old new target out taken ended same does = subst (λ (b : Books E P). Does old.rows b.rows old.made b.made out taken ended) (sym same) does

unchanged : {E P : Type 0} (old new : Books E P) (both : ℕ → ℕ) → new ≡ old → Does old.rows new.rows old.made new.made both both zero_each
unchanged old new both same = along old new old both both zero_each same (stays old.rows old.rows old.made both refl)

-- what is handed back was handed in
handed_back : {E P : Type 0} (old new : Books E P) (session back : Session E P) → back ≡ session → new ≡ old
    → Does old.rows new.rows old.made new.made (λ n. once n back) (λ n. once n session) zero_each
handed_back old new session back is same =
    as_often old.rows new.rows old.made new.made (λ n. once n session) (λ n. once n session) zero_each (λ n. once n back) (λ n. once n session) zero_each
    (unchanged old new (λ n. once n session) same) (λ law n. ap (once n) is) (λ law n. refl) (λ law n. refl)

-- a lent session ends in its caller's hands
ends : {E P : Type 0} (old new : Books E P) (session back : Session E P) → back ≡ session → EndsLent old session new
    → Does old.rows new.rows old.made new.made (λ n. once n back) (λ n. once n session) zero_each
ends old new session back is h =
    let row = h.lent.row in
    let k = session.identity.number in
    along old new (with_rows old (map.insert old.rows k (away row.client))) (λ n. once n back) (λ n. once n session) zero_each h.after
    (as_often old.rows (map.insert old.rows k (away row.client)) old.made old.made (λ n. cond (nat_eq k n) 1 0) (λ n. once n session) zero_each (λ n. once n back) (λ n. once n session) zero_each
    (moves old.rows old.made k row (away row.client) 1 1 h.lent.is_row.has refl (λ e. absurd (false_true e)) (λ law s e. absurd (none_some s e)) (λ law s e. absurd (let f = e in cc)) (let o = ap out_of h.lent.is_row.stands in omega arith))
    (λ law n. ap (once n) is) (λ law n. refl) (λ law n. refl))

-- for a client with an identifier
does_client : {E P : Type 0} (newcomers : Newcomers) (old new : Books E P) (client : List ℕ) (request : Request) (answer : Result (Attached E P) DeskError) → AttachesClient newcomers old client request answer new
    → Does old.rows new.rows old.made new.made (λ n. attached_out n answer) zero_each zero_each
does_client newcomers old new client request (Ok (New session None)) h = does_newcomer newcomers old new client request.connection session None h
does_client newcomers old new client request (Ok (New session (Some ended))) (inl h) =
    subst (λ b. Does old.rows b.rows old.made b.made (λ n. once n session + once n ended) zero_each zero_each) (sym h.after)
    (does_begin_over old.rows old.made h.number client request.connection h.row session ended h.its.has h.its.stands
    (λ law. subst (NoneLivesAs (map.insert old.rows h.number (away h.row.client))) h.its.its (none_lives old.rows old.made h.number h.row law h.its.has (ap is_living h.its.stands))) h.fits h.is)
does_client newcomers old new client request (Ok (New session (Some ended))) (inr h) = does_newcomer newcomers old new client request.connection session (Some ended) h
does_client newcomers old new client request (Ok (Resumed session)) h =
    let after = with_holder h.row (Lent request.connection) in
    subst (λ b. Does old.rows b.rows old.made b.made (λ n. once n session) zero_each zero_each) (sym h.after)
    (as_often old.rows (map.insert old.rows h.number after) old.made old.made (λ n. cond (nat_eq h.number n) 1 0) (λ n. cond (nat_eq h.number n) 0 0) zero_each (λ n. once n session) zero_each zero_each
    (moves old.rows old.made h.number h.row after 0 1 h.its.has refl (λ e. ap is_living h.its.stands) (λ law s e. absurd (none_some s e)) (λ law s e. absurd (let f = e in cc)) (let o = ap out_of h.its.stands in omega arith))
    (λ law n. once_at h.number n session (number_in old.rows old.made h.number h.row session law h.its.has (ap session_in h.its.stands))) (λ law n. sym (nothing (nat_eq h.number n))) (λ law n. refl))
does_client newcomers old new client request (Ok (Replace holder)) h =
    let after = with_wait h.row request.connection in
    subst (λ b. Does old.rows b.rows old.made b.made zero_each zero_each zero_each) (sym h.after)
    (as_often old.rows (map.insert old.rows h.number after) old.made old.made (λ n. cond (nat_eq h.number n) 0 0) (λ n. cond (nat_eq h.number n) 0 0) zero_each zero_each zero_each zero_each
    (moves old.rows old.made h.number h.row after 0 0 h.its.has refl (λ e. e) (λ law s e. law.own h.number h.row s h.its.has e) (λ law s e. law.not_ending h.number h.row s h.its.has e) refl)
    (λ law n. sym (nothing (nat_eq h.number n))) (λ law n. sym (nothing (nat_eq h.number n))) (λ law n. refl))
does_client newcomers old new client request (Ok Busy) h = unchanged old new zero_each h.1
does_client newcomers old new client request (Err Full) h = unchanged old new zero_each h.2
does_client newcomers old new client request (Err Memory) h = unchanged old new zero_each h.1
does_client newcomers old new client request (Err NoPlace) h = absurd h
does_client newcomers old new client request (Err NoName) h = absurd h

-- for one without
does_unnamed : {E P : Type 0} (newcomers : Newcomers) (old new : Books E P) (request : Request) (answer : Result (Attached E P) DeskError) → AttachesUnnamed newcomers old request.connection answer new
    → Does old.rows new.rows old.made new.made (λ n. attached_out n answer) zero_each zero_each
does_unnamed newcomers old new request (Ok (New session ended)) h =
    subst (λ b. Does old.rows b.rows old.made b.made (λ n. once n session + once_in n ended) zero_each zero_each) (sym h.after)
    (does_newcomer newcomers old h.mid (assigned_name h.number) request.connection session ended h.begins)
does_unnamed newcomers old new request (Ok (Resumed session)) h = absurd h
does_unnamed newcomers old new request (Ok (Replace holder)) h = absurd h
does_unnamed newcomers old new request (Ok Busy) h = absurd h
does_unnamed newcomers old new request (Err Full) h = unchanged old new zero_each h.2
does_unnamed newcomers old new request (Err Memory) h = unchanged old new zero_each h.2
does_unnamed newcomers old new request (Err NoPlace) h = absurd h
does_unnamed newcomers old new request (Err NoName) h = unchanged old new zero_each h.1

does_attach : {E P : Type 0} (newcomers : Newcomers) (client : List ℕ) (old new : Books E P) (request : Request) (answer : Result (Attached E P) DeskError) → attaches_by newcomers client old request answer new
    → Does old.rows new.rows old.made new.made (λ n. attached_out n answer) zero_each zero_each
does_attach newcomers [] old new request answer h = does_unnamed newcomers old new request answer h
does_attach newcomers (byte ∷ bytes) old new request answer h = does_client newcomers old new (byte ∷ bytes) request answer h

module _ {P : Type 0} (cell : P → ℕ) where
  -- each call
  does_call : {E : Type 0} (old new : Books E P) (call : Call E P) → IsAllowed call → Makes cell old call new
      → Does old.rows new.rows old.made new.made (λ n. handed_out n call) (λ n. handed_in n call) (λ n. buried n call)
  does_call old new (Attach newcomers request answer) may made = does_attach newcomers request.client old new request answer made
  does_call old new (Withdraw connection) may made = subst (λ b. Does old.rows b.rows old.made b.made zero_each zero_each zero_each) (sym made) (stays old.rows old.rows old.made zero_each refl)
  does_call old new (Kicked connection answer) may made = unchanged old new zero_each made.1
  does_call old new (Park session now None) may made =
      subst (λ b. Does old.rows b.rows old.made b.made zero_each (λ n. once n session) zero_each) (sym made.after)
      (parks old.rows old.made made.lent.connection made.lent.row session (parked_at session now) made.lent.is_row refl may)
  does_call {E} old new (Park session now (Some back)) may made =
      ⊎_elim
      (λ (h : EndsLent old session new). ends old new session back made.0 h)
      (λ (h : (IsLent old session → ⊥) × (new ≡ old)). handed_back old new session back made.0 h.1)
      made.1
  does_call old new (ParkAsIs session None) may made =
      subst (λ b. Does old.rows b.rows old.made b.made zero_each (λ n. once n session) zero_each) (sym made.after)
      (parks old.rows old.made made.lent.connection made.lent.row session session made.lent.is_row refl may)
  does_call old new (ParkAsIs session (Some back)) may made = handed_back old new session back made.0 made.2
  does_call old new (Keep session None) may made =
      let row = made.gone.row in
      let is = made.gone.is_row in
      let k = session.identity.number in
      let after = with_holder row (Kept session) in
      subst (λ b. Does old.rows b.rows old.made b.made zero_each (λ n. once n session) zero_each) (sym made.after)
      (as_often old.rows (map.insert old.rows k after) old.made old.made (λ n. cond (nat_eq k n) 0 0) (λ n. once n session) zero_each zero_each (λ n. once n session) zero_each
      (moves old.rows old.made k row after 1 0 is.has refl (λ e. absurd (false_true e))
      (λ law s e. ap (λ t. t.identity) (sym (one_session session s e)) ∙ (λ i. record { number = k; client = sym is.its i }))
      (λ law s e. absurd (let f = e in cc)) (let o = ap out_of is.stands in omega arith))
      (λ law n. sym (nothing (nat_eq k n))) (λ law n. refl) (λ law n. refl))
  does_call old new (Keep session (Some back)) may made = handed_back old new session back made.0 made.2
  does_call old new (Bury session None) may made =
      let is = made.0.gone.is_row in
      let k = session.identity.number in
      subst (λ b. Does old.rows b.rows old.made b.made zero_each (λ n. once n session) (λ n. once n session)) (sym made.1)
      (record {
        law = λ law. law_removed old.rows old.made k made.0.gone.row law is.has;
        hands = λ law n. (let gone = outs_removed old.rows k n made.0.gone.row is.has is.stands in omega arith);
        rows = λ law n. (let gone = rows_removed old.rows k n made.0.gone.row is.has in omega arith);
      })
  does_call old new (Bury session (Some back)) may made = handed_back old new session back made.0 made.2
  does_call {E} old new (Sweep now None) may made =
      subst (λ b. Does old.rows b.rows old.made b.made zero_each zero_each zero_each) (sym made.2) (stays old.rows made.0 old.made zero_each made.1.2)
  does_call {E} old new (Sweep now (Some session)) may made =
      subst (λ b. Does old.rows b.rows old.made b.made (λ n. once n session) zero_each zero_each) (sym made.2)
      (
      ⊎_elim
      (λ (h : HandsOut old.rows IsKept (Kept session) made.0). hands_out old.rows made.0 old.made IsKept (Kept session) session refl refl h)
      (λ (h : NoRow old.rows IsKept × HandsOut old.rows (IsOverdue now) (Parked session) made.0). hands_out old.rows made.0 old.made (IsOverdue now) (Parked session) session refl refl h.1)
      made.1
      )
  does_call old new (LendPlace slot answer) may made = subst (λ b. Does old.rows b.rows old.made b.made zero_each zero_each zero_each) (sym made.2) (stays old.rows old.rows old.made zero_each refl)
  does_call old new (TakePlace place answer) may made = subst (λ b. Does old.rows b.rows old.made b.made zero_each zero_each zero_each) (sym made.2) (stays old.rows old.rows old.made zero_each refl)

  -- all calls
  pub law_all : {E : Type 0} (old new : Books E P) (calls : List (Call E P)) → DeskLaw old.rows old.made → MakesAll cell old calls new → DeskLaw new.rows new.made
  law_all {E} old new [] law made = subst (λ (b : Books E P). DeskLaw b.rows b.made) (sym made) law
  law_all old new (call ∷ calls) law made = law_all made.1.0 new calls ((does_call old made.1.0 call made.0 made.1.1).law law) made.1.2

  pub hands_all : {E : Type 0} (old new : Books E P) (calls : List (Call E P)) (n : ℕ) → DeskLaw old.rows old.made → MakesAll cell old calls new
      → outs new.rows n + total (handed_in n) calls ≡ outs old.rows n + total (handed_out n) calls
  hands_all old new [] n law made = ap (λ b. outs b.rows n + 0) made
  hands_all old new (call ∷ calls) n law made =
      let does = does_call old made.1.0 call made.0 made.1.1 in
      let one = does.hands law n in
      let rest = hands_all made.1.0 new calls n (does.law law) made.1.2 in
      omega arith

  pub rows_all : {E : Type 0} (old new : Books E P) (calls : List (Call E P)) (n : ℕ) → DeskLaw old.rows old.made → MakesAll cell old calls new
      → rows_of new.rows n + total (buried n) calls + below n old.made ≡ rows_of old.rows n + below n new.made
  rows_all old new [] n law made = (let rows = ap (λ b. rows_of b.rows n) made in let below = ap (λ b. below n b.made) made in omega arith)
  rows_all old new (call ∷ calls) n law made =
      let does = does_call old made.1.0 call made.0 made.1.1 in
      let one = does.rows law n in
      let rest = rows_all made.1.0 new calls n (does.law law) made.1.2 in
      omega arith

pub no_row : {E P : Type 0} (n : ℕ) (row : Row E P) → HasRow (map.empty {R = nat_cmp}) n row → ⊥
no_row {E} {P} n row has = let none = get-empty {X = Row E P} nat_cmp n in cc

-- a new desk keeps the law
pub law_new : {E P : Type 0} → DeskLaw {E = E} {P = P} map.empty 0
law_new {E} {P} =
    record {
      few = (let none = none_living E P in omega arith);
      fit = (let none = len-empty nat_cmp (Row E P) in omega arith);
      made_before = λ n row has. absurd (no_row n row has);
      one_each = λ n m row their has here living alive same. absurd (no_row n row has);
      own = λ n row session has inside. absurd (no_row n row has);
      not_ending = λ n row session has is. absurd (no_row n row has);
    }

pub none_below : (n : ℕ) → below n 0 ≡ 0
none_below n = ap (λ (b : Bool). cond {A = ℕ} b 1 0) (le-ltb n 0 (omega arith))
