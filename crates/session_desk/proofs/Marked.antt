-- The marks of connections: what one call does to them, and then what all calls do.
use Rattle.std.proofs.Common.{◌≡◌, ◌≢◌, ◌⊎◌, ◌↔◌, ℕ, ◌<◌, Bool, true, false, List, [], ◌∷◌, length, get_or, slice_get, slice_set, replicate, Some, None, Result, Ok, Err, refl, sym, ap, ◌∙◌, subst, inl, inr, ⊎_elim, arith}
use Rattle.std.proofs.lemmas.Bool.{cases_eq}
use Rattle.std.proofs.lemmas.List.{get_or-set_same, get_or-set_other, length-set, get_or-replicate, length-replicate}
use Rattle.std.proofs.lemmas.Option.{slice_get-get_or}
use Rattle.session_desk.specs.declared.attached.Attached.{Attached}
use Rattle.session_desk.specs.declared.attached.Attached.TheVariants.{New, Resumed, Replace, Busy}
use Rattle.session_desk.specs.declared.error.DeskError.{DeskError}
use Rattle.session_desk.specs.declared.error.DeskError.TheVariants.{Full, NoPlace, Memory, NoName}
use Rattle.session_desk.specs.Books.{Books, IsKicked}
use Rattle.session_desk.specs.Keeping.{EndsLent, IsLent}
use Rattle.session_desk.specs.declared.newcomers.Newcomers.{Newcomers}
use Rattle.session_desk.specs.Attaching.{Request, AttachesClient, AttachesUnnamed, attaches_by}
use Rattle.session_desk.specs.Calls.{Call, Attach, Withdraw, Kicked, Park, ParkAsIs, Keep, Bury, Sweep, LendPlace, TakePlace, Makes, MakesAll}
use Rattle.session_desk.specs.AskedBack.{LendsTo, AsksBack, NoneLends, IsAskedBack}

-- the marks after an answer to this connection
abbrev marks_by : {E P : Type 0} → List Bool → ℕ → Result (Attached E P) DeskError → List Bool
marks_by marks connection (Ok (New session ended)) = slice_set marks connection false
marks_by marks connection (Ok (Resumed session)) = slice_set marks connection false
marks_by marks connection (Ok (Replace holder)) = slice_set marks holder true
marks_by marks connection (Ok Busy) = marks
marks_by marks connection (Err error) = marks

abbrev marks_after : {E P : Type 0} → List Bool → Call E P → List Bool
marks_after marks (Attach newcomers request answer) = marks_by marks request.connection answer
marks_after marks _ = marks

by_client : {E P : Type 0} (newcomers : Newcomers) (old new : Books E P) (client : List ℕ) (request : Request) (answer : Result (Attached E P) DeskError) → AttachesClient newcomers old client request answer new
    → new.kicked ≡ marks_by old.kicked request.connection answer
by_client newcomers old new client request (Ok (New session None)) h = ap (λ b. b.kicked) h.after
by_client newcomers old new client request (Ok (New session (Some ended))) (inl h) = ap (λ b. b.kicked) h.after
by_client newcomers old new client request (Ok (New session (Some ended))) (inr h) = ap (λ b. b.kicked) h.after
by_client newcomers old new client request (Ok (Resumed session)) h = ap (λ b. b.kicked) h.after
by_client newcomers old new client request (Ok (Replace holder)) h = ap (λ b. b.kicked) h.after
by_client newcomers old new client request (Ok Busy) h = ap (λ b. b.kicked) h.1
by_client newcomers old new client request (Err Full) h = ap (λ b. b.kicked) h.2
by_client newcomers old new client request (Err Memory) h = ap (λ b. b.kicked) h.1
by_client newcomers old new client request (Err NoPlace) h = absurd h
by_client newcomers old new client request (Err NoName) h = absurd h

by_unnamed : {E P : Type 0} (newcomers : Newcomers) (old new : Books E P) (connection : ℕ) (answer : Result (Attached E P) DeskError) → AttachesUnnamed newcomers old connection answer new
    → new.kicked ≡ marks_by old.kicked connection answer
by_unnamed newcomers old new connection (Ok (New session None)) h = ap (λ b. b.kicked) h.after ∙ ap (λ b. b.kicked) h.begins.after
by_unnamed newcomers old new connection (Ok (New session (Some ended))) h = ap (λ b. b.kicked) h.after ∙ ap (λ b. b.kicked) h.begins.after
by_unnamed newcomers old new connection (Ok (Resumed session)) h = absurd h
by_unnamed newcomers old new connection (Ok (Replace holder)) h = absurd h
by_unnamed newcomers old new connection (Ok Busy) h = absurd h
by_unnamed newcomers old new connection (Err Full) h = ap (λ b. b.kicked) h.2
by_unnamed newcomers old new connection (Err Memory) h = ap (λ b. b.kicked) h.2
by_unnamed newcomers old new connection (Err NoPlace) h = absurd h
by_unnamed newcomers old new connection (Err NoName) h = ap (λ b. b.kicked) h.1

by_attach : {E P : Type 0} (newcomers : Newcomers) (client : List ℕ) (old new : Books E P) (request : Request) (answer : Result (Attached E P) DeskError) → attaches_by newcomers client old request answer new
    → new.kicked ≡ marks_by old.kicked request.connection answer
by_attach newcomers [] old new request answer h = by_unnamed newcomers old new request.connection answer h
by_attach newcomers (byte ∷ bytes) old new request answer h = by_client newcomers old new (byte ∷ bytes) request answer h

-- a mark that is written is there, and each other stays
written : (marks : List Bool) (at connection : ℕ) (mark : Bool) → connection < length marks
    → ((at ≡ connection) × (slice_get (slice_set marks at mark) connection ≡ Some mark)) ⊎ ((at ≢ connection) × (slice_get (slice_set marks at mark) connection ≡ slice_get marks connection))
written marks at connection mark within =
    let before = slice_get-get_or marks connection false within in
    let after = slice_get-get_or (slice_set marks at mark) connection false (let same = length-set marks at mark in omega arith) in
    ⊎_elim
    (λ (here : at ≡ connection). inl (here, after ∙ ap Some (subst (λ (k : ℕ). get_or (slice_set marks at mark) k false ≡ mark) here (get_or-set_same marks at mark false (let e = here in omega arith)))))
    (λ (other : at ≡ connection → ⊥). inr (other, after ∙ ap Some (get_or-set_other marks at connection mark false (λ e. other (sym e))) ∙ sym before))
    (cases_eq at connection)

some_false : Some false ≡ Some true → ⊥
some_false e = cc

abbrev IsMarked : List Bool → ℕ → Type 0
IsMarked marks connection = slice_get marks connection ≡ Some true

-- after an answer
marked_by : {E P : Type 0} (newcomers : Newcomers) (marks : List Bool) (request : Request) (connection : ℕ) (answer : Result (Attached E P) DeskError) → connection < length marks
    → IsMarked (marks_by marks request.connection answer) connection
    ↔ (AsksBack {E = E} {P = P} connection (Attach newcomers request answer) ⊎ (IsMarked marks connection × ¬ LendsTo {E = E} {P = P} connection (Attach newcomers request answer)))
marked_by newcomers marks request connection (Ok (New session ended)) within =
    ⊎_elim
    (λ here. (λ is. absurd (some_false (sym here.1 ∙ is)), λ h. ⊎_elim (λ never. absurd never) (λ was. absurd (was.1 (here.0, tt))) h))
    (λ other. (λ is. inr (sym other.1 ∙ is, λ lends. other.0 lends.0), λ h. ⊎_elim (λ never. absurd never) (λ was. other.1 ∙ was.0) h))
    (written marks request.connection connection false within)
marked_by newcomers marks request connection (Ok (Resumed session)) within =
    ⊎_elim
    (λ here. (λ is. absurd (some_false (sym here.1 ∙ is)), λ h. ⊎_elim (λ never. absurd never) (λ was. absurd (was.1 (here.0, tt))) h))
    (λ other. (λ is. inr (sym other.1 ∙ is, λ lends. other.0 lends.0), λ h. ⊎_elim (λ never. absurd never) (λ was. other.1 ∙ was.0) h))
    (written marks request.connection connection false within)
marked_by newcomers marks request connection (Ok (Replace holder)) within =
    ⊎_elim
    (λ here. (λ is. inl here.0, λ h. here.1))
    (λ other. (λ is. inr (sym other.1 ∙ is, λ lends. lends.1), λ h. ⊎_elim (λ holds. absurd (other.0 holds)) (λ was. other.1 ∙ was.0) h))
    (written marks holder connection true within)
marked_by newcomers marks request connection (Ok Busy) within = (λ is. inr (is, λ lends. lends.1), λ h. ⊎_elim (λ never. absurd never) (λ was. was.0) h)
marked_by newcomers marks request connection (Err error) within = (λ is. inr (is, λ lends. lends.1), λ h. ⊎_elim (λ never. absurd never) (λ was. was.0) h)

marked_call : {E P : Type 0} (marks : List Bool) (call : Call E P) (connection : ℕ) → connection < length marks
    → IsMarked (marks_after marks call) connection ↔ (AsksBack connection call ⊎ (IsMarked marks connection × ¬ LendsTo connection call))
marked_call marks (Attach newcomers request answer) connection within = marked_by newcomers marks request connection answer within
marked_call marks _ connection within = (λ is. inr (is, λ lends. lends), λ h. ⊎_elim (λ never. absurd never) (λ was. was.0) h)

length_by : {E P : Type 0} (marks : List Bool) (connection : ℕ) (answer : Result (Attached E P) DeskError) → length (marks_by marks connection answer) ≡ length marks
length_by marks connection (Ok (New session ended)) = length-set marks connection false
length_by marks connection (Ok (Resumed session)) = length-set marks connection false
length_by marks connection (Ok (Replace holder)) = length-set marks holder true
length_by marks connection (Ok Busy) = refl
length_by marks connection (Err error) = refl

length_after : {E P : Type 0} (marks : List Bool) (call : Call E P) → length (marks_after marks call) ≡ length marks
length_after marks (Attach newcomers request answer) = length_by marks request.connection answer
length_after marks _ = refl

module _ {P : Type 0} (cell : P → ℕ) where
  -- each call
  marks_of : {E : Type 0} (old new : Books E P) (call : Call E P) → Makes cell old call new → new.kicked ≡ marks_after old.kicked call
  marks_of old new (Attach newcomers request answer) made = by_attach newcomers request.client old new request answer made
  marks_of old new (Withdraw connection) made = ap (λ b. b.kicked) made
  marks_of old new (Kicked connection answer) made = ap (λ b. b.kicked) made.1
  marks_of old new (Park session now None) made = ap (λ b. b.kicked) made.after
  marks_of old new (Park session now (Some back)) made =
      ⊎_elim (λ (h : EndsLent old session new). ap (λ b. b.kicked) h.after) (λ (h : (IsLent old session → ⊥) × (new ≡ old)). ap (λ b. b.kicked) h.1) made.1
  marks_of old new (ParkAsIs session None) made = ap (λ b. b.kicked) made.after
  marks_of old new (ParkAsIs session (Some back)) made = ap (λ b. b.kicked) made.2
  marks_of old new (Keep session None) made = ap (λ b. b.kicked) made.after
  marks_of old new (Keep session (Some back)) made = ap (λ b. b.kicked) made.2
  marks_of old new (Bury session None) made = ap (λ b. b.kicked) made.1
  marks_of old new (Bury session (Some back)) made = ap (λ b. b.kicked) made.2
  marks_of old new (Sweep now answer) made = ap (λ b. b.kicked) made.2
  marks_of old new (LendPlace slot answer) made = ap (λ b. b.kicked) made.2
  marks_of old new (TakePlace place answer) made = ap (λ b. b.kicked) made.2

  -- all calls
  pub marked_all : {E : Type 0} (old new : Books E P) (calls : List (Call E P)) (connection : ℕ) → connection < length old.kicked → MakesAll cell old calls new
      → IsKicked new connection ↔ (IsAskedBack connection calls ⊎ (IsKicked old connection × NoneLends connection calls))
  marked_all old new [] connection within made =
      (λ is. inr (subst (λ b. IsKicked b connection) made is, tt), λ h. ⊎_elim (λ never. absurd never) (λ was. subst (λ b. IsKicked b connection) (sym made) was.0) h)
  marked_all old new (call ∷ calls) connection within made =
      let after = marks_of old made.1.0 call made.1.1 in
      let one = marked_call old.kicked call connection within in
      let rest = marked_all made.1.0 new calls connection (let same = ap length after ∙ length_after old.kicked call in omega arith) made.1.2 in
      let now = λ (is : IsMarked made.1.0.kicked connection). one.0 (subst (λ marks. IsMarked marks connection) after is) in
      let then = λ (is : AsksBack connection call ⊎ (IsKicked old connection × ¬ LendsTo connection call)). subst (λ marks. IsMarked marks connection) (sym after) (one.1 is) in (
        λ is. ⊎_elim
            (λ later. inl (inr later))
            (λ was. ⊎_elim (λ asks. inl (inl (asks, was.1))) (λ kept. inr (kept.0, (kept.1, was.1))) (now was.0))
            (rest.0 is),
        λ h. ⊎_elim
            (λ by. ⊎_elim (λ asks. rest.1 (inr (then (inl asks.0), asks.1))) (λ later. rest.1 (inl later)) by)
            (λ was. rest.1 (inr (then (inr (was.0, was.1.0)), was.1.1)))
            h,
      )

-- none is marked at a new desk
pub none_marked : (connection : ℕ) → connection < 1024 → slice_get (replicate 1024 false) connection ≡ Some true → ⊥
none_marked connection within is =
    let blank = slice_get-get_or (replicate 1024 false) connection false (let all = length-replicate 1024 false in omega arith) ∙ ap Some (get_or-replicate 1024 connection false false within) in
    some_false (sym blank ∙ is)
