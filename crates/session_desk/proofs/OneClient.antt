-- A connection that asks for a session has one answer.
use Rattle.std.proofs.Common.{◌≡◌, ◌≢◌, ℕ, ◌<◌, ◌≤◌, true, List, [], ◌∷◌, Option, Some, None, Result, Ok, Err, refl, sym, ap, ◌∙◌, subst, ⊎_elim, inl, inr, arith}
use Rattle.std.specs.FinMap as map
use Rattle.std.proofs.lemmas.Bool.{cases_lt}
use Rattle.std.proofs.lemmas.Option.{same_Some}
use Rattle.session_desk.specs.declared.attached.Attached.{Attached}
use Rattle.session_desk.specs.declared.attached.Attached.TheVariants.{New, Resumed, Replace, Busy}
use Rattle.session_desk.specs.declared.error.DeskError.{DeskError}
use Rattle.session_desk.specs.declared.error.DeskError.TheVariants.{Full, NoPlace, Memory, NoName}
use Rattle.session_desk.specs.declared.session.Session.{Session}
use Rattle.session_desk.specs.declared.row.Row.{Row}
use Rattle.session_desk.specs.declared.row.Holder.{Holder}
use Rattle.session_desk.specs.declared.row.Holder.TheVariants.{Lent, Parked}
use Rattle.session_desk.specs.Rows.{Rows, NoneLivesAs, is_living}
use Rattle.session_desk.specs.Names.{assigned_name, IsNextName, NoNameLeft}
use Rattle.session_desk.specs.Books.{Books, after_new, after_name, after_lend, after_replace, after_end}
use Rattle.session_desk.specs.Hands.{DeskLaw}
use Rattle.session_desk.specs.Sessions.{parked_from}
use Rattle.session_desk.specs.Idle.{IsParkedLongest}
use Rattle.session_desk.specs.declared.newcomers.Newcomers.{Newcomers}
use Rattle.session_desk.specs.Newcomers.{HasRoom, HasSpace, BeginsFirst, Displaces, Begins, room_for}
use Rattle.session_desk.specs.Attaching.{Request, IsClients, IsStale, BeginsOver, Resumes, Replaces, IsBusy, Names, AttachesClient, AttachesUnnamed, attaches_by}

-- the same answer, and the same books after it
abbrev pub AreOne : {A E P : Type 0} → A → A → Books E P → Books E P → Type 0
AreOne x y new new' = (x ≡ y) × (new ≡ new')

pub same_books : {E P : Type 0} (old new new' : Books E P) → new ≡ old → new' ≡ old → new ≡ new'
same_books old new new' is is' = is ∙ sym is'

pub parked_is : {E P : Type 0} (a b : Session E P) → Parked a ≡ Parked b → a ≡ b
parked_is a b e = cc

lent_is : {E P : Type 0} (a b : ℕ) → ◌≡◌ {A = Holder E P} (Lent a) (Lent b) → a ≡ b
lent_is a b e = cc

parked_not_lent : {E P : Type 0} (a : Session E P) (b : ℕ) → Parked a ≡ Lent b → ⊥
parked_not_lent a b e = cc

module _ {E P : Type 0} (old : Books E P) (client : List ℕ) where
  none_is : (n : ℕ) (row : Row E P) (s : Holder E P) → NoneLivesAs old.rows client → IsClients old client n row s → is_living s ≡ true → ⊥
  none_is n row s none is lives = none n row is.has (record { its = is.its; living = ap is_living is.stands ∙ lives })

-- of the idle sessions one has been parked longest
longest_is : {E P : Type 0} (rows : Rows E P) (n m : ℕ) (row their : Row E P) (a b : Session E P) → IsParkedLongest rows n row a → IsParkedLongest rows m their b → n ≡ m
longest_is rows n m row their a b is also =
    ⊎_elim
    (λ (sooner : parked_from a.expiry < parked_from b.expiry).
    ⊎_elim
    (λ (later : parked_from b.expiry < parked_from a.expiry). absurd (omega arith))
    (λ (later : (parked_from b.expiry ≡ parked_from a.expiry) × (m ≤ n)). absurd (let e = later.0 in omega arith))
    (also.longest n row a is.has is.stands is.idle))
    (λ (sooner : (parked_from a.expiry ≡ parked_from b.expiry) × (n ≤ m)).
    ⊎_elim
    (λ (later : parked_from b.expiry < parked_from a.expiry). absurd (let e = sooner.0 in omega arith))
    (λ (later : (parked_from b.expiry ≡ parked_from a.expiry) × (m ≤ n)). (let less = sooner.1 in let more = later.1 in omega arith))
    (also.longest n row a is.has is.stands is.idle))
    (is.longest m their b also.has also.stands also.idle)

module _ {E P : Type 0} (newcomers : Newcomers) (old : Books E P) (client : List ℕ) (connection : ℕ) where
  displaced_twice : (a b x y : Session E P) (new new' : Books E P) → Displaces newcomers old client connection a x new → Displaces newcomers old client connection b y new'
      → AreOne {A = Result (Attached E P) DeskError} (Ok (New a (Some x))) (Ok (New b (Some y))) new new'
  displaced_twice a b x y new new' h k =
      let n = longest_is old.rows h.number k.number h.row k.row x y h.goes.longest k.goes.longest in
      let r = same_Some h.row k.row (sym h.goes.longest.has ∙ ap (map.get old.rows) n ∙ k.goes.longest.has) in
      let s : a ≡ b = h.is ∙ sym k.is in
      let e : x ≡ y = parked_is x y (sym h.goes.longest.stands ∙ ap (λ row. row.held_by) r ∙ k.goes.longest.stands) in
      (λ i. Ok (New (s i) (Some (e i))), h.after ∙ (λ i. after_new (after_end old (n i) (r i)) client connection) ∙ sym k.after)

  first_twice : (a b : Session E P) (new new' : Books E P) → BeginsFirst newcomers old client connection a new → BeginsFirst newcomers old client connection b new'
      → AreOne {A = Result (Attached E P) DeskError} (Ok (New a None)) (Ok (New b None)) new new'
  first_twice a b new new' h k = (ap (λ s. Ok (New s None)) (h.is ∙ sym k.is), h.after ∙ sym k.after)

  first_displaced : {A : Type 0} (a b x : Session E P) (new new' : Books E P) → BeginsFirst newcomers old client connection a new → Displaces newcomers old client connection b x new' → A
  first_displaced a b x new new' h k =
      let less : map.len old.rows < room_for k.goes.most = subst (λ newcomers. HasSpace newcomers old.rows) k.goes.displaces h.room in
      absurd (let full = k.goes.full in omega arith)

  displaced_full : {A : Type 0} (a x : Session E P) (new : Books E P) → Displaces newcomers old client connection a x new → ¬ HasRoom newcomers old.rows → A
  displaced_full a x new h full = absurd (full (inr (h.number, (h.row, x, h.goes))))

  -- what a client gets that has none: each answer rules the others out
  one_newcomer : (a b : Session E P) (x y : Option (Session E P)) (new new' : Books E P) → Begins newcomers old client connection (Ok (New a x)) new → Begins newcomers old client connection (Ok (New b y)) new'
      → AreOne {A = Result (Attached E P) DeskError} (Ok (New a x)) (Ok (New b y)) new new'
  one_newcomer a b None None new new' h k = first_twice a b new new' h k
  one_newcomer a b None (Some y) new new' h k = first_displaced a b y new new' h k
  one_newcomer a b (Some x) None new new' h k = first_displaced b a x new' new k h
  one_newcomer a b (Some x) (Some y) new new' h k = displaced_twice a b x y new new' h k

  newcomer_full : {A : Type 0} (a : Session E P) (x : Option (Session E P)) (new : Books E P) → Begins newcomers old client connection (Ok (New a x)) new → ¬ HasRoom newcomers old.rows → A
  newcomer_full a None new h full = absurd (full (inl h.room))
  newcomer_full a (Some x) new h full = displaced_full a x new h full

module _ {E P : Type 0} (newcomers : Newcomers) (old : Books E P) (law : DeskLaw old.rows old.made) (client : List ℕ) where
  -- a client has one row that is lent or parked
  one_number : (n m : ℕ) (row their : Row E P) (s t : Holder E P) → IsClients old client n row s → IsClients old client m their t → is_living s ≡ true → is_living t ≡ true → n ≡ m
  one_number n m row their s t is also lives living =
      law.one_each n m row their is.has also.has (ap is_living is.stands ∙ lives) (ap is_living also.stands ∙ living) (is.its ∙ sym also.its)

  one_row : (n m : ℕ) (row their : Row E P) (s t : Holder E P) → IsClients old client n row s → IsClients old client m their t → n ≡ m → row ≡ their
  one_row n m row their s t is also same = same_Some row their (sym is.has ∙ ap (map.get old.rows) same ∙ also.has)

  same_holder : (n m : ℕ) (row their : Row E P) (s t : Holder E P) → IsClients old client n row s → IsClients old client m their t → is_living s ≡ true → is_living t ≡ true → s ≡ t
  same_holder n m row their s t is also lives living =
      sym is.stands ∙ ap (λ r. r.held_by) (one_row n m row their s t is also (one_number n m row their s t is also lives living)) ∙ also.stands

  one_session : (n m : ℕ) (row their : Row E P) (a b : Session E P) → IsClients old client n row (Parked a) → IsClients old client m their (Parked b) → a ≡ b
  one_session n m row their a b is also = parked_is a b (same_holder n m row their (Parked a) (Parked b) is also refl refl)

  one_holder : (n m : ℕ) (row their : Row E P) (a b : ℕ) → IsClients old client n row (Lent a) → IsClients old client m their (Lent b) → a ≡ b
  one_holder n m row their a b is also = lent_is {E = E} {P = P} a b (same_holder n m row their (Lent a) (Lent b) is also refl refl)

  not_both : {A : Type 0} (n m : ℕ) (row their : Row E P) (a : Session E P) (b : ℕ) → IsClients old client n row (Parked a) → IsClients old client m their (Lent b) → A
  not_both n m row their a b is also = absurd (parked_not_lent a b (same_holder n m row their (Parked a) (Lent b) is also refl refl))

  fresh_stale : (request : Request) (a b : Session E P) → a ≡ b → ¬ IsStale a request.clean request.now → IsStale b request.clean request.now → ⊥
  fresh_stale request a b same fresh stale = fresh (rw same stale)

  over_twice : (request : Request) (a b x y : Session E P) (new new' : Books E P) → BeginsOver old client request a x new → BeginsOver old client request b y new'
      → AreOne {A = Result (Attached E P) DeskError} (Ok (New a (Some x))) (Ok (New b (Some y))) new new'
  over_twice request a b x y new new' h k =
      let n = one_number h.number k.number h.row k.row (Parked x) (Parked y) h.its k.its refl refl in
      let r = one_row h.number k.number h.row k.row (Parked x) (Parked y) h.its k.its n in
      let s : a ≡ b = h.is ∙ sym k.is in
      let e = one_session h.number k.number h.row k.row x y h.its k.its in
      (λ i. Ok (New (s i) (Some (e i))), h.after ∙ (λ i. after_new (after_end old (n i) (r i)) client request.connection) ∙ sym k.after)

  resumed_twice : (request : Request) (a b : Session E P) (new new' : Books E P) → Resumes old client request a new → Resumes old client request b new' → AreOne {A = Result (Attached E P) DeskError} (Ok (Resumed a)) (Ok (Resumed b)) new new'
  resumed_twice request a b new new' h k =
      let n = one_number h.number k.number h.row k.row (Parked a) (Parked b) h.its k.its refl refl in
      let r = one_row h.number k.number h.row k.row (Parked a) (Parked b) h.its k.its n in
      (ap (λ s. Ok (Resumed s)) (one_session h.number k.number h.row k.row a b h.its k.its), h.after ∙ (λ i. after_lend old (n i) (r i) request.connection) ∙ sym k.after)

  replaced_twice : (request : Request) (a b : ℕ) (new new' : Books E P) → Replaces old client request a new → Replaces old client request b new'
      → AreOne {A = Result (Attached E P) DeskError} (Ok (Replace a)) (Ok (Replace b)) new new'
  replaced_twice request a b new new' h k =
      let n = one_number h.number k.number h.row k.row (Lent a) (Lent b) h.its k.its refl refl in
      let r = one_row h.number k.number h.row k.row (Lent a) (Lent b) h.its k.its n in
      let s = one_holder h.number k.number h.row k.row a b h.its k.its in
      (ap (λ c. Ok (Replace c)) s, h.after ∙ (λ i. after_replace old (n i) (r i) request.connection (s i)) ∙ sym k.after)

  -- no other connection waits, and another one does
  alone_busy : {A : Type 0} (request : Request) (a : ℕ) (new : Books E P) → Replaces old client request a new → IsBusy old client request → A
  alone_busy request a new h k =
      let n = one_number k.number h.number k.row h.row (Lent k.holder) (Lent a) k.its h.its refl refl in
      let r = one_row k.number h.number k.row h.row (Lent k.holder) (Lent a) k.its h.its n in
      absurd (k.another (h.alone k.other (record { named = ap (λ row. row.wait) (sym r) ∙ k.waits.named; waits = k.waits.waits ∙ ap (λ m. Some (Some m)) n })))

  -- whoever has a session of its own displaces none
  over_displaced : {A : Type 0} (n : ℕ) (row : Row E P) (s : Holder E P) (connection : ℕ) (b y : Session E P) (new' : Books E P) → IsClients old client n row s → is_living s ≡ true
      → Displaces newcomers old client connection b y new' → A
  over_displaced n row s connection b y new' is lives k = absurd (none_is old client n row s k.none is lives)

  resumed_over : {A : Type 0} (request : Request) (session a x : Session E P) (new new' : Books E P) → Resumes old client request session new → BeginsOver old client request a x new' → A
  resumed_over request session a x new new' h k = absurd (fresh_stale request session x (one_session h.number k.number h.row k.row session x h.its k.its) h.fresh k.stale)

  -- for a client with an identifier: each answer rules the others out
  one_client : (request : Request) (x y : Result (Attached E P) DeskError) (new new' : Books E P) → x ≢ Err Memory → y ≢ Err Memory
      → AttachesClient newcomers old client request x new → AttachesClient newcomers old client request y new' → AreOne x y new new'
  one_client request (Ok (New a None)) (Ok (New b None)) new new' had also h k = first_twice newcomers old client request.connection a b new new' h k
  one_client request (Ok (New a None)) (Ok (New b (Some y))) new new' had also h (inl k) = absurd (none_is old client k.number k.row (Parked y) h.none k.its refl)
  one_client request (Ok (New a None)) (Ok (New b (Some y))) new new' had also h (inr k) = first_displaced newcomers old client request.connection a b y new new' h k
  one_client request (Ok (New a None)) (Ok (Resumed b)) new new' had also h k = absurd (none_is old client k.number k.row (Parked b) h.none k.its refl)
  one_client request (Ok (New a None)) (Ok (Replace b)) new new' had also h k = absurd (none_is old client k.number k.row (Lent b) h.none k.its refl)
  one_client request (Ok (New a None)) (Ok Busy) new new' had also h k = absurd (none_is old client k.0.number k.0.row (Lent k.0.holder) h.none k.0.its refl)
  one_client request (Ok (New a None)) (Err Full) new new' had also h k = absurd (k.1 (inl h.room))
  one_client request (Ok (New a (Some x))) (Ok (New b None)) new new' had also (inl h) k = absurd (none_is old client h.number h.row (Parked x) k.none h.its refl)
  one_client request (Ok (New a (Some x))) (Ok (New b None)) new new' had also (inr h) k = first_displaced newcomers old client request.connection b a x new' new k h
  one_client request (Ok (New a (Some x))) (Ok (New b (Some y))) new new' had also (inl h) (inl k) = over_twice request a b x y new new' h k
  one_client request (Ok (New a (Some x))) (Ok (New b (Some y))) new new' had also (inl h) (inr k) = over_displaced h.number h.row (Parked x) request.connection b y new' h.its refl k
  one_client request (Ok (New a (Some x))) (Ok (New b (Some y))) new new' had also (inr h) (inl k) = over_displaced k.number k.row (Parked y) request.connection a x new k.its refl h
  one_client request (Ok (New a (Some x))) (Ok (New b (Some y))) new new' had also (inr h) (inr k) = displaced_twice newcomers old client request.connection a b x y new new' h k
  one_client request (Ok (New a (Some x))) (Ok (Resumed b)) new new' had also (inl h) k = resumed_over request b a x new' new k h
  one_client request (Ok (New a (Some x))) (Ok (Resumed b)) new new' had also (inr h) k = over_displaced k.number k.row (Parked b) request.connection a x new k.its refl h
  one_client request (Ok (New a (Some x))) (Ok (Replace b)) new new' had also (inl h) k = not_both h.number k.number h.row k.row x b h.its k.its
  one_client request (Ok (New a (Some x))) (Ok (Replace b)) new new' had also (inr h) k = over_displaced k.number k.row (Lent b) request.connection a x new k.its refl h
  one_client request (Ok (New a (Some x))) (Ok Busy) new new' had also (inl h) k = not_both h.number k.0.number h.row k.0.row x k.0.holder h.its k.0.its
  one_client request (Ok (New a (Some x))) (Ok Busy) new new' had also (inr h) k = over_displaced k.0.number k.0.row (Lent k.0.holder) request.connection a x new k.0.its refl h
  one_client request (Ok (New a (Some x))) (Err Full) new new' had also (inl h) k = absurd (none_is old client h.number h.row (Parked x) k.0 h.its refl)
  one_client request (Ok (New a (Some x))) (Err Full) new new' had also (inr h) k = displaced_full newcomers old client request.connection a x new h k.1
  one_client request (Ok (Resumed a)) (Ok (New b None)) new new' had also h k = absurd (none_is old client h.number h.row (Parked a) k.none h.its refl)
  one_client request (Ok (Resumed a)) (Ok (New b (Some y))) new new' had also h (inl k) = resumed_over request a b y new new' h k
  one_client request (Ok (Resumed a)) (Ok (New b (Some y))) new new' had also h (inr k) = over_displaced h.number h.row (Parked a) request.connection b y new' h.its refl k
  one_client request (Ok (Resumed a)) (Ok (Resumed b)) new new' had also h k = resumed_twice request a b new new' h k
  one_client request (Ok (Resumed a)) (Ok (Replace b)) new new' had also h k = not_both h.number k.number h.row k.row a b h.its k.its
  one_client request (Ok (Resumed a)) (Ok Busy) new new' had also h k = not_both h.number k.0.number h.row k.0.row a k.0.holder h.its k.0.its
  one_client request (Ok (Resumed a)) (Err Full) new new' had also h k = absurd (none_is old client h.number h.row (Parked a) k.0 h.its refl)
  one_client request (Ok (Replace a)) (Ok (New b None)) new new' had also h k = absurd (none_is old client h.number h.row (Lent a) k.none h.its refl)
  one_client request (Ok (Replace a)) (Ok (New b (Some y))) new new' had also h (inl k) = not_both k.number h.number k.row h.row y a k.its h.its
  one_client request (Ok (Replace a)) (Ok (New b (Some y))) new new' had also h (inr k) = over_displaced h.number h.row (Lent a) request.connection b y new' h.its refl k
  one_client request (Ok (Replace a)) (Ok (Resumed b)) new new' had also h k = not_both k.number h.number k.row h.row b a k.its h.its
  one_client request (Ok (Replace a)) (Ok (Replace b)) new new' had also h k = replaced_twice request a b new new' h k
  one_client request (Ok (Replace a)) (Ok Busy) new new' had also h k = alone_busy request a new h k.0
  one_client request (Ok (Replace a)) (Err Full) new new' had also h k = absurd (none_is old client h.number h.row (Lent a) k.0 h.its refl)
  one_client request (Ok Busy) (Ok (New b None)) new new' had also h k = absurd (none_is old client h.0.number h.0.row (Lent h.0.holder) k.none h.0.its refl)
  one_client request (Ok Busy) (Ok (New b (Some y))) new new' had also h (inl k) = not_both k.number h.0.number k.row h.0.row y h.0.holder k.its h.0.its
  one_client request (Ok Busy) (Ok (New b (Some y))) new new' had also h (inr k) = over_displaced h.0.number h.0.row (Lent h.0.holder) request.connection b y new' h.0.its refl k
  one_client request (Ok Busy) (Ok (Resumed b)) new new' had also h k = not_both k.number h.0.number k.row h.0.row b h.0.holder k.its h.0.its
  one_client request (Ok Busy) (Ok (Replace b)) new new' had also h k = alone_busy request b new' k h.0
  one_client request (Ok Busy) (Ok Busy) new new' had also h k = (refl, same_books old new new' h.1 k.1)
  one_client request (Ok Busy) (Err Full) new new' had also h k = absurd (none_is old client h.0.number h.0.row (Lent h.0.holder) k.0 h.0.its refl)
  one_client request (Err Full) (Ok (New b None)) new new' had also h k = absurd (h.1 (inl k.room))
  one_client request (Err Full) (Ok (New b (Some y))) new new' had also h (inl k) = absurd (none_is old client k.number k.row (Parked y) h.0 k.its refl)
  one_client request (Err Full) (Ok (New b (Some y))) new new' had also h (inr k) = displaced_full newcomers old client request.connection b y new' k h.1
  one_client request (Err Full) (Ok (Resumed b)) new new' had also h k = absurd (none_is old client k.number k.row (Parked b) h.0 k.its refl)
  one_client request (Err Full) (Ok (Replace b)) new new' had also h k = absurd (none_is old client k.number k.row (Lent b) h.0 k.its refl)
  one_client request (Err Full) (Ok Busy) new new' had also h k = absurd (none_is old client k.0.number k.0.row (Lent k.0.holder) h.0 k.0.its refl)
  one_client request (Err Full) (Err Full) new new' had also h k = (refl, same_books old new new' h.2 k.2)
  one_client request (Err Memory) y new new' had also h k = absurd (had refl)
  one_client request (Err NoPlace) y new new' had also h k = absurd h
  one_client request (Err NoName) y new new' had also h k = absurd h
  one_client request x (Err Memory) new new' had also h k = absurd (also refl)
  one_client request x (Err NoPlace) new new' had also h k = absurd k
  one_client request x (Err NoName) new new' had also h k = absurd k

-- the next name is one
one_name : {E P : Type 0} (rows : Rows E P) (assigned n m : ℕ) → IsNextName rows assigned n → IsNextName rows assigned m → n ≡ m
one_name rows assigned n m is also =
    ⊎_elim
    (λ (less : n < m). absurd (is.unused (also.least n is.above less)))
    (λ (not_less : m ≤ n).
    ⊎_elim (λ (more : m < n). absurd (also.unused (is.least m also.above more))) (λ (not_more : n ≤ m). omega arith) (cases_lt m n))
    (cases_lt n m)

no_name : {E P : Type 0} (rows : Rows E P) (assigned n : ℕ) → IsNextName rows assigned n → NoNameLeft rows assigned → ⊥
no_name rows assigned n is none = is.unused (none n is.above is.last)

module _ {E P : Type 0} (newcomers : Newcomers) (old : Books E P) (connection : ℕ) where
  named_twice : (a b : Session E P) (x y : Option (Session E P)) (new new' : Books E P) → Names newcomers old connection a x new → Names newcomers old connection b y new'
      → AreOne {A = Result (Attached E P) DeskError} (Ok (New a x)) (Ok (New b y)) new new'
  named_twice a b x y new new' h k =
      let n = one_name old.rows old.assigned h.number k.number h.next k.next in
      let begins = subst (λ m. Begins newcomers old (assigned_name m) connection (Ok (New a x)) h.mid) n h.begins in
      let one = one_newcomer newcomers old (assigned_name k.number) connection a b x y h.mid k.mid begins k.begins in
      (one.0, h.after ∙ (λ i. after_name (one.1 i) (n i)) ∙ sym k.after)

  -- for one without
  one_unnamed : (x y : Result (Attached E P) DeskError) (new new' : Books E P) → x ≢ Err Memory → y ≢ Err Memory
      → AttachesUnnamed newcomers old connection x new → AttachesUnnamed newcomers old connection y new' → AreOne x y new new'
  one_unnamed (Ok (New a x)) (Ok (New b y)) new new' had also h k = named_twice a b x y new new' h k
  one_unnamed (Ok (New a x)) (Err NoName) new new' had also h k = absurd (no_name old.rows old.assigned h.number h.next k.0)
  one_unnamed (Ok (New a x)) (Err Full) new new' had also h k = newcomer_full newcomers old (assigned_name h.number) connection a x h.mid h.begins k.1
  one_unnamed (Err NoName) (Ok (New b y)) new new' had also h k = absurd (no_name old.rows old.assigned k.number k.next h.0)
  one_unnamed (Err NoName) (Err NoName) new new' had also h k = (refl, same_books old new new' h.1 k.1)
  one_unnamed (Err NoName) (Err Full) new new' had also h k = absurd (no_name old.rows old.assigned k.0.0 k.0.1 h.0)
  one_unnamed (Err Full) (Ok (New b y)) new new' had also h k = newcomer_full newcomers old (assigned_name k.number) connection b y k.mid k.begins h.1
  one_unnamed (Err Full) (Err NoName) new new' had also h k = absurd (no_name old.rows old.assigned h.0.0 h.0.1 k.0)
  one_unnamed (Err Full) (Err Full) new new' had also h k = (refl, same_books old new new' h.2 k.2)
  one_unnamed (Ok (Resumed a)) y new new' had also h k = absurd h
  one_unnamed (Ok (Replace a)) y new new' had also h k = absurd h
  one_unnamed (Ok Busy) y new new' had also h k = absurd h
  one_unnamed (Err Memory) y new new' had also h k = absurd (had refl)
  one_unnamed (Err NoPlace) y new new' had also h k = absurd h
  one_unnamed x (Ok (Resumed b)) new new' had also h k = absurd k
  one_unnamed x (Ok (Replace b)) new new' had also h k = absurd k
  one_unnamed x (Ok Busy) new new' had also h k = absurd k
  one_unnamed x (Err Memory) new new' had also h k = absurd (also refl)
  one_unnamed x (Err NoPlace) new new' had also h k = absurd k

pub one_attach : {E P : Type 0} (newcomers : Newcomers) (client : List ℕ) (old new new' : Books E P) (request : Request) (x y : Result (Attached E P) DeskError) → DeskLaw old.rows old.made
    → x ≢ Err Memory → y ≢ Err Memory → attaches_by newcomers client old request x new → attaches_by newcomers client old request y new' → AreOne x y new new'
one_attach newcomers [] old new new' request x y law had also h k = one_unnamed newcomers old request.connection x y new new' had also h k
one_attach newcomers (byte ∷ bytes) old new new' request x y law had also h k = one_client newcomers old law (byte ∷ bytes) request x y new new' had also h k
