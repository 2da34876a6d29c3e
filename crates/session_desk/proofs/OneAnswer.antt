-- Each call of a desk has one answer, and makes one thing of the books.
use Rattle.std.proofs.Common.{◌≡◌, ◌⊎◌, ℕ, ◌<◌, ◌≤◌, Bool, true, false, IsTrue, ◌↔◌, List, Option, Some, None, refl, sym, ap, ◌∙◌, ⊎_elim, inl, inr, arith, slice_set, slice_get}
use Rattle.std.specs.FinMap as map
use Rattle.std.proofs.lemmas.Bool.{cases_lt}
use Rattle.std.proofs.lemmas.Option.{same_Some}
use Rattle.session_desk.specs.declared.session.Session.{Session}
use Rattle.session_desk.specs.declared.row.Row.{Row}
use Rattle.session_desk.specs.declared.row.Holder.{Holder}
use Rattle.session_desk.specs.declared.row.Holder.TheVariants.{Lent, Parked, Kept, Away}
use Rattle.session_desk.specs.Rows.{Rows, NoRow, IsKept, IsOverdue, IsOldest, IsRowOf, away}
use Rattle.session_desk.specs.Books.{Books, IsKicked, with_rows, with_free, after_park, after_end, after_keep}
use Rattle.session_desk.specs.Hands.{DeskLaw}
use Rattle.session_desk.specs.Keeping.{IsLent, EndsLent, Parks, ParksAsIs, Keeps, Buries, parked_at}
use Rattle.session_desk.specs.Places.{IsLeast, LendsPlace, TakesPlace, cell_at}
use Rattle.session_desk.specs.Sweeping.{HandsOut, Sweeps}
use Rattle.session_desk.specs.Calls.{Call, Attach, Withdraw, Kicked, Park, ParkAsIs, Keep, Bury, Sweep, LendPlace, TakePlace, Makes}
use Rattle.session_desk.specs.Asking.{IsSameQuestion, HadMemory}
use Rattle.session_desk.proofs.OneClient.{AreOne, same_books, parked_is, one_attach}

kept_is : {E P : Type 0} (a b : Session E P) → Kept a ≡ Kept b → a ≡ b
kept_is a b e = cc

some_none : {A : Type 0} (a : A) → Some a ≡ None → ⊥
some_none a e = cc

-- a session has one row
one_row : {E P : Type 0} (rows : Rows E P) (session : Session E P) (row their : Row E P) (s t : Holder E P) → IsRowOf rows session row s → IsRowOf rows session their t → row ≡ their
one_row rows session row their s t is also = same_Some row their (sym is.has ∙ also.has)

module _ {E P : Type 0} (old new new' : Books E P) where
  back_twice : (session x y : Session E P) → x ≡ session → y ≡ session → Some x ≡ Some y
  back_twice session x y is also = ap (λ s. Some s) (is ∙ sym also)

  -- whether a session is parked, handed back or ended
  one_end : (session : Session E P) → EndsLent old session new → EndsLent old session new' → new ≡ new'
  one_end session h k =
      h.after ∙ ap (after_end old session.identity.number) (one_row old.rows session h.lent.row k.lent.row (Lent h.lent.connection) (Lent k.lent.connection) h.lent.is_row k.lent.is_row) ∙ sym k.after

  one_back : (session : Session E P) → EndsLent old session new ⊎ ((¬ IsLent old session) × (new ≡ old)) → EndsLent old session new' ⊎ ((¬ IsLent old session) × (new' ≡ old)) → new ≡ new'
  one_back session (inl h) (inl k) = one_end session h k
  one_back session (inl h) (inr k) = absurd (k.0 h.lent)
  one_back session (inr h) (inl k) = absurd (h.0 k.lent)
  one_back session (inr h) (inr k) = same_books old new new' h.1 k.1

  one_park : (session : Session E P) (now : ℕ) (x y : Option (Session E P)) → Parks old session now x new → Parks old session now y new' → AreOne x y new new'
  one_park session now None None h k = (
    refl,
    h.after ∙ ap (λ row. after_park old session.identity.number row (parked_at session now)) (one_row old.rows session h.lent.row k.lent.row (Lent h.lent.connection) (Lent k.lent.connection) h.lent.is_row k.lent.is_row) ∙ sym k.after,
  )
  one_park session now None (Some y) h (is, inl k) = absurd (h.goes_on k.with_connection)
  one_park session now None (Some y) h (is, inr k) = absurd (k.0 h.lent)
  one_park session now (Some x) None (is, inl h) k = absurd (k.goes_on h.with_connection)
  one_park session now (Some x) None (is, inr h) k = absurd (h.0 k.lent)
  one_park session now (Some x) (Some y) h k = (back_twice session x y h.0 k.0, one_back session h.1 k.1)

  one_park_as_is : (session : Session E P) (x y : Option (Session E P)) → ParksAsIs old session x new → ParksAsIs old session y new' → AreOne x y new new'
  one_park_as_is session None None h k = (
    refl,
    h.after ∙ ap (λ row. after_park old session.identity.number row session) (one_row old.rows session h.lent.row k.lent.row (Lent h.lent.connection) (Lent k.lent.connection) h.lent.is_row k.lent.is_row) ∙ sym k.after,
  )
  one_park_as_is session None (Some y) h k = absurd (k.1 h.lent)
  one_park_as_is session (Some x) None h k = absurd (h.1 k.lent)
  one_park_as_is session (Some x) (Some y) h k = (back_twice session x y h.0 k.0, same_books old new new' h.2 k.2)

  one_keep : (session : Session E P) (x y : Option (Session E P)) → Keeps old session x new → Keeps old session y new' → AreOne x y new new'
  one_keep session None None h k = (
    refl,
    h.after ∙ ap (λ row. after_keep old session.identity.number row session) (one_row old.rows session h.gone.row k.gone.row Away Away h.gone.is_row k.gone.is_row) ∙ sym k.after,
  )
  one_keep session None (Some y) h k = absurd (k.1 h.gone)
  one_keep session (Some x) None h k = absurd (h.1 k.gone)
  one_keep session (Some x) (Some y) h k = (back_twice session x y h.0 k.0, same_books old new new' h.2 k.2)

  one_bury : (cell : P → ℕ) (session : Session E P) (x y : Option (Session E P)) → Buries cell old session x new → Buries cell old session y new' → AreOne x y new new'
  one_bury cell session None None h k = (refl, h.1 ∙ sym k.1)
  one_bury cell session None (Some y) h k = absurd (k.1 h.0)
  one_bury cell session (Some x) None h k = absurd (h.1 k.0)
  one_bury cell session (Some x) (Some y) h k = (back_twice session x y h.0 k.0, same_books old new new' h.2 k.2)

-- the oldest row is one
module _ {E P : Type 0} (old new new' : Rows E P) (IsSo : Row E P → Type 0) where
  oldest_is : (n m : ℕ) → (h : IsOldest old IsSo n) → (k : IsOldest old IsSo m) → (n ≡ m) × (h.row ≡ k.row)
  oldest_is n m h k =
      let less : n ≤ m = h.least m k.row k.has k.is_so in
      let more : m ≤ n = k.least n h.row h.has h.is_so in
      let same : n ≡ m = omega arith in
      (same, same_Some h.row k.row (sym h.has ∙ ap (map.get old) same ∙ k.has))

  one_hand_out : (s t : Holder E P) → HandsOut old IsSo s new → HandsOut old IsSo t new' → (s ≡ t) × (new ≡ new')
  one_hand_out s t h k =
      let same = oldest_is h.number k.number h.oldest k.oldest in (
        sym h.stood ∙ ap (λ r. r.held_by) same.1 ∙ k.stood,
        h.after ∙ (λ i. map.insert old (same.0 i) (away (same.1 i).client)) ∙ sym k.after,
      )

  handed_none : {A : Type 0} (s : Holder E P) → HandsOut old IsSo s new → NoRow old IsSo → A
  handed_none s h none = absurd (none h.number h.oldest.row h.oldest.has h.oldest.is_so)

one_sweep : {E P : Type 0} (old new new' : Rows E P) (now : ℕ) (x y : Option (Session E P)) → Sweeps old now x new → Sweeps old now y new' → (x ≡ y) × (new ≡ new')
one_sweep old new new' now None None h k = (refl, h.2 ∙ sym k.2)
one_sweep old new new' now None (Some b) h (inl k) = handed_none old new' new' IsKept (Kept b) k h.0
one_sweep old new new' now None (Some b) h (inr k) = handed_none old new' new' (IsOverdue now) (Parked b) k.1 h.1
one_sweep old new new' now (Some a) None (inl h) k = handed_none old new new IsKept (Kept a) h k.0
one_sweep old new new' now (Some a) None (inr h) k = handed_none old new new (IsOverdue now) (Parked a) h.1 k.1
one_sweep old new new' now (Some a) (Some b) (inl h) (inl k) =
    let same = one_hand_out old new new' IsKept (Kept a) (Kept b) h k in (ap (λ s. Some s) (kept_is a b same.0), same.1)
one_sweep old new new' now (Some a) (Some b) (inl h) (inr k) = handed_none old new new IsKept (Kept a) h k.0
one_sweep old new new' now (Some a) (Some b) (inr h) (inl k) = handed_none old new' new' IsKept (Kept b) k h.0
one_sweep old new new' now (Some a) (Some b) (inr h) (inr k) =
    let same = one_hand_out old new new' (IsOverdue now) (Parked a) (Parked b) h.1 k.1 in (ap (λ s. Some s) (parked_is a b same.0), same.1)

-- the least free place is one
module _ {P : Type 0} (old new new' : List (Option P)) (slot : ℕ) where
  least_is : (c d : ℕ) (h : IsLeast old slot c) (k : IsLeast old slot d) → (c ≡ d) × (h.place ≡ k.place)
  least_is c d h k =
      let not_less : (h.number < k.number) → ⊥ = λ less. k.least h.number h.place less (ap (slice_get old) (sym h.at) ∙ h.is_free) in
      let not_more : (k.number < h.number) → ⊥ = λ more. h.least k.number k.place more (ap (slice_get old) (sym k.at) ∙ k.is_free) in
      let number : h.number ≡ k.number =
      ⊎_elim (λ (less : h.number < k.number). absurd (not_less less))
      (λ (l : k.number ≤ h.number). ⊎_elim (λ (more : k.number < h.number). absurd (not_more more)) (λ (m : h.number ≤ k.number). omega arith) (cases_lt k.number h.number))
      (cases_lt h.number k.number) in
      let cell : c ≡ d = h.at ∙ ap (cell_at slot) number ∙ sym k.at in
      (cell, same_Some h.place k.place (same_Some (Some h.place) (Some k.place) (sym h.is_free ∙ ap (slice_get old) cell ∙ k.is_free)))

  one_lend : (x y : Option P) → LendsPlace old slot x new → LendsPlace old slot y new' → (x ≡ y) × (new ≡ new')
  one_lend None None h k = (refl, h.1 ∙ sym k.1)
  one_lend None (Some b) h k = absurd (h.0 k.1.number k.1.place k.1.small (ap (slice_get old) (sym k.1.at) ∙ k.1.is_free))
  one_lend (Some a) None h k = absurd (k.0 h.1.number h.1.place h.1.small (ap (slice_get old) (sym h.1.at) ∙ h.1.is_free))
  one_lend (Some a) (Some b) h k =
      let same = least_is h.0 k.0 h.1 k.1 in
      (ap (λ p. Some p) (h.2 ∙ same.1 ∙ sym k.2), h.3 ∙ ap (λ c. slice_set old c None) same.0 ∙ sym k.3)

  one_take : (cell : ℕ) (place : P) (x y : Option P) → TakesPlace old cell place x new → TakesPlace old cell place y new' → (x ≡ y) × (new ≡ new')
  one_take cell place None None h k = (refl, h.1 ∙ sym k.1)
  one_take cell place None (Some b) h k = absurd (some_none k.1.0 (same_Some (Some k.1.0) None (sym k.1.1 ∙ h.0)))
  one_take cell place (Some a) None h k = absurd (some_none h.1.0 (same_Some (Some h.1.0) None (sym h.1.1 ∙ k.0)))
  one_take cell place (Some a) (Some b) h k = (ap (λ p. Some p) (h.0 ∙ sym k.0), h.2 ∙ sym k.2)

one_told : {IsSo : Type 0} (x y : Bool) → (IsTrue x ↔ IsSo) → (IsTrue y ↔ IsSo) → x ≡ y
one_told true true h k = refl
one_told true false h k = sym (k.1 (h.0 refl))
one_told false true h k = h.1 (k.0 refl)
one_told false false h k = refl

module _ {E P : Type 0} (cell : P → ℕ) (old new new' : Books E P) (law : DeskLaw old.rows old.made) where
  -- the same call, by its answer
  told : {A : Type 0} (say : A → Call E P) (x y : A) (other : Call E P) → other ≡ say y → AreOne x y new new' → (say x ≡ other) × (new ≡ new')
  told say x y other is same = (ap say same.0 ∙ sym is, same.1)

  pub one_answer : (call other : Call E P) → IsSameQuestion call other → HadMemory call → HadMemory other → Makes cell old call new → Makes cell old other new' → (call ≡ other) × (new ≡ new')
  one_answer (Attach newcomers request x) other asks had also h k =
      told (Attach newcomers request) x asks.0 other asks.1 (one_attach newcomers request.client old new new' request x asks.0 law had (rw asks.1 at also) h (rw asks.1 at k))
  one_answer (Withdraw connection) other asks had also h k = (sym asks, h ∙ sym (rw asks at k))
  one_answer (Kicked connection x) other asks had also h k =
      let k' = rw asks.1 at k in told (Kicked connection) x asks.0 other asks.1 (one_told {IsSo = IsKicked old connection} x asks.0 h.0 k'.0, same_books old new new' h.1 k'.1)
  one_answer (Park session now x) other asks had also h k = told (Park session now) x asks.0 other asks.1 (one_park old new new' session now x asks.0 h (rw asks.1 at k))
  one_answer (ParkAsIs session x) other asks had also h k = told (ParkAsIs session) x asks.0 other asks.1 (one_park_as_is old new new' session x asks.0 h (rw asks.1 at k))
  one_answer (Keep session x) other asks had also h k = told (Keep session) x asks.0 other asks.1 (one_keep old new new' session x asks.0 h (rw asks.1 at k))
  one_answer (Bury session x) other asks had also h k = told (Bury session) x asks.0 other asks.1 (one_bury old new new' cell session x asks.0 h (rw asks.1 at k))
  one_answer (Sweep now x) other asks had also h k =
      let k' = rw asks.1 at k in
      let same = one_sweep old.rows h.0 k'.0 now x asks.0 h.1 k'.1 in
      told (Sweep now) x asks.0 other asks.1 (same.0, h.2 ∙ ap (with_rows old) same.1 ∙ sym k'.2)
  one_answer (LendPlace slot x) other asks had also h k =
      let k' = rw asks.1 at k in
      let same = one_lend old.free h.0 k'.0 slot x asks.0 h.1 k'.1 in
      told (LendPlace slot) x asks.0 other asks.1 (same.0, h.2 ∙ ap (with_free old) same.1 ∙ sym k'.2)
  one_answer (TakePlace place x) other asks had also h k =
      let k' = rw asks.1 at k in
      let same = one_take old.free h.0 k'.0 0 (cell place) place x asks.0 h.1 k'.1 in
      told (TakePlace place) x asks.0 other asks.1 (same.0, h.2 ∙ ap (with_free old) same.1 ∙ sym k'.2)
