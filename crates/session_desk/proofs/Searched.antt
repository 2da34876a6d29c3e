-- Searches among the rows.
use Rattle.std.proofs.Common.{◌≡◌, ◌⊎◌, ℕ, ◌+◌, ◌<◌, ◌≤◌, min, List, length, slice_get, Option, Some, None, MatchOption, nat_eq, refl, sym, ap, ◌∙◌, subst, ⊎_elim, inl, inr, arith}
use Rattle.std.specs.Option.{option_map_or}
use Rattle.std.specs.List.{IsDistinct}
use Rattle.std.specs.Map.{keys_of}
use Rattle.std.specs.Cmp.{nat_eq_equiv}
use Rattle.std.proofs.lemmas.Map.Entries.{place_from_lookup, lookup_from_place}
use Rattle.std.proofs.lemmas.Option.{slice_get_within}
use Rattle.std.proofs.lemmas.Bool.{eqb-true, cases_eq, cases_lt}
use Rattle.std.specs.FinMap as map
use Rattle.session_desk.specs.declared.row.Row.{Row}
use Rattle.session_desk.specs.declared.row.Holder.TheVariants.{Parked, Kept}
use Rattle.session_desk.specs.declared.session.Session.{Session}
use Rattle.session_desk.specs.declared.sweeping.Due.{Due}
use Rattle.session_desk.specs.declared.sweeping.Due.TheVariants as due
use Rattle.session_desk.specs.Sessions.{parked_from}
use Rattle.session_desk.specs.Idle.{IsIdleIn, IsIdleFrom, IsFirstIdle, IsParkedLongest}
use Rattle.session_desk.specs.Rows.{Rows, HasRow, IsKept, IsOverdue, NoRow, IsOldest}
use Rattle.session_desk.specs.Names.{HasName}
use Rattle.session_desk.specs.Sweeping.{Fits, HandsOut, SweepsNothing}
use Rattle.session_desk.specs.Layout.{seen}
use Rattle.session_desk.proofs.Seen.{get_seen, found_row}

-- the best so far among the first rows, as many as i
pub record Best {E P : Type 0} (es : List (ℕ × Row E P)) (i : ℕ) (due : Due) (best : Option ℕ) : Type 0 where
  pub below : (k : ℕ) (e : ℕ × Row E P) → k < i → slice_get es k ≡ Some e → Fits due e.1 → (n : ℕ) × (best ≡ Some n) × (n ≤ e.0)
  pub found : (n : ℕ) → best ≡ Some n → (k : ℕ) × (e : ℕ × Row E P) × (slice_get es k ≡ Some e) × (e.0 ≡ n) × Fits due e.1

pub best_begin : {E P : Type 0} (es : List (ℕ × Row E P)) (due : Due) → Best es 0 due None
best_begin es due = record { below = λ k e less. absurd (omega arith); found = λ n is. absurd (let e = is in cc) }

same_entry : {A : Type 0} (a b : A) (o : Option A) → o ≡ Some a → o ≡ Some b → a ≡ b
same_entry a b o p q = cc

step : {E P : Type 0} (es : List (ℕ × Row E P)) (i k : ℕ) (e f : ℕ × Row E P) → k < i + 1 → slice_get es k ≡ Some e → slice_get es i ≡ Some f → (k < i) ⊎ (f ≡ e)
step es i k e f less at here =
    ⊎_elim (λ (same : k ≡ i). inr (same_entry f e (slice_get es i) here (ap (slice_get es) (sym same) ∙ at))) (λ (ne : k ≡ i → ⊥). inl (omega arith)) (cases_eq k i)

pub best_skip : {E P : Type 0} (es : List (ℕ × Row E P)) (i : ℕ) (due : Due) (best : Option ℕ) (f : ℕ × Row E P) → Best es i due best → slice_get es i ≡ Some f → ¬ Fits due f.1
    → Best es (i + 1) due best
best_skip es i due best f so here not =
    record {
      below = λ k e less at fits.
          ⊎_elim (λ (before : k < i). so.below k e before at fits) (λ (same : f ≡ e). absurd (not (subst (λ t. Fits due t.1) (sym same) fits))) (step es i k e f less at here);
      found = so.found;
    }

lesser_than : (best : Option ℕ) (n m : ℕ) → best ≡ Some n → option_map_or (λ least. min least m) best m ≤ n
lesser_than None n m is = absurd (let e = is in cc)
lesser_than (Some b) n m is = let same : b ≡ n = (let e = is in cc) in omega arith

lesser_here : (best : Option ℕ) (m : ℕ) → option_map_or (λ least. min least m) best m ≤ m
lesser_here None m = omega arith
lesser_here (Some b) m = omega arith

one_of_both : (b m : ℕ) → (min b m ≡ b) ⊎ (min b m ≡ m)
one_of_both b m = ⊎_elim (λ (e : min b m ≡ b). inl e) (λ (ne : min b m ≡ b → ⊥). inr (omega arith)) (cases_eq (min b m) b)

lesser_from : (best : Option ℕ) (m : ℕ) → (option_map_or (λ least. min least m) best m ≡ m) ⊎ (best ≡ Some (option_map_or (λ least. min least m) best m))
lesser_from None m = inl refl
lesser_from (Some b) m = ⊎_elim (λ (e : min b m ≡ b). inr (ap Some (sym e))) (λ (e : min b m ≡ m). inl e) (one_of_both b m)

pub best_take : {E P : Type 0} (es : List (ℕ × Row E P)) (i : ℕ) (due : Due) (best : Option ℕ) (f : ℕ × Row E P) → Best es i due best → slice_get es i ≡ Some f → Fits due f.1
    → Best es (i + 1) due (Some (option_map_or (λ least. min least f.0) best f.0))
best_take es i due best f so here fits =
    let less : ℕ = option_map_or (λ least. min least f.0) best f.0 in
    record {
      below = λ k e near at its. (
        less,
        refl,
        ⊎_elim
            (λ (before : k < i). let old = so.below k e before at its in let l = lesser_than best old.0 f.0 old.1 in let m = old.2 in omega arith)
            (λ (same : f ≡ e). subst (λ t. less ≤ t.0) same (lesser_here best f.0))
            (step es i k e f near at here),
      );
      found = λ n is.
          let same : less ≡ n = (let e = is in cc) in
          ⊎_elim
          (λ (own : less ≡ f.0). (i, f, here, sym own ∙ same, fits))
          (λ (old : best ≡ Some less). so.found n (old ∙ ap Some same))
          (lesser_from best f.0);
    }

-- the place of a row
place : {E P : Type 0} (es : List (ℕ × Row E P)) (n : ℕ) (row : Row E P) → HasRow (seen es) n row → (k : ℕ) × (slice_get es k ≡ Some (n, row))
place es n row has =
    let at = place_from_lookup (nat_eq n) es row (found_row es n row has) in
    (at.0, at.2 ∙ ap (λ m. Some (m, row)) (sym (eqb-true n at.1 at.3)))

none_fits : {E P : Type 0} (es : List (ℕ × Row E P)) (due : Due) → Best es (length es) due None → NoRow (seen es) (Fits due)
none_fits es due so n row has fits =
    let at = place es n row has in
    let old = so.below at.0 (n, row) (slice_get_within es at.0 (n, row) at.1) at.1 fits in
    let is = old.1 in cc

best_is : {E P : Type 0} (es : List (ℕ × Row E P)) (due : Due) (n : ℕ) → IsDistinct nat_eq (keys_of es) → Best es (length es) due (Some n) → IsOldest (seen es) (Fits due) n
best_is es due n distinct so =
    let f = so.found n refl in
    record {
      row = f.1.1;
      has = ap (map.get (seen es)) (sym f.3) ∙ get_seen es f.1.0 ∙ lookup_from_place nat_eq_equiv es f.0 f.1.0 f.1.1 distinct f.2;
      is_so = f.4;
      least = λ other row has fits.
          let at = place es other row has in
          let old = so.below at.0 (other, row) (slice_get_within es at.0 (other, row) at.1) at.1 fits in
          let same : n ≡ old.0 = (let e = old.1 in cc) in
          let less = old.2 in omega arith;
    }

pub best_end : {E P : Type 0} (es : List (ℕ × Row E P)) (due : Due) (best : Option ℕ) → IsDistinct nat_eq (keys_of es) → Best es (length es) due best
    → MatchOption best (NoRow (seen es) (Fits due)) (IsOldest (seen es) (Fits due))
best_end es due None distinct so = none_fits es due so
best_end es due (Some n) distinct so = best_is es due n distinct so

-- a moment before which none of the first rows is due
pub record Before {E P : Type 0} (es : List (ℕ × Row E P)) (i soonest : ℕ) : Type 0 where
  pub before : (k now : ℕ) (e : ℕ × Row E P) → k < i → slice_get es k ≡ Some e → IsOverdue now e.1 → soonest ≤ now

pub before_more : {E P : Type 0} (es : List (ℕ × Row E P)) (i soonest sooner : ℕ) (f : ℕ × Row E P) → Before es i soonest → slice_get es i ≡ Some f
    → sooner ≤ soonest → ((now : ℕ) → IsOverdue now f.1 → sooner ≤ now) → Before es (i + 1) sooner
before_more es i soonest sooner f so here less due =
    record {
      before = λ k now e near at over.
          ⊎_elim
          (λ (old : k < i). let then = so.before k now e old at over in omega arith)
          (λ (same : f ≡ e). due now (subst (λ t. IsOverdue now t.1) (sym same) over))
          (step es i k e f near at here);
    }

pub before_end : {E P : Type 0} (es : List (ℕ × Row E P)) (soonest : ℕ) → Before es (length es) soonest
    → (n now : ℕ) (row : Row E P) → HasRow (seen es) n row → IsOverdue now row → soonest ≤ now
before_end es soonest so n now row has over =
    let at = place es n row has in so.before at.0 now (n, row) (slice_get_within es at.0 (n, row) at.1) at.1 over

-- none of the first rows is of this client
pub record NoneNamed {E P : Type 0} (es : List (ℕ × Row E P)) (i : ℕ) (client : List ℕ) : Type 0 where
  pub none : (k : ℕ) (e : ℕ × Row E P) → k < i → slice_get es k ≡ Some e → e.1.client ≡ client → ⊥

pub none_named_more : {E P : Type 0} (es : List (ℕ × Row E P)) (i : ℕ) (client : List ℕ) (f : ℕ × Row E P) → NoneNamed es i client → slice_get es i ≡ Some f
    → (f.1.client ≡ client → ⊥) → NoneNamed es (i + 1) client
none_named_more es i client f so here not =
    record {
      none = λ k e near at its.
          ⊎_elim (λ (old : k < i). so.none k e old at its) (λ (same : f ≡ e). not (ap (λ t. t.1.client) same ∙ its)) (step es i k e f near at here);
    }

pub none_named_end : {E P : Type 0} (es : List (ℕ × Row E P)) (client : List ℕ) → NoneNamed es (length es) client → ¬ HasName (seen es) client
none_named_end es client so named =
    let at = place es named.0 named.1 named.2 in so.none at.0 (named.0, named.1) (slice_get_within es at.0 (named.0, named.1) at.1) at.1 named.3

pub named_at : {E P : Type 0} (es : List (ℕ × Row E P)) (i : ℕ) (client : List ℕ) (n : ℕ) (row : Row E P) → IsDistinct nat_eq (keys_of es)
    → slice_get es i ≡ Some (n, row) → row.client ≡ client → HasName (seen es) client
named_at es i client n row distinct here its = (n, row, get_seen es n ∙ lookup_from_place nat_eq_equiv es i n row distinct here, its)

-- where no row is due, a sweep hands out nothing
pub nothing_due : {E P : Type 0} (rows : Rows E P) (now : ℕ) → NoRow rows IsKept → NoRow rows (IsOverdue now) → SweepsNothing rows now
nothing_due rows now kept over None after swept = (refl, swept.2)
nothing_due rows now kept over (Some session) after swept =
    absurd
    (
    ⊎_elim
    (λ (h : HandsOut rows IsKept (Kept session) after). kept h.number h.oldest.row h.oldest.has h.oldest.is_so)
    (λ (h : NoRow rows IsKept × HandsOut rows (IsOverdue now) (Parked session) after). over h.1.number h.1.oldest.row h.1.oldest.has h.1.oldest.is_so)
    swept
    )

-- the first moment so far among the first rows, as many as i
pub record First {E P : Type 0} (es : List (ℕ × Row E P)) (i : ℕ) (first : Option ℕ) : Type 0 where
  pub below : (k moment : ℕ) (e : ℕ × Row E P) → k < i → slice_get es k ≡ Some e → IsIdleFrom e.1 moment → (n : ℕ) × (first ≡ Some n) × (n ≤ moment)
  pub found : (n : ℕ) → first ≡ Some n → (k : ℕ) × (e : ℕ × Row E P) × (slice_get es k ≡ Some e) × IsIdleFrom e.1 n

same_parked : {E P : Type 0} (a b : Session E P) → Parked a ≡ Parked b → a ≡ b
same_parked a b e = cc

one_moment : {E P : Type 0} (row : Row E P) (m n : ℕ) → IsIdleFrom row m → IsIdleFrom row n → m ≡ n
one_moment row m n one other = sym one.3 ∙ ap (λ s. parked_from s.expiry) (same_parked one.0 other.0 (sym one.1 ∙ other.1)) ∙ other.3

pub first_begin : {E P : Type 0} (es : List (ℕ × Row E P)) → First es 0 None
first_begin es = record { below = λ k moment e less. absurd (omega arith); found = λ n is. absurd (let e = is in cc) }

pub first_skip : {E P : Type 0} (es : List (ℕ × Row E P)) (i : ℕ) (first : Option ℕ) (f : ℕ × Row E P) → First es i first → slice_get es i ≡ Some f → ¬ IsIdleIn f.1
    → First es (i + 1) first
first_skip es i first f so here not =
    record {
      below = λ k moment e less at idle.
          ⊎_elim (λ (before : k < i). so.below k moment e before at idle) (λ (same : f ≡ e). absurd (not (subst (λ t. IsIdleIn t.1) (sym same) (idle.0, idle.1, idle.2)))) (step es i k e f less at here);
      found = so.found;
    }

pub first_take : {E P : Type 0} (es : List (ℕ × Row E P)) (i moment : ℕ) (first : Option ℕ) (f : ℕ × Row E P) → First es i first → slice_get es i ≡ Some f → IsIdleFrom f.1 moment
    → First es (i + 1) (Some (option_map_or (λ least. min least moment) first moment))
first_take es i moment first f so here idle =
    let less : ℕ = option_map_or (λ least. min least moment) first moment in
    record {
      below = λ k m e near at its. (
        less,
        refl,
        ⊎_elim
            (λ (before : k < i). let old = so.below k m e before at its in let l = lesser_than first old.0 moment old.1 in let m = old.2 in omega arith)
            (λ (same : f ≡ e). let one = one_moment e.1 moment m (subst (λ t. IsIdleFrom t.1 moment) same idle) its in let l = lesser_here first moment in omega arith)
            (step es i k e f near at here),
      );
      found = λ n is.
          let same : less ≡ n = (let e = is in cc) in
          ⊎_elim
          (λ (own : less ≡ moment). (i, f, here, subst (IsIdleFrom f.1) (sym own ∙ same) idle))
          (λ (old : first ≡ Some less). so.found n (old ∙ ap Some same))
          (lesser_from first moment);
    }

none_idle : {E P : Type 0} (es : List (ℕ × Row E P)) → First es (length es) None → NoRow (seen es) IsIdleIn
none_idle es so n row has idle =
    let at = place es n row has in
    let old = so.below at.0 (parked_from idle.0.expiry) (n, row) (slice_get_within es at.0 (n, row) at.1) at.1 (idle.0, idle.1, idle.2, refl) in
    let is = old.1 in cc

first_is : {E P : Type 0} (es : List (ℕ × Row E P)) (moment : ℕ) → IsDistinct nat_eq (keys_of es) → First es (length es) (Some moment) → IsFirstIdle (seen es) moment
first_is es moment distinct so =
    let f = so.found moment refl in
    record {
      number = f.1.0;
      row = f.1.1;
      has = get_seen es f.1.0 ∙ lookup_from_place nat_eq_equiv es f.0 f.1.0 f.1.1 distinct f.2;
      idle = f.3;
      first = λ other m row has idle.
          let at = place es other row has in
          let old = so.below at.0 m (other, row) (slice_get_within es at.0 (other, row) at.1) at.1 idle in
          let same : moment ≡ old.0 = (let e = old.1 in cc) in
          let less = old.2 in omega arith;
    }

pub first_end : {E P : Type 0} (es : List (ℕ × Row E P)) (first : Option ℕ) → IsDistinct nat_eq (keys_of es) → First es (length es) first
    → MatchOption first (NoRow (seen es) IsIdleIn) (IsFirstIdle (seen es))
first_end es None distinct so = none_idle es so
first_end es (Some n) distinct so = first_is es n distinct so

-- of those that were parked at the first moment the oldest has been parked longest
pub longest_end : {E P : Type 0} (rows : Rows E P) (moment : ℕ) (oldest : Option ℕ) → IsFirstIdle rows moment → MatchOption oldest (NoRow rows (Fits (due.IdleSince moment))) (IsOldest rows (Fits (due.IdleSince moment)))
    → MatchOption oldest (NoRow rows IsIdleIn) (λ number. (row : Row E P) × (session : Session E P) × IsParkedLongest rows number row session)
longest_end rows moment None first none =
    let idle = first.idle in absurd (none first.number first.row first.has (idle.0, idle.1, idle.2, (let same = idle.3 in omega arith)))
longest_end rows moment (Some n) first oldest =
    let its = oldest.is_so in (
      oldest.row,
      its.0,
      record {
        has = oldest.has;
        stands = its.1;
        idle = its.2;
        longest = λ other their theirs has stands idle.
            let later = first.first other (parked_from theirs.expiry) their has (theirs, stands, idle, refl) in
            let sooner = its.3 in
            ⊎_elim
            (λ (less : parked_from its.0.expiry < parked_from theirs.expiry). inl less)
            (λ (more : parked_from theirs.expiry ≤ parked_from its.0.expiry). inr ((let l = later in omega arith), oldest.least other their has (theirs, stands, idle, (let l = sooner in omega arith))))
            (cases_lt (parked_from its.0.expiry) (parked_from theirs.expiry));
      },
    )
