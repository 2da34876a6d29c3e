-- A free place was put into its cell last, and not lent since: what one call does, and then what all calls do.
use Rattle.std.proofs.Common.{◌≡◌, ◌≢◌, ℕ, Bool, cond, List, [], ◌∷◌, ◌++◌, get_or, slice_get, slice_set, Option, Some, None, refl, sym, ap, ◌∙◌, subst, ⊎_elim, append_assoc, arith}
use Rattle.std.specs.Option.{option_or}
use Rattle.std.proofs.lemmas.Bool.{cases_eq, eq-eqb, ne_eqb}
use Rattle.std.proofs.lemmas.List.{get_or-set_same, length-set}
use Rattle.std.proofs.lemmas.Option.{slice_get-get_or, slice_get_within}
use Rattle.group_jobs.specs.Stamps.{Held}
use Rattle.session_desk.specs.declared.session.Membership.{Membership}
use Rattle.session_desk.specs.declared.session.Membership.TheVariants.{NotMember, Member, Leaving}
use Rattle.session_desk.specs.Books.{Books, new_books}
use Rattle.session_desk.specs.Calls.{Call, Attach, Withdraw, Kicked, Park, ParkAsIs, Keep, Bury, Sweep, LendPlace, TakePlace, Makes, MakesAll}
use Rattle.session_desk.specs.Everywhere.{GoesIn}
use Rattle.session_desk.specs.Keeping.{EndsLent, IsLent, HasCell, freed}
use Rattle.session_desk.specs.Places.{IsFreeAt, cell_at}
use Rattle.session_desk.proofs.Cells.{set_at, none_free}
use Rattle.session_desk.proofs.Everywhere.{HoldsAt, free_call}
use Rattle.shared_desk.specs.FreePlaces.{change_at, freed_at, last_change, lent_at, put_at}
use Rattle.shared_desk.specs.Histories.{IsHistory}
use Rattle.shared_desk.proofs.Parts.{parts}

one_place : {P : Type 0} (a b : P) → Some a ≡ Some b → a ≡ b
one_place a b e = cc

emptied : {P : Type 0} (place : P) → Some None ≡ Some (Some place) → ⊥
emptied place e = cc

no_place : {P : Type 0} (place : P) → None ≡ Some place → ⊥
no_place place e = cc

-- what stands where something was put
set_here : {X : Type 0} (xs : List X) (at : ℕ) (y x : X) → slice_get (slice_set xs at y) at ≡ Some x → y ≡ x
set_here xs at y x has =
    let within = slice_get_within (slice_set xs at y) at x has in
    let same = length-set xs at y in
    let after = one_place (get_or (slice_set xs at y) at x) x (sym (slice_get-get_or (slice_set xs at y) at x within) ∙ has) in
    sym (get_or-set_same xs at y x (omega (arith, within, same))) ∙ after

either : {X : Type 0} (a b c : Option X) → option_or a (option_or b c) ≡ option_or (option_or a b) c
either None b c = refl
either (Some x) b c = refl

or_none : {X : Type 0} (a : Option X) → option_or a None ≡ a
or_none None = refl
or_none (Some x) = refl

module _ {P : Type 0} (cell : P → ℕ) where
  -- each free place lies in its own cell, and the last that was made of that cell is that it has this place
  abbrev AreLast : (ℕ → Option (Option P)) → List (Option P) → Type 0
  AreLast last free = HoldsAt (λ at place. (cell place ≡ at) × (last at ≡ Some (Some place))) free

  same : (last : ℕ → Option (Option P)) (old new : List (Option P)) → new ≡ old → AreLast last old → AreLast last new
  same last old new is are = subst (AreLast last) (sym is) are

  -- a place becomes free, whose cell was empty
  put_in : (last : ℕ → Option (Option P)) (free : List (Option P)) (place : P) → slice_get free (cell place) ≡ Some None → AreLast last free
      → AreLast (λ at. option_or (put_at cell at place) (last at)) (slice_set free (cell place) (Some place))
  put_in last free place empty are at other has =
      ⊎_elim
      (λ (here : (at ≡ cell place) × (Some place ≡ Some other)). (
        ap cell (sym (one_place place other here.1)) ∙ sym here.0,
        ap (λ (b : Bool). option_or (cond b (Some (Some place)) None) (last at)) (eq-eqb (cell place) at (sym here.0)) ∙ ap Some here.1,
      ))
      (λ (old : IsFreeAt free at other). (
        (are at other old).0,
        ap (λ (b : Bool). option_or (cond b (Some (Some place)) None) (last at)) (ne_eqb (cell place) at (λ e. emptied other (sym empty ∙ ap (slice_get free) e ∙ old))) ∙ (are at other old).1,
      ))
      (set_at free (cell place) at (Some place) (Some other) has)

  buried : (last : ℕ → Option (Option P)) (free : List (Option P)) (membership : Membership P) → HasCell cell free membership → AreLast last free
      → AreLast (λ at. option_or (freed_at cell at membership) (last at)) (freed cell free membership)
  buried last free NotMember room are = are
  buried last free (Member place) room are = put_in last free place room are
  buried last free (Leaving place) room are = put_in last free place room are

  -- a place is lent, which lay in this cell
  lent_from : (last : ℕ → Option (Option P)) (free : List (Option P)) (place : P) (from : ℕ) → IsFreeAt free from place → AreLast last free
      → AreLast (λ at. option_or (lent_at cell at place) (last at)) (slice_set free from None)
  lent_from last free place from was are at other has =
      let own = (are from place was).0 in
      ⊎_elim
      (λ (here : at ≡ from). absurd (no_place other (set_here free from None (Some other) (subst (λ n. slice_get (slice_set free from None) n ≡ Some (Some other)) here has))))
      (λ (apart : at ≢ from).
      let old = ⊎_elim (λ (here : (at ≡ from) × (None ≡ Some other)). absurd (apart here.0)) (λ (it : IsFreeAt free at other). it) (set_at free from at None (Some other) has) in (
        (are at other old).0,
        ap (λ (b : Bool). option_or (cond b (Some None) None) (last at)) (ne_eqb (cell place) at (λ e. apart (sym e ∙ own))) ∙ (are at other old).1,
      ))
      (cases_eq at from)

  -- a call that hands nothing in, and lends no place
  frees_nothing : (old new : Books Held P) (call : Call Held P) (last : ℕ → Option (Option P)) → Makes cell old call new
      → GoesIn (λ session. ⊥) (λ place. ⊥) call → AreLast last old.free → AreLast last new.free
  frees_nothing old new call last made none are =
      free_call (λ session. ⊥) (λ place. ⊥) cell (λ at place. (cell place ≡ at) × (last at ≡ Some (Some place))) (λ place fits. absurd fits) (λ session holds empty. absurd holds) old new call made none are

  -- each call
  last_call : (old new : Books Held P) (call : Call Held P) (last : ℕ → Option (Option P)) → Makes cell old call new → AreLast last old.free
      → AreLast (λ at. option_or (change_at cell at call) (last at)) new.free
  last_call old new (Attach newcomers request answer) last made are = frees_nothing old new (Attach newcomers request answer) last made tt are
  last_call old new (Withdraw connection) last made are = frees_nothing old new (Withdraw connection) last made tt are
  last_call old new (Kicked connection answer) last made are = frees_nothing old new (Kicked connection answer) last made tt are
  last_call old new (Park session now None) last made are = same last old.free new.free (ap (λ b. b.free) made.after) are
  last_call old new (Park session now (Some back)) last made are =
      same last old.free new.free (⊎_elim (λ (h : EndsLent old session new). ap (λ b. b.free) h.after) (λ (h : (IsLent old session → ⊥) × (new ≡ old)). ap (λ b. b.free) h.1) made.1) are
  last_call old new (ParkAsIs session None) last made are = same last old.free new.free (ap (λ b. b.free) made.after) are
  last_call old new (ParkAsIs session (Some back)) last made are = same last old.free new.free (ap (λ b. b.free) made.2) are
  last_call old new (Keep session None) last made are = same last old.free new.free (ap (λ b. b.free) made.after) are
  last_call old new (Keep session (Some back)) last made are = same last old.free new.free (ap (λ b. b.free) made.2) are
  last_call old new (Bury session None) last made are =
      same (λ at. option_or (freed_at cell at session.membership) (last at)) (freed cell old.free session.membership) new.free (ap (λ b. b.free) made.1)
      (buried last old.free session.membership made.0.room are)
  last_call old new (Bury session (Some back)) last made are = same last old.free new.free (ap (λ b. b.free) made.2) are
  last_call old new (Sweep now answer) last made are = frees_nothing old new (Sweep now answer) last made tt are
  last_call old new (LendPlace slot None) last made are = frees_nothing old new (LendPlace slot None) last made tt are
  last_call old new (LendPlace slot (Some place)) last made are =
      same (λ at. option_or (lent_at cell at place) (last at)) (slice_set old.free made.1.0 None) new.free (ap (λ b. b.free) made.2 ∙ made.1.3)
      (lent_from last old.free place made.1.0 (subst (IsFreeAt old.free made.1.0) (sym made.1.2) made.1.1.is_free) are)
  last_call old new (TakePlace place None) last made are =
      same (λ at. option_or (put_at cell at place) (last at)) (slice_set old.free (cell place) (Some place)) new.free (ap (λ b. b.free) made.2 ∙ made.1.1)
      (put_in last old.free place made.1.0 are)
  last_call old new (TakePlace place (Some back)) last made are = same last old.free new.free (ap (λ b. b.free) made.2 ∙ made.1.2) are

  -- all calls
  last_all : (old new : Books Held P) (calls : List (Call Held P)) (last : ℕ → Option (Option P)) → MakesAll cell old calls new → AreLast last old.free
      → AreLast (λ at. option_or (last_change cell at calls) (last at)) new.free
  last_all old new [] last made are = same last old.free new.free (ap (λ b. b.free) made) are
  last_all old new (call ∷ calls) last made are =
      let all = last_all made.1.0 new calls (λ at. option_or (change_at cell at call) (last at)) made.1.2 (last_call old made.1.0 call last made.1.1 are) in
      λ at place has. ((all at place has).0, sym (either (last_change cell at calls) (change_at cell at call) (last at)) ∙ (all at place has).1)

  -- a place that is lent was put into its cell last, and not lent since, whatever calls were made of a new desk
  lent : (old new : Books Held P) (calls : List (Call Held P)) (slot : ℕ) (place : P) → MakesAll cell new_books calls old → Makes cell old (LendPlace slot (Some place)) new
      → last_change cell (cell place) calls ≡ Some (Some place)
  lent old new calls slot place made next =
      let was = last_all new_books old calls (λ at. None) made (λ at other has. absurd (none_free 256 at other has)) next.1.0 next.1.1.place next.1.1.is_free in
      ap (λ p. last_change cell (cell p) calls) next.1.2
      ∙ ap (λ at. last_change cell at calls) was.0
      ∙ sym (or_none (last_change cell next.1.0 calls))
      ∙ was.1
      ∙ ap (λ p. Some (Some p)) (sym next.1.2)

  -- some calls, and others after them
  change_append : (at : ℕ) (these those : List (Call Held P)) → last_change cell at (these ++ those) ≡ option_or (last_change cell at those) (last_change cell at these)
  change_append at [] those = sym (or_none (last_change cell at those))
  change_append at (call ∷ these) those =
      ap (λ (o : Option (Option P)). option_or o (change_at cell at call)) (change_append at these those)
      ∙ sym (either (last_change cell at those) (last_change cell at these) (change_at cell at call))

  -- where a place was lent of a cell, and the last that all calls made of it is that it has another, the calls after that loan made it so
  since_lent : (within earlier : Option (Option P)) (other : P) → option_or (option_or within (Some None)) earlier ≡ Some (Some other) → within ≡ Some (Some other)
  since_lent None earlier other is = absurd (emptied other is)
  since_lent (Some change) earlier other is = is

  between : (before within : List (Call Held P)) (slot : ℕ) (one other : P) → cell one ≡ cell other
      → last_change cell (cell other) (before ++ LendPlace slot (Some one) ∷ within) ≡ Some (Some other) → last_change cell (cell other) within ≡ Some (Some other)
  between before within slot one other same_cell is =
      since_lent (last_change cell (cell other) within) (last_change cell (cell other) before) other
      (ap (λ (b : Bool). option_or (option_or (last_change cell (cell other) within) (cond b (Some None) None)) (last_change cell (cell other) before)) (sym (eq-eqb (cell one) (cell other) same_cell))
      ∙ sym (change_append (cell other) before (LendPlace slot (Some one) ∷ within)) ∙ is)

module _ {P : Type 0} (HasOut : P → List Held → Type 0) (slot_of number_of : P → ℕ) where
  abbrev cell_of : P → ℕ
  cell_of place = cell_at (slot_of place) (number_of place)

  pub very_place : (before after : List (Call Held P)) (slot : ℕ) (place : P) → IsHistory HasOut slot_of number_of (before ++ LendPlace slot (Some place) ∷ after)
      → last_change cell_of (cell_of place) before ≡ Some (Some place)
  very_place before after slot place history =
      let all = parts cell_of before (LendPlace slot (Some place) ∷ after) new_books history.0 history.1.made in
      lent cell_of all.0 all.2.1.0 before slot place all.1 all.2.1.1

  pub back_between : (before within after : List (Call Held P)) (slot its_slot : ℕ) (one other : P)
      → IsHistory HasOut slot_of number_of (before ++ LendPlace slot (Some one) ∷ (within ++ LendPlace its_slot (Some other) ∷ after)) → cell_of one ≡ cell_of other
      → last_change cell_of (cell_of other) within ≡ Some (Some other)
  back_between before within after slot its_slot one other history same_cell =
      between cell_of before within slot one other same_cell
      (very_place (before ++ LendPlace slot (Some one) ∷ within) after its_slot other
      (subst (IsHistory HasOut slot_of number_of) (sym (append_assoc before (LendPlace slot (Some one) ∷ within) (LendPlace its_slot (Some other) ∷ after))) history))
