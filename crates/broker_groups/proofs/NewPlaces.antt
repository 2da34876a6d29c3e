-- The places of groups that were opened one after the other are new, and no two of them have one slot and number.
use Rattle.std.proofs.Common.{◌≡◌, ℕ, ◌+◌, ◌<◌, ◌≤◌, ◌≢◌, ◌⊎◌, ◌&&◌, nat_eq, if◌then◌else◌, suc, List, [], ◌∷◌, slice_get, Some, All, refl, sym, ap, ◌∙◌, subst, ⊎_elim, inl, inr, arith}
use Rattle.std.specs.Prelude.{sum_by}
use Rattle.std.specs.Global.{Vec}
use Rattle.std.proofs.lemmas.Bool.{cases_eq, eq-eqb, ne_eqb}
use Rattle.std.proofs.lemmas.List.Sums.{sum_by-append, sum_by-cons}
use Rattle.std.proofs.lemmas.Option.{same_Some, slice_get_within}
use Rattle.gate_word.specs.Seats.{GateId}
use Rattle.group_queue.specs.Ports.{GroupId, PortState}
use Rattle.group_queue.specs.Places.{PlaceState, IsNewPlace}
use Rattle.broker_groups.specs.Openings.{AreOpened, named_by, or_none}
use Rattle.broker_groups.specs.Naming.{AreNewPlacesOf, in_a_row, once_at}
use Rattle.broker_groups.proofs.Dealing.{all_in_a_row}
use Rattle.broker_groups.proofs.Rows.{there, All-at}

-- places of the group of this slot, numbered from this number on
abbrev AreFrom : ℕ → ℕ → List PlaceState → Type 0
AreFrom slot from places = (n : ℕ) (place : PlaceState) → slice_get places n ≡ Some place → (place.group ≡ slot) × (place.number ≡ from + n)

-- rows of places of the groups from this slot on
abbrev AreRowsFrom : ℕ → List (Vec PlaceState) → Type 0
AreRowsFrom slot rows = (k : ℕ) (row : Vec PlaceState) → slice_get rows k ≡ Some row → AreFrom (slot + k) 0 row.items

-- one place counts once at most, and only under its own slot and number
one_counts : (slot number : ℕ) (place : PlaceState) → (once_at slot number place ≡ 0) ⊎ ((once_at slot number place ≡ 1) × (place.group ≡ slot) × (place.number ≡ number))
one_counts slot number place =
    ⊎_elim
    (λ (its : place.group ≡ slot).
    ⊎_elim
    (λ (same : place.number ≡ number). inr (λ i. if eq-eqb place.group slot its i && eq-eqb place.number number same i then 1 else 0, its, same))
    (λ (other : place.number ≢ number). inl (λ i. if eq-eqb place.group slot its i && ne_eqb place.number number other i then 1 else 0))
    (cases_eq place.number number))
    (λ (other : place.group ≢ slot). inl (ap (λ is. if is && nat_eq place.number number then 1 else 0) (ne_eqb place.group slot other)))
    (cases_eq place.group slot)

shift : (n : ℕ) → n + 1 ≡ suc n
shift n = omega arith

-- of places that are numbered from a number on, none has a smaller one, and one at most has any
numbered : (places : List PlaceState) (at from : ℕ) → AreFrom at from places → (slot number : ℕ) → (number < from → sum_by (once_at slot number) places ≡ 0) × (sum_by (once_at slot number) places ≤ 1)
numbered [] at from are slot number = (λ less. refl, omega arith)
numbered (place ∷ places) at from are slot number =
    let own = are 0 place refl in
    let rest = numbered places at (from + 1) (λ n other is. let its = are (n + 1) other (subst (λ k. slice_get (place ∷ places) k ≡ Some other) (sym (shift n)) is) in (its.0, omega (arith, its.1))) slot number in
    let sum = sum_by-cons (once_at slot number) place places in
    ⊎_elim
    (λ (none : once_at slot number place ≡ 0). (λ (less : number < from). omega (arith, none, sum, rest.0 (omega (arith, less))), omega (arith, none, sum, rest.1)))
    (λ (here : (once_at slot number place ≡ 1) × (place.group ≡ slot) × (place.number ≡ number)).
    (λ (less : number < from). absurd (omega (arith, less, here.2, own.1)), omega (arith, here.0, sum, rest.0 (omega (arith, here.2, own.1)))))
    (one_counts slot number place)

-- none of them is of another slot
of_other : (places : List PlaceState) (at from : ℕ) → AreFrom at from places → (slot number : ℕ) → at ≢ slot → sum_by (once_at slot number) places ≡ 0
of_other [] at from are slot number other = refl
of_other (place ∷ places) at from are slot number other =
    let own = are 0 place refl in
    let rest = of_other places at (from + 1) (λ n more is. let its = are (n + 1) more (subst (λ k. slice_get (place ∷ places) k ≡ Some more) (sym (shift n)) is) in (its.0, omega (arith, its.1))) slot number other in
    let sum = sum_by-cons (once_at slot number) place places in
    ⊎_elim
    (λ (none : once_at slot number place ≡ 0). omega (arith, none, sum, rest))
    (λ (here : (once_at slot number place ≡ 1) × (place.group ≡ slot) × (place.number ≡ number)). absurd (other (sym own.0 ∙ here.1)))
    (one_counts slot number place)

-- of rows from a slot on, none is of a smaller one, and each number is there once at most
in_rows : (rows : List (Vec PlaceState)) (from : ℕ) → AreRowsFrom from rows → (slot number : ℕ) → (slot < from → sum_by (once_at slot number) (in_a_row rows) ≡ 0) × (sum_by (once_at slot number) (in_a_row rows) ≤ 1)
in_rows [] from are slot number = (λ less. refl, omega arith)
in_rows (row ∷ rows) from are slot number =
    let at : from + 0 ≡ from = omega arith in
    let own : AreFrom from 0 row.items = subst (λ n. AreFrom n 0 row.items) at (are 0 row refl) in
    let next : (k : ℕ) → from + (k + 1) ≡ from + 1 + k = λ k. omega arith in
    let rest = in_rows rows (from + 1) (λ k other is. subst (λ n. AreFrom n 0 other.items) (next k) (are (k + 1) other (subst (λ k. slice_get (row ∷ rows) k ≡ Some other) (sym (shift k)) is))) slot number in
    let sum = sum_by-append (once_at slot number) row.items (in_a_row rows) in
    ⊎_elim
    (λ (here : from ≡ slot). (λ (less : slot < from). absurd (omega (arith, less, here)), omega (arith, sum, rest.0 (omega (arith, here)), (numbered row.items from 0 own slot number).1)))
    (λ (other : from ≢ slot).
    let none = of_other row.items from 0 own slot number other in (λ (less : slot < from). omega (arith, sum, none, rest.0 (omega (arith, less))), omega (arith, sum, none, rest.1)))
    (cases_eq from slot)

module _ (gate : GateId) (capacity workers : ℕ) (groups : List GroupId) (ports : List (Vec PortState)) (places : List (Vec PlaceState)) (opened : AreOpened gate capacity workers 8 groups ports places) where
  -- the place at an index of a row, in the group of its slot
  the_place : (slot : ℕ) (row : Vec PlaceState) → slice_get places slot ≡ Some row → (number : ℕ) (place : PlaceState) → slice_get row.items number ≡ Some place
      → (place.group ≡ slot) × (place.number ≡ 0 + number) × IsNewPlace (named_by groups place.group) place.number place
  the_place slot row is number place at =
      let it = there groups slot (let within = slice_get_within places slot row is in omega (arith, within, opened.groups_many, opened.places_many)) in
      let all = (opened.places_each slot it.0 row it.1 is).new in
      let found = all.each number (let within = slice_get_within row.items number place at in omega (arith, within, all.all)) in
      let new : IsNewPlace it.0 number place = subst (IsNewPlace it.0 number) (same_Some found.0 place (sym found.1 ∙ at)) found.2 in
      let slot_is : slot ≡ place.group = sym (new.of.slot ∙ (opened.each slot it.0 it.1).slot_is) in
      let own : IsNewPlace (named_by groups slot) number place = subst (λ (g : GroupId). IsNewPlace g number place) (sym (ap or_none it.1)) new in (
        sym slot_is,
        omega (arith, new.number_is),
        subst (λ n. IsNewPlace (named_by groups place.group) n place) (sym new.number_is) (subst (λ n. IsNewPlace (named_by groups n) number place) slot_is own),
      )

  pub new_of : AreNewPlacesOf (named_by groups) (in_a_row places)
  new_of = record {
    new = all_in_a_row (λ (place : PlaceState). IsNewPlace (named_by groups place.group) place.number place) places
        (All-at (λ (row : Vec PlaceState). All (λ (place : PlaceState). IsNewPlace (named_by groups place.group) place.number place) row.items) places (λ slot row is.
        All-at (λ (place : PlaceState). IsNewPlace (named_by groups place.group) place.number place) row.items (λ number place at. (the_place slot row is number place at).2)));
    once = λ slot number. (in_rows places 0 (λ k row is n place at. let it = the_place k row is n place at in (omega (arith, it.0), it.1)) slot number).1;
  }
