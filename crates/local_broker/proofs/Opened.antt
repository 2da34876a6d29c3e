-- How a broker begins.
use Rattle.std.proofs.Common.{◌≡◌, ◌≢◌, ℕ, zero, suc, ◌+◌, ◌<◌, ◌≤◌, List, [], ◌∷◌, ◌++◌, length, replicate, slice_get, slice_set, refl, Option, Some, None, sym, ap, ◌∙◌, subst, ⊎_elim, arith}
use Rattle.std.proofs.lemmas.Bool.{cases_eq}
use Rattle.std.proofs.lemmas.List.{length-replicate, length-set}
use Rattle.std.proofs.lemmas.Option.{slice_get_within, same_Some}
use Rattle.dispatch_core.proofs.Spots.{slice_get-set_same, slice_get-set_other, slice_get-push_same, slice_get-push_other}
use Rattle.group_jobs.specs.Stamps.{Held}
use Rattle.session_desk.specs.Books.{Books, new_books, with_free}
use Rattle.session_desk.specs.Hands.{DeskLaw}
use Rattle.session_desk.specs.Everywhere.{IsEverywhere}
use Rattle.session_desk.specs.Places.{IsFreeAt, TakesPlace, cell_at}
use Rattle.session_desk.proofs.OneHand.{law_new, no_row}
use Rattle.conn_supply.specs.Holding.{IsOutAtPlace}
use Rattle.local_group.specs.Groups.{Group}
use Rattle.local_broker.specs.Places.{GroupPlace, place_at, has_out}
use Rattle.local_broker.specs.Broker.{AreNewGroups, IsNewGroup, HasAllPlaces}

pub new_law : (desk : Books Held GroupPlace) → HasAllPlaces desk → DeskLaw desk.rows desk.made
new_law desk has = subst (λ (b : Books Held GroupPlace). DeskLaw b.rows b.made) (sym has.books) law_new

pub new_out : (desk : Books Held GroupPlace) → HasAllPlaces desk → IsEverywhere (IsOutAtPlace has_out) (λ place. has_out place []) desk
new_out desk has =
    subst (IsEverywhere (IsOutAtPlace has_out) (λ place. has_out place [])) (sym has.books)
    (record { sessions = λ number row session there inside. absurd (no_row number row there); places = λ cell place free. tt })

-- one more group
pub group_more : (capacity : ℕ) (groups : List Group) (group : Group) → AreNewGroups capacity groups → IsNewGroup (length groups) capacity group → AreNewGroups capacity (groups ++ group ∷ [])
group_more capacity groups group fresh new slot other there =
    ⊎_elim
    (λ (last : slot ≡ length groups).
    let is = same_Some group other (sym (slice_get-push_same groups group) ∙ ap (slice_get (groups ++ group ∷ [])) (sym last) ∙ there) in
    subst (λ n. IsNewGroup n capacity other) (sym last) (subst (IsNewGroup (length groups) capacity) is new))
    (λ (before : slot ≢ length groups). fresh slot other (sym (slice_get-push_other groups slot group before) ∙ there))
    (cases_eq slot (length groups))

-- a new desk with the places of these cells, and no others
pub record IsFurnished (desk : Books Held GroupPlace) (at : ℕ) : Type 0 where
  pub books : desk ≡ with_free new_books desk.free
  pub cells : length desk.free ≡ 256
  pub filled : (cell : ℕ) → cell < at → IsFreeAt desk.free cell (place_at cell)
  pub empty : (cell : ℕ) → at ≤ cell → cell < 256 → slice_get desk.free cell ≡ Some None

none_at : {X : Type 0} (n cell : ℕ) (x : X) → cell < n → slice_get (replicate n x) cell ≡ Some x
none_at zero cell x less = absurd (omega arith)
none_at (suc n) zero x less = refl
none_at (suc n) (suc cell) x less = none_at n cell x (omega arith)

pub begins : (desk : Books Held GroupPlace) → desk ≡ new_books → IsFurnished desk 0
begins desk is =
    subst (λ (b : Books Held GroupPlace). IsFurnished b 0) (sym is)
    (record {
      books = refl;
      cells = length-replicate {A = Option GroupPlace} 256 None;
      filled = λ cell less. absurd (omega arith);
      empty = λ cell from less. none_at 256 cell None less;
    })

filled_more : (old new : List (Option GroupPlace)) (at : ℕ) → slice_get old at ≡ Some None → new ≡ slice_set old at (Some (place_at at))
    → ((cell : ℕ) → cell < at → IsFreeAt old cell (place_at cell)) → (cell : ℕ) → cell < at + 1 → IsFreeAt new cell (place_at cell)
filled_more old new at none after filled cell less =
    subst (λ free. IsFreeAt free cell (place_at cell)) (sym after)
    (
    ⊎_elim
    (λ (is : cell ≡ at).
    subst (λ n. slice_get (slice_set old at (Some (place_at at))) n ≡ Some (Some (place_at n))) (sym is)
    (slice_get-set_same old at (Some (place_at at)) (slice_get_within old at None none)))
    (λ (other : cell ≢ at). slice_get-set_other old at cell (Some (place_at at)) other ∙ filled cell (omega arith))
    (cases_eq cell at)
    )

takes : (old new : Books Held GroupPlace) (at : ℕ) (place : GroupPlace) (back : Option GroupPlace) (free : List (Option GroupPlace)) → at < 256 → place ≡ place_at at → IsFurnished old at
    → TakesPlace old.free at place back free → new ≡ with_free old free → IsFurnished new (at + 1)
takes old new at place None free less is furnished took after =
    let same : new.free ≡ free = ap (λ b. b.free) after in
    let set : new.free ≡ slice_set old.free at (Some (place_at at)) = same ∙ took.1 ∙ ap (λ p. slice_set old.free at (Some p)) is in
    record {
      books = after ∙ ap (λ b. with_free b free) furnished.books ∙ ap (with_free new_books) (sym same);
      cells = ap length set ∙ length-set old.free at (Some (place_at at)) ∙ furnished.cells;
      filled = filled_more old.free new.free at took.0 set furnished.filled;
      empty = λ cell from small. ap (λ l. slice_get l cell) set ∙ slice_get-set_other old.free at cell (Some (place_at at)) (λ e. omega arith) ∙ furnished.empty cell (omega arith) small;
    }
takes old new at place (Some back) free less is furnished took after =
    let none = furnished.empty at (omega arith) less in
    let some = took.1.1 in
    absurd (cc)

-- a new desk is given the place of the next cell
pub place_more : (old new : Books Held GroupPlace) (at : ℕ) (place : GroupPlace) (back : Option GroupPlace) → at < 256 → place ≡ place_at at → IsFurnished old at
    → (free : List (Option GroupPlace)) × TakesPlace old.free (cell_at place.slot place.number) place back free × (new ≡ with_free old free)
    → IsFurnished new (at + 1)
place_more old new at place back less is furnished took =
    let there : cell_at place.slot place.number ≡ at = ap (λ p. cell_at p.slot p.number) is ∙ omega arith in
    takes old new at place back took.0 less is furnished (subst (λ n. TakesPlace old.free n place back took.0) there took.1) took.2
