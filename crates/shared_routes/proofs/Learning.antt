-- One state after another.
use Rattle.std.proofs.Common.{◌≡◌, ℕ, ◌+◌, ◌<◌, ◌≤◌, ◌∙◌, List, [], ◌∷◌, ◌++◌, length, get_or, set, map, take, IfSome, Some, None, refl, sym, ap, subst, arith}
use Rattle.std.specs.Prelude.{Option}
use Rattle.std.proofs.Math.ListN.{get_or-map}
use Rattle.std.proofs.lemmas.List.{append_assoc, append-nil, map-set, length-append, length-map, length-take-le, get_or_default, take_more}
use Rattle.once_cell.specs.Once.{Agrees}
use Rattle.mqtt_topic.specs.Names.{Share}
use Rattle.mqtt_topic.specs.Routes.{slot_of}
use Rattle.shared_routes.specs.declared.new_shares.NewShares.{NewShares}
use Rattle.shared_routes.specs.Cells.{CellState, RoutesId, unknown, names_of, first_of, known_of}
use Rattle.shared_routes.specs.Known.{KnownState, AreFirst, Learns, PublishesTo, IsBound, IsBoundBehind}
use Rattle.shared_routes.proofs.Told.{first_all, first_first, first_few, first_kept, first_known, first_more, first_end, first_whole, names_same, next_same}

-- nothing more is learnt
pub learns_none : (old : KnownState) → Learns old [] old
learns_none old = record { table = refl; shares = sym (append-nil old.shares); kept = first_all old.told }

-- more, and then more
pub learns_both : (old between new : KnownState) (some more : List Share) → Learns old some between → Learns between more new → Learns old (some ++ more) new
learns_both old between new some more one other = record {
  table = other.table ∙ one.table;
  shares = other.shares ∙ ap (λ (list : List Share). list ++ more) one.shares ∙ append_assoc old.shares some more;
  kept = first_first old.told between.told new.told one.kept other.kept;
}

abbrev pub state_of : NewShares → List CellState → List Share → KnownState
state_of kind cells shares = record { table = record { cells = names_of cells; new_shares = kind }; shares = shares; told = known_of cells }

at_share : (cells : List CellState) (slot : ℕ) (old : CellState) → old ≡ get_or cells slot old → old.share ≡ get_or (map (λ (cell : CellState). cell.share) cells) slot old.share
at_share cells slot old is = ap (λ (one : CellState). one.share) is ∙ sym (get_or-map (λ (cell : CellState). cell.share) cells slot old)

shares_set : (cells : List CellState) (slot : ℕ) (new : CellState) (share : Share) → new.share ≡ Some share
    → map (λ (cell : CellState). cell.share) (set cells slot new) ≡ set (map (λ (cell : CellState). cell.share) cells) slot (Some share)
shares_set cells slot new share knows =
    map-set (λ (cell : CellState). cell.share) cells slot new ∙ ap (λ (known : Option Share). set (map (λ (cell : CellState). cell.share) cells) slot known) knows

-- what was known of the cells is known when one more is
pub told_kept : (cells : List CellState) (slot : ℕ) (old new : CellState) (share : Share) → old ≡ get_or cells slot old → new.share ≡ Some share → Agrees old.share share
    → AreFirst (known_of cells) (known_of (set cells slot new))
told_kept cells slot old new share is knows agrees =
    subst (λ (known : List (Option Share)). AreFirst (known_of cells) (first_of known)) (sym (shares_set cells slot new share knows))
    (first_kept (map (λ (cell : CellState). cell.share) cells) slot old.share share (at_share cells slot old is) agrees)

-- the share of the next cell is known after the first
pub told_more : (cells : List CellState) (shares : List Share) (slot : ℕ) (new : CellState) (share : Share) → slot ≡ length shares → slot < length cells → new.share ≡ Some share
    → AreFirst shares (known_of cells) → AreFirst (shares ++ share ∷ []) (known_of (set cells slot new))
told_more cells shares slot new share next room knows first =
    subst (λ (known : List (Option Share)). AreFirst (shares ++ share ∷ []) (first_of known)) (sym (shares_set cells slot new share knows))
    (subst (λ (at : ℕ). AreFirst (shares ++ share ∷ []) (first_of (set (map (λ (cell : CellState). cell.share) cells) at (Some share)))) (sym next)
    (first_more shares (map (λ (cell : CellState). cell.share) cells) share first (omega (arith, next, room, length-map cells (λ (cell : CellState). cell.share)))))

-- nothing is known of the next cell: the first are all that was told
pub told_end : (cells : List CellState) (shares : List Share) (slot : ℕ) (old : CellState) → slot ≡ length shares → old ≡ get_or cells slot old → slot < length cells → old.share ≡ None
    → AreFirst shares (known_of cells) → known_of cells ≡ shares
told_end cells shares slot old next is room none first =
    first_end shares (map (λ (cell : CellState). cell.share) cells) first
    (ap (λ (at : ℕ). get_or (map (λ (cell : CellState). cell.share) cells) at None) (sym next)
    ∙ get_or_default (map (λ (cell : CellState). cell.share) cells) slot None old.share (omega (arith, room, length-map cells (λ (cell : CellState). cell.share)))
    ∙ sym (at_share cells slot old is) ∙ none)

-- all slots are seen
pub told_all : (cells : List CellState) (shares : List Share) → length cells ≤ length shares → AreFirst shares (known_of cells) → known_of cells ≡ shares
told_all cells shares all first =
    first_whole shares (known_of cells) first
    (omega (arith, all, first_few (map (λ (cell : CellState). cell.share) cells), length-map cells (λ (cell : CellState). cell.share)))

-- a worker is told of the share of a cell, after those of the cells before it
pub is_told_next : (kind : NewShares) (cells : List CellState) (shares some : List Share) (slot : ℕ) (old new : CellState) (share : Share) → slot ≡ length some → slot < length cells
    → old ≡ get_or cells slot old → new.name ≡ old.name → new.share ≡ Some share → Agrees old.share share → AreFirst some (known_of cells)
    → PublishesTo (state_of kind cells shares) (some ++ share ∷ []) (state_of kind (set cells slot new) shares)
is_told_next kind cells shares some slot old new share next room is same knows agrees first = record {
  same = ap (λ (names : List ℕ). record { table = record { cells = names; new_shares = kind }; shares = shares; told = known_of (set cells slot new) }) (names_same cells slot old new is same);
  kept = told_kept cells slot old new share is knows agrees;
  told = told_more cells some slot new share next room knows first;
}

-- it sees the share of the next cell
pub learns_next : (kind : NewShares) (cells : List CellState) (shares shares' : List Share) (slot : ℕ) (old new : CellState) (share : Share)
    → old ≡ get_or cells slot old → new.name ≡ old.name → new.share ≡ Some share → Agrees old.share share → shares' ≡ shares ++ share ∷ []
    → Learns (state_of kind cells shares) (share ∷ []) (state_of kind (set cells slot new) shares')
learns_next kind cells shares shares' slot old new share is same knows agrees becomes = record {
  table = ap (λ (names : List ℕ). record { cells = names; new_shares = kind }) (names_same cells slot old new is same);
  shares = becomes;
  kept = told_kept cells slot old new share is knows agrees;
}

-- the next slot is that of the share
pub bound_here : (old new : KnownState) (share bound : Share) (slot : ℕ) → slot_of share.text old.shares ≡ None → bound.text ≡ share.text → slot ≡ length old.shares
    → Learns old (bound ∷ []) new → IsBound old share slot new
bound_here old new share bound slot unknown same is grown = record {
  others = [];
  bound = bound;
  unknown = rw (append-nil old.shares) unknown;
  same = same;
  slot_is = rw (append-nil old.shares) is;
  grown = grown;
}

-- another share has the next slot
pub bound_later : (old between new : KnownState) (share other : Share) (result : Option ℕ) → Learns old (other ∷ []) between → IsBoundBehind between share result new
    → IsBoundBehind old share result new
bound_later old between new share other (Some slot) one behind =
    let ahead : between.shares ++ behind.others ≡ old.shares ++ (other ∷ behind.others) =
    ap (λ (list : List Share). list ++ behind.others) one.shares ∙ append_assoc old.shares (other ∷ []) behind.others in
    record {
      others = other ∷ behind.others;
      bound = behind.bound;
      unknown = subst (λ (shares : List Share). slot_of share.text shares ≡ None) ahead behind.unknown;
      same = behind.same;
      slot_is = behind.slot_is ∙ ap length (ahead);
      grown = learns_both old between new (other ∷ []) (behind.others ++ behind.bound ∷ []) one behind.grown;
    }
bound_later old between new share other None one behind = record {
  others = other ∷ behind.others;
  grown = learns_both old between new (other ∷ []) behind.others one behind.grown;
  full = behind.full;
  unknown = behind.unknown;
}

-- what a worker was told of the next cell it sees there
pub learns_told : (old told new : KnownState) (share seen : Share) → PublishesTo old (old.shares ++ share ∷ []) told → Learns told (seen ∷ []) new → AreFirst new.shares new.told
    → Learns old (seen ∷ []) new × (share ≡ seen)
learns_told old told new share seen one other first =
    let shares : new.shares ≡ old.shares ++ seen ∷ [] = other.shares ∙ ap (λ (known : KnownState). known.shares ++ seen ∷ []) one.same in (
      record {
        table = other.table ∙ ap (λ (known : KnownState). known.table) one.same;
        shares = shares;
        kept = first_first old.told told.told new.told one.kept other.kept;
      },
      next_same old.shares new.told share seen (first_first (old.shares ++ share ∷ []) told.told new.told one.told other.kept)
          (subst (λ (known : List Share). AreFirst known new.told) shares first),
    )

name_at : (cells : List CellState) (slot : ℕ) (cell : CellState) → cell ≡ get_or cells slot cell → slot < length cells → cell.name ≡ get_or (names_of cells) slot 0
name_at cells slot cell is below =
    ap (λ (one : CellState). one.name) is ∙ sym (get_or-map (λ (one : CellState). one.name) cells slot cell)
    ∙ get_or_default (names_of cells) slot cell.name 0 (omega (arith, below, length-map cells (λ (one : CellState). one.name)))

-- two workers' cells of a slot of one table have one name
pub slot_name : (cells others : List CellState) (slot : ℕ) (mine other : CellState) → names_of others ≡ names_of cells → mine ≡ get_or cells slot mine → other ≡ get_or others slot other
    → slot < length cells → slot < length others → other.name ≡ mine.name
slot_name cells others slot mine other table is is' below below' =
    name_at others slot other is' below' ∙ ap (λ (names : List ℕ). get_or names slot 0) table ∙ sym (name_at cells slot mine is below)

-- another worker, which was told of the shares before a slot, is told of that of the slot by a note that knows it
pub told_slot : (kind : NewShares) (cells others : List CellState) (shares seen : List Share) (slot : ℕ) (mine old new : CellState) → mine ≡ get_or cells slot mine → old ≡ get_or others slot old
    → new ≡ mine → names_of others ≡ names_of cells → IfSome mine.share (Agrees old.share) → slot < length shares → slot < length others
    → AreFirst shares (known_of cells) → AreFirst (take slot shares) (known_of others)
    → PublishesTo (state_of kind others seen) (take (slot + 1) shares) (state_of kind (set others slot new) seen)
told_slot kind cells others shares seen slot mine old new is is' becomes table agrees below room first before =
    let none : Share = record { text = []; name = []; filter = [] } in
    let share : Share = get_or shares slot none in
    let known : List (Option Share) = map (λ (cell : CellState). cell.share) cells in
    let few : length (known_of cells) ≤ length known = first_few known in
    let within : slot < length known = omega (arith, below, few, ap length first.1, length-append shares first.0) in
    let knows : mine.share ≡ Some share =
    at_share cells slot mine is ∙ get_or_default known slot mine.share None within ∙ first_known shares known slot none first below in
    let same : new.name ≡ old.name =
    ap (λ (cell : CellState). cell.name) becomes
    ∙ sym (slot_name cells others slot mine old table is is' (omega (arith, within, length-map cells (λ (cell : CellState). cell.share))) room) in
    rw (take_more shares slot none below)
    (is_told_next kind others seen (take slot shares) slot old new share (sym (length-take-le slot shares (omega (arith, below)))) room is' same
    (ap (λ (cell : CellState). cell.share) becomes ∙ knows) (subst (λ (note : Option Share). IfSome note (Agrees old.share)) knows agrees) before)

names_unknown : (names : List ℕ) → names_of (map unknown names) ≡ names
names_unknown [] = refl
names_unknown (name ∷ names) = ap (λ (list : List ℕ). name ∷ list) (names_unknown names)

-- nothing is known of new cells
pub known_unknown : (names : List ℕ) → known_of (map unknown names) ≡ []
known_unknown [] = refl
known_unknown (name ∷ names) = refl

pub state_unknown : (table : RoutesId) (kind : NewShares) (cells : List CellState) (shares : List Share) → cells ≡ map unknown table.cells → shares ≡ [] → kind ≡ table.new_shares
    → state_of kind cells shares ≡ record { table = table; shares = []; told = [] }
state_unknown table kind cells shares new none same =
    ap (λ (list : List CellState). state_of kind list shares) new ∙ ap (state_of kind (map unknown table.cells)) none
    ∙ ap (λ (list : List ℕ). record { table = record { cells = list; new_shares = kind }; shares = []; told = known_of (map unknown table.cells) }) (names_unknown table.cells)
    ∙ ap (λ (told : List Share). record { table = record { cells = table.cells; new_shares = kind }; shares = []; told = told }) (known_unknown table.cells)
    ∙ ap (λ (kept : NewShares). record { table = record { cells = table.cells; new_shares = kept }; shares = []; told = [] }) same
