-- What a list of shares begins with, and what is known of the first cells.
use Rattle.std.proofs.Common.{◌≡◌, ℕ, zero, suc, ◌<◌, ◌≤◌, ◌∙◌, List, [], ◌∷◌, ◌++◌, length, get_or, set, Some, None, refl, sym, ap, subst, arith}
use Rattle.std.specs.Prelude.{Option}
use Rattle.std.proofs.lemmas.List.{append_assoc, append-nil, append_cancel_left, length-append, nil_from_length}
use Rattle.once_cell.specs.Once.{Agrees}
use Rattle.mqtt_topic.specs.Names.{Share}
use Rattle.shared_routes.specs.Cells.{CellState, names_of, first_of}
use Rattle.shared_routes.specs.Known.{AreFirst}

-- all are the first of all
pub first_all : (all : List Share) → AreFirst all all
first_all all = ([], sym (append-nil all))

-- the first of the first
pub first_first : (few some all : List Share) → AreFirst few some → AreFirst some all → AreFirst few all
first_first few some all one other = (one.0 ++ other.0, other.1 ∙ ap (λ (list : List Share). list ++ other.0) one.1 ∙ append_assoc few one.0 other.0)

-- what comes next after the first is one share
pub next_same : (shares all : List Share) (one other : Share) → AreFirst (shares ++ one ∷ []) all → AreFirst (shares ++ other ∷ []) all → one ≡ other
next_same shares all one other first first' =
    let same : one ∷ first.0 ≡ other ∷ first'.0 =
    append_cancel_left shares (one ∷ first.0) (other ∷ first'.0)
    (sym (append_assoc shares (one ∷ []) first.0) ∙ sym first.1 ∙ first'.1 ∙ append_assoc shares (other ∷ []) first'.0) in
    cc

-- the first are all of them where there are no more
pub first_whole : (shares all : List Share) → AreFirst shares all → length all ≤ length shares → all ≡ shares
first_whole shares all first few =
    first.1
    ∙ ap (λ (others : List Share). shares ++ others) (nil_from_length first.0 (omega (arith, few, ap length first.1, length-append shares first.0)))
    ∙ append-nil shares

consed : (share : Share) (ones all : List Share) → AreFirst ones all → AreFirst (share ∷ ones) (share ∷ all)
consed share ones all first = (first.0, ap (λ (list : List Share). share ∷ list) first.1)

unconsed : (share other : Share) (ones all : List Share) → AreFirst (share ∷ ones) (other ∷ all) → AreFirst ones all
unconsed share other ones all first = (first.0, let same = first.1 in cc)

-- the cells keep their names
pub names_same : (cells : List CellState) (slot : ℕ) (old new : CellState) → old ≡ get_or cells slot old → new.name ≡ old.name → names_of (set cells slot new) ≡ names_of cells
names_same [] slot old new is same = refl
names_same (cell ∷ cells) zero old new is same = ap (λ (name : ℕ). name ∷ names_of cells) (same ∙ ap (λ (one : CellState). one.name) is)
names_same (cell ∷ cells) (suc slot) old new is same = ap (λ (names : List ℕ). cell.name ∷ names) (names_same cells slot old new is same)

-- no more is known than there are cells
pub first_few : (known : List (Option Share)) → length (first_of known) ≤ length known
first_few [] = omega arith
first_few (None ∷ others) = omega arith
first_few (Some share ∷ others) = omega (arith, first_few others)

-- what is known stays known
pub first_kept : (known : List (Option Share)) (slot : ℕ) (old : Option Share) (share : Share) → old ≡ get_or known slot old → Agrees old share
    → AreFirst (first_of known) (first_of (set known slot (Some share)))
first_kept [] slot old share is agrees = first_all []
first_kept (None ∷ others) zero old share is agrees = (share ∷ first_of others, refl)
first_kept (Some one ∷ others) zero old share is agrees =
    let same : one ≡ share = subst (λ (known : Option Share). Agrees known share) is agrees in
    subst (λ (first : Share). AreFirst (one ∷ first_of others) (first ∷ first_of others)) same (first_all (one ∷ first_of others))
first_kept (None ∷ others) (suc slot) old share is agrees = first_all []
first_kept (Some one ∷ others) (suc slot) old share is agrees =
    consed one (first_of others) (first_of (set others slot (Some share))) (first_kept others slot old share is agrees)

-- the share of the next cell is known after the first
pub first_more : (shares : List Share) (known : List (Option Share)) (share : Share) → AreFirst shares (first_of known) → length shares < length known
    → AreFirst (shares ++ share ∷ []) (first_of (set known (length shares) (Some share)))
first_more [] [] share first room = absurd (omega (arith, room))
first_more [] (here ∷ others) share first room = (first_of others, refl)
first_more (one ∷ shares) [] share first room = absurd (omega (arith, room))
first_more (one ∷ shares) (None ∷ others) share first room = let none = first.1 in cc
first_more (one ∷ shares) (Some here ∷ others) share first room =
    let same : here ≡ one = (let same' = first.1 in cc) in
    subst (λ (head : Share). AreFirst (one ∷ shares ++ share ∷ []) (head ∷ first_of (set others (length shares) (Some share)))) (sym same)
    (consed one (shares ++ share ∷ []) (first_of (set others (length shares) (Some share)))
    (first_more shares others share (unconsed one here shares (first_of others) first) (omega (arith, room))))

-- nothing is known of the next cell: the first are all that is known
pub first_end : (shares : List Share) (known : List (Option Share)) → AreFirst shares (first_of known) → get_or known (length shares) None ≡ None → first_of known ≡ shares
first_end [] [] first none = refl
first_end [] (None ∷ others) first none = refl
first_end [] (Some here ∷ others) first none = cc
first_end (one ∷ shares) [] first none = let no = first.1 in cc
first_end (one ∷ shares) (None ∷ others) first none = let no = first.1 in cc
first_end (one ∷ shares) (Some here ∷ others) first none =
    let same : here ≡ one = (let same' = first.1 in cc) in
    let rest : first_of others ≡ shares = first_end shares others (unconsed one here shares (first_of others) first) none in
    cc

-- the first are known
pub first_known : (shares : List Share) (known : List (Option Share)) (slot : ℕ) (d : Share) → AreFirst shares (first_of known) → slot < length shares
    → get_or known slot None ≡ Some (get_or shares slot d)
first_known [] known slot d first below = absurd (omega (arith, below))
first_known (one ∷ shares) [] slot d first below = let no = first.1 in cc
first_known (one ∷ shares) (None ∷ others) slot d first below = let no = first.1 in cc
first_known (one ∷ shares) (Some here ∷ others) zero d first below = let same = first.1 in cc
first_known (one ∷ shares) (Some here ∷ others) (suc slot) d first below =
    first_known shares others slot d (unconsed one here shares (first_of others) first) (omega (arith, below))
