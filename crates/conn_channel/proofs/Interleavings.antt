-- Interleavings, where one of the lists grows, one more comes, or the lists stand in another order.
use Rattle.std.proofs.Common.{◌≡◌, ℕ, zero, suc, List, [], ◌∷◌, ◌++◌, set, length, refl, sym, ap, subst, arith, append-nil}
use Rattle.std.specs.Prelude.{sum_by}
use mathlib.Core.Option.{some, some-injective, some-ne-none}
use lib.ListN.{get_elem?}
use Rattle.conn_channel.specs.Interleavings.{IsInterleaving}
use Rattle.conn_channel.proofs.Sums.{sum_at, none_all}

-- the same elements, in another order
pub data IsRearranged {A : Type 0} : List A → List A → Type 0 where
  nothing : IsRearranged [] []
  kept : (x : A) {xs ys : List A} → IsRearranged xs ys → IsRearranged (x ∷ xs) (x ∷ ys)
  swapped : (x y : A) (zs : List A) → IsRearranged (x ∷ y ∷ zs) (y ∷ x ∷ zs)
  after : {xs ys zs : List A} → IsRearranged xs ys → IsRearranged ys zs → IsRearranged xs zs

module _ {A : Type 0} where
  pub unchanged : (xs : List A) → IsRearranged xs xs
  unchanged [] = nothing
  unchanged (x ∷ xs) = kept x (unchanged xs)

  pub back : (xs ys : List A) → IsRearranged xs ys → IsRearranged ys xs
  back _ _ nothing = nothing
  back _ _ (kept x {xs = xs} {ys = ys} r) = kept x (back xs ys r)
  back _ _ (swapped x y zs) = swapped y x zs
  back _ _ (after {xs = xs} {ys = ys} {zs = zs} p q) = after (back ys zs q) (back xs ys p)

  pub behind : (ls ms ns : List A) → IsRearranged ms ns → IsRearranged (ls ++ ms) (ls ++ ns)
  behind [] ms ns r = r
  behind (x ∷ ls) ms ns r = kept x (behind ls ms ns r)

  pub moved : (x : A) (ms ns : List A) → IsRearranged (x ∷ (ms ++ ns)) (ms ++ x ∷ ns)
  moved x [] ns = unchanged (x ∷ ns)
  moved x (b ∷ ms) ns = after (swapped x b (ms ++ ns)) (kept b (moved x ms ns))

  pub exchanged : (ls ms ns : List A) → IsRearranged (ls ++ (ms ++ ns)) (ms ++ (ls ++ ns))
  exchanged [] ms ns = unchanged (ms ++ ns)
  exchanged (x ∷ ls) ms ns = after (kept x (exchanged ls ms ns)) (moved x ms (ls ++ ns))

  -- an element stands somewhere in the other order, and changes in both
  found : (ls ms : List A) → IsRearranged ls ms → (i : ℕ) (a : A) → get_elem? ls i ≡ some a → (j : ℕ) × (get_elem? ms j ≡ some a) × ((b : A) → IsRearranged (set ls i b) (set ms j b))
  found _ _ nothing i a at = absurd (some-ne-none a (sym at))
  found _ _ (kept x {xs = xs} {ys = ys} r) zero a at = (0, at, λ b. kept b r)
  found _ _ (kept x {xs = xs} {ys = ys} r) (suc i) a at = let f = found xs ys r i a at in (suc f.0, f.1, λ b. kept x (f.2 b))
  found _ _ (swapped x y zs) zero a at = (1, at, λ b. swapped b y zs)
  found _ _ (swapped x y zs) (suc zero) a at = (0, at, λ b. swapped x b zs)
  found _ _ (swapped x y zs) (suc (suc i)) a at = (suc (suc i), at, λ b. swapped x y (set zs i b))
  found _ _ (after {xs = xs} {ys = ys} {zs = zs} p q) i a at = let f = found xs ys p i a at in let g = found ys zs q f.0 a f.1 in (g.0, g.1, λ b. after (f.2 b) (g.2 b))

module _ {T : Type 0} where
  pub rearranged : (whole : List T) (ls ms : List (List T)) → IsRearranged ls ms → IsInterleaving whole ls → IsInterleaving whole ms
  rearranged [] ls ms r h = λ i l at. let f = found ms ls (back ls ms r) i l at in h f.0 l f.1
  rearranged (x ∷ rest) ls ms r h = let f = found ls ms r h.0 (x ∷ h.1) h.2 in (f.0, h.1, f.1, rearranged rest (set ls h.0 h.1) (set ms f.0 h.1) (f.2 h.1) h.3)

  empties : (lists : List (List T)) → IsInterleaving [] lists → IsInterleaving [] ([] ∷ lists)
  empties lists h zero l at = sym (some-injective [] l at)
  empties lists h (suc i) l at = h i l at

  -- with one more list, in which nothing is
  with_none : (whole : List T) (lists : List (List T)) → IsInterleaving whole lists → IsInterleaving whole ([] ∷ lists)
  with_none [] lists h = empties lists h
  with_none (x ∷ rest) lists h = (suc h.0, h.1, h.2, with_none rest (set lists h.0 h.1) h.3)

  pub none_behind : (whole : List T) (lists : List (List T)) → IsInterleaving whole lists → IsInterleaving whole (lists ++ [] ∷ [])
  none_behind whole lists h =
      let first : IsInterleaving whole ([] ∷ (lists ++ [])) = subst (λ l. IsInterleaving whole ([] ∷ l)) (sym (append-nil lists)) (with_none whole lists h) in
      rearranged whole ([] ∷ (lists ++ [])) (lists ++ [] ∷ []) (moved [] lists []) first

  ends : (l : List T) (rest : List (List T)) → IsInterleaving [] (l ∷ rest) → IsInterleaving [] ([] ∷ rest)
  ends l rest h = empties rest (λ i m at. h (suc i) m at)

  goes_on : (y x : T) (whole l : List T) (rest : List (List T)) → ((l : List T) (rest : List (List T)) → IsInterleaving whole (l ∷ rest) → IsInterleaving (whole ++ x ∷ []) ((l ++ x ∷ []) ∷ rest))
      → (i : ℕ) (m : List T) → get_elem? (l ∷ rest) i ≡ some (y ∷ m) → IsInterleaving whole (set (l ∷ rest) i m) → IsInterleaving (y ∷ (whole ++ x ∷ [])) ((l ++ x ∷ []) ∷ rest)
  goes_on y x whole l rest longer zero m at more = (0, m ++ x ∷ [], ap (λ (k : List T). some (k ++ x ∷ [])) (some-injective l (y ∷ m) at), longer m rest more)
  goes_on y x whole l rest longer (suc i) m at more = (suc i, m, at, longer l (set rest i m) more)

  -- the first list has one more, and so has the whole
  pub one_more : (x : T) (whole l : List T) (rest : List (List T)) → IsInterleaving whole (l ∷ rest) → IsInterleaving (whole ++ x ∷ []) ((l ++ x ∷ []) ∷ rest)
  one_more x [] l rest h = (0, [], ap (λ (k : List T). some (k ++ x ∷ [])) (h 0 l refl), ends l rest h)
  one_more x (y ∷ whole) l rest h = goes_on y x whole l rest (one_more x whole) h.0 h.1 h.2 h.3

  -- the lists have ls many elements ls the whole
  pub as_many : (whole : List T) (lists : List (List T)) → IsInterleaving whole lists → length whole ≡ sum_by length lists
  as_many [] lists h = sym (none_all length lists (λ i l at. ap length (h i l at)))
  as_many (x ∷ rest) lists h = omega (arith, as_many rest (set lists h.0 h.1) h.3, sum_at length lists h.0 (x ∷ h.1) h.1 h.2)
