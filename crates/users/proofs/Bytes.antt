-- Lists of bytes that are made or compared byte by byte.
use Rattle.std.proofs.Common.{◌≡◌, ℕ, zero, suc, ◌+◌, ◌-◌, ◌<◌, ◌≤◌, ◌++◌, replicate, inl, inr, ◌↔◌, List, [], ◌∷◌, length, get_or, eqb, bytes_eq, refl, sym, ap, ◌∙◌, subst, arith, bit_xor, bit_or}
use borrow.Author.Count.{below_more}
use Rattle.std.proofs.lemmas.Bool.{cases_lt}
use Rattle.std.proofs.lemmas.Bool.Decides.{same_from_decides, Decides-eqb}
use Rattle.std.proofs.lemmas.Slice.Eq.{bytes_eq-Decides}
use Rattle.std.proofs.lemmas.Grind.{same_number_lists}
use Rattle.std.proofs.lemmas.List.{get_or-map, get_or-replicate, get_or_past, length-append, length-map, length-replicate}
use Rattle.std.proofs.lemmas.Nat.{le_or_l, le_or_r}
use Rattle.std.specs.Int.Bits.{xor_self, xor_zero_l, xor_zero_r}
use lib.Bits.{xor_assoc}
use Rattle.users.specs.Hashing.{xor_bytes, masked}

-- the bytes in front of a place are changed, and the others are as they were
pub record IsChangedBelow (change : ℕ → ℕ → ℕ) (old new : List ℕ) (place : ℕ) : Type 0 where
  pub long : length new ≡ length old
  pub done : (k : ℕ) → k < place → get_or new k 0 ≡ change k (get_or old k 0)
  pub left : (k : ℕ) → place ≤ k → get_or new k 0 ≡ get_or old k 0

-- ---- xor

pub length-xor_bytes : (xs ys : List ℕ) → length xs ≡ length ys → length (xor_bytes xs ys) ≡ length xs
length-xor_bytes [] ys e = refl
length-xor_bytes (x ∷ xs) [] e = absurd (omega arith)
length-xor_bytes (x ∷ xs) (y ∷ ys) e = ap suc (length-xor_bytes xs ys (omega arith))

get_or-xor_bytes : (xs ys : List ℕ) (k : ℕ) → length xs ≡ length ys → k < length xs → get_or (xor_bytes xs ys) k 0 ≡ bit_xor (get_or xs k 0) (get_or ys k 0)
get_or-xor_bytes [] ys k e h = absurd (omega arith)
get_or-xor_bytes (x ∷ xs) [] k e h = absurd (omega arith)
get_or-xor_bytes (x ∷ xs) (y ∷ ys) zero e h = refl
get_or-xor_bytes (x ∷ xs) (y ∷ ys) (suc k) e h = get_or-xor_bytes xs ys k (omega arith) (omega arith)

pub all_xor : (old other new : List ℕ) (place : ℕ) → length old ≡ length other → length old ≤ place
    → IsChangedBelow (λ k byte. bit_xor byte (get_or other k 0)) old new place → new ≡ xor_bytes old other
all_xor old other new place long end changed =
    let size = length-xor_bytes old other long in
    same_number_lists new (xor_bytes old other) (omega (arith, changed.long))
    (λ k h. changed.done k (omega (arith, changed.long)) ∙ sym (get_or-xor_bytes old other k long (omega (arith, changed.long))))

pub all_masked : (mask : ℕ) (old new : List ℕ) (place : ℕ) → length old ≤ place
    → IsChangedBelow (λ k byte. bit_xor byte mask) old new place → new ≡ masked mask old
all_masked mask old new place end changed =
    let size : length (masked mask old) ≡ length old = length-map old (λ byte. bit_xor byte mask) in
    same_number_lists new (masked mask old) (omega (arith, changed.long))
    (λ k h. changed.done k (omega (arith, changed.long)) ∙ sym (get_or-map (λ byte. bit_xor byte mask) old k 0 0 (omega (arith, changed.long))))

-- ---- zeros behind bytes

-- a block with the bytes in front of a place, and zeros from there on
pub record IsFilledBelow (size : ℕ) (bytes block : List ℕ) (place : ℕ) : Type 0 where
  pub long : length block ≡ size
  pub done : (k : ℕ) → k < place → get_or block k 0 ≡ get_or bytes k 0
  pub left : (k : ℕ) → place ≤ k → get_or block k 0 ≡ 0

get_or_zeros : (n k : ℕ) → get_or (replicate {A = ℕ} n 0) k 0 ≡ 0
get_or_zeros n k =
    elim (cases_lt k n) as (λ _. get_or (replicate {A = ℕ} n 0) k 0 ≡ 0) [
      | inl h ↦ get_or-replicate n k 0 0 h
      | inr h ↦ get_or_past (replicate {A = ℕ} n 0) k 0 (omega (arith, length-replicate {A = ℕ} n 0))
    ]

padded_at : (bytes : List ℕ) (n k : ℕ) → get_or (bytes ++ replicate n 0) k 0 ≡ get_or bytes k 0
padded_at [] n k = get_or_zeros n k
padded_at (byte ∷ bytes) n zero = refl
padded_at (byte ∷ bytes) n (suc k) = padded_at bytes n k

pub none_filled : (size : ℕ) (bytes : List ℕ) → IsFilledBelow size bytes (replicate size 0) 0
none_filled size bytes = record { long = length-replicate size 0; done = λ k h. absurd (omega arith); left = λ k h. get_or_zeros size k }

pub all_filled : (size : ℕ) (bytes block : List ℕ) (place : ℕ) → length bytes ≡ place → place ≤ size → IsFilledBelow size bytes block place
    → block ≡ bytes ++ replicate (size - length bytes) 0
all_filled size bytes block place end within filled =
    same_number_lists block (bytes ++ replicate (size - length bytes) 0)
    (simp (length-append, length-replicate) (omega (arith, filled.long)))
    (λ k h. elim (cases_lt k place) as (λ _. get_or block k 0 ≡ get_or (bytes ++ replicate (size - length bytes) 0) k 0) [
      | inl before ↦ filled.done k before ∙ sym (padded_at bytes (size - length bytes) k)
      | inr after ↦ filled.left k after ∙ sym (padded_at bytes (size - length bytes) k ∙ get_or_past bytes k 0 (omega arith))
    ])

-- ---- differences

xor_same : (a b : ℕ) → a ≡ b → bit_xor a b ≡ 0
xor_same a b e = subst (λ x. bit_xor a x ≡ 0) e (xor_self a)

same_from_xor : (a b : ℕ) → bit_xor a b ≡ 0 → a ≡ b
same_from_xor a b e = sym (xor_zero_r a) ∙ ap (bit_xor a) (sym (xor_self b)) ∙ sym (xor_assoc a b b) ∙ ap (λ x. bit_xor x b) e ∙ xor_zero_l b

-- the difference is 0 just where the bytes in front of a place are the same
pub record Tells (difference : ℕ) (xs ys : List ℕ) (place : ℕ) : Type 0 where
  pub to : difference ≡ 0 → (k : ℕ) → k < place → get_or xs k 0 ≡ get_or ys k 0
  pub from : ((k : ℕ) → k < place → get_or xs k 0 ≡ get_or ys k 0) → difference ≡ 0

pub none_told : (xs ys : List ℕ) → Tells 0 xs ys 0
none_told xs ys = record { to = λ e k h. absurd (omega arith); from = λ same. refl }

pub one_told : (difference : ℕ) (xs ys : List ℕ) (place : ℕ) → Tells difference xs ys place
    → Tells (bit_or difference (bit_xor (get_or xs place 0) (get_or ys place 0))) xs ys (place + 1)
one_told difference xs ys place told = record { to = to; from = from }
  where
    to : bit_or difference (bit_xor (get_or xs place 0) (get_or ys place 0)) ≡ 0 → (k : ℕ) → k < place + 1 → get_or xs k 0 ≡ get_or ys k 0
    to e = below_more (λ k. get_or xs k 0 ≡ get_or ys k 0) place
        (told.to (omega (arith, le_or_l difference (bit_xor (get_or xs place 0) (get_or ys place 0)))))
        (same_from_xor _ _ (omega (arith, le_or_r difference (bit_xor (get_or xs place 0) (get_or ys place 0)))))

    from : ((k : ℕ) → k < place + 1 → get_or xs k 0 ≡ get_or ys k 0) → bit_or difference (bit_xor (get_or xs place 0) (get_or ys place 0)) ≡ 0
    from same = rw (told.from (λ k h. same k (omega arith)), xor_same (get_or xs place 0) (get_or ys place 0) (same place (omega arith))) refl

pub all_told : (difference : ℕ) (xs ys : List ℕ) (place : ℕ) → Tells difference xs ys place → length xs ≡ place → length ys ≡ place
    → (difference ≡ 0) ↔ (xs ≡ ys)
all_told difference xs ys place told long other = (λ e. same_number_lists xs ys (omega arith) (λ k h. told.to e k (omega arith)), λ e. told.from (λ k h. ap (λ l. get_or l k 0) e))

pub is_told : (difference : ℕ) (xs ys : List ℕ) (place : ℕ) → Tells difference xs ys place → length xs ≡ place → length ys ≡ place
    → eqb difference 0 ≡ bytes_eq xs ys
is_told difference xs ys place told long other =
    let same = all_told difference xs ys place told long other in
    let decides = bytes_eq-Decides xs ys in
    same_from_decides _ _ (Decides-eqb difference 0) (λ t. same.1 (decides.0 t), λ e. decides.1 (same.0 e))
