-- Texts that lack a byte: how they are cut, and their lines.
use Rattle.std.proofs.Common.{◌≡◌, ℕ, zero, suc, ◌+◌, ◌-◌, Bool, true, false, not, ◌&&◌, eqb, ltb, List, [], ◌∷◌, ◌++◌, length, slice_index, take, drop, replicate, Some, refl, ap, ◌∙◌, arith}
use Rattle.std.proofs.lemmas.Bool.{lt-ltb}
use Rattle.std.proofs.lemmas.List.{length-append}
use Rattle.std.specs.List.{list_all, position_or_len}
use Rattle.std.specs.Str.Lines.{strip_carriage_return}
use Rattle.base64.specs.Rfc4648.{encode_symbols}
use Rattle.base64.specs.Engines.{standard}
use Rattle.base64.specs.GeneralPurpose.{engine_symbols}
use Rattle.users.specs.Cuts.{cut}
use Rattle.users.specs.Lines.{base64_of, lines_of, onto_first}

-- none of the bytes is this one
abbrev pub lacks : ℕ → List ℕ → Bool
lacks c xs = list_all (λ x. not (eqb x c)) xs

pub both_true : (a b : Bool) → a ≡ true → b ≡ true → (a && b) ≡ true
both_true a b e f = rw (e, f) refl

pub first_true : (a b : Bool) → (a && b) ≡ true → a ≡ true
first_true true b e = refl
first_true false b e = e

pub second_true : (a b : Bool) → (a && b) ≡ true → b ≡ true
second_true true b e = e
second_true false true e = refl
second_true false false e = e

pub not_true : (a : Bool) → not a ≡ true → a ≡ false
not_true true e = cc
not_true false e = refl

pub lacks-append : (c : ℕ) (xs ys : List ℕ) → lacks c xs ≡ true → lacks c ys ≡ true → lacks c (xs ++ ys) ≡ true
lacks-append c [] ys hx hy = hy
lacks-append c (x ∷ xs) ys hx hy =
    both_true (not (eqb x c)) (lacks c (xs ++ ys)) (first_true (not (eqb x c)) (lacks c xs) hx) (lacks-append c xs ys (second_true (not (eqb x c)) (lacks c xs) hx) hy)

lacks_at : (c : ℕ) (xs : List ℕ) → not (eqb 0 c) ≡ true → lacks c xs ≡ true → (i : ℕ) → not (eqb (slice_index xs i) c) ≡ true
lacks_at c [] none h i = none
lacks_at c (x ∷ xs) none h zero = first_true (not (eqb x c)) (lacks c xs) h
lacks_at c (x ∷ xs) none h (suc i) = lacks_at c xs none (second_true (not (eqb x c)) (lacks c xs) h) i

-- ---- cuts

first_place : (c : ℕ) (xs ys : List ℕ) → lacks c xs ≡ true → eqb c c ≡ true → position_or_len (λ byte. eqb byte c) (xs ++ c ∷ ys) ≡ length xs
first_place c [] ys h same = rw same refl
first_place c (x ∷ xs) ys h same =
    rw (first_true (not (eqb x c)) (lacks c xs) h) (ap (λ n. 1 + n) (first_place c xs ys (second_true (not (eqb x c)) (lacks c xs) h) same) ∙ omega arith)

taken : (xs ys : List ℕ) → take (length xs) (xs ++ ys) ≡ xs
taken [] ys = refl
taken (x ∷ xs) ys = ap (λ (l : List ℕ). x ∷ l) (taken xs ys)

dropped : (c : ℕ) (xs ys : List ℕ) → drop (suc (length xs)) (xs ++ c ∷ ys) ≡ ys
dropped c [] ys = refl
dropped c (x ∷ xs) ys = dropped c xs ys

-- a text is cut at the first separator
pub cut-append : (c : ℕ) (xs ys : List ℕ) → eqb c c ≡ true → lacks c xs ≡ true → cut c (xs ++ c ∷ ys) ≡ Some (xs, ys)
unfolding cut
cut-append c xs ys same h =
    let place = first_place c xs ys h same in
    let within : ltb (length xs) (length (xs ++ c ∷ ys)) ≡ true = lt-ltb _ _ (omega (arith, length-append xs (c ∷ ys))) in
    let next : length xs + 1 ≡ suc (length xs) = omega arith in
    rw (place, within, taken xs (c ∷ ys), next, dropped c xs ys) refl

-- ---- lines

-- a text without line feeds is the line in front of one
pub one_line : (xs : List ℕ) → lacks 10 xs ≡ true → lines_of (xs ++ 10 ∷ []) ≡ xs ∷ []
unfolding lines_of
one_line [] h = refl
one_line (x ∷ xs) h =
    rw (not_true (eqb x 10) (first_true (not (eqb x 10)) (lacks 10 xs) h)) (ap (onto_first x) (one_line xs (second_true (not (eqb x 10)) (lacks 10 xs) h)))

pub no_return : (xs : List ℕ) → lacks 13 xs ≡ true → strip_carriage_return xs ≡ xs
no_return xs h = rw (not_true (eqb (slice_index xs (length xs - 1)) 13) (lacks_at 13 xs refl h (length xs - 1))) refl

-- ---- base64

lacks-symbols : (c : ℕ) (t m : List ℕ) → ((i : ℕ) → not (eqb (slice_index t i) c) ≡ true) → lacks c (encode_symbols t m) ≡ true
unfolding encode_symbols
lacks-symbols c t [] h = refl
lacks-symbols c t (a ∷ []) h = both_true _ _ (h _) (both_true _ _ (h _) refl)
lacks-symbols c t (a ∷ b ∷ []) h = both_true _ _ (h _) (both_true _ _ (h _) (both_true _ _ (h _) refl))
lacks-symbols c t (a ∷ b ∷ d ∷ rest) h = both_true _ _ (h _) (both_true _ _ (h _) (both_true _ _ (h _) (both_true _ _ (h _) (lacks-symbols c t rest h))))

lacks-replicate : (c n pad : ℕ) → not (eqb pad c) ≡ true → lacks c (replicate n pad) ≡ true
lacks-replicate c zero pad h = refl
lacks-replicate c (suc n) pad h = both_true _ _ h (lacks-replicate c n pad h)

abbrev pub symbols : List ℕ
symbols = engine_symbols standard

-- base64 has no byte but its symbols and the padding
pub lacks-base64 : (c : ℕ) (m : List ℕ) → not (eqb 0 c) ≡ true → lacks c symbols ≡ true → not (eqb 61 c) ≡ true → lacks c (base64_of m) ≡ true
unfolding base64_of
lacks-base64 c m none table pad =
    lacks-append c (encode_symbols symbols m) _ (lacks-symbols c symbols m (lacks_at c symbols none table)) (lacks-replicate c _ 61 pad)
