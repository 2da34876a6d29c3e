-- The first level of a text, and what is left behind it.
use Rattle.std.proofs.Common.{◌≡◌, ℕ, suc, ◌+◌, ◌-◌, ◌≤◌, Bool, true, false, not, cond, ltb, List, [], ◌∷◌, length, take, drop, Option, Some, None, refl, sym, ap, ◌∙◌, arith, inl, inr, ◌⊎◌, length-drop}
use Rattle.std.specs.List.{position_or_len, position}
use Rattle.std.specs.Option.{is_some}
use Rattle.std.specs.Borrow.{Bor}
use Rattle.std.proofs.lemmas.List.{take_all}
use Rattle.std.proofs.lemmas.Bool.{lt-ltb, le-ltb, ltb-false, cases_lt, cases_Bool}
use Rattle.mqtt_topic.specs.Levels.{is_separator, onto_first, levels_of, levels_left, text_left, is_multi_level, matches_levels}

-- the levels after the first, where it has that many characters
abbrev pub behind : ℕ → List ℕ → List (List ℕ)
behind n text = cond (ltb n (length text)) (levels_of (drop (n + 1) text)) []

at_separator : (byte : ℕ) (bytes : List ℕ) → is_separator byte ≡ true → levels_of (byte ∷ bytes) ≡ take (position_or_len is_separator (byte ∷ bytes)) (byte ∷ bytes) ∷ behind (position_or_len is_separator (byte ∷ bytes)) (byte ∷ bytes)
unfolding levels_of
at_separator byte bytes e =
    let some : ltb 0 (length (byte ∷ bytes)) ≡ true = lt-ltb 0 (length (byte ∷ bytes)) (omega arith) in
    rw (e, some) refl

past : (n : ℕ) (byte : ℕ) (bytes : List ℕ) → behind (1 + n) (byte ∷ bytes) ≡ behind n bytes
past n byte bytes =
    elim (cases_lt n (length bytes)) [
      | inl lt ↦
          let more : ltb (1 + n) (length (byte ∷ bytes)) ≡ true = lt-ltb _ _ (omega arith) in
          let next : 1 + n + 1 ≡ suc (n + 1) = omega arith in
          rw (more, lt-ltb n (length bytes) lt) (ap (λ (k : ℕ). levels_of (drop k (byte ∷ bytes))) next)
      | inr le ↦
          let none : ltb (1 + n) (length (byte ∷ bytes)) ≡ false = le-ltb _ _ (omega arith) in
          rw (none, le-ltb n (length bytes) le) refl
    ]

at_other : (byte : ℕ) (bytes : List ℕ) → is_separator byte ≡ false → levels_of bytes ≡ take (position_or_len is_separator bytes) bytes ∷ behind (position_or_len is_separator bytes) bytes → levels_of (byte ∷ bytes) ≡ take (position_or_len is_separator (byte ∷ bytes)) (byte ∷ bytes) ∷ behind (position_or_len is_separator (byte ∷ bytes)) (byte ∷ bytes)
unfolding levels_of
at_other byte bytes e h =
    let p = position_or_len is_separator bytes in
    let next : 1 + position_or_len is_separator bytes ≡ suc (position_or_len is_separator bytes) = omega arith in
    rw e (ap (onto_first byte) h
    ∙ ap (λ (l : List ℕ). l ∷ behind (position_or_len is_separator bytes) bytes) (ap (λ (k : ℕ). take k (byte ∷ bytes)) (sym next))
    ∙ ap (λ (r : List (List ℕ)). take (1 + position_or_len is_separator bytes) (byte ∷ bytes) ∷ r) (sym (past (position_or_len is_separator bytes) byte bytes)))

pub levels_first : (text : List ℕ) → levels_of text ≡ take (position_or_len is_separator text) text ∷ behind (position_or_len is_separator text) text
unfolding levels_of
levels_first [] = refl
levels_first (byte ∷ bytes) =
    elim (cases_Bool (is_separator byte)) [ inl t ↦ at_separator byte bytes t | inr f ↦ at_other byte bytes f (levels_first bytes) ]

place_is : (b : Bool) (n : ℕ) (o : Option ℕ) → o ≡ cond b (Some n) None → ((b ≡ true) × (o ≡ Some n)) ⊎ ((b ≡ false) × (o ≡ None))
place_is true n o e = inl (refl, e)
place_is false n o e = inr (refl, e)

all_taken : (n : ℕ) (text : List ℕ) → length text ≤ n → take n text ≡ text
all_taken n text le = take_all n text le

pub no_separator : (text : List ℕ) → None ≡ position is_separator text → levels_of text ≡ text ∷ []
no_separator text e =
    elim (place_is (ltb (position_or_len is_separator text) (length text)) (position_or_len is_separator text) None e) [
      | inl some ↦ absurd (let no = some.1 in cc)
      | inr none ↦
          levels_first text
          ∙ ap (λ (r : List (List ℕ)). take (position_or_len is_separator text) text ∷ r) (rw none.0 refl)
          ∙ ap (λ (l : List ℕ). l ∷ []) (all_taken (position_or_len is_separator text) text (ltb-false _ _ none.0))
    ]

some_is : (a b : ℕ) → Some a ≡ Some b → a ≡ b
some_is a b e = cc

pub a_separator : (text : List ℕ) (at : ℕ) → Some at ≡ position is_separator text → levels_of text ≡ take at text ∷ levels_of (drop (at + 1) text)
a_separator text at e =
    elim (place_is (ltb (position_or_len is_separator text) (length text)) (position_or_len is_separator text) (Some at) e) [
      | inl some ↦
          let same = some_is at (position_or_len is_separator text) some.1 in
          rw same (levels_first text ∙ ap (λ (r : List (List ℕ)). take (position_or_len is_separator text) text ∷ r) (rw some.0 refl))
      | inr none ↦ absurd (let no = none.1 in cc)
    ]

pub to_the_end : (k : ℕ) (text : List ℕ) → take (length text - k) (drop k text) ≡ drop k text
to_the_end k text = all_taken (length text - k) (drop k text) (omega (arith, length-drop k text))

-- ---- the loop over both texts

abbrev pub size_left : Option (List ℕ) → ℕ
size_left None = 0
size_left (Some text) = length text + 1

pub not_last : (level rest : List ℕ) → is_multi_level level (levels_of rest) ≡ false
not_last level rest = ap (is_multi_level level) (levels_first rest)

pub at_the_end : (names : Option (Bor (List ℕ))) → matches_levels [] (levels_left (text_left names)) ≡ not (is_some names)
at_the_end None = refl
at_the_end (Some text) = ap (matches_levels []) (levels_first text.now)

pub turned : (a b : Bool) → a ≡ not b → b ≡ not a
turned a true e = ap not (sym e)
turned a false e = ap not (sym e)
