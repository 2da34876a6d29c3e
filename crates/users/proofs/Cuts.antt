-- Where a text is cut, and the lines of one.
use Rattle.std.proofs.Common.{◌≡◌, ℕ, suc, ◌+◌, ◌-◌, ◌<◌, Bool, true, false, cond, eqb, ltb, List, [], ◌∷◌, length, take, drop, Option, Some, None, refl, sym, ap, ◌∙◌, arith, inl, inr, ◌⊎◌}
use Rattle.std.specs.List.{position_or_len, position}
use Rattle.std.specs.Option.{option_map}
use Rattle.std.proofs.lemmas.List.{take_all, take_rest}
use Rattle.std.proofs.lemmas.Bool.{lt-ltb, le-ltb, ltb-false, cases_lt, cases_Bool}
use Rattle.users.specs.Cuts.{cut}
use Rattle.users.specs.Lines.{lines_of, onto_first}

-- what stands in front of a place and behind it
abbrev pub parts_at : List ℕ → ℕ → List ℕ × List ℕ
parts_at text at = (take at text, drop (at + 1) text)

pub cut_some : (separator : ℕ) (text : List ℕ) (at : ℕ) → Some at ≡ position (λ byte. eqb byte separator) text → cut separator text ≡ Some (take at text, take (length text - (at + 1)) (drop (at + 1) text))
unfolding cut
cut_some separator text at e =
    ap (option_map (parts_at text)) (sym e) ∙ ap (λ (rest : List ℕ). Some (take at text, rest)) (sym (take_rest text (at + 1)))

pub cut_none : (separator : ℕ) (text : List ℕ) → None ≡ position (λ byte. eqb byte separator) text → cut separator text ≡ None
unfolding cut
cut_none separator text e = ap (option_map (parts_at text)) (sym e)

-- ---- lines

abbrev is_end : ℕ → Bool
is_end byte = eqb byte 10

-- the lines behind the first, where it has that many bytes
abbrev behind : ℕ → List ℕ → List (List ℕ)
behind n text = cond (ltb n (length text)) (lines_of (drop (n + 1) text)) []

past : (n : ℕ) (byte : ℕ) (bytes : List ℕ) → behind (1 + n) (byte ∷ bytes) ≡ behind n bytes
past n byte bytes =
    elim (cases_lt n (length bytes)) [
      | inl lt ↦
          let more : ltb (1 + n) (length (byte ∷ bytes)) ≡ true = lt-ltb _ _ (omega arith) in
          let next : 1 + n + 1 ≡ suc (n + 1) = omega arith in
          rw (more, lt-ltb n (length bytes) lt) (ap (λ (k : ℕ). lines_of (drop k (byte ∷ bytes))) next)
      | inr le ↦
          let none : ltb (1 + n) (length (byte ∷ bytes)) ≡ false = le-ltb _ _ (omega arith) in
          rw (none, le-ltb n (length bytes) le) refl
    ]

at_end : (byte : ℕ) (bytes : List ℕ) → is_end byte ≡ true → lines_of (byte ∷ bytes) ≡ take (position_or_len is_end (byte ∷ bytes)) (byte ∷ bytes) ∷ behind (position_or_len is_end (byte ∷ bytes)) (byte ∷ bytes)
unfolding lines_of
at_end byte bytes e =
    let some : ltb 0 (length (byte ∷ bytes)) ≡ true = lt-ltb 0 (length (byte ∷ bytes)) (omega arith) in
    rw (e, some) refl

at_other : (byte : ℕ) (bytes : List ℕ) → is_end byte ≡ false → onto_first byte (lines_of bytes) ≡ (byte ∷ take (position_or_len is_end bytes) bytes) ∷ behind (position_or_len is_end bytes) bytes
    → lines_of (byte ∷ bytes) ≡ take (position_or_len is_end (byte ∷ bytes)) (byte ∷ bytes) ∷ behind (position_or_len is_end (byte ∷ bytes)) (byte ∷ bytes)
unfolding lines_of
at_other byte bytes e h =
    let next : 1 + position_or_len is_end bytes ≡ suc (position_or_len is_end bytes) = omega arith in
    rw e (h
    ∙ ap (λ (l : List ℕ). l ∷ behind (position_or_len is_end bytes) bytes) (ap (λ (k : ℕ). take k (byte ∷ bytes)) (sym next))
    ∙ ap (λ (r : List (List ℕ)). take (1 + position_or_len is_end bytes) (byte ∷ bytes) ∷ r) (sym (past (position_or_len is_end bytes) byte bytes)))

first_line : (byte : ℕ) (bytes : List ℕ) → lines_of (byte ∷ bytes) ≡ take (position_or_len is_end (byte ∷ bytes)) (byte ∷ bytes) ∷ behind (position_or_len is_end (byte ∷ bytes)) (byte ∷ bytes)
unfolding lines_of
first_line byte [] = elim (cases_Bool (is_end byte)) [ inl t ↦ at_end byte [] t | inr f ↦ at_other byte [] f refl ]
first_line byte (next ∷ bytes) =
    elim (cases_Bool (is_end byte)) [
      | inl t ↦ at_end byte (next ∷ bytes) t
      | inr f ↦ at_other byte (next ∷ bytes) f (ap (onto_first byte) (first_line next bytes))
    ]

lines_first : (text : List ℕ) → 0 < length text → lines_of text ≡ take (position_or_len is_end text) text ∷ behind (position_or_len is_end text) text
lines_first [] some = absurd (omega arith)
lines_first (byte ∷ bytes) some = first_line byte bytes

place_is : (b : Bool) (n : ℕ) (o : Option ℕ) → o ≡ cond b (Some n) None → ((b ≡ true) × (o ≡ Some n)) ⊎ ((b ≡ false) × (o ≡ None))
place_is true n o e = inl (refl, e)
place_is false n o e = inr (refl, e)

some_is : (a b : ℕ) → Some a ≡ Some b → a ≡ b
some_is a b e = cc

-- the last line, which no line feed ends
pub no_end : (text : List ℕ) → 0 < length text → None ≡ position is_end text → lines_of text ≡ text ∷ []
no_end text some e =
    elim (place_is (ltb (position_or_len is_end text) (length text)) (position_or_len is_end text) None e) [
      | inl there ↦ absurd (let no = there.1 in cc)
      | inr none ↦
          lines_first text some
          ∙ ap (λ (r : List (List ℕ)). take (position_or_len is_end text) text ∷ r) (rw none.0 refl)
          ∙ ap (λ (l : List ℕ). l ∷ []) (take_all (position_or_len is_end text) text (ltb-false _ _ none.0))
    ]

-- a line that a line feed ends
pub an_end : (text : List ℕ) (at : ℕ) → 0 < length text → Some at ≡ position is_end text
    → lines_of text ≡ take at text ∷ lines_of (take (length text - (at + 1)) (drop (at + 1) text))
an_end text at some e =
    elim (place_is (ltb (position_or_len is_end text) (length text)) (position_or_len is_end text) (Some at) e) [
      | inl there ↦
          let same = some_is at (position_or_len is_end text) there.1 in
          rw same (lines_first text some
          ∙ ap (λ (r : List (List ℕ)). take (position_or_len is_end text) text ∷ r) (rw there.0 refl)
          ∙ ap (λ (rest : List ℕ). take (position_or_len is_end text) text ∷ lines_of rest) (sym (take_rest text (position_or_len is_end text + 1))))
      | inr none ↦ absurd (let no = none.1 in cc)
    ]

pub no_lines : lines_of [] ≡ []
unfolding lines_of
no_lines = refl
