-- Laws of matching.
use Rattle.std.proofs.Common.{◌≡◌, ℕ, ◌<◌, Bool, true, false, not, ◌&&◌, ◌||◌, cond, eqb, List, [], ◌∷◌, ◌++◌, length, refl, sym, ap, subst, ◌∙◌, arith, inl, inr}
use Rattle.std.specs.Prelude.{bytes_eq, ◌↔◌}
use Rattle.std.specs.List.{list_any, join_with_byte}
use Rattle.std.proofs.lemmas.Bool.{cases_Bool, and_parts, and_from, eqb-true, not-true}
use Rattle.std.proofs.lemmas.Slice.Eq.{bytes_eq-Decides}
use Rattle.mqtt_topic.specs.Levels.{onto_first, is_separator, levels_of, is_multi_level, admits, matches_levels, is_wildcard, begins, is_dollar, matches}
use Rattle.mqtt_topic.specs.Names.{is_plain}
use Rattle.mqtt_topic.proofs.LevelLaws.{levels_first}

-- ---- a text has a level, and its levels tell it

bytes_same : (text : List ℕ) → bytes_eq text text ≡ true
bytes_same text = (bytes_eq-Decides text text).1 refl

or_true : (b : Bool) → (b || true) ≡ true
or_true true = refl
or_true false = refl

and_true : (b : Bool) → (b && true) ≡ b
and_true true = refl
and_true false = refl

-- ---- a text and itself

own_text : (levels : List (List ℕ)) → matches_levels levels levels ≡ true
own_text [] = refl
own_text (level ∷ levels) = rw (bytes_same level, or_true (bytes_eq level (43 ∷ [])), own_text levels) (or_true (is_multi_level level levels))

pub very_name : (filter name : List ℕ) → bytes_eq filter name ≡ true → matches_levels (levels_of filter) (levels_of name) ≡ true
very_name filter name same = subst (λ other. matches_levels (levels_of filter) (levels_of other) ≡ true) ((bytes_eq-Decides filter name).0 same) (own_text (levels_of filter))

-- ---- `#`

hash_matches : (names : List (List ℕ)) → matches_levels ((35 ∷ []) ∷ []) names ≡ true
hash_matches [] = refl
hash_matches (name ∷ names) = refl

pub all_matches : (name : List ℕ) → matches (35 ∷ []) name ≡ not (begins is_dollar name)
unfolding matches levels_of
all_matches name = rw (hash_matches (levels_of name)) (and_true (not (begins is_dollar name)))

-- ---- the parent

onto_other : (byte : ℕ) (levels more : List (List ℕ)) → 0 < length levels → onto_first byte (levels ++ more) ≡ onto_first byte levels ++ more
onto_other byte [] more some = absurd (omega arith)
onto_other byte (level ∷ levels) more some = refl

pub some_level : (text : List ℕ) → 0 < length (levels_of text)
some_level text = rw (levels_first text) (omega arith)

at_byte : (byte : ℕ) (b : Bool) (levels : List (List ℕ)) (bytes : List ℕ) → levels ≡ levels_of bytes ++ (35 ∷ []) ∷ [] → cond b ([] ∷ levels) (onto_first byte levels) ≡ cond b ([] ∷ levels_of bytes) (onto_first byte (levels_of bytes)) ++ (35 ∷ []) ∷ []
at_byte byte true levels bytes e = ap (λ (l : List (List ℕ)). [] ∷ l) e
at_byte byte false levels bytes e = ap (onto_first byte) e ∙ onto_other byte (levels_of bytes) ((35 ∷ []) ∷ []) (some_level bytes)

levels_behind : (parent : List ℕ) → levels_of (parent ++ 47 ∷ 35 ∷ []) ≡ levels_of parent ++ (35 ∷ []) ∷ []
unfolding levels_of
levels_behind [] = refl
levels_behind (byte ∷ bytes) = at_byte byte (is_separator byte) (levels_of (bytes ++ 47 ∷ 35 ∷ [])) bytes (levels_behind bytes)

own_level : (level : List ℕ) (levels : List (List ℕ)) → matches_levels (levels ++ (35 ∷ []) ∷ []) levels ≡ true → matches_levels ((level ∷ levels) ++ (35 ∷ []) ∷ []) (level ∷ levels) ≡ true
own_level level [] e = rw (bytes_same level, or_true (bytes_eq level (43 ∷ []))) refl
own_level level (next ∷ levels) e = rw (bytes_same level, or_true (bytes_eq level (43 ∷ [])), e) refl

own_levels : (levels : List (List ℕ)) → matches_levels (levels ++ (35 ∷ []) ∷ []) levels ≡ true
own_levels [] = refl
own_levels (level ∷ levels) = own_level level levels (own_levels levels)

not_first : (a b : Bool) → not (a || b) ≡ true → a ≡ false
not_first true b e = absurd cc
not_first false b e = refl

plain_begins : (text rest : List ℕ) → is_plain text ≡ true → begins is_wildcard rest ≡ false → begins is_wildcard (text ++ rest) ≡ false
plain_begins [] rest plain e = e
plain_begins (byte ∷ bytes) rest plain e = not_first (is_wildcard byte) (list_any is_wildcard bytes) plain

pub parent_matches : (parent : List ℕ) → is_plain parent ≡ true → matches (parent ++ 47 ∷ 35 ∷ []) parent ≡ true
unfolding matches
parent_matches parent plain =
    rw (plain_begins parent (47 ∷ 35 ∷ []) plain refl, levels_behind parent, own_levels (levels_of parent)) refl

-- ---- `+`

is_single : List (List ℕ) → Bool
is_single [] = false
is_single (level ∷ []) = true
is_single (level ∷ next ∷ levels) = false

plus_matches : (names : List (List ℕ)) → matches_levels ((43 ∷ []) ∷ []) names ≡ is_single names
unfolding is_single
plus_matches [] = refl
plus_matches (name ∷ []) = refl
plus_matches (name ∷ next ∷ names) = refl

single_in_front : (byte : ℕ) (levels : List (List ℕ)) → 0 < length levels → is_single (onto_first byte levels) ≡ is_single levels
unfolding is_single
single_in_front byte [] some = absurd (omega arith)
single_in_front byte (level ∷ []) some = refl
single_in_front byte (level ∷ next ∷ levels) some = refl

not_single : (levels : List (List ℕ)) → 0 < length levels → is_single ([] ∷ levels) ≡ false
unfolding is_single
not_single [] some = absurd (omega arith)
not_single (level ∷ levels) some = refl

single_at : (byte : ℕ) (b : Bool) (bytes : List ℕ) → is_single (levels_of bytes) ≡ not (list_any is_separator bytes) → is_single (cond b ([] ∷ levels_of bytes) (onto_first byte (levels_of bytes))) ≡ not (b || list_any is_separator bytes)
single_at byte true bytes e = not_single (levels_of bytes) (some_level bytes)
single_at byte false bytes e = single_in_front byte (levels_of bytes) (some_level bytes) ∙ e

single_is : (name : List ℕ) → is_single (levels_of name) ≡ not (list_any is_separator name)
unfolding levels_of is_single
single_is [] = refl
single_is (byte ∷ bytes) = single_at byte (is_separator byte) bytes (single_is bytes)

plus_is : (name : List ℕ) → matches (43 ∷ []) name ≡ (not (begins is_dollar name) && not (list_any is_separator name))
unfolding matches levels_of
plus_is name = ap (λ (b : Bool). not (begins is_dollar name) && b) (plus_matches (levels_of name) ∙ single_is name)

pub one_level_matches : (name : List ℕ) → (matches (43 ∷ []) name ≡ true) ↔ ((list_any is_separator name ≡ false) × (begins is_dollar name ≡ false))
one_level_matches name = (
  λ e. let parts = and_parts (not (begins is_dollar name)) (not (list_any is_separator name)) (sym (plus_is name) ∙ e) in
      (not-true (list_any is_separator name) parts.1, not-true (begins is_dollar name) parts.0),
  λ p. plus_is name ∙ and_from (not (begins is_dollar name)) (not (list_any is_separator name)) (ap not p.1) (ap not p.0),
)

-- ---- filters without wildcards

join_front : (byte : ℕ) (levels : List (List ℕ)) → 0 < length levels → join_with_byte 47 (onto_first byte levels) ≡ byte ∷ join_with_byte 47 levels
join_front byte [] some = absurd (omega arith)
join_front byte (level ∷ []) some = refl
join_front byte (level ∷ next ∷ levels) some = refl

join_new : (levels : List (List ℕ)) → 0 < length levels → join_with_byte 47 ([] ∷ levels) ≡ 47 ∷ join_with_byte 47 levels
join_new [] some = absurd (omega arith)
join_new (level ∷ levels) some = refl

join_at : (byte : ℕ) (b : Bool) (bytes : List ℕ) → eqb byte 47 ≡ b → join_with_byte 47 (levels_of bytes) ≡ bytes → join_with_byte 47 (cond b ([] ∷ levels_of bytes) (onto_first byte (levels_of bytes))) ≡ byte ∷ bytes
join_at byte true bytes is e =
    join_new (levels_of bytes) (some_level bytes) ∙ ap (λ (x : ℕ). x ∷ join_with_byte 47 (levels_of bytes)) (sym (eqb-true byte 47 is)) ∙ ap (λ (r : List ℕ). byte ∷ r) e
join_at byte false bytes is e = join_front byte (levels_of bytes) (some_level bytes) ∙ ap (λ (r : List ℕ). byte ∷ r) e

pub join_levels : (text : List ℕ) → join_with_byte 47 (levels_of text) ≡ text
unfolding levels_of
join_levels [] = refl
join_levels (byte ∷ bytes) = join_at byte (is_separator byte) bytes refl (join_levels bytes)

all_plain : List (List ℕ) → Bool
all_plain [] = true
all_plain (level ∷ levels) = is_plain level && all_plain levels

plain_front : (byte : ℕ) (levels : List (List ℕ)) → 0 < length levels → is_wildcard byte ≡ false → all_plain levels ≡ true → all_plain (onto_first byte levels) ≡ true
unfolding all_plain
plain_front byte [] some plain e = absurd (omega arith)
plain_front byte (level ∷ levels) some plain e = rw plain e

plain_at : (byte : ℕ) (b : Bool) (bytes : List ℕ) → is_wildcard byte ≡ false → all_plain (levels_of bytes) ≡ true → all_plain (cond b ([] ∷ levels_of bytes) (onto_first byte (levels_of bytes))) ≡ true
unfolding all_plain
plain_at byte true bytes plain e = e
plain_at byte false bytes plain e = plain_front byte (levels_of bytes) (some_level bytes) plain e

not_second : (a b : Bool) → not (a || b) ≡ true → not b ≡ true
not_second true b e = absurd cc
not_second false b e = e

plain_levels : (text : List ℕ) → is_plain text ≡ true → all_plain (levels_of text) ≡ true
unfolding levels_of all_plain
plain_levels [] plain = refl
plain_levels (byte ∷ bytes) plain =
    plain_at byte (is_separator byte) bytes (not_first (is_wildcard byte) (list_any is_wildcard bytes) plain) (plain_levels bytes (not_second (is_wildcard byte) (list_any is_wildcard bytes) plain))

-- a level without wildcards is none
not_equal : (level wildcard : List ℕ) → is_plain level ≡ true → is_plain wildcard ≡ false → bytes_eq level wildcard ≡ false
not_equal level wildcard plain is =
    elim (cases_Bool (bytes_eq level wildcard)) [
      | inl same ↦ absurd (let no = sym plain ∙ ap is_plain ((bytes_eq-Decides level wildcard).0 same) ∙ is in cc)
      | inr other ↦ other
    ]

no_hash : (level : List ℕ) (levels : List (List ℕ)) → is_plain level ≡ true → is_multi_level level levels ≡ false
no_hash level [] plain = not_equal level (35 ∷ []) plain refl
no_hash level (next ∷ levels) plain = refl

exactly : (level name : List ℕ) → is_plain level ≡ true → admits level name ≡ bytes_eq level name
exactly level name plain = rw (not_equal level (43 ∷ []) plain refl) refl

same_levels : (levels names : List (List ℕ)) → all_plain levels ≡ true → matches_levels levels names ≡ true → levels ≡ names
unfolding all_plain
same_levels [] [] plain e = refl
same_levels [] (name ∷ names) plain e = absurd cc
same_levels (level ∷ levels) [] plain e =
    let parts = and_parts (is_plain level) (all_plain levels) plain in
    absurd (let no = sym (no_hash level levels parts.0) ∙ e in cc)
same_levels (level ∷ levels) (name ∷ names) plain e =
    let parts = and_parts (is_plain level) (all_plain levels) plain in
    let both = and_parts (admits level name) (matches_levels levels names) (rw (no_hash level levels parts.0) at e) in
    let first : level ≡ name = (bytes_eq-Decides level name).0 (sym (exactly level name parts.0) ∙ both.0) in
    ap (λ (l : List ℕ). l ∷ levels) first ∙ ap (λ (ls : List (List ℕ)). name ∷ ls) (same_levels levels names parts.1 both.1)

matches_itself : (levels : List (List ℕ)) → all_plain levels ≡ true → matches_levels levels levels ≡ true
unfolding all_plain
matches_itself [] plain = refl
matches_itself (level ∷ levels) plain =
    let parts = and_parts (is_plain level) (all_plain levels) plain in
    rw (no_hash level levels parts.0, exactly level level parts.0, bytes_same level, matches_itself levels parts.1) refl

plain_start : (text : List ℕ) → is_plain text ≡ true → begins is_wildcard text ≡ false
plain_start [] plain = refl
plain_start (byte ∷ bytes) plain = not_first (is_wildcard byte) (list_any is_wildcard bytes) plain

plain_is : (filter name : List ℕ) → is_plain filter ≡ true → matches filter name ≡ matches_levels (levels_of filter) (levels_of name)
unfolding matches
plain_is filter name plain = rw (plain_start filter plain) refl

pub one_name : (filter name : List ℕ) → is_plain filter ≡ true → (matches filter name ≡ true) ↔ (filter ≡ name)
one_name filter name plain = (
  λ e. let same = same_levels (levels_of filter) (levels_of name) (plain_levels filter plain) (sym (plain_is filter name plain) ∙ e) in
      sym (join_levels filter) ∙ ap (join_with_byte 47) same ∙ join_levels name,
  λ e. plain_is filter name plain ∙ ap (λ (n : List ℕ). matches_levels (levels_of filter) (levels_of n)) (sym e) ∙ matches_itself (levels_of filter) (plain_levels filter plain),
)
