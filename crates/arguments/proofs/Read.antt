-- What the getters of clap read, as the rows have it.
use Rattle.std.proofs.Common.{◌≡◌, ◌∙◌, ◌≤◌, ℕ, Bool, cond, true, false, List, [], ◌∷◌, map, Option, Some, None, Result, Ok, Err, refl, sym, ap, arith, is_some, option_map}
use Rattle.std.specs.Prelude.{find, option_and_then, slice_get, unwrap_or}
use Rattle.std.specs.Str.{bytes_eq}
use Rattle.std.specs.Str.Parse.{ParsesUnsigned}
use Rattle.std.specs.Borrow.{Bor}
use Rattle.clap.specs.Words.{ReadsOne, Row, Text, all_of, first_of, first_value, matched_of, one_of, one_text, raw_values, read_as, rows_of}
use Rattle.clap.specs.Facts.{Entry}
use Rattle.clap.specs.Walk.{row_of, row_text}
use Rattle.clap.specs.declared.builder.value_parser.Reading.{Reading}
use Rattle.clap.specs.declared.parser.matches.Found.{Found}
use Rattle.clap.specs.declared.parser.matches.MatchedArg.{MatchedArg}
use Rattle.arguments.specs.Options.{HasNumber, HasNumberIf, Spells}

-- the row of an id is that of its entry
found_row : (id : Text) (entries : List Entry) → find (λ (r : Row). bytes_eq r.id id) (map row_of entries) ≡ option_map row_of (find (λ e. bytes_eq e.0.now id) entries)
found_row id [] = refl
found_row id (e ∷ entries) = go (bytes_eq e.0.now id) (found_row id entries)
  where
    go : (b : Bool) → find (λ (r : Row). bytes_eq r.id id) (map row_of entries) ≡ option_map row_of (find (λ e. bytes_eq e.0.now id) entries)
        → cond b (Some (row_of e)) (find (λ (r : Row). bytes_eq r.id id) (map row_of entries)) ≡ option_map row_of (cond b (Some e) (find (λ e. bytes_eq e.0.now id) entries))
    go true others = refl
    go false others = others

pub one_is : (found : Found) (id : Text) → one_of id (rows_of found) ≡ one_text found id
one_is found id = ap (option_and_then row_text) (found_row id found.entries.items) ∙ go (find (λ e. bytes_eq e.0.now id) found.entries.items)
  where
    first : (e : Entry) (vs : List (Bor Text)) → option_map (read_as e.1.reading) (slice_get (map (λ s. s.now) vs) 0) ≡ option_map (λ s. read_as e.1.reading s.now) (slice_get vs 0)
    first e [] = refl
    first e (v ∷ vs) = refl

    go : (o : Option Entry) → option_and_then row_text (option_map row_of o) ≡ option_and_then (λ a. option_map (λ s. read_as a.reading s.now) (slice_get a.vals.items 0)) (option_map (λ e. e.1) o)
    go None = refl
    go (Some e) = first e e.1.vals.items

pub first_is : (found : Found) (id : Text) → first_of id (rows_of found) ≡ first_value found id
first_is found id = ap (option_and_then (λ (r : Row). slice_get r.values 0)) (found_row id found.entries.items) ∙ go (find (λ e. bytes_eq e.0.now id) found.entries.items)
  where
    first : (vs : List (Bor Text)) → slice_get (map (λ s. s.now) vs) 0 ≡ option_map (λ s. s.now) (slice_get vs 0)
    first [] = refl
    first (v ∷ vs) = refl

    go : (o : Option Entry) → option_and_then (λ (r : Row). slice_get r.values 0) (option_map row_of o) ≡ option_and_then (λ a. option_map (λ s. s.now) (slice_get a.vals.items 0)) (option_map (λ e. e.1) o)
    go None = refl
    go (Some e) = first e.1.vals.items

pub all_is : (found : Found) (id : Text) → all_of id (rows_of found) ≡ option_map raw_values (matched_of found id)
all_is found id = ap (option_map (λ (r : Row). r.values)) (found_row id found.entries.items) ∙ go (find (λ e. bytes_eq e.0.now id) found.entries.items)
  where
    go : (o : Option Entry) → option_map (λ (r : Row). r.values) (option_map row_of o) ≡ option_map raw_values (option_map (λ e. e.1) o)
    go None = refl
    go (Some e) = refl

-- an option without a first value has no text, and one that has a first value has one
one_as_first : (found : Found) (id : Text) → is_some (one_of id (rows_of found)) ≡ is_some (first_value found id)
one_as_first found id = ap is_some (one_is found id) ∙ go (matched_of found id)
  where
    first : (how : Reading) (vs : List (Bor Text)) → is_some (option_map (λ s. read_as how s.now) (slice_get vs 0)) ≡ is_some (option_map (λ s. s.now) (slice_get vs 0))
    first how [] = refl
    first how (v ∷ vs) = refl

    go : (o : Option MatchedArg) → is_some (option_and_then (λ a. option_map (λ s. read_as a.reading s.now) (slice_get a.vals.items 0)) o) ≡ is_some (option_and_then (λ a. option_map (λ s. s.now) (slice_get a.vals.items 0)) o)
    go None = refl
    go (Some a) = first a.reading a.vals.items

no_more : (o : Option Text) → is_some o ≡ false → o ≡ None
no_more None e = refl
no_more (Some text) e = cc

-- an option that has no first value is not given
pub not_given : (found : Found) (id : Text) → first_value found id ≡ None → one_of id (rows_of found) ≡ None
not_given found id none = no_more (one_of id (rows_of found)) (one_as_first found id ∙ ap is_some none)

-- where an option has a first value, and no number in the range, no number is the one that it has or lacks
pub no_number : (found : Found) (id : Text) (least most : ℕ) (word : Text) → first_value found id ≡ Some word
    → ((number : ℕ) → ¬ HasNumber id least most (rows_of found) number) → (number : Option ℕ) → ¬ HasNumberIf id least most (rows_of found) number
no_number found id least most word some none None absent =
    let bad : false ≡ true = ap is_some (sym absent) ∙ one_as_first found id ∙ ap is_some some in
    cc
no_number found id least most word some none (Some number) has = none number has

-- a text that spells a number below 2 ^ 32 is read as that
pub number_read : {E : Type 0} (G : List ℕ → Result ℕ E → Type 0) (text : Text) (number default : ℕ) (read : Option ℕ)
    → ReadsOne G text read → ((u : List ℕ) (x : Result ℕ E) → G u x → ParsesUnsigned 32 10 u x) → Spells text number → number ≤ 65536
    → unwrap_or read default ≡ number
number_read G text number default (Some v) h only spelled small = (only text (Ok v) h).1 ∙ sym spelled.1
number_read G text number default None h only spelled small =
    absurd (only text (Err h.0) h.1 (spelled.0, omega (arith, spelled.1)))

-- the values of an option that may not be there
pub values_are : (given : Option (Bor (List (Bor Text)))) (default : Bor (List (Bor Text))) (values : Option (List Text)) → default.now ≡ []
    → option_map (λ s. map (λ v. v.now) s.now) given ≡ values → map (λ v. v.now) (unwrap_or given default).now ≡ unwrap_or values []
values_are None default values none e = ap (map (λ v. v.now)) none ∙ ap (λ o. unwrap_or o []) e
values_are (Some s) default values none e = ap (λ o. unwrap_or o []) e
