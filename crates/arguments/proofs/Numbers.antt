-- Where clap finds no fault in words, `--capacity` has a number from 1 to 65536, and `--max-inflight` one from 1 to 256.
use Rattle.std.proofs.Common.{◌≡◌, ◌∙◌, ap₂, ◌||◌, ◌&&◌, ◌==◌, ◌≤◌, Bool, cond, true, false, not, List, [], ◌∷◌, ◌++◌, ℕ, zero, suc, Option, Some, None, refl, ap, codes, fold, sym, subst, is_some, length, drop, arith, eqb-true, option_map, append-nil}
use Rattle.std.specs.Option.{option_map_or}
use Rattle.std.specs.Prelude.{IfSome, encode_utf8, find, pos, slice_get, unwrap_or, option_and_then}
use Rattle.std.specs.Str.{bytes_eq, chars}
use Rattle.std.specs.Str.Parse.{digits_value, starts_with_minus, without_leading_plus}
use Rattle.std.proofs.lemmas.Slice.Eq.{bytes_eq-Decides}
use Rattle.std.proofs.lemmas.Int.{ints}
use Rattle.clap.specs.Lexer.{long_of, short_of, without_minus}
use Rattle.clap.specs.Values.{read_as}
use Rattle.clap.specs.Walk.{has_long, has_short, row_text, values_or_missing, Held, Outcome, Step, Waiting, Walk, after_flag, after_step, arg_by_id, arg_by_long, arg_by_short, at_row, more_values, attached_value, bundle, bundle_met, bundle_step, done, finished, has_row, idle, long_met, long_or_other, next, nothing_held, option, option_met, option_word, plain, plain_word, positional, reacted, refused, rows_after, settled, settled_rows, short_met, short_or_plain, subcommand, subcommand_met, subcommand_or_other, trailing, used, used_by_id, value, waits, walk, walk_from, walked, walked_from, with_default, with_values, without, word_met}
use Rattle.clap.specs.Kinds.{value_kinds, Kinds, range_kinds}
use Rattle.clap.specs.Faults.{repeat_fault, set_fault, values_fault, bundle_fault, bundle_step_fault, flag_word_fault, flags_fault, level_fault, long_fault, option_fault, other_fault, react_fault, settle_fault, short_fault, turn_fault, use_fault, walk_fault, word_fault}
use Rattle.clap.specs.Words.{IsSignedIn, Row, Rule, Text, new_rule, one_of}
use Rattle.clap.specs.Simple.{Shape, built_leaf, filled, help_rule, inherited, marked_built, with_index, with_leaf_noted}
use Rattle.clap.specs.ValueTests.{is_signed_in}
use Rattle.clap.specs.declared.builder.value_parser.Reading.{Reading}
use Rattle.clap.specs.declared.builder.value_parser.Reading.TheVariants.{AsWritten, WithoutMinus}
use Rattle.clap.specs.declared.builder.value_parser.ValueParser.TheVariants.{Signed}
use Rattle.clap.specs.declared.parser.matches.ValueSource.{ValueSource}
use Rattle.clap.specs.declared.parser.matches.ValueSource.TheVariants.{CommandLine, DefaultValue}
use Rattle.clap.specs.declared.error.kind.ErrorKind.TheVariants.{ArgumentConflict, InvalidValue, ValueValidation, WrongNumberOfValues}
use Rattle.clap.proofs.ValueTestLemmas.{accepts-Accepts}
use Rattle.arguments.specs.Options.{HasNumber, Spells, capacity_option, group_option, max_inflight_option}
use Rattle.arguments.specs.CommandLine.{command_line, command_named}
use Rattle.arguments.proofs.Faultless.{chosen, level_parts, neither, not_chosen, turn_parts}

-- ---- a command as it is built

abbrev pub capacity : Rule
capacity = with_index 1 (filled capacity_option)

abbrev pub max_inflight : Rule
max_inflight = with_index 1 (filled max_inflight_option)

abbrev pub group : Rule
group = with_index 1 (filled group_option)

abbrev pub help : Rule
help = with_index 1 (filled help_rule)

abbrev pub options : List Rule
options = capacity ∷ max_inflight ∷ group ∷ help ∷ []

-- what holds of each of the options, and of none, holds of the one that is found
found : (Q : Option Rule → Type 0) (test : Rule → Bool) → Q None → Q (Some capacity) → Q (Some max_inflight) → Q (Some group) → Q (Some help) → Q (find test options)
found Q test none first second third fourth = go (test capacity) (test max_inflight) (test group) (test help)
  where
    go : (a b c d : Bool) → Q (cond a (Some capacity) (cond b (Some max_inflight) (cond c (Some group) (cond d (Some help) None))))
    go true b c d = first
    go false true c d = second
    go false false true d = third
    go false false false true = fourth
    go false false false false = none

or_false : (a b : Bool) → (a || b) ≡ false → (a ≡ false) × (b ≡ false)
or_false true b e = cc
or_false false b e = (refl, e)

-- rows with no row of an id get one at the end
at_end : (id : Text) (change : Row → List Row) (missing rows : List Row) → has_row id rows ≡ false → at_row id change missing rows ≡ rows ++ missing
at_end id change missing [] e = refl
at_end id change missing (r ∷ rows) e =
    let p = or_false (bytes_eq r.id id) _ e in
    ap (λ (b : Bool). cond b (change r ++ rows) (r ∷ at_row id change missing rows)) p.0 ∙ ap (λ (rest : List Row). r ∷ rest) (at_end id change missing rows p.1)

one_value : (n : ℕ) → range_kinds 1 1 n ≡ [] → n ≡ 1
one_value n e = go (n == 0) (1 == n) refl e
  where
    go : (a b : Bool) → (1 == n) ≡ b → cond a (InvalidValue ∷ []) (cond b [] (WrongNumberOfValues ∷ [])) ≡ [] → n ≡ 1
    go true b is e = cc
    go false true is e = sym (eqb-true 1 n is)
    go false false is e = cc

and_true : (b : Bool) → (b && true) ≡ false → b ≡ false
and_true true e = e
and_true false e = e

-- ---- the row of an option whose value is a number from 1 to the most

module _ (id : Text) (most : ℕ) where
  abbrev is_its : Row → Bool
  is_its r = bytes_eq r.id id

  -- the row has one value, a number in range
  abbrev HasOneNumber : Row → Type 0
  HasOneNumber r = (text : Text) × (r.values ≡ text ∷ []) × (is_signed_in (pos 1) (pos most) text ≡ true) × (r.reading ≡ WithoutMinus)

  -- where the rows have the option, they have a number
  abbrev Numbered : List Row → Type 0
  Numbered rows = IfSome (find is_its rows) HasOneNumber

  find_end : (rows : List Row) (r : Row) → has_row id rows ≡ false → is_its r ≡ true → find is_its (rows ++ r ∷ []) ≡ Some r
  find_end [] r e is = ap (λ (b : Bool). cond b (Some r) None) is
  find_end (x ∷ rows) r e is =
      let p = or_false (is_its x) _ e in
      ap (λ (b : Bool). cond b (Some x) (find is_its (rows ++ r ∷ []))) p.0 ∙ find_end rows r p.1 is

  find_some : (rows : List Row) → has_row id rows ≡ true → Numbered rows → (r : Row) × (find is_its rows ≡ Some r) × HasOneNumber r
  find_some [] e numbered = cc
  find_some (x ∷ rows) e numbered = go (is_its x) e numbered (find_some rows)
    where
      go : (b : Bool) → (b || has_row id rows) ≡ true → IfSome (cond b (Some x) (find is_its rows)) HasOneNumber
          → (has_row id rows ≡ true → Numbered rows → (r : Row) × (find is_its rows ≡ Some r) × HasOneNumber r)
          → (r : Row) × (cond b (Some x) (find is_its rows) ≡ Some r) × HasOneNumber r
      go true e numbered others = (x, refl, numbered)
      go false e numbered others = others e numbered

  -- a row of another option changes nothing of it
  not_its : (r : Row) (other : Text) → bytes_eq other id ≡ false → bytes_eq r.id other ≡ true → is_its r ≡ false
  not_its r other differs is = ap (λ (i : Text). bytes_eq i id) ((bytes_eq-Decides r.id other).0 is) ∙ differs

  other_row : (other : Text) (how : Reading) (source : ValueSource) (values : List Text) (rows : List Row) → bytes_eq other id ≡ false
      → find is_its (with_values other how source values rows) ≡ find is_its rows
  other_row other how source values [] differs =
      let row : Row = record {
        id = other;
        values = values;
        count = None;
        source = Some source;
        reading = how;
      } in
      ap (λ (b : Bool). cond b (Some row) None) differs
  other_row other how source values (r ∷ rows) differs = go (bytes_eq r.id other) refl (other_row other how source values rows differs)
    where
      go : (b : Bool) → bytes_eq r.id other ≡ b → find is_its (with_values other how source values rows) ≡ find is_its rows
          → find is_its (cond b (more_values source values r ++ rows) (r ∷ with_values other how source values rows)) ≡ find is_its (r ∷ rows)
      go true is others =
          let its : is_its r ≡ false = not_its r other differs is in
          rw its refl
      go false is others = ap (λ (o : Option Row). cond (is_its r) (Some r) o) others

  without_other : (other : Text) (rows : List Row) → bytes_eq other id ≡ false → find is_its (without other rows) ≡ find is_its rows
  without_other other [] differs = refl
  without_other other (r ∷ rows) differs = go (bytes_eq r.id other) refl (without_other other rows differs)
    where
      go : (b : Bool) → bytes_eq r.id other ≡ b → find is_its (without other rows) ≡ find is_its rows
          → find is_its (cond b rows (r ∷ without other rows)) ≡ find is_its (r ∷ rows)
      go true is others =
          let its : is_its r ≡ false = not_its r other differs is in
          rw its refl
      go false is others = ap (λ (o : Option Row). cond (is_its r) (Some r) o) others

  beside : (other : Text) (how : Reading) (source : ValueSource) (values : List Text) (rows : List Row) → bytes_eq other id ≡ false
      → Numbered rows → Numbered (with_values other how source values (without other rows))
  beside other how source values rows differs numbered =
      subst (λ (o : Option Row). IfSome o HasOneNumber) (sym (other_row other how source values (without other rows) differs ∙ without_other other rows differs)) numbered

  more_beside : (other : Text) (how : Reading) (source : ValueSource) (values : List Text) (rows : List Row) → bytes_eq other id ≡ false
      → Numbered rows → Numbered (with_values other how source values rows)
  more_beside other how source values rows differs numbered =
      subst (λ (o : Option Row). IfSome o HasOneNumber) (sym (other_row other how source values rows differs)) numbered

  -- ---- one use of it

  abbrev Given : List Row → Type 0
  Given rows = (r : Row) × (find is_its rows ≡ Some r) × HasOneNumber r

  if_given : (rows : List Row) → Given rows → Numbered rows
  if_given rows g = subst (λ (o : Option Row). IfSome o HasOneNumber) (sym g.1) g.2

  -- the first value that it gets
  first_number : (source : ValueSource) (text : Text) (rows : List Row) → bytes_eq id id ≡ true → has_row id rows ≡ false → is_signed_in (pos 1) (pos most) text ≡ true
      → Given (with_values id WithoutMinus source (text ∷ []) rows)
  first_number source text rows own absent number =
      let row : Row = record {
        id = id;
        values = text ∷ [];
        count = None;
        source = Some source;
        reading = WithoutMinus;
      } in (
        row,
        ap (find is_its) (at_end id (more_values source (text ∷ [])) (row ∷ []) rows absent) ∙ find_end rows row absent own,
        (text, refl, number, refl),
      )

  abbrev number_rule : Text → Rule
  number_rule default = with_index 1 (filled (record (new_rule id) {
    long = Some id;
    value_names = 1;
    parser = Some (Signed (pos 1) (pos most));
    defaults = default ∷ [];
  }))

  keeps_own : (default : Text) → bytes_eq id id ≡ true → (values : List Text) (rows : List Row) → use_fault false (number_rule default) values rows ≡ [] → Numbered (used (number_rule default) values rows)
  keeps_own default own values rows e =
      let p = neither (range_kinds 1 1 (length values)) _ e in
      of_one values (one_value (length values) p.0) p.1
    where
      of_one : (values : List Text) → length values ≡ 1 → set_fault false (number_rule default) (values_or_missing (number_rule default) values) rows ≡ [] → Numbered (used (number_rule default) values rows)
      of_one [] one e = absurd (omega arith)
      of_one (v ∷ []) one e =
          let q = neither (repeat_fault false id rows) (values_fault (number_rule default) (v ∷ [])) e in
          let absent = and_true (has_row id rows) (not_chosen (has_row id rows && true) ArgumentConflict [] q.0) in
          let number = chosen (is_signed_in (pos 1) (pos most) v) ValueValidation [] (neither (value_kinds false (Signed (pos 1) (pos most)) v) [] q.1).0 in
          let none : without id rows ≡ rows = at_end id (λ _. []) [] rows absent ∙ append-nil rows in
          subst (λ (old : List Row). Numbered (with_values id WithoutMinus CommandLine (v ∷ []) old)) (sym none)
          (if_given (with_values id WithoutMinus CommandLine (v ∷ []) rows) (first_number CommandLine v rows own absent number))
      of_one (v ∷ w ∷ vs) one e = absurd (omega arith)

  -- ---- its default

  with_number : (default : Text) → bytes_eq id id ≡ true → is_signed_in (pos 1) (pos most) default ≡ true → (rows : List Row) → Numbered rows → Given (with_default rows (number_rule default))
  with_number default own number rows numbered = go (has_row id rows) refl
    where
      go : (b : Bool) → has_row id rows ≡ b → Given (cond b rows (with_values id WithoutMinus DefaultValue (default ∷ []) rows))
      go true is = find_some rows is numbered
      go false is = first_number DefaultValue default rows own is number

  -- the default of another option changes nothing of it
  other_default : (other : Text) (values : List Text) (rows : List Row) → bytes_eq other id ≡ false
      → find is_its (cond (has_row other rows) rows (with_values other WithoutMinus DefaultValue values rows)) ≡ find is_its rows
  other_default other values rows differs = go (has_row other rows)
    where
      go : (b : Bool) → find is_its (cond b rows (with_values other WithoutMinus DefaultValue values rows)) ≡ find is_its rows
      go true = refl
      go false = other_row other WithoutMinus DefaultValue values rows differs

-- ---- one use of an option

-- where the rows have the capacity, they have a number, and so it is with the limit of unacknowledged messages
abbrev Good : List Row → Type 0
Good rows = Numbered (codes "capacity") 65536 rows × Numbered (codes "max-inflight") 256 rows

abbrev Keeps : Rule → Type 0
Keeps a = (values : List Text) (rows : List Row) → use_fault false a values rows ≡ [] → Good rows → Good (used a values rows)

keeps_capacity : Keeps capacity
keeps_capacity values rows e good = (
  keeps_own (codes "capacity") 65536 (codes "1024") refl values rows e,
  beside (codes "max-inflight") 256 (codes "capacity") WithoutMinus CommandLine (values_or_missing capacity values) rows refl good.1,
)

keeps_max_inflight : Keeps max_inflight
keeps_max_inflight values rows e good = (
  beside (codes "capacity") 65536 (codes "max-inflight") WithoutMinus CommandLine (values_or_missing max_inflight values) rows refl good.0,
  keeps_own (codes "max-inflight") 256 (codes "256") refl values rows e,
)

keeps_group : Keeps group
keeps_group values rows e good = (
  more_beside (codes "capacity") 65536 (codes "group") AsWritten CommandLine (values_or_missing group values) rows refl good.0,
  more_beside (codes "max-inflight") 256 (codes "group") AsWritten CommandLine (values_or_missing group values) rows refl good.1,
)

keeps_help : Keeps help
keeps_help values rows e good = good

-- ---- a word

settle_keeps : (h : Held) → settle_fault options false h ≡ [] → Good h.rows → Good (settled options h).rows
settle_keeps h e good = go h.pending e
  where
    go : (p : Option (Text × List Text)) → option_map_or (λ p. option_map_or (λ a. use_fault false a p.1 h.rows) (arg_by_id options p.0) []) p [] ≡ []
        → Good (settled_rows options p h.rows)
    go None e = good
    go (Some p) e = found (λ o. option_map_or (λ a. use_fault false a p.1 h.rows) o [] ≡ [] → Good (used_by_id o p.1 h.rows)) (λ a. bytes_eq a.id p.0)
        (λ e. good) (λ e. keeps_capacity p.1 h.rows e good) (λ e. keeps_max_inflight p.1 h.rows e good) (λ e. keeps_group p.1 h.rows e good) (λ e. keeps_help p.1 h.rows e good) e

react_keeps : (a : Rule) → Keeps a → (values : List Text) (h : Held) → react_fault options false a values h ≡ [] → Good h.rows → Good (reacted options a values h).rows
react_keeps a keeps values h e good =
    let p = neither (settle_fault options false h) _ e in
    keeps values (settled options h).rows p.1 (settle_keeps h p.0 good)

option_keeps : (a : Rule) → Keeps a → (v : Option Text) (h : Held) → option_fault options false a v h ≡ [] → Good h.rows → Good (option_met options a v h).0.rows
option_keeps a keeps (Some v) h e good = react_keeps a keeps (v ∷ []) h e good
option_keeps a keeps None h e good = settle_keeps h e good

long_keeps : (name : Text) (v : Option Text) (h : Held) → long_fault options false (arg_by_long options name) v h ≡ [] → Good h.rows
    → Good (long_met options (arg_by_long options name) v h).0.rows
long_keeps name v h e good = found (λ o. long_fault options false o v h ≡ [] → Good (long_met options o v h).0.rows) (λ a. not (is_some a.index) && has_long a name)
    (λ e. good) (λ e. option_keeps capacity keeps_capacity v h e good) (λ e. option_keeps max_inflight keeps_max_inflight v h e good) (λ e. option_keeps group keeps_group v h e good) (λ e. flag v e) e
  where
    flag : (v : Option Text) → long_fault options false (Some help) v h ≡ [] → Good (long_met options (Some help) v h).0.rows
    flag (Some v) e = good
    flag None e = react_keeps help keeps_help [] h e good

short_keeps : (x : ℕ) (rest : Text) (h : Held) (fault : Held → Kinds) (met : Held → Held × Outcome)
    → ((h : Held) → fault h ≡ [] → Good h.rows → Good (met h).0.rows)
    → short_fault options false (arg_by_short options x) rest h fault ≡ [] → Good h.rows → Good (short_met options (arg_by_short options x) rest h met).0.rows
short_keeps x rest h fault met onward e good =
    found (λ o. short_fault options false o rest h fault ≡ [] → Good (short_met options o rest h met).0.rows) (λ a. not (is_some a.index) && has_short a x)
    (λ e. good) (λ e. option_keeps capacity keeps_capacity (attached_value rest) h e good) (λ e. option_keeps max_inflight keeps_max_inflight (attached_value rest) h e good)
    (λ e. option_keeps group keeps_group (attached_value rest) h e good)
    (λ e. let p = neither (react_fault options false help [] h) _ e in onward (reacted options help [] h) p.1 (react_keeps help keeps_help [] h p.0 good)) e

step_keeps : (o : Option ℕ) (flags : Text) (skip : ℕ) (so_far : Outcome) (h : Held) (fault : Text → ℕ → Held → Kinds) (met : Text → ℕ → Outcome → Held → Held × Outcome)
    → ((flags : Text) (skip : ℕ) (so_far : Outcome) (h : Held) → fault flags skip h ≡ [] → Good h.rows → Good (met flags skip so_far h).0.rows)
    → bundle_step_fault options false o flags skip h fault ≡ [] → Good h.rows → Good (bundle_step options o flags skip so_far h met).0.rows
step_keeps None flags skip so_far h fault met onward e good = good
step_keeps (Some x) flags zero so_far h fault met onward e good =
    let rest = drop (length (encode_utf8 x)) flags in
    short_keeps x rest h (fault rest 0) (met rest 0 done) (onward rest 0 done) e good
step_keeps (Some x) flags (suc skip) so_far h fault met onward e good = onward _ skip so_far h e good

bundle_keeps : (k : ℕ) (flags : Text) (skip : ℕ) (so_far : Outcome) (h : Held) → flags_fault options false k flags skip h ≡ [] → Good h.rows
    → Good (bundle_met options k flags skip so_far h).0.rows
unfolding bundle_met flags_fault
bundle_keeps zero flags skip so_far h e good = good
bundle_keeps (suc k) flags skip so_far h e good =
    step_keeps (slice_get (chars flags) 0) flags skip so_far h (flags_fault options false k) (bundle_met options k) (bundle_keeps k) e good

plain_rows : (c : List Rule) (waiting : Waiting) (word : Text) (h : Held) → (plain_word c waiting word h).0.rows ≡ h.rows
plain_rows c idle word h = refl
plain_rows c positional word h = refl
plain_rows c (option id) word h = go (arg_by_id c id)
  where
    go : (o : Option Rule) → (option_word o id word h).0.rows ≡ h.rows
    go None = refl
    go (Some a) = refl

after_rows : (c : List Rule) (waiting : Waiting) (word : Text) (h : Held) (o : Outcome) → (after_flag c waiting word h o).0.rows ≡ h.rows
after_rows c waiting word h done = refl
after_rows c waiting word h (waits id) = refl
after_rows c waiting word h plain = plain_rows c waiting word h
after_rows c waiting word h refused = plain_rows c waiting word h

short_word_keeps : (waiting : Waiting) (word : Text) (o : Option Text) (h : Held) → option_map_or (λ flags. bundle_fault options false flags h) o [] ≡ [] → Good h.rows
    → Good (short_or_plain options waiting word o h).0.rows
short_word_keeps waiting word (Some flags) h e good =
    subst Good (sym (after_rows options waiting word (bundle options flags h).0 (bundle options flags h).1))
    (bundle_keeps (length flags) flags h.skip plain (record h { skip = 0 }) e good)
short_word_keeps waiting word None h e good = subst Good (sym (plain_rows options waiting word h)) good

flag_word_keeps : (waiting : Waiting) (word : Text) (o : Option (Text × Option Text)) (h : Held) → flag_word_fault options false o word h ≡ [] → Good h.rows
    → Good (long_or_other options waiting word o h).0.rows
flag_word_keeps waiting word (Some p) h e good =
    subst Good (sym (after_rows options waiting word (long_met options (arg_by_long options p.0) p.1 h).0 (long_met options (arg_by_long options p.0) p.1 h).1))
    (long_keeps p.0 p.1 h e good)
flag_word_keeps waiting word None h e good = short_word_keeps waiting word (short_of word) h e good

-- ---- the words of a command

abbrev pub leaf : Text → Shape
leaf name = built_leaf (inherited (with_leaf_noted (marked_built command_line.top)) (command_named name).top)

other_keeps : (name : Text) (o : Option Text) (waiting : Waiting) (position : ℕ) (word : Text) (h : Held) → other_fault (leaf name) o word h ≡ [] → Good h.rows
    → Good (subcommand_or_other options o waiting position word h).0.rows
other_keeps name (Some met) waiting position word h e good = good
other_keeps name None waiting position word h e good = go (bytes_eq word (45 ∷ 45 ∷ [])) e
  where
    go : (b : Bool) → cond b [] (flag_word_fault options false (long_of word) word h) ≡ []
        → Good (cond b (h, trailing position) (long_or_other options waiting word (long_of word) h)).0.rows
    go true e = good
    go false e = flag_word_keeps waiting word (long_of word) h e good

word_keeps : (name : Text) (b : Bool) (waiting : Waiting) (position : ℕ) (word : Text) (h : Held) → word_fault (leaf name) [] b waiting word h ≡ [] → Good h.rows
    → Good (word_met options [] b waiting position word h).0.rows
word_keeps name true waiting position word h e good = good
word_keeps name false waiting position word h e good = other_keeps name (subcommand_met [] waiting word) waiting position word h e good

step_rows : (word : Text) (w : Walk) (h : Held) (step : Step) → (after_step options word w h step).held.rows ≡ h.rows
step_rows word w h (next waiting) = refl
step_rows word w h (trailing position) = refl
step_rows word w h (subcommand name) = refl
step_rows word w h value = refl

turn_keeps : (name : Text) (w : Walk) (word : Text) → turn_fault (leaf name) [] w word ≡ [] → Good w.held.rows → Good (walked options [] w word).held.rows
unfolding walked
turn_keeps name w word e good = go w.stopped
    (λ unmet. word_keeps name w.is_trailing w.waiting w.position word w.held (turn_parts (leaf name) [] w word unmet e).0 good) refl
  where
    go : (o : Option (Text × List Text)) → (w.stopped ≡ None → Good (word_met options [] w.is_trailing w.waiting w.position word w.held).0.rows) → w.stopped ≡ o
        → Good (walked_from options [] o w word).held.rows
    go None here unmet =
        let met = word_met options [] w.is_trailing w.waiting w.position word w.held in
        subst Good (sym (step_rows word w met.0 met.1)) (here unmet)
    go (Some p) here met = good

walk_keeps : (name : Text) (w : Walk) (words : List Text) → walk_fault (leaf name) [] w words ≡ [] → Good w.held.rows → Good (fold (walked options []) w words).held.rows
unfolding walk_fault
walk_keeps name w [] e good = good
walk_keeps name w (word ∷ rest) e good =
    let p = neither (turn_fault (leaf name) [] w word) _ e in
    walk_keeps name (walked options [] w word) rest p.1 (turn_keeps name w word p.0 good)

-- ---- the end of the words

either_way : {X : Type 0} (b : Bool) (x : X) → cond b x x ≡ x
either_way true x = refl
either_way false x = refl

-- the rows with the two defaults
abbrev with_both : List Row → List Row
with_both rows = with_default (with_default rows capacity) max_inflight

finished_is : (h : Held) → finished options h ≡ with_both (settled options h).rows
finished_is h =
    let rows = with_both (settled options h).rows in
    ap (λ (rs : List Row). with_default rs help) (either_way (has_row (codes "group") rows) rows) ∙ either_way (has_row (codes "help") rows) rows

no_minus : (text : Text) → starts_with_minus text ≡ false → without_minus text ≡ text
no_minus [] e = refl
no_minus (x ∷ xs) e = ap (λ (b : Bool). unwrap_or (cond b (Some xs) None) (x ∷ xs)) e

spells : (most : ℕ) (text : Text) → is_signed_in (pos 1) (pos most) text ≡ true
    → Spells text (digits_value 10 (without_leading_plus text)) × (1 ≤ digits_value 10 (without_leading_plus text)) × (digits_value 10 (without_leading_plus text) ≤ most)
    × (without_minus text ≡ text)
spells most text e = go (starts_with_minus text) refl (accepts-Accepts false (Signed (pos 1) (pos most)) text e)
  where
    go : (b : Bool) → starts_with_minus text ≡ b → IsSignedIn (pos 1) (pos most) text
        → Spells text (digits_value 10 (without_leading_plus text)) × (1 ≤ digits_value 10 (without_leading_plus text)) × (digits_value 10 (without_leading_plus text) ≤ most)
        × (without_minus text ≡ text)
    go true minus passed =
        let low = rw minus at passed.2 in
        absurd (omega (arith, ints))
    go false minus passed =
        let numeral = rw minus at passed.0 in
        let low = rw minus at passed.2 in
        let high = rw minus at passed.3 in
        ((numeral, refl), omega (arith, ints), omega (arith, ints), no_minus text minus)

-- the value of an option is a number in range
abbrev pub HasOne : Text → ℕ → List Row → Type 0
HasOne id most rows = (number : ℕ) × HasNumber id 1 most rows number

has_one : (id : Text) (most : ℕ) (rows : List Row) → Given id most rows → HasOne id most rows
has_one id most rows (row, here, (text, values, number, reading)) =
    let s = spells most text number in
    let read : one_of id rows ≡ Some text = ap (option_and_then row_text) here
    ∙ ap₂ (λ (how : Reading) (vs : List Text). option_map (read_as how) (slice_get vs 0)) reading values ∙ ap (λ (t : Text). Some t) s.3 in (
      digits_value 10 (without_leading_plus text),
      record {
        text = text;
        value = read;
        spelled = s.0;
        from = s.1;
        to = s.2;
      },
    )

-- and so it is of both
abbrev pub HasNumbers : List Row → Type 0
HasNumbers rows = HasOne (codes "capacity") 65536 rows × HasOne (codes "max-inflight") 256 rows

has_numbers : (rows : List Row) → Good rows → HasNumbers (with_both rows)
has_numbers rows good =
    let between = with_default rows capacity in
    let first = with_number (codes "capacity") 65536 (codes "1024") refl refl rows good.0 in
    let same : find (is_its (codes "capacity") 65536) (with_both rows) ≡ find (is_its (codes "capacity") 65536) between =
    other_default (codes "capacity") 65536 (codes "max-inflight") (codes "256" ∷ []) between refl in
    let still = subst (λ (o : Option Row). IfSome o (HasOneNumber (codes "max-inflight") 256))
    (sym (other_default (codes "max-inflight") 256 (codes "capacity") (codes "1024" ∷ []) rows refl)) good.1 in (
      has_one (codes "capacity") 65536 (with_both rows) (first.0, same ∙ first.1, first.2),
      has_one (codes "max-inflight") 256 (with_both rows) (with_number (codes "max-inflight") 256 (codes "256") refl refl between still),
    )

-- the numbers of a command whose words have no fault
pub leaf_numbers : (name : Text) (words : List Text) → level_fault (leaf name) [] nothing_held words false [] ≡ [] → HasNumbers (rows_after options [] words)
leaf_numbers name words e =
    let p = level_parts (leaf name) [] nothing_held words false [] e in
    let end = (walk options [] nothing_held words).held in
    let good = settle_keeps end p.2 (walk_keeps name (walk_from nothing_held) words p.0 (tt, tt)) in
    subst HasNumbers (sym (finished_is end)) (has_numbers (settled options end).rows good)
