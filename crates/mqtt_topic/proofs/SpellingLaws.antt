-- A text against its levels, and a share against its text.
use Rattle.std.proofs.Common.{◌≡◌, ℕ, ◌+◌, ◌<◌, Bool, true, false, cond, ltb, List, [], ◌∷◌, ◌++◌, length, get_or, take, drop, codes, Option, Some, None, Result, Ok, Err, refl, sym, ap, subst, ◌∙◌, arith, append_assoc, length-append}
use Rattle.std.specs.Prelude.{◌↔◌, nat_eq}
use Rattle.std.specs.List.{AllByRecursion, list_any, join_with_byte, position, position_or_len, starts_with}
use Rattle.std.proofs.lemmas.Bool.{and_parts, or_parts, eqb-true, lt-ltb}
use Rattle.std.proofs.lemmas.Bool.Decides.{Decides-eqb}
use Rattle.std.proofs.lemmas.List.{take-append-drop, drop_more, drop-drop, take_at, drop_at, length-take, get_or-take}
use Rattle.std.proofs.lemmas.List.Elements.{All-from_recursion, recursion_from_All, All-from_get_or}
use Rattle.std.proofs.lemmas.List.Folds.{list_any_none}
use Rattle.std.proofs.lemmas.List.Quantifiers.{position-Some}
use Rattle.std.proofs.lemmas.Slice.Eq.{starts_is}
use Rattle.mqtt_topic.specs.declared.error.TopicError.{TopicError}
use Rattle.mqtt_topic.specs.Levels.{is_separator, onto_first, levels_of, IsCut}
use Rattle.mqtt_topic.specs.Names.{is_plain, is_some_text, tested, are_placed, filter_of, Share, with_filter, share_cut, share_of, Spells}
use Rattle.mqtt_topic.proofs.MatchLaws.{some_level, join_levels}

-- ---- levels

abbrev IsLevel : List ℕ → Type 0
IsLevel level = list_any is_separator level ≡ false

apart_front : (byte : ℕ) (levels : List (List ℕ)) → is_separator byte ≡ false → AllByRecursion IsLevel levels → AllByRecursion IsLevel (onto_first byte levels)
apart_front byte [] other apart = (rw other refl, tt)
apart_front byte (level ∷ levels) other apart = (rw other apart.0, apart.1)

apart_at : (byte : ℕ) (b : Bool) (levels : List (List ℕ)) → is_separator byte ≡ b → AllByRecursion IsLevel levels → AllByRecursion IsLevel (cond b ([] ∷ levels) (onto_first byte levels))
apart_at byte true levels is apart = (refl, apart)
apart_at byte false levels is apart = apart_front byte levels is apart

apart_levels : (text : List ℕ) → AllByRecursion IsLevel (levels_of text)
unfolding levels_of
apart_levels [] = (refl, tt)
apart_levels (byte ∷ bytes) = apart_at byte (is_separator byte) (levels_of bytes) refl (apart_levels bytes)

one_level : (level : List ℕ) → IsLevel level → levels_of level ≡ level ∷ []
unfolding levels_of
one_level [] is = refl
one_level (byte ∷ bytes) is =
    let parts = or_parts (is_separator byte) (list_any is_separator bytes) is in
    rw parts.0 (ap (onto_first byte) (one_level bytes parts.1))

first_level : (level rest : List ℕ) → IsLevel level → levels_of (level ++ 47 ∷ rest) ≡ level ∷ levels_of rest
unfolding levels_of
first_level [] rest is = refl
first_level (byte ∷ bytes) rest is =
    let parts = or_parts (is_separator byte) (list_any is_separator bytes) is in
    rw parts.0 (ap (onto_first byte) (first_level bytes rest parts.1))

joined_levels : (level : List ℕ) (levels : List (List ℕ)) → IsLevel level → AllByRecursion IsLevel levels → levels_of (join_with_byte 47 (level ∷ levels)) ≡ level ∷ levels
joined_levels level [] is apart = one_level level is
joined_levels level (next ∷ levels) is apart =
    first_level level (join_with_byte 47 (next ∷ levels)) is ∙ ap (λ (ls : List (List ℕ)). level ∷ ls) (joined_levels next levels apart.0 apart.1)

levels_back : (levels : List (List ℕ)) → 0 < length levels → AllByRecursion IsLevel levels → levels_of (join_with_byte 47 levels) ≡ levels
levels_back [] some apart = absurd (omega arith)
levels_back (level ∷ levels) some apart = joined_levels level levels apart.0 apart.1

pub cut_is : (text : List ℕ) (levels : List (List ℕ)) → (levels_of text ≡ levels) ↔ IsCut text levels
cut_is text levels = (
  λ e. subst (IsCut text) e (record {
    some_level = some_level text;
    one_level = All-from_recursion IsLevel (levels_of text) (apart_levels text);
    joined = join_levels text;
  }),
  λ cut. ap levels_of (sym cut.joined) ∙ levels_back levels cut.some_level (recursion_from_All IsLevel levels cut.one_level),
)

-- ---- shares

-- what stands before the first `/` and after it
found : (rest : List ℕ) (at : ℕ) → position is_separator rest ≡ Some at → (rest ≡ take at rest ++ 47 ∷ drop (at + 1) rest) × (list_any is_separator (take at rest) ≡ false)
found rest at e =
    let at_place = position-Some is_separator rest at 0 e in
    let here : get_or rest at 0 ≡ 47 = eqb-true (get_or rest at 0) 47 at_place.1 in (
      sym (take-append-drop at rest) ∙ ap (λ (r : List ℕ). take at rest ++ r) (drop_more rest at 0 at_place.0 ∙ ap (λ (x : ℕ). x ∷ drop (at + 1) rest) here),
      list_any_none is_separator (take at rest) (All-from_get_or (λ x. is_separator x ≡ false) (take at rest) 0
          (λ i within. let less : i < at = omega (arith, length-take at rest) in ap is_separator (get_or-take at rest i 0 less) ∙ at_place.2 i less)),
    )

first_at : (name filter : List ℕ) → list_any is_separator name ≡ false → position_or_len is_separator (name ++ 47 ∷ filter) ≡ length name
first_at [] filter is = refl
first_at (byte ∷ bytes) filter is =
    let parts = or_parts (is_separator byte) (list_any is_separator bytes) is in
    let next = first_at bytes filter parts.1 in
    rw parts.0 (omega (arith, next))

place_of : (name filter : List ℕ) → list_any is_separator name ≡ false → position is_separator (name ++ 47 ∷ filter) ≡ Some (length name)
place_of name filter is =
    let within : ltb (length name) (length (name ++ 47 ∷ filter)) ≡ true = lt-ltb _ _ (omega (arith, length-append name (47 ∷ filter))) in
    rw (first_at name filter is, within) refl

behind_name : (name filter : List ℕ) → drop (length name + 1) (name ++ 47 ∷ filter) ≡ filter
behind_name name filter = sym (drop-drop 1 (length name) (name ++ 47 ∷ filter)) ∙ ap (drop 1) (drop_at name (47 ∷ filter) (length name) refl)

some_from : (text : List ℕ) → is_some_text text ≡ true → 0 < length text
some_from [] e = absurd cc
some_from (byte ∷ bytes) e = omega arith

some_text : (text : List ℕ) → 0 < length text → is_some_text text ≡ true
some_text [] some = absurd (omega arith)
some_text (byte ∷ bytes) some = refl

tested_is : (some placed : Bool) (text filter : List ℕ) → tested some placed text ≡ Ok filter → text ≡ filter
tested_is true true text filter e = cc
tested_is true false text filter e = absurd cc
tested_is false placed text filter e = absurd cc

filter_is : (text filter : List ℕ) → filter_of text ≡ Ok filter → text ≡ filter
unfolding filter_of
filter_is text filter e = tested_is (is_some_text text) (are_placed (levels_of text)) text filter e

with_is : (text name : List ℕ) (filter : Result (List ℕ) TopicError) (share : Share) → with_filter text name filter ≡ Ok share → filter ≡ Ok share.filter
with_is text name (Ok filter) share e = let is : record { text = text; name = name; filter = filter } ≡ share = cc in ap (λ (s : Share). Ok s.filter) is
with_is text name (Err refusal) share e = absurd cc

named_is : (text name given : List ℕ) (share : Share) → with_filter text name (filter_of given) ≡ Ok share → list_any is_separator name ≡ false → is_some_text name ≡ true → is_plain name ≡ true → text ≡ codes "$share/" ++ (name ++ 47 ∷ given) → Spells text share
named_is text name given share e level some plain parts =
    let filter : filter_of given ≡ Ok share.filter = with_is text name (filter_of given) share e in
    let same : given ≡ share.filter = filter_is given share.filter filter in
    let again : with_filter text name (Ok share.filter) ≡ Ok share = ap (with_filter text name) (sym filter) ∙ e in
    let is : record { text = text; name = name; filter = share.filter } ≡ share = cc in
    let name_is : name ≡ share.name = ap (λ (s : Share). s.name) is in
    record {
      whole = sym (ap (λ (s : Share). s.text) is);
      parts = parts ∙ ap (λ (f : List ℕ). codes "$share/" ++ (name ++ 47 ∷ f)) same ∙ ap (λ (n : List ℕ). codes "$share/" ++ (n ++ 47 ∷ share.filter)) name_is ∙ ap (λ (r : List ℕ). codes "$share/" ++ r) (sym (append_assoc share.name (codes "/") share.filter));
      some_name = some_from share.name (ap is_some_text (sym name_is) ∙ some);
      plain_name = ap is_plain (sym name_is) ∙ plain;
      one_level = ap (list_any is_separator) (sym name_is) ∙ level;
      filter_is = ap filter_of (sym same) ∙ filter;
    }

chosen : (b : Bool) (r : Result Share TopicError) (refusal : TopicError) (share : Share) → cond b r (Err refusal) ≡ Ok share → (b ≡ true) × (r ≡ Ok share)
chosen true r refusal share e = (refl, e)
chosen false r refusal share e = absurd cc

cut_at : (text rest : List ℕ) (place : Option ℕ) (share : Share) → position is_separator rest ≡ place → text ≡ codes "$share/" ++ rest → share_cut text rest place ≡ Ok share → Spells text share
cut_at text rest None share is begins e = absurd cc
cut_at text rest (Some at) share is begins e =
    let split = found rest at is in
    let name = chosen _ _ _ share e in
    let tests = and_parts (is_some_text (take at rest)) (is_plain (take at rest)) name.0 in
    named_is text (take at rest) (drop (at + 1) rest) share name.1 split.1 tests.0 tests.1 (begins ∙ ap (λ (r : List ℕ). codes "$share/" ++ r) split.0)

spells : (text : List ℕ) (share : Share) → share_of text ≡ Ok share → Spells text share
unfolding share_of
spells text share e =
    let begun = chosen _ _ _ share e in
    cut_at text (drop 7 text) (position is_separator (drop 7 text)) share refl ((starts_is Decides-eqb text (codes "$share/") (starts_with nat_eq text (codes "$share/")) refl).0 begun.0) begun.1

cut_back : (text name filter : List ℕ) → is_some_text name ≡ true → is_plain name ≡ true → filter_of filter ≡ Ok filter → share_cut text (name ++ 47 ∷ filter) (Some (length name)) ≡ Ok (record { text = text; name = name; filter = filter })
cut_back text name filter some plain placed = rw (take_at name (47 ∷ filter) (length name) refl, behind_name name filter, some, plain, placed) refl

spelled_at : (name filter : List ℕ) → is_some_text name ≡ true → is_plain name ≡ true → list_any is_separator name ≡ false → filter_of filter ≡ Ok filter → share_of (codes "$share/" ++ (name ++ 47 ∷ filter)) ≡ Ok (record { text = codes "$share/" ++ (name ++ 47 ∷ filter); name = name; filter = filter })
unfolding share_of
spelled_at name filter some plain level placed =
    ap (share_cut (codes "$share/" ++ (name ++ 47 ∷ filter)) (name ++ 47 ∷ filter)) (place_of name filter level) ∙ cut_back (codes "$share/" ++ (name ++ 47 ∷ filter)) name filter some plain placed

spelled_back : (text : List ℕ) (share : Share) → Spells text share → share_of text ≡ Ok share
spelled_back text share spelled =
    let parts : text ≡ codes "$share/" ++ (share.name ++ 47 ∷ share.filter) = spelled.parts ∙ ap (λ (r : List ℕ). codes "$share/" ++ r) (append_assoc share.name (codes "/") share.filter) in
    ap share_of parts
    ∙ spelled_at share.name share.filter (some_text share.name spelled.some_name) spelled.plain_name spelled.one_level spelled.filter_is
    ∙ ap (λ (t : List ℕ). Ok (record { text = t; name = share.name; filter = share.filter })) (sym parts ∙ sym spelled.whole)

pub spelled_is : (text : List ℕ) (share : Share) → (share_of text ≡ Ok share) ↔ Spells text share
spelled_is text share = (spells text share, spelled_back text share)
