-- The share whose filter was found.
use Rattle.std.proofs.Common.{◌≡◌, ℕ, ◌+◌, ◌-◌, true, false, eqb, List, [], ◌∷◌, length, take, drop, Some, Ok, refl, sym, ap, ◌∙◌, arith}
use Rattle.std.specs.List.{list_any}
use Rattle.std.proofs.lemmas.List.{drop-drop}
use Rattle.mqtt_topic.specs.Levels.{is_wildcard}
use Rattle.mqtt_topic.specs.Names.{Share, is_some_text, filter_of, share_from, moved, share_cut}

pub some_text : (text : List ℕ) → eqb (length text) 0 ≡ false → is_some_text text ≡ true
some_text [] e = absurd cc
some_text (byte ∷ bytes) e = refl

abbrev made : List ℕ → List ℕ → List ℕ → Share
made text name filter = record { text = text; name = name; filter = filter }

name_part : (text rest : List ℕ) (at : ℕ) → drop 7 text ≡ rest → take (7 + (at + 1) - 8) (drop 7 text) ≡ take at rest
name_part text rest at e =
    let place : 7 + (at + 1) - 8 ≡ at = omega arith in
    ap (λ (k : ℕ). take k (drop 7 text)) place ∙ ap (take at) e

filter_part : (text rest : List ℕ) (at : ℕ) → drop 7 text ≡ rest → drop (7 + (at + 1)) text ≡ drop (at + 1) rest
filter_part text rest at e = sym (drop-drop (at + 1) 7 text) ∙ ap (drop (at + 1)) e

cut_is : (text rest : List ℕ) (at : ℕ) → is_some_text (take at rest) ≡ true → list_any is_wildcard (take at rest) ≡ false → filter_of (drop (at + 1) rest) ≡ Ok (drop (at + 1) rest) → share_cut text rest (Some at) ≡ Ok (made text (take at rest) (drop (at + 1) rest))
cut_is text rest at some plain filter = rw (some, plain, filter) refl

pub found_share : (text rest : List ℕ) (at : ℕ) → drop 7 text ≡ rest → is_some_text (take at rest) ≡ true → list_any is_wildcard (take at rest) ≡ false → filter_of (drop (at + 1) rest) ≡ Ok (drop (at + 1) rest) → share_from text (moved (Ok (at + 1))) ≡ share_cut text rest (Some at)
found_share text rest at e some plain filter =
    ap (λ (n : List ℕ). Ok (made text n (drop (7 + (at + 1)) text))) (name_part text rest at e)
    ∙ ap (λ (f : List ℕ). Ok (made text (take at rest) f)) (filter_part text rest at e)
    ∙ sym (cut_is text rest at some plain filter)

pub filter_passed : (given filter : List ℕ) → given ≡ filter → Ok given ≡ filter_of given → filter_of filter ≡ Ok filter
filter_passed given filter same e = ap filter_of (sym same) ∙ sym e ∙ ap (λ (f : List ℕ). Ok f) same
