-- A walk over words without a fault enters no `help`.
use Rattle.std.proofs.Common.{◌≡◌, Bool, cond, true, false, List, [], ◌∷◌, Option, Some, None, refl, codes, fold}
use Rattle.std.specs.Str.{bytes_eq}
use Rattle.clap.specs.Lexer.{long_of, short_of}
use Rattle.clap.specs.Words.{Rule, Text}
use Rattle.clap.specs.Walk.{Held, Names, Outcome, Step, Waiting, Walk, after_flag, after_step, arg_by_index, bundle, done, idle, long_or_other, next, option, plain, plain_word, positional, refused, short_or_plain, subcommand, subcommand_met, subcommand_or_other, to_positional, trailing, value, waits, walked, walked_from, word_met}
use Rattle.clap.specs.Simple.{Shape}
use Rattle.clap.specs.Faults.{other_fault, turn_fault, walk_fault, word_fault}
use Rattle.arguments.proofs.Faultless.{neither, not_chosen, turn_parts}

abbrev Stop : Type 0
Stop = Option (Text × List Text)

abbrev pub IsNoHelp : Stop → Type 0
IsNoHelp None = Unit {0}
IsNoHelp (Some p) = p.0 ≡ codes "help" → ⊥

abbrev GoesOn : Step → Type 0
GoesOn (subcommand name) = ⊥
GoesOn (next waiting) = Unit {0}
GoesOn (trailing position) = Unit {0}
GoesOn value = Unit {0}

plain_goes_on : (c : List Rule) (waiting : Waiting) (word : Text) (h : Held) → GoesOn (plain_word c waiting word h).1
plain_goes_on c idle word h = tt
plain_goes_on c (option id) word h = tt
plain_goes_on c positional word h = tt

flag_goes_on : (c : List Rule) (waiting : Waiting) (word : Text) (h : Held) (o : Outcome) → GoesOn (after_flag c waiting word h o).1
flag_goes_on c waiting word h done = tt
flag_goes_on c waiting word h (waits id) = tt
flag_goes_on c waiting word h plain = plain_goes_on c waiting word h
flag_goes_on c waiting word h refused = plain_goes_on c waiting word h

short_goes_on : (c : List Rule) (waiting : Waiting) (word : Text) (o : Option Text) (h : Held) → GoesOn (short_or_plain c waiting word o h).1
short_goes_on c waiting word (Some flags) h = flag_goes_on c waiting word (bundle c flags h).0 (bundle c flags h).1
short_goes_on c waiting word None h = plain_goes_on c waiting word h

long_goes_on : (c : List Rule) (waiting : Waiting) (word : Text) (o : Option (Text × Option Text)) (h : Held) → GoesOn (long_or_other c waiting word o h).1
long_goes_on c waiting word (Some p) h = flag_goes_on c waiting word _ _
long_goes_on c waiting word None h = short_goes_on c waiting word (short_of word) h

-- a step that goes on leaves the walk unmet
open_after : (c : List Rule) (word : Text) (w : Walk) (h : Held) (step : Step) → w.stopped ≡ None → GoesOn step → (after_step c word w h step).stopped ≡ None
open_after c word w h (next waiting) unmet on = unmet
open_after c word w h (trailing position) unmet on = unmet
open_after c word w h (subcommand name) unmet on = absurd on
open_after c word w h value unmet on = go (arg_by_index c w.position)
  where
    go : (o : Option Rule) → (to_positional c o word w h).stopped ≡ None
    go None = unmet
    go (Some a) = refl

no_help : (o : Stop) → o ≡ None → IsNoHelp o
no_help None e = tt
no_help (Some p) e = cc

other_stop : (s : Shape) (o : Option Text) (waiting : Waiting) (word : Text) (w : Walk) (h : Held) → s.disable_help_subcommand ≡ false → w.stopped ≡ None
    → other_fault s o word h ≡ []
    → IsNoHelp (after_step s.rules word w (subcommand_or_other s.rules o waiting w.position word h).0 (subcommand_or_other s.rules o waiting w.position word h).1).stopped
other_stop s (Some name) waiting word w h enabled unmet e = λ is_help.
    let fault = not_chosen _ _ _ e in
    let bad : true ≡ false = rw (is_help, enabled) at fault in
    cc
other_stop s None waiting word w h enabled unmet e = no_help _ (go (bytes_eq word (45 ∷ 45 ∷ [])))
  where
    go : (b : Bool) → (after_step s.rules word w (cond b (h, trailing w.position) (long_or_other s.rules waiting word (long_of word) h)).0
        (cond b (h, trailing w.position) (long_or_other s.rules waiting word (long_of word) h)).1).stopped ≡ None
    go true = unmet
    go false = open_after s.rules word w _ _ unmet (long_goes_on s.rules waiting word (long_of word) h)

word_stop : (s : Shape) (names : Names) (b : Bool) (word : Text) (w : Walk) → s.disable_help_subcommand ≡ false → w.stopped ≡ None
    → word_fault s names b w.waiting word w.held ≡ []
    → IsNoHelp (after_step s.rules word w (word_met s.rules names b w.waiting w.position word w.held).0 (word_met s.rules names b w.waiting w.position word w.held).1).stopped
word_stop s names true word w enabled unmet e = no_help _ (open_after s.rules word w w.held value unmet tt)
word_stop s names false word w enabled unmet e = other_stop s (subcommand_met names w.waiting word) w.waiting word w w.held enabled unmet e

turn_stop : (s : Shape) (names : Names) (w : Walk) (word : Text) → s.disable_help_subcommand ≡ false → turn_fault s names w word ≡ []
    → IsNoHelp w.stopped → IsNoHelp (walked s.rules names w word).stopped
unfolding walked
turn_stop s names w word enabled e good = go w.stopped good
    (λ unmet. word_stop s names w.is_trailing word w enabled unmet (turn_parts s names w word unmet e).0) refl
  where
    go : (o : Stop) → IsNoHelp o
        → (w.stopped ≡ None → IsNoHelp (walked_from s.rules names None w word).stopped) → w.stopped ≡ o
        → IsNoHelp (walked_from s.rules names o w word).stopped
    go None good here is = here is
    go (Some p) good here is = good

pub walk_stop : (s : Shape) (names : Names) (w : Walk) (words : List Text) → s.disable_help_subcommand ≡ false → walk_fault s names w words ≡ []
    → IsNoHelp w.stopped → IsNoHelp (fold (walked s.rules names) w words).stopped
unfolding walk_fault
walk_stop s names w [] enabled e good = good
walk_stop s names w (word ∷ rest) enabled e good =
    let p = neither (turn_fault s names w word) _ e in
    walk_stop s names (walked s.rules names w word) rest enabled p.1 (turn_stop s names w word enabled p.0 good)
