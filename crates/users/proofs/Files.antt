-- The users of the lines, one line after another.
use Rattle.std.proofs.Common.{◌≡◌, ℕ, ◌+◌, List, [], ◌∷◌, Option, Some, None, Ok, Err, true, eqb, eqb-true, length, refl, sym, ap, ◌∙◌, arith}
use Rattle.std.specs.Str.Lines.{strip_carriage_return}
use Rattle.users.specs.Lines.{after_lines, lines_of, users_of, with_line}
use Rattle.users.specs.Table.{UserTable}
use Rattle.users.proofs.Cuts.{no_lines}

-- what a text spells: this table after so many lines, and then the rest
abbrev pub Spells : List ℕ → UserTable → ℕ → List ℕ → Type 0
Spells text table number rest = users_of text ≡ after_lines number (Some table) (lines_of rest)

pub no_user : (text : List ℕ) → Spells text [] 0 text
unfolding users_of
no_user text = refl

next_line : (number : ℕ) (table : UserTable) (rest line others : List ℕ) (found : Option UserTable) → lines_of rest ≡ line ∷ lines_of others → with_line table (strip_carriage_return line) ≡ found
    → after_lines number (Some table) (lines_of rest) ≡ after_lines (number + 1) found (lines_of others)
next_line number table rest line others found cut is =
    ap (after_lines number (Some table)) cut ∙ ap (λ next. after_lines (number + 1) next (lines_of others)) is

pub one_line : (text : List ℕ) (table next : UserTable) (number : ℕ) (rest line others : List ℕ) → Spells text table number rest → lines_of rest ≡ line ∷ lines_of others
    → with_line table (strip_carriage_return line) ≡ Some next → Spells text next (number + 1) others
one_line text table next number rest line others spells cut is = spells ∙ next_line number table rest line others (Some next) cut is

pub bad_line : (text : List ℕ) (table : UserTable) (number : ℕ) (rest line others : List ℕ) → Spells text table number rest → lines_of rest ≡ line ∷ lines_of others
    → with_line table (strip_carriage_return line) ≡ None → users_of text ≡ Err (number + 1)
bad_line text table number rest line others spells cut is = spells ∙ next_line number table rest line others None cut is

pub all_lines : (text : List ℕ) (table : UserTable) (number : ℕ) (rest : List ℕ) → Spells text table number rest → rest ≡ [] → users_of text ≡ Ok table
all_lines text table number rest spells end = spells ∙ ap (λ left. after_lines number (Some table) (lines_of left)) end ∙ ap (after_lines number (Some table)) no_lines

pub nothing_left : (rest : List ℕ) → true ≡ eqb (length rest) 0 → rest ≡ []
nothing_left [] e = refl
nothing_left (byte ∷ bytes) e = absurd (omega (arith, eqb-true (length (byte ∷ bytes)) 0 (sym e)))
