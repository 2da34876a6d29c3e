-- The events of the lines, one line after another.
use Rattle.std.proofs.Common.{◌≡◌, ℕ, ◌+◌, true, false, cond, List, [], ◌∷◌, ◌++◌, refl, sym, ap, ◌∙◌, append_assoc, Some, None, Result, Ok, Err}
use Rattle.local_server.specs.declared.event.TimedEvent.{TimedEvent}
use Rattle.text_io.specs.Lines.{lines_of}
use Rattle.drive.specs.Words.{words_of}
use Rattle.drive.specs.Scripts.{followed_by, timed_event_of, is_passed_over, script_from, script_of}

-- events, and those of the lines after them
abbrev pub ahead : List TimedEvent → Result (List TimedEvent) ℕ → Result (List TimedEvent) ℕ
ahead events (Ok more) = Ok (events ++ more)
ahead events (Err line) = Err line

-- what an input spells: these events, and those of the rest after the line of this number
abbrev pub Spells : List ℕ → List TimedEvent → ℕ → List ℕ → Type 0
Spells input events number rest = script_of input ≡ ahead events (script_from (number + 1) (lines_of rest))

nothing_ahead : (later : Result (List TimedEvent) ℕ) → later ≡ ahead [] later
nothing_ahead (Ok events) = refl
nothing_ahead (Err line) = refl

pub first_line : (input : List ℕ) → Spells input [] 0 input
first_line input = nothing_ahead (script_from 1 (lines_of input))

next_line : (number : ℕ) (rest line others : List ℕ) → lines_of rest ≡ line ∷ lines_of others
    → script_from (number + 1) (lines_of rest)
    ≡ cond (is_passed_over line) (script_from (number + 1 + 1) (lines_of others)) (followed_by (timed_event_of (words_of line)) (number + 1) (script_from (number + 1 + 1) (lines_of others)))
next_line number rest line others cut = ap (script_from (number + 1)) cut

pub passed_over : (input : List ℕ) (events : List TimedEvent) (number : ℕ) (rest line others : List ℕ) → Spells input events number rest → lines_of rest ≡ line ∷ lines_of others
    → is_passed_over line ≡ true → Spells input events (number + 1) others
passed_over input events number rest line others spells cut passed =
    let behind = script_from (number + 1 + 1) (lines_of others) in
    let found = followed_by (timed_event_of (words_of line)) (number + 1) behind in
    spells ∙ ap (ahead events) (next_line number rest line others cut ∙ ap (λ b. cond b behind found) passed)

pub event_ahead : (events : List TimedEvent) (event : TimedEvent) (number : ℕ) (later : Result (List TimedEvent) ℕ) → ahead events (followed_by (Some event) number later) ≡ ahead (events ++ event ∷ []) later
event_ahead events event number (Ok more) = ap Ok (sym (append_assoc events (event ∷ []) more))
event_ahead events event number (Err line) = refl

pub one_event : (input : List ℕ) (events : List TimedEvent) (number : ℕ) (rest line others : List ℕ) (event : TimedEvent) → Spells input events number rest → lines_of rest ≡ line ∷ lines_of others
    → is_passed_over line ≡ false → timed_event_of (words_of line) ≡ Some event → Spells input (events ++ event ∷ []) (number + 1) others
one_event input events number rest line others event spells cut stays is =
    let behind = script_from (number + 1 + 1) (lines_of others) in
    let found = followed_by (timed_event_of (words_of line)) (number + 1) behind in
    spells
    ∙ ap (ahead events) (next_line number rest line others cut ∙ ap (λ b. cond b behind found) stays ∙ ap (λ e. followed_by e (number + 1) behind) is)
    ∙ event_ahead events event (number + 1) behind

pub bad_line : (input : List ℕ) (events : List TimedEvent) (number : ℕ) (rest line others : List ℕ) → Spells input events number rest → lines_of rest ≡ line ∷ lines_of others
    → is_passed_over line ≡ false → timed_event_of (words_of line) ≡ None → script_of input ≡ Err (number + 1)
bad_line input events number rest line others spells cut stays is =
    let behind = script_from (number + 1 + 1) (lines_of others) in
    let found = followed_by (timed_event_of (words_of line)) (number + 1) behind in
    spells ∙ ap (ahead events) (next_line number rest line others cut ∙ ap (λ b. cond b behind found) stays ∙ ap (λ e. followed_by e (number + 1) behind) is)
