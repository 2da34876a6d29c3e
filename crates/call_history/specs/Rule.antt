-- The rule of the table: there is one history, of which all passes know beginnings; at most one pass knows it whole, and adds to it; and each call in it is one caller's own.
use Rattle.std.specs.Prelude.{◌≡◌, ◌≤◌, ℕ, ◌+◌, ◌-◌, nat_lt, Bool, List, [], ◌++◌, length, sum_by, true, false}
use mathlib.Core.List.{IsPrefix}
use mathlib.Core.Option.{some}
use lib.ListN.{get_elem?}
use Rattle.atomic_table.specs.Table.{State, Me}
use Rattle.atomic_table.specs.Seated.{TableId}
use Rattle.call_history.specs.declared.word.HistoryView.{HistoryView}
use Rattle.call_history.specs.Numbers.{numbers, times, once_below, IsEachOnce}
use Rattle.call_history.specs.Callers.{CallerState, all_parts}

-- the pass is of this table, which has a word
abbrev pub IsPassOf : TableId → TableId → Type 0
IsPassOf word pass = (word.words ≡ 1) × (pass ≡ word)

module _ {E : Type 0} where
  -- who keeps the history, and who calls
  abbrev pub keeper : List E → HistoryView E
  keeper calls = record { keeps = true; calls = calls; other = []; own = []; parts = 0 }

  abbrev pub caller : CallerState E → HistoryView E
  caller c = record { keeps = false; calls = c.calls; other = []; own = c.own; parts = c.parts }

  -- who opened the history keeps it, and has all parts
  abbrev pub first : HistoryView E
  first = record (keeper []) { parts = all_parts }

  -- what a caller is seen as that has what this pass has
  abbrev pub caller_of : HistoryView E → CallerState E
  caller_of v = record { calls = v.calls; own = v.own; parts = v.parts }

  -- a pass that has nothing to show any more, and one that gave away its right to call
  abbrev pub spent : HistoryView E
  spent = record { keeps = false; calls = []; other = []; own = []; parts = 0 }

  abbrev pub without_right : HistoryView E → HistoryView E
  without_right v = record { keeps = v.keeps; calls = v.calls; other = []; own = []; parts = 0 }

  -- it gave one part away
  abbrev pub less_one : HistoryView E → HistoryView E
  less_one v = record v { parts = v.parts - 1 }

  -- a pass with what another has; what that knows is to be compared
  abbrev pub shown : HistoryView E → HistoryView E → HistoryView E
  shown v w = record { keeps = v.keeps; calls = v.calls; other = w.calls; own = v.own ++ w.own; parts = v.parts + w.parts }

  -- two callers as one: the longer of two beginnings is known, and the other is to be compared with it
  abbrev pub met_if : Bool → HistoryView E → HistoryView E → HistoryView E
  met_if true v w = record { keeps = false; calls = w.calls; other = v.calls; own = v.own ++ w.own; parts = v.parts + w.parts }
  met_if false v w = record { keeps = false; calls = v.calls; other = w.calls; own = v.own ++ w.own; parts = v.parts + w.parts }

  abbrev pub met : HistoryView E → HistoryView E → HistoryView E
  met v w = met_if (nat_lt (length v.calls) (length w.calls)) v w

  -- the keeper, which has a caller's right, added these calls for it
  abbrev pub adding : HistoryView E → List E → HistoryView E
  adding v added = record { keeps = true; calls = v.calls ++ added; other = []; own = v.own ++ numbers (length v.calls) added; parts = v.parts }

  -- what the rule says of the pass with this number
  pub record Fits (seat : ℕ) (history : List E) (by : ℕ) (v : HistoryView E) : Type 0 where
    pub keeps : v.keeps ≡ true → (by ≡ seat) × (v.calls ≡ history)
    pub calls : IsPrefix v.calls history
    pub other : IsPrefix v.other history
    -- who has no right to call made no call
    pub no_part : v.parts ≡ 0 → v.own ≡ []

  pub record IsOneHistory (views : List (HistoryView E)) : Type 0 where
    pub seat : ℕ
    pub history : List E
    pub each : (by : ℕ) (v : HistoryView E) → get_elem? views by ≡ some v → Fits seat history by v
    pub parts : sum_by (λ v. v.parts) views ≡ all_parts
    pub once : (number : ℕ) → sum_by (λ v. times number v.own) views ≡ once_below number (length history)

  abbrev pub IsOne : State (Unit {0}) (HistoryView E) → Type 0
  IsOne s = IsOneHistory s.views

  -- the keeper added these, and what it was shown was a beginning of what it had; and who has all parts made each call that there was
  abbrev pub Adds : List E → Me (Unit {0}) (HistoryView E) → Me (Unit {0}) (HistoryView E) → Type 0
  Adds added before after =
      (after ≡ (adding before.0 added, before.1)) × IsPrefix before.0.other before.0.calls × (before.0.parts ≡ all_parts → IsEachOnce before.0.own (length before.0.calls))

  -- of two beginnings the shorter begins the longer
  abbrev pub Compares : Me (Unit {0}) (HistoryView E) → Me (Unit {0}) (HistoryView E) → Type 0
  Compares before after =
      (after ≡ (caller (caller_of before.0), before.1)) × (length before.0.other ≤ length before.0.calls → IsPrefix before.0.other before.0.calls)
