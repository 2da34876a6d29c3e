-- How a desk keeps its rows: a map by number, and a map from a client's identifier to the number of its row. No public clause cites this module.
use Rattle.std.specs.Prelude.{◌≡◌, ℕ, ◌<◌, ◌≤◌, Bool, true, List, Option, Some, refl}
use Rattle.std.specs.Coded.{Coded, code_by, coded×, coded_ℕ, coded_bool, coded_list, coded_option}
use Rattle.std.specs.Map.{lookup}
use Rattle.std.specs.Cmp.Lexicographic.{pointwise}
use Rattle.std.specs.Prelude.{nat_eq}
use Rattle.std.specs.FinMap as map
use Rattle.session_desk.specs.declared.session.Session.{Session}
use Rattle.session_desk.specs.declared.row.Row.{Row}
use Rattle.session_desk.specs.Rows.{Rows, HasRow, LivesAs, is_living, session_in, IsKept, IsOverdue, Register, most_rows}
use Rattle.session_desk.specs.Books.{Books}

-- the number that a client's identifier leads to
abbrev pub number_at : List (List ℕ × ℕ) → List ℕ → Option ℕ
number_at living client = lookup (pointwise nat_eq client) living

-- what holds of the rows, of the numbers by identifier, of how many sessions were new, and of the moment before which nothing is due
pub record AreKept {E P : Type 0} (rows : Rows E P) (at : List ℕ → Option ℕ) (made soonest : ℕ) : Type 0 where
  pub found : (client : List ℕ) (number : ℕ) → at client ≡ Some number → (row : Row E P) × HasRow rows number row × LivesAs client row
  pub listed : (number : ℕ) (row : Row E P) → HasRow rows number row → is_living row.held_by ≡ true → at row.client ≡ Some number
  pub own : (number : ℕ) (row : Row E P) (session : Session E P) → HasRow rows number row → session_in row.held_by ≡ Some session → session.identity ≡ record { number = number; client = row.client }
  pub made_before : (number : ℕ) (row : Row E P) → HasRow rows number row → number < made
  pub kept_due : (number : ℕ) (row : Row E P) → HasRow rows number row → IsKept row → soonest ≡ 0
  pub due : (number now : ℕ) (row : Row E P) → HasRow rows number row → IsOverdue now row → soonest ≤ now

abbrev pub register_code : {E P : Type 0} → Coded (Row E P) → Coded (Register E P)
register_code {E} {P} code =
    code_by (Rows E P × ℕ) (coded× (map.code coded_ℕ code) coded_ℕ) (λ r. (r.rows, r.made)) (λ p. record { rows = p.0; made = p.1 }) (λ _. refl)

-- the rows of these entries
abbrev pub seen : {E P : Type 0} → List (ℕ × Row E P) → Rows E P
seen entries = map.from_entries entries

-- no more rows than there may be, and no more names than there are
pub record AreFew {E P : Type 0} (rows : Rows E P) (assigned : ℕ) : Type 0 where
  pub few : map.len rows ≤ most_rows
  pub names : assigned < 100000000

abbrev pub books_code : {E P : Type 0} → Coded P → Coded (Row E P) → Coded (Books E P)
books_code {E} {P} place row =
    code_by (Rows E P × (ℕ × (ℕ × (List (Option ℕ) × (List Bool × List (Option P))))))
    (coded× (map.code coded_ℕ row) (coded× coded_ℕ (coded× coded_ℕ (coded× (coded_list (coded_option coded_ℕ)) (coded× (coded_list coded_bool) (coded_list (coded_option place)))))))
    (λ b. (b.rows, (b.made, (b.assigned, (b.waits, (b.kicked, b.free))))))
    (λ p. record { rows = p.0; made = p.1.0; assigned = p.1.1.0; waits = p.1.1.1.0; kicked = p.1.1.1.1.0; free = p.1.1.1.1.1 }) (λ _. refl)
