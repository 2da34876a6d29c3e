-- How a window keeps its contents. No public clause cites this module.
use Rattle.std.specs.Prelude.{ℕ, ◌≤◌, Bool, List, length, take, drop, Option, refl}
use Rattle.std.specs.Coded.{Coded, code_by, coded×, coded_ℕ, coded_bool, coded_list, coded_option}
use Rattle.member_window.specs.Contents.{Contents, IsSound}

-- the first of the entries, as many as are owed, were sent on this connection
abbrev pub contents_of : {T : Type 0} → List (ℕ × T) → ℕ → Option ℕ → Bool → Contents T
contents_of entries owed quota retired =
    record { owed = take owed entries; waiting = drop owed entries; quota = quota; retired = retired }

-- no more is owed than is held, and what holds of every window
pub record IsKept {T : Type 0} (entries : List (ℕ × T)) (owed : ℕ) (quota : Option ℕ) (retired : Bool) : Type 0 where
  pub within : owed ≤ length entries
  pub sound : IsSound (contents_of entries owed quota retired)

-- a window is stored as the tuple of its fields
abbrev pub contents_code : {T : Type 0} → Coded T → Coded (Contents T)
contents_code {T} code =
    let entries = coded_list (coded× coded_ℕ code) in
    code_by (List (ℕ × T) × (List (ℕ × T) × (Option ℕ × Bool))) (coded× entries (coded× entries (coded× (coded_option coded_ℕ) coded_bool)))
    (λ w. (w.owed, (w.waiting, (w.quota, w.retired)))) (λ p. record { owed = p.0; waiting = p.1.0; quota = p.1.1.0; retired = p.1.1.1 }) (λ _. refl)
