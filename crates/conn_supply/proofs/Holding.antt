-- What is out at a place, one message less.
use Rattle.std.proofs.Common.{◌≡◌, ◌≢◌, ℕ, not, cond, List, [], ◌∷◌, map, Some, Contains, refl, sym, ap, ◌∙◌, subst, ⊎_elim, eq-eqb, ne_eqb}
use Rattle.std.proofs.lemmas.Bool.{cases_eq}
use Rattle.group_jobs.specs.Stamps.{Held}
use Rattle.member_window.specs.Identifiers.{identifiers, entries_without, AreDistinct}
use Rattle.member_window.specs.Contents.{Contents, held_of, IsSound, after_take}
use Rattle.member_window.specs.Calls.{Acks}
use Rattle.member_window.proofs.Lists.{contains_cons_cases, contains_nil, contains_identifier, without_absent}
use Rattle.member_window.proofs.Sound.{ack_held}
use Rattle.conn_supply.specs.Holding.{messages, IsOneOf, IsAmong, SpendsOut}

abbrev items : List (ℕ × Held) → List Held
items entries = map (λ entry. entry.1) entries

-- the oldest of these is one of them
oldest : (w : Contents Held) (entry : ℕ × Held) (rest : List (ℕ × Held)) → held_of w ≡ entry ∷ rest → IsOneOf (messages w) entry.1 (items rest)
oldest w entry rest is = record { before = []; behind = items rest; together = ap items is; apart = refl }

-- and the one under an identifier is one of them
under : (k : ℕ) (entries : List (ℕ × Held)) (envelope : Held) → AreDistinct (identifiers entries) → Contains entries (k, envelope) → IsOneOf (items entries) envelope (items (entries_without k entries))
under k [] envelope distinct there = absurd (contains_nil (k, envelope) there)
under k (entry ∷ entries) envelope distinct there =
    ⊎_elim
    (λ (same : entry.0 ≡ k).
    let without : entries_without k (entry ∷ entries) ≡ entries =
    ap (λ b. cond (not b) (entry ∷ entries_without k entries) (entries_without k entries)) (eq-eqb entry.0 k same)
    ∙ without_absent k entries (λ c. distinct.0 (subst (λ x. Contains (identifiers entries) x) (sym same) c)) in
    let here : entry ≡ (k, envelope) =
    ⊎_elim (λ (is : entry ≡ (k, envelope)). is)
    (λ (later : Contains entries (k, envelope)). absurd (distinct.0 (subst (λ x. Contains (identifiers entries) x) (sym same) (contains_identifier entries k envelope later))))
    (contains_cons_cases entry entries (k, envelope) there) in
    record { before = []; behind = items entries; together = ap (λ (e : ℕ × Held). e.1 ∷ items entries) here; apart = ap items without })
    (λ (other : entry.0 ≢ k).
    let later : Contains entries (k, envelope) =
    ⊎_elim (λ (is : entry ≡ (k, envelope)). absurd (other (ap (λ (e : ℕ × Held). e.0) is))) (λ (later : Contains entries (k, envelope)). later)
    (contains_cons_cases entry entries (k, envelope) there) in
    let rest = under k entries envelope distinct.1 later in
    record {
      before = entry.1 ∷ rest.before;
      behind = rest.behind;
      together = ap (λ (xs : List Held). entry.1 ∷ xs) rest.together;
      apart = ap items (ap (λ b. cond (not b) (entry ∷ entries_without k entries) (entries_without k entries)) (ne_eqb entry.0 k other)) ∙ ap (λ (xs : List Held). entry.1 ∷ xs) rest.apart;
    })
    (cases_eq entry.0 k)

acked : (w w' : Contents Held) (k : ℕ) (envelope : Held) → IsSound w → Acks w k (Some envelope) w' → IsOneOf (messages w) envelope (messages w')
acked w w' k envelope sound acks =
    subst (λ (all : List (ℕ × Held)). IsOneOf (messages w) envelope (items all)) (sym (ack_held k w.owed w.waiting) ∙ sym (ap held_of acks.1))
    (under k (held_of w) envelope sound.entries.distinct acks.0)

module _ {P : Type 0} (HasOut : P → List Held → Type 0) where
  -- the oldest may be given back, and then the others are out
  pub oldest_out : (place : P) (w : Contents Held) (entry : ℕ × Held) (rest : List (ℕ × Held)) → held_of w ≡ entry ∷ rest → HasOut place (messages w) → IsAmong HasOut place entry.1
  oldest_out place w entry rest is out = record { all = messages w; others = items rest; one = oldest w entry rest is; out = out }

  pub oldest_spent : (place place' : P) (w w' : Contents Held) (entry : ℕ × Held) (rest : List (ℕ × Held)) → held_of w ≡ entry ∷ rest → w' ≡ after_take w rest
      → SpendsOut HasOut place entry.1 place' → HasOut place (messages w) → HasOut place' (messages w')
  oldest_spent place place' w w' entry rest is after spends out =
      subst (λ (left : Contents Held). HasOut place' (messages left)) (sym after) (spends (messages w) (items rest) (oldest w entry rest is) out)

  -- the one that is acknowledged may be settled, and then the others are out
  pub acked_out : (place : P) (w w' : Contents Held) (k : ℕ) (envelope : Held) → IsSound w → Acks w k (Some envelope) w' → HasOut place (messages w) → IsAmong HasOut place envelope
  acked_out place w w' k envelope sound acks out = record { all = messages w; others = messages w'; one = acked w w' k envelope sound acks; out = out }

  pub acked_spent : (place place' : P) (w w' : Contents Held) (k : ℕ) (envelope : Held) → IsSound w → Acks w k (Some envelope) w'
      → SpendsOut HasOut place envelope place' → HasOut place (messages w) → HasOut place' (messages w')
  acked_spent place place' w w' k envelope sound acks spends out = spends (messages w) (messages w') (acked w w' k envelope sound acks) out
