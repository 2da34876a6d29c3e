-- What each call owes the table: whatever the past is, its step is one of a schedule that goes on from there, and tells what it was.
use Rattle.std.proofs.Common.{◌≡◌, ℕ, ◌+◌, ◌-◌, ◌%◌, ◌^◌, ◌<◌, ◌≤◌, Bool, true, false, List, [], ◌++◌, get_or, set, sym, refl, ap, ◌∙◌, subst, ⊎_elim, arith}
use Rattle.std.specs.Prelude.{bit_or, if◌then◌else◌, ◌==◌}
use Rattle.std.specs.Int.Bits.{or_add_and, bit_and}
use Rattle.std.proofs.lemmas.Bool.{eqb-true, eqb-false}
use Rattle.std.proofs.lemmas.List.{append-nil}
use Rattle.std.proofs.lemmas.Nat.{and_mask}
use mathlib.Core.Option.{some}
use lib.ListN.{get_elem?}
use Rattle.atomic_table.specs.Table.{State, Me, keeps, Allows, Splits, Joins}
use Rattle.atomic_table.proofs.Lists.{at_set}
use Rattle.gate_word.specs.declared.step.GateView.{GateView}
use Rattle.gate_word.specs.Steps.{shut_bit, is_shut, seat_state, knows_shut, saw_drained}
use Rattle.gate_word.specs.Steps.SeatState.{Outside, Inside, Bouncing}
use Rattle.gate_word.specs.Seats.{adds, cut_seat, rest_after_cut, token}
use Rattle.gate_word.specs.GateLaw.{GateLaw, IsNotInside, KnowsShut, KnowsDrained}
use Rattle.gate_word.specs.Kinds.{Kind, May, word_after, view_after, new_views}
use Rattle.gate_word.specs.Kinds.Kind.{Cut, Enter, Bounce, TakeOff, Leave, SetBit, LookDrained, Look, Witness}
use Rattle.gate_word.specs.Schedules.{Reaches, Moment}
use Rattle.gate_word.specs.Schedules.Reaches.{made}
use Rattle.gate_word.specs.Rule.{HasPast, entry, look, Tells, clash}
use Rattle.gate_word.proofs.Places.{all_at}
use Rattle.gate_word.proofs.Numbers.{small}
use Rattle.gate_word.proofs.Keeps.{has_two}
use Rattle.gate_word.proofs.EachKind.{schedule_keeps}

abbrev Known : Type 0
Known = Me (Unit {0}) GateView

abbrev At : Type 0
At = State (Unit {0}) GateView

-- what the machine makes of the word is what a step of this kind makes of it, and the seat may make that step
abbrev IsStep : ℕ → GateView → (ℕ → ℕ) → (ℕ → Kind) → Type 0
IsStep place v f kind = (seats word : ℕ) (views : List GateView) → GateLaw seats word views → get_elem? views place ≡ some v
    → May (kind word) word v × (f word ≡ word_after (kind word) word) × (new_views (kind word) v ≡ [])

steps : (seats slots place : ℕ) (me : Known) (f : ℕ → ℕ) (kind : ℕ → Kind) → IsStep place me.0 f kind → Allows (HasPast seats) slots place me 0 f (Tells kind me)
steps seats slots place me f kind is_step s past _ at _ =
    let word : ℕ = get_or s.words 0 0 in
    let found : past.0 ≡ word = sym (ap (λ (words : List ℕ). get_or words 0 0) past.1) in
    let reached : Reaches seats word s.views = subst (λ (n : ℕ). Reaches seats n s.views) found past.2 in
    let law = schedule_keeps seats word s.views reached in
    let is = is_step seats word s.views law at in
    let total : me.0.seats ≡ seats = all_at (λ v. v.seats ≡ seats) s.views place me.0 at law.total in
    let own : Reaches me.0.seats word s.views = subst (λ (n : ℕ). Reaches n word s.views) (sym total) reached in
    let w = view_after (kind word) word me.0 in
    let alone : set s.views place w ++ new_views (kind word) me.0 ≡ set s.views place w =
    ap (λ (new : List GateView). set s.views place w ++ new) is.2 ∙ append-nil (set s.views place w) in
    let goes_on : Reaches seats (f word) (set s.views place w) =
    subst (λ (n : ℕ). Reaches seats n (set s.views place w)) (sym is.1) (subst (Reaches seats (word_after (kind word) word)) alone (made (kind word) place me.0 reached at is.0)) in (
      w,
      keeps,
      tt,
      (f word, ap (λ (words : List ℕ). set words 0 (f word)) past.1, goes_on),
      ((s.views, place, own, at), is.0, refl),
    )

pub enters : (seats slots place : ℕ) (me : Known) → me.0.count ≡ 1 → seat_state me.0.steps ≡ Outside
    → Allows (HasPast seats) slots place me 0 (λ n. (n + 2) % 2 ^ 64) (Tells entry me)
enters seats slots place me one outside = steps seats slots place me (λ n. (n + 2) % 2 ^ 64) entry (λ seats word views law at.
    let room = small seats word views law in
    let whole : (word + 2) % 18446744073709551616 ≡ word + 2 = omega arith in
    goes word whole (is_shut word) refl)
  where
    goes : (word : ℕ) → (word + 2) % 2 ^ 64 ≡ word + 2 → (b : Bool) → is_shut word ≡ b
        → May (if b then Bounce else Enter) word me.0 × ((word + 2) % 2 ^ 64 ≡ word_after (if b then Bounce else Enter) word) × (new_views (if b then Bounce else Enter) me.0 ≡ [])
    goes word whole true is = ((outside, one, is), whole, refl)
    goes word whole false is = ((outside, one, is), whole, refl)

-- the word less 2, as the machine takes it off
less_two : (word : ℕ) → 2 ≤ word → word < 162 → (word + 18446744073709551614) % 18446744073709551616 ≡ word - 2
less_two word two most = omega arith

pub takes_off : (seats slots place : ℕ) (me : Known) → seat_state me.0.steps ≡ Bouncing → Allows (HasPast seats) slots place me 0 (λ n. (n + (2 ^ 64 - 2)) % 2 ^ 64) (Tells (λ _. TakeOff) me)
takes_off seats slots place me bouncing = steps seats slots place me (λ n. (n + (2 ^ 64 - 2)) % 2 ^ 64) (λ _. TakeOff)
    (λ seats word views law at. (bouncing, less_two word (has_two seats word views place me.0 law at (ap adds bouncing)) (small seats word views law), refl))

pub leaves : (seats slots place : ℕ) (me : Known) → seat_state me.0.steps ≡ Inside → Allows (HasPast seats) slots place me 0 (λ n. (n + (2 ^ 64 - 2)) % 2 ^ 64) (Tells (λ _. Leave) me)
leaves seats slots place me inside = steps seats slots place me (λ n. (n + (2 ^ 64 - 2)) % 2 ^ 64) (λ _. Leave)
    (λ seats word views law at. (inside, less_two word (has_two seats word views place me.0 law at (ap adds inside)) (small seats word views law), refl))

-- setting bit 0
or_one : (word : ℕ) → bit_or word 1 ≡ word + (1 - shut_bit word)
or_one word =
    let sum = or_add_and word 1 in
    let low : bit_and word 1 ≡ word % 2 = and_mask word 1 in
    let bit : word % 2 < 2 = omega arith in
    omega arith

pub shuts : (seats slots place : ℕ) (me : Known) → me.0.count ≡ 1 → Allows (HasPast seats) slots place me 0 (λ n. bit_or n 1) (Tells (λ _. SetBit) me)
shuts seats slots place me one = steps seats slots place me (λ n. bit_or n 1) (λ _. SetBit) (λ seats word views law at. (one, or_one word, refl))

pub looks : (seats slots place : ℕ) (me : Known) → me.0.count ≡ 1 → Allows (HasPast seats) slots place me 0 (λ n. n) (Tells look me)
looks seats slots place me one = steps seats slots place me (λ n. n) look (λ seats word views law at. goes word (word == 1) refl)
  where
    goes : (word : ℕ) (b : Bool) → (word == 1) ≡ b
        → May (if b then LookDrained else Look) word me.0 × (word ≡ word_after (if b then LookDrained else Look) word) × (new_views (if b then LookDrained else Look) me.0 ≡ [])
    goes word true is = ((eqb-true word 1 is, one), refl, refl)
    goes word false is = ((eqb-false word 1 is, one), refl, refl)

pub cuts : (seats place : ℕ) (v : GateView) → 2 ≤ v.count → seat_state v.steps ≡ Outside → Splits (HasPast seats) place v (rest_after_cut v) (cut_seat v)
cuts seats place v two outside s past at = (past.0, past.1, made Cut place v past.2 at (outside, two))

pub witnesses : (seats place : ℕ) (v : GateView) → saw_drained v.steps ≡ true → Splits (HasPast seats) place v v (token v.seats)
witnesses seats place v saw s past at = (past.0, past.1, made Witness place v past.2 at saw)

-- who saw the gate drained, and who is inside, are never both there
excluded : (seats word : ℕ) (views : List GateView) (one other : ℕ) (inside drained : GateView) → GateLaw seats word views
    → get_elem? views one ≡ some inside → seat_state inside.steps ≡ Inside → get_elem? views other ≡ some drained → saw_drained drained.steps ≡ true → ⊥
excluded seats word views one other inside drained law at is there saw =
    all_at IsNotInside views one inside at (all_at (KnowsDrained word views) views other drained there law.drained saw).1 is

pub clashes : (seats place other : ℕ) (v w : GateView) → seat_state v.steps ≡ Inside → saw_drained w.steps ≡ true
    → Joins (HasPast seats) place v other w (clash v w) (token 0)
clashes seats place other v w inside saw s past at apart there =
    let before : get_elem? s.views other ≡ some w = ⊎_elim (λ (t : (other ≡ place) × (clash v w ≡ w)). absurd (apart t.0)) (λ t. t.1) (at_set s.views place other (clash v w) w there) in
    absurd (excluded seats past.0 s.views place other v w (schedule_keeps seats past.0 s.views past.2) at inside before saw)

pub never : (seats slots place : ℕ) (me : Known) (v w : GateView) (f : ℕ → ℕ) (told : ℕ → Known → Type 0) → seat_state v.steps ≡ Inside → me.0 ≡ clash v w
    → Allows (HasPast seats) slots place me 0 f told
never seats slots place me v w f told inside is s past _ at _ =
    let here : get_elem? s.views place ≡ some (clash v w) = at ∙ ap some is in
    absurd (excluded seats past.0 s.views place place (clash v w) (clash v w) (schedule_keeps seats past.0 s.views past.2) here inside here refl)

-- a seat that knows that the gate is shut finds it shut
pub finds_shut : (found : ℕ) (v : GateView) → Moment found v → knows_shut v.steps ≡ true → is_shut found ≡ true
finds_shut found v moment = all_at (KnowsShut found) moment.0 moment.1 v moment.3 (schedule_keeps v.seats found moment.0 moment.2).shut
