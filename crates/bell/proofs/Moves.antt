-- What each call owes the table: its step is one more of the history, and tells what the word was.
use Rattle.std.proofs.Common.{◌≡◌, ℕ, zero, suc, ◌+◌, ◌%◌, ◌^◌, ◌<◌, Bool, true, false, List, [], ◌∷◌, ◌++◌, get_or, set, refl, sym, ap, ◌∙◌, subst, arith}
use Rattle.std.specs.Prelude.{All, ◌==◌, bit_and, bit_or}
use Rattle.std.specs.Int.{bit_at, w64}
use Rattle.std.proofs.lemmas.Bool.{eqb-true, eqb-false}
use Rattle.std.proofs.lemmas.List.Elements.{All-push, All-set, All-weaker}
use Rattle.std.proofs.lemmas.Nat.Bits.{bit_at_set_same, bit_at_set_other, bit_at-zero}
use mathlib.Core.Option.{some, some-injective, some-ne-none}
use lib.ListN.{get_elem?}
use Rattle.atomic_table.specs.Table.{Me, keeps, Allows, Splits, opening}
use Rattle.bell.specs.declared.step.BellStep.{BellStep}
use Rattle.bell.specs.declared.step.BellStep.TheVariants.{Listened, Settled, Rang, Called}
use Rattle.bell.specs.declared.step.BellView.{BellView}
use Rattle.bell.specs.History.{GoesOn}
use Rattle.bell.specs.Handles.{turn}
use Rattle.bell.specs.Rule.{Shows, HasPast, Tells, TellsOfOne, bit_of, all_but}
use Rattle.bell.proofs.Words.{bit_below, shows_settled, shows_listened, shows_called, shows_rang}

abbrev Known : Type 0
Known = Me (Unit {0}) BellView

-- what all elements are, the one at this place is
pub at_place : {A : Type 0} (P : A → Type 0) (xs : List A) (place : ℕ) (x : A) → get_elem? xs place ≡ some x → All P xs → P x
at_place P [] place x at all = absurd (some-ne-none x (sym at))
at_place P (y ∷ xs) zero x at all = subst P (some-injective y x at) (all 0 x (omega arith))
at_place P (y ∷ xs) (suc place) x at all = at_place P xs place x at (λ k d lt. all (suc k) d (omega arith))

-- where the history with this step shows what the machine makes of the word, the step may be made
pub steps : (slots place : ℕ) (me : Known) (f : ℕ → ℕ) (step : BellStep) (told : ℕ → Known → Type 0)
    → ((word : ℕ) (history : List BellStep) → word < 2 ^ 64 → Shows word history → Shows (f word) (step ∷ history))
    → ((found : ℕ) (now : Known) → Tells step me found now → told found now)
    → Allows HasPast slots place me 0 f told
steps slots place me f step told shows_next tells s past _ at fits =
    let history = past.0 in
    let word : ℕ = get_or s.words 0 0 in
    let found : past.1 ≡ word = sym (ap (λ (words : List ℕ). get_or words 0 0) past.2) in
    let shows : Shows word history = subst (λ (n : ℕ). Shows n history) found past.3 in
    let mine : GoesOn me.0.history history = at_place (λ v. GoesOn v.history history) s.views place me.0 at past.4 in
    let w : BellView = record { history = step ∷ (mine.0 ++ me.0.history) } in
    let later : (v : BellView) → GoesOn v.history history → GoesOn v.history (step ∷ history) = λ v goes. (step ∷ goes.0, ap (λ (h : List BellStep). step ∷ h) goes.1) in (
      w,
      keeps,
      tt,
      (
        step ∷ history,
        f word,
        ap (λ (words : List ℕ). set words 0 (f word)) past.2,
        shows_next word history fits shows,
        All-set (λ v. GoesOn v.history (step ∷ history)) s.views place w ([], ap (λ (h : List BellStep). step ∷ h) mine.1) (All-weaker (λ v. GoesOn v.history history) (λ v. GoesOn v.history (step ∷ history)) later s.views past.4),
      ),
      tells word (w, me.1) (mine.0, subst (Shows word) mine.1 shows, refl),
    )

one_is_none : (a b n m : ℕ) → n ≡ 1 → m ≡ 0 → n ≡ m → a ≡ b
one_is_none a b n m one none same = omega arith

-- two workers with the same bit are one
one_worker : (a b : ℕ) → a < 32 → b < 32 → bit_of a ≡ bit_of b → a ≡ b
one_worker a b few fewer same = by (a == b) refl
  where
    by : (is : Bool) → (a == b) ≡ is → a ≡ b
    by true is = eqb-true a b is
    by false is =
        let set : bit_at (bit_or 0 (bit_of a)) a ≡ 1 = bit_at_set_same w64 0 a (omega arith) in
        let other : bit_at (bit_or 0 (bit_of b)) a ≡ bit_at 0 a = bit_at_set_other w64 0 b (omega arith) a (eqb-false a b is) in
        one_is_none a b _ _ set (other ∙ bit_at-zero a) (ap (λ (bit : ℕ). bit_at (bit_or 0 bit) a) same)

one_of_all_but : (a b : ℕ) → a < 32 → b < 32 → all_but a ≡ all_but b → a ≡ b
one_of_all_but a b few fewer same =
    let low = bit_below a few in
    let low' = bit_below b fewer in
    one_worker a b few fewer (omega arith)

-- the step that is told of is that of the worker whose operand it was
pub of_one : (step : ℕ → BellStep) (operand : ℕ → ℕ) → ((a b : ℕ) → a < 32 → b < 32 → operand a ≡ operand b → a ≡ b)
    → (given : ℕ) (worker found : ℕ) (me now : Known) → worker < 32 → given ≡ operand worker
    → TellsOfOne step operand given me found now → Tells (step worker) me found now
of_one step operand one given worker found me now few is told =
    subst (λ (n : ℕ). Tells (step n) me found now) (one told.0 worker told.1 few (sym told.2 ∙ is)) told.3

pub of_set : (step : ℕ → BellStep) (given : ℕ) (worker found : ℕ) (me now : Known) → worker < 32 → given ≡ bit_of worker
    → TellsOfOne step bit_of given me found now → Tells (step worker) me found now
of_set step = of_one step bit_of one_worker

pub of_cleared : (step : ℕ → BellStep) (given : ℕ) (worker found : ℕ) (me now : Known) → worker < 32 → given ≡ all_but worker
    → TellsOfOne step all_but given me found now → Tells (step worker) me found now
of_cleared step = of_one step all_but one_of_all_but

pub settles : (slots place : ℕ) (me : Known) (given : ℕ) (worker : ℕ) → worker < 32 → given ≡ bit_of worker
    → Allows HasPast slots place me 0 (λ n. bit_or n (bit_of worker)) (TellsOfOne Settled bit_of given me)
settles slots place me given worker few is =
    steps slots place me _ (Settled worker) (TellsOfOne Settled bit_of given me) (λ word history fits shows. shows_settled word history fits shows worker few) (λ found now tells. (worker, few, is, tells))

pub listens : (slots place : ℕ) (me : Known) (given : ℕ) (worker : ℕ) → worker < 32 → given ≡ all_but worker
    → Allows HasPast slots place me 0 (λ n. bit_and n (all_but worker)) (TellsOfOne Listened all_but given me)
listens slots place me given worker few is =
    steps slots place me _ (Listened worker) (TellsOfOne Listened all_but given me) (λ word history fits shows. shows_listened word history fits shows worker few) (λ found now tells. (worker, few, is, tells))

pub calls : (slots place : ℕ) (me : Known) (given : ℕ) (worker : ℕ) → worker < 32 → given ≡ all_but worker
    → Allows HasPast slots place me 0 (λ n. bit_and n (all_but worker)) (TellsOfOne Called all_but given me)
calls slots place me given worker few is =
    steps slots place me _ (Called worker) (TellsOfOne Called all_but given me) (λ word history fits shows. shows_called word history fits shows worker few) (λ found now tells. (worker, few, is, tells))

pub rings_once : (slots place : ℕ) (me : Known) → Allows HasPast slots place me 0 (λ n. (n + turn) % 2 ^ 64) (Tells Rang me)
rings_once slots place me =
    steps slots place me _ Rang (Tells Rang me) (λ word history fits shows. shows_rang word history fits shows) (λ found now tells. tells)

-- one more who knows the same
pub tells_on : (place : ℕ) (v : BellView) → Splits HasPast place v v v
tells_on place v s past at =
    let history = past.0 in
    let mine : GoesOn v.history history = at_place (λ u. GoesOn u.history history) s.views place v at past.4 in (
      history,
      past.1,
      past.2,
      past.3,
      All-push (λ u. GoesOn u.history history) _ v (All-set (λ u. GoesOn u.history history) s.views place v mine past.4) mine,
    )

-- who knows nothing yet
abbrev newcomer : BellView
newcomer = record { history = [] }

pub starts : HasPast (opening (0 ∷ []) [] newcomer)
starts = ([], 0, refl, record { rung = refl; idle = (λ worker few. bit_at-zero worker) }, λ k d lt. nobody k d lt)
  where
    nobody : (k : ℕ) (d : BellView) → k < 1 → GoesOn (get_or (newcomer ∷ []) k d).history []
    nobody zero d lt = ([], refl)
    nobody (suc k) d lt = absurd (omega arith)
