-- A session that was not handed in since it was lent is with one connection.
use Rattle.std.proofs.Common.{◌≡◌, ℕ, ◌<◌, List, [], ◌∷◌, ◌++◌, Bool, Result, Ok, Err, refl, sym, ap, ◌∙◌, subst, arith, nat_eq}
use Rattle.std.specs.Prelude.{if◌then◌else◌}
use Rattle.std.proofs.lemmas.Bool.{eq-eqb}
use Rattle.group_jobs.specs.Stamps.{Held}
use Rattle.session_desk.specs.declared.attached.Attached.{Attached}
use Rattle.session_desk.specs.declared.attached.Attached.TheVariants.{New, Resumed, Replace, Busy}
use Rattle.session_desk.specs.declared.error.DeskError.{DeskError}
use Rattle.session_desk.specs.Books.{Books, new_books}
use Rattle.session_desk.specs.Calls.{Call, Attach, Withdraw, Kicked, Park, ParkAsIs, Keep, Bury, Sweep, LendPlace, TakePlace, MakesAll}
use Rattle.session_desk.specs.Hands.{handed_in, handed_out, attached_out, total}
use Rattle.shared_desk.specs.Holders.{IsLoanOf, Lends, IsHolder}
use Rattle.shared_desk.proofs.Parts.{between, total_on}

abbrev head_or : {A : Type 0} → A → List A → A
head_or a [] = a
head_or a (x ∷ xs) = x

abbrev rest_of : {A : Type 0} → List A → List A
rest_of [] = []
rest_of (x ∷ xs) = xs

-- where one element stands in a list, and where another does: at one place, or one after the other
data Order {A : Type 0} (before : List A) (x : A) (after first : List A) (y : A) (last : List A) : Type 0 where
  same : x ≡ y → Order before x after first y last
  later : (within : List A) → after ≡ within ++ y ∷ last → Order before x after first y last
  sooner : (within : List A) → last ≡ within ++ x ∷ after → Order before x after first y last

order : {A : Type 0} (before : List A) (x : A) (after first : List A) (y : A) (last : List A) → before ++ x ∷ after ≡ first ++ y ∷ last → Order before x after first y last
order [] x after [] y last is = same (ap (head_or x) is)
order [] x after (z ∷ first) y last is = later first (ap rest_of is)
order (z ∷ before) x after [] y last is = sooner before (sym (ap rest_of is))
order (z ∷ before) x after (w ∷ first) y last is = onward (order before x after first y last (ap rest_of is))
  where
    onward : Order before x after first y last → Order (z ∷ before) x after (w ∷ first) y last
    onward (same e) = same e
    onward (later within e) = later within e
    onward (sooner within e) = sooner within e

module _ {P : Type 0} (cell : P → ℕ) where
  one_if : (n m : ℕ) → n ≡ m → 0 < (if nat_eq n m then 1 else 0)
  one_if n m is = subst (λ (b : Bool). 0 < (if b then 1 else 0)) (sym (eq-eqb n m is)) (omega arith)

  lent_out : (number : ℕ) (answer : Result (Attached Held P) DeskError) → IsLoanOf number answer → 0 < attached_out number answer
  lent_out number (Ok (New session ended)) is = (let one = one_if session.identity.number number is in omega arith)
  lent_out number (Ok (Resumed session)) is = one_if session.identity.number number is
  lent_out number (Ok (Replace holder)) is = absurd is
  lent_out number (Ok Busy) is = absurd is
  lent_out number (Err error) is = absurd is

  loan_out : (number connection : ℕ) (call : Call Held P) → Lends number connection call → (handed_in number call ≡ 0) × (0 < handed_out number call)
  loan_out number connection (Attach newcomers request answer) is = (refl, lent_out number answer is.1)
  loan_out number connection (Withdraw other) is = absurd is
  loan_out number connection (Kicked other answer) is = absurd is
  loan_out number connection (Park session now answer) is = absurd is
  loan_out number connection (ParkAsIs session answer) is = absurd is
  loan_out number connection (Keep session answer) is = absurd is
  loan_out number connection (Bury session answer) is = absurd is
  loan_out number connection (Sweep now answer) is = absurd is
  loan_out number connection (LendPlace slot answer) is = absurd is
  loan_out number connection (TakePlace place answer) is = absurd is

  one_loan : (number a b : ℕ) (call other : Call Held P) → call ≡ other → Lends number a call → Lends number b other → a ≡ b
  one_loan number a b call other is mine theirs = both call mine (subst (Lends number b) (sym is) theirs)
    where
      both : (call : Call Held P) → Lends number a call → Lends number b call → a ≡ b
      both (Attach newcomers request answer) mine theirs = sym mine.0 ∙ theirs.0
      both (Withdraw other) mine theirs = absurd mine
      both (Kicked other answer) mine theirs = absurd mine
      both (Park session now answer) mine theirs = absurd mine
      both (ParkAsIs session answer) mine theirs = absurd mine
      both (Keep session answer) mine theirs = absurd mine
      both (Bury session answer) mine theirs = absurd mine
      both (Sweep now answer) mine theirs = absurd mine
      both (LendPlace slot answer) mine theirs = absurd mine
      both (TakePlace place answer) mine theirs = absurd mine

  -- where one loan stands behind another, the session was handed in since that one
  handed_back : (calls before since within last : List (Call Held P)) (one other : Call Held P) (number a b : ℕ) (books : Books Held P) → MakesAll cell new_books calls books
      → calls ≡ before ++ one ∷ since → since ≡ within ++ other ∷ last → Lends number a one → Lends number b other → total (handed_in number) since ≡ 0 → ⊥
  handed_back calls before since within last one other number a b books made is stands mine theirs none =
      let out = loan_out number a one mine in
      let again = loan_out number b other theirs in
      let all = subst (λ l. MakesAll cell new_books l books) (is ∙ ap (λ l. before ++ one ∷ l) stands) made in
      let back = between cell before within last one other books number all out.0 out.1 again.1 in
      let ins = total_on cell (handed_in number) within (other ∷ []) in
      let whole = total_on cell (handed_in number) within (other ∷ last) in
      let zero = ap (total (handed_in number)) (sym stands) ∙ none in
      absurd (omega arith)

  pub one_holder : (calls : List (Call Held P)) (number a b : ℕ) (books : Books Held P) → MakesAll cell new_books calls books → IsHolder calls number a → IsHolder calls number b → a ≡ b
  one_holder calls number a b books made mine theirs = by (order mine.before mine.loan mine.since theirs.before theirs.loan theirs.since (sym mine.is ∙ theirs.is))
    where
      by : Order mine.before mine.loan mine.since theirs.before theirs.loan theirs.since → a ≡ b
      by (same is) = one_loan number a b mine.loan theirs.loan is mine.lends theirs.lends
      by (later within is) = absurd (handed_back calls mine.before mine.since within theirs.since mine.loan theirs.loan number a b books made mine.is is mine.lends theirs.lends mine.kept)
      by (sooner within is) = absurd (handed_back calls theirs.before theirs.since within mine.since theirs.loan mine.loan number b a books made theirs.is is theirs.lends mine.lends theirs.kept)
