-- What waits is sent again, one message after the other.
use Rattle.std.proofs.Common.{◌≡◌, ℕ, List, ◌∷◌, Some, subst}
use Rattle.group_jobs.specs.Stamps.{Held}
use Rattle.member_window.specs.Contents.{Contents, IsNextResend, after_resend}
use Rattle.conn_supply.specs.HandOuts.{SendsSomeAgain}

-- one more before those
pub one_more_again : (old mid new : Contents Held) (entry : ℕ × Held) (again : List (ℕ × Held)) → IsNextResend old (Some entry) → mid ≡ after_resend old (Some entry)
    → SendsSomeAgain mid again new → (all : List (ℕ × Held)) × SendsSomeAgain old all new
one_more_again old mid new entry again next is rest = (entry ∷ again, (next, subst (λ (window : Contents Held). SendsSomeAgain window again new) is rest))
