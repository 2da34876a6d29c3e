-- A list without one of its jobs, and a ledger with one job more.
use Rattle.std.proofs.Common.{◌≡◌, ◌≢◌, ℕ, zero, suc, ◌+◌, ◌<◌, ◌≤◌, List, [], ◌∷◌, ◌++◌, length, drop, get_or, slice_get, Some, Contains, refl, sym, ap, subst, arith, All, length-append}
use Rattle.std.specs.List.{remove}
use Rattle.std.proofs.lemmas.List.Elements.{All-cons, All-head, All-tail}
use Rattle.dispatch_core.specs.declared.event.Job.{Job}
use Rattle.group_jobs.specs.declared.fate.Fate.{Fate}
use Rattle.group_jobs.specs.declared.fate.Fate.TheVariants.{Acknowledged, Refused, Discarded}
use Rattle.group_jobs.specs.declared.ledger.Ledger.{Ledger}
use Rattle.group_jobs.specs.Settled.{spare_of, least_spare, Settles}
use Rattle.group_jobs.specs.Dockets.{TakesOff}

not_at : (x : Job) (xs : List Job) (job : Job) → x ≢ job → ¬ Contains xs job → (k : ℕ) → k < length (x ∷ xs) → get_or (x ∷ xs) k job ≢ job
not_at x xs job other none zero less is = other is
not_at x xs job other none (suc k) less is = none (k, omega arith, is)

pub takes_off : (xs : List Job) (job : Job) (i : ℕ) → slice_get xs i ≡ Some job → ((k : ℕ) → k < i → slice_get xs k ≢ Some job) → TakesOff xs job (remove xs i)
takes_off [] job i at none = cc
takes_off (x ∷ xs) job zero at none = let is : x ≡ job = cc in record { front = []; behind = xs; was = ap (λ y. y ∷ xs) is; is = refl; first = λ h. absurd (omega (arith, h.1)) }
takes_off (x ∷ xs) job (suc i) at none =
    let r = takes_off xs job i at (λ k less. none (suc k) (omega arith)) in
    let other : x ≢ job = λ is. none 0 (omega arith) (ap Some is) in
    record { front = x ∷ r.front; behind = r.behind; was = ap (λ l. x ∷ l) r.was; is = ap (λ l. x ∷ l) r.is; first = λ h. not_at x r.front job other r.first h.0 h.1 h.2 }

pub takes_first : (xs : List Job) (job : Job) → slice_get xs 0 ≡ Some job → TakesOff xs job (drop 1 xs)
takes_first [] job at = cc
takes_first (x ∷ xs) job at = takes_off (x ∷ xs) job 0 at (λ k less. absurd (omega (arith, less)))

-- what holds of all holds of all but one
All-without : (P : Job → Type 0) (front : List Job) (job : Job) (behind : List Job) → All P (front ++ job ∷ behind) → All P (front ++ behind)
All-without P [] job behind all = All-tail P job behind all
All-without P (x ∷ front) job behind all = All-cons P x (front ++ behind) (All-head P x (front ++ job ∷ behind) all) (All-without P front job behind (All-tail P x (front ++ job ∷ behind) all))

module _ (old : List Job) (job : Job) (new : List Job) (taken : TakesOff old job new) where
  pub length-taken : length new + 1 ≡ length old
  length-taken = rw (taken.was, taken.is) (omega (arith, length-append taken.front taken.behind, length-append taken.front (job ∷ taken.behind)))

  pub All-taken : (P : Job → Type 0) → All P old → All P new
  All-taken P all = subst (All P) (sym taken.is) (All-without P taken.front job taken.behind (subst (All P) taken.was all))

-- a run more under one fate takes the room of one run
pub least_spare-settled : (old new : Ledger) (job : Job) (fate : Fate) → Settles old job fate new → spare_of fate old ≤ spare_of fate new + 1 → least_spare old ≤ least_spare new + 1
least_spare-settled old new job Acknowledged s room = omega (arith, room, ap (λ l. l.spare) (s.others Refused (λ e. cc)), ap (λ l. l.spare) (s.others Discarded (λ e. cc)))
least_spare-settled old new job Refused s room = omega (arith, room, ap (λ l. l.spare) (s.others Acknowledged (λ e. cc)), ap (λ l. l.spare) (s.others Discarded (λ e. cc)))
least_spare-settled old new job Discarded s room = omega (arith, room, ap (λ l. l.spare) (s.others Acknowledged (λ e. cc)), ap (λ l. l.spare) (s.others Refused (λ e. cc)))
