-- Dockets: what a place has out, and what it settled.
use Rattle.std.specs.Prelude.{◌≡◌, ℕ, ◌-◌, ◌<◌, ◌≤◌, List, ◌∷◌, ◌++◌, length, min, All, Contains}
use Rattle.dispatch_core.specs.declared.event.Job.{Job}
use Rattle.group_jobs.specs.declared.ledger.Ledger.{Ledger}
use Rattle.group_jobs.specs.Settled.{least_spare}

-- a docket: what is out, in the order in which it was handed out, what was settled, and for how many more hand-outs there
-- is room
pub record Kept : Type 0 where
  pub out : List Job
  pub settled : Ledger
  pub room : ℕ

-- a job is taken off a list, where it first stands, and the others stay in their order
pub record TakesOff (old : List Job) (job : Job) (new : List Job) : Type 0 where
  pub front : List Job
  pub behind : List Job
  pub was : old ≡ front ++ job ∷ behind
  pub is : new ≡ front ++ behind
  pub first : ¬ Contains front job

-- where so many may be out: the room for one more hand-out is room among what is out, and for a run under any fate
abbrev pub docket_of : List Job → ℕ → Ledger → Kept
docket_of out capacity settled = record { out = out; settled = settled; room = min capacity (least_spare settled) - length out }

-- for each job that is out there is room under any fate, and its number is one that a run can have
pub record HasRoom (out : List Job) (settled : Ledger) : Type 0 where
  pub spare : length out ≤ least_spare settled
  pub small : All (λ job. job.number < 18446744073709551615) out
