-- Each step keeps the rule of the shared ledger: what leaves the queue is in somebody's hands, and the other way round.
use Rattle.std.proofs.Common.{◌≡◌, ℕ, zero, suc, ◌+◌, ◌-◌, ◌≤◌, List, [], ◌∷◌, ◌++◌, set, length, length-append, refl, sym, ap, ◌∙◌, ⊎_elim, arith}
use Rattle.std.specs.Prelude.{sum_by}
use Rattle.std.proofs.lemmas.List.Sums.{sum_by_push, sum_by-cons, sum_by-append}
use mathlib.Core.Option.{some, some-injective, some-ne-none}
use lib.ListN.{get_elem?}
use Rattle.crossbeam_queue.specs.Fifo.{Pushes, Pops, Forks, Merges, Learns}
use Rattle.crossbeam_queue.proofs.Lists.{at_set, at_snoc}
use Rattle.dispatch_core.specs.declared.event.Job.{Job}
use Rattle.dispatch_core.specs.JobRuns.{jobs_of, count_of}
use Rattle.group_jobs.specs.declared.fate.Fate.{Fate}
use Rattle.group_jobs.specs.declared.fate.Fate.TheVariants.{Acknowledged, Refused, Discarded}
use Rattle.group_jobs.specs.declared.ledger.Ledger.{Ledger}
use Rattle.group_jobs.specs.Settled.{settled_as, IsUnsettled}
use Rattle.shared_ledger.specs.declared.share.LedgerShare.{LedgerShare}
use Rattle.shared_ledger.specs.Giving.{share, no_jobs, joined, times_in, Gives, Stands, TakesUp, PutsBack, GivesMore}
use Rattle.shared_ledger.proofs.Sums.{sum_at, none_each, none_all}

-- how often a ledger has a job under a fate
abbrev has : Fate → Job → Ledger → ℕ
has fate job ledger = count_of job (settled_as fate ledger)

abbrev parts_in : LedgerShare → ℕ
parts_in v = v.parts

abbrev hands_in : LedgerShare → ℕ
hands_in v = length v.hand

abbrev in_hand : Fate → Job → LedgerShare → ℕ
in_hand fate job v = times_in v.hand fate job

abbrev in_gave : Fate → Job → LedgerShare → ℕ
in_gave fate job v = times_in v.gave fate job

pub learns : (pass : ℕ) (v : LedgerShare) → Learns Gives pass v (Stands v)
learns pass v items views h at = record { views = views; pass = pass; there = at; holds = h }

abbrev IsIdle : List LedgerShare → Type 0
IsIdle views = (pass : ℕ) (v : LedgerShare) → get_elem? views pass ≡ some v → v.parts ≡ 0 → v.gave ≡ []

idle_set : (views : List LedgerShare) (pass : ℕ) (w : LedgerShare) → (w.parts ≡ 0 → w.gave ≡ []) → IsIdle views → IsIdle (set views pass w)
idle_set views pass w own idle j u e none =
    ⊎_elim (λ t. let same = ap parts_in t.1 in ap (λ (y : LedgerShare). y.gave) (sym t.1) ∙ own (omega arith)) (λ t. idle j u t.1 none) (at_set views pass j w u e)

-- the one ledger leaves the queue
pub takes_up : (pass : ℕ) (v : LedgerShare) → v.hand ≡ [] → Pops Gives pass v (TakesUp v)
takes_up pass v free x items views h at =
    let w : LedgerShare = share v.parts (x ∷ []) v.gave in
    let h' : Gives items (set views pass w) = record {
      parts = omega (arith, sum_at parts_in views pass v w at, h.parts);
      one = omega (arith, h.one, sum_at hands_in views pass v w at, ap length free);
      idle = idle_set views pass w (h.idle pass v at) h.idle;
      counts = (λ fate job. omega (
        arith,
        h.counts fate job,
        sum_by-cons (has fate job) x items,
        sum_by-cons (has fate job) x [],
        ap (λ l. times_in l fate job) free,
        sum_at (in_hand fate job) views pass v w at,
        sum_at (in_gave fate job) views pass v w at,
      ));
    } in (w, h', refl)

-- and comes back
pub puts_back : (n pass : ℕ) (v : LedgerShare) (x : Ledger) → length v.hand ≡ 1 → ((fate : Fate) (job : Job) → times_in (x ∷ []) fate job ≡ times_in v.hand fate job)
    → Pushes Gives n pass v x (PutsBack v x)
puts_back n pass v x one same items views room h at =
    let w : LedgerShare = share v.parts [] v.gave in
    let h' : Gives (items ++ x ∷ []) (set views pass w) = record {
      parts = omega (arith, sum_at parts_in views pass v w at, h.parts);
      one = omega (arith, h.one, one, sum_at hands_in views pass v w at, length-append items (x ∷ []));
      idle = idle_set views pass w (h.idle pass v at) h.idle;
      counts = (λ fate job. omega (
        arith,
        h.counts fate job,
        same fate job,
        sum_by-append (has fate job) items (x ∷ []),
        sum_at (in_hand fate job) views pass v w at,
        sum_at (in_gave fate job) views pass v w at,
      ));
    } in (w, h', refl)

-- the first pass has a ledger in hands in which nothing is settled
pub puts_first : (n pass : ℕ) (v : LedgerShare) (x : Ledger) → v ≡ share 64 (no_jobs ∷ []) [] → IsUnsettled x → Pushes Gives n pass v x (PutsBack v x)
puts_first n pass v x is none =
    puts_back n pass v x (ap hands_in is) (λ fate job. same fate job ∙ sym (ap (in_hand fate job) is))
  where
    same : (fate : Fate) (job : Job) → times_in (x ∷ []) fate job ≡ times_in (no_jobs ∷ []) fate job
    same Acknowledged job = omega (arith, ap (λ runs. count_of job (jobs_of runs)) (none Acknowledged))
    same Refused job = omega (arith, ap (λ runs. count_of job (jobs_of runs)) (none Refused))
    same Discarded job = omega (arith, ap (λ runs. count_of job (jobs_of runs)) (none Discarded))

pub gives_more : (n pass : ℕ) (v : LedgerShare) (x more : Ledger) → 1 ≤ v.parts → length v.hand ≡ 1
    → ((fate : Fate) (job : Job) → times_in (x ∷ []) fate job ≡ times_in v.hand fate job + times_in (more ∷ []) fate job) → Pushes Gives n pass v x (GivesMore v x)
gives_more n pass v x more some_part one counts items views room h at =
    let w : LedgerShare = share v.parts [] (v.gave ++ more ∷ []) in
    let h' : Gives (items ++ x ∷ []) (set views pass w) = record {
      parts = omega (arith, sum_at parts_in views pass v w at, h.parts);
      one = omega (arith, h.one, one, sum_at hands_in views pass v w at, length-append items (x ∷ []));
      idle = idle_set views pass w (λ none. absurd (omega (arith, some_part, none))) h.idle;
      counts = (λ fate job. omega (
        arith,
        h.counts fate job,
        counts fate job,
        sum_by-append (has fate job) items (x ∷ []),
        sum_by-append (has fate job) v.gave (more ∷ []),
        sum_at (in_hand fate job) views pass v w at,
        sum_at (in_gave fate job) views pass v w at,
      ));
    } in (w, h', record { more = more; is = refl; counts = counts })

-- who has the ledger in hands finds the queue empty
pub not_full : (v : LedgerShare) (items : List Ledger) → length v.hand ≡ 1 → Stands v items → length items ≡ 0
not_full v items one stands = omega (arith, one, stands.holds.one, sum_at hands_in stands.views stands.pass v (share 0 [] []) stands.there)

pub starts : Gives [] (share 64 (no_jobs ∷ []) [] ∷ [])
starts = record { parts = refl; one = refl; idle = idle; counts = counts }
  where
    idle : IsIdle (share 64 (no_jobs ∷ []) [] ∷ [])
    idle zero v at none = let same = ap parts_in (some-injective (share 64 (no_jobs ∷ []) []) v at) in absurd (omega (arith, same, none))
    idle (suc pass) v at none = absurd (some-ne-none v (sym at))

    counts : (fate : Fate) (job : Job) → times_in [] fate job + sum_by (in_hand fate job) (share 64 (no_jobs ∷ []) [] ∷ []) ≡ sum_by (in_gave fate job) (share 64 (no_jobs ∷ []) [] ∷ [])
    counts Acknowledged job = refl
    counts Refused job = refl
    counts Discarded job = refl

cuts : (pass : ℕ) (v w : LedgerShare) (parts : ℕ) → w.parts + parts ≡ v.parts → w.hand ≡ v.hand → w.gave ≡ v.gave → (w.parts ≡ 0 → w.gave ≡ []) → Forks Gives pass v w (share parts [] [])
cuts pass v w parts sum hand gave own items views h at =
    let new : LedgerShare = share parts [] [] in
    let vs : List LedgerShare = set views pass w in
    record {
      parts = omega (arith, sum, sum_at parts_in views pass v w at, h.parts, sum_by_push parts_in vs new);
      one = omega (arith, h.one, ap length hand, sum_at hands_in views pass v w at, sum_by_push hands_in vs new);
      idle = (λ j u e none. ⊎_elim (λ t. idle_set views pass w own h.idle j u t none) (λ is. ap (λ (y : LedgerShare). y.gave) (sym is)) (at_snoc vs new u j e));
      counts = (λ fate job. omega (
        arith,
        h.counts fate job,
        ap (λ l. times_in l fate job) hand,
        ap (λ l. times_in l fate job) gave,
        sum_at (in_hand fate job) views pass v w at,
        sum_at (in_gave fate job) views pass v w at,
        sum_by_push (in_hand fate job) vs new,
        sum_by_push (in_gave fate job) vs new,
      ));
    }

pub cuts_part : (pass : ℕ) (v : LedgerShare) → 2 ≤ v.parts → Forks Gives pass v (share (v.parts - 1) v.hand v.gave) (share 1 [] [])
cuts_part pass v two = cuts pass v (share (v.parts - 1) v.hand v.gave) 1 (omega arith) refl refl (λ none. absurd (omega (arith, two, none)))

pub cuts_none : (pass : ℕ) (v : LedgerShare) → Forks Gives pass v v (share 0 [] [])
cuts_none pass v items views h at = cuts pass v v 0 (omega arith) refl refl (h.idle pass v at) items views h at

pub joins_parts : (pass : ℕ) (v : LedgerShare) (other : ℕ) (w : LedgerShare) → 1 ≤ w.parts → Merges Gives pass v other w (joined v w) (share 0 [] [])
joins_parts pass v other w some_part items views h at ne at' =
    let all : LedgerShare = joined v w in
    let none : LedgerShare = share 0 [] [] in
    let vs : List LedgerShare = set views pass all in
    record {
      parts = omega (arith, h.parts, sum_at parts_in views pass v all at, sum_at parts_in vs other w none at');
      one = omega (arith, h.one, sum_at hands_in views pass v all at, sum_at hands_in vs other w none at', length-append v.hand w.hand);
      idle = idle_set vs other none (λ e. refl) (idle_set views pass all (λ no_part. absurd (omega (arith, some_part, no_part))) h.idle);
      counts = (λ fate job. omega (
        arith,
        h.counts fate job,
        sum_by-append (has fate job) v.hand w.hand,
        sum_by-append (has fate job) v.gave w.gave,
        sum_at (in_hand fate job) views pass v all at,
        sum_at (in_gave fate job) views pass v all at,
        sum_at (in_hand fate job) vs other w none at',
        sum_at (in_gave fate job) vs other w none at',
      ));
    }

no_ledger : (ledgers : List Ledger) → length ledgers ≡ 0 → (fate : Fate) (job : Job) → times_in ledgers fate job ≡ 0
no_ledger [] none fate job = refl
no_ledger (x ∷ xs) none fate job = absurd (omega arith)

-- who has all parts, and the ledger in hands, knows what is in it
module _ (items : List Ledger) (v : LedgerShare) (stands : Stands v items) (all : 64 ≤ v.parts) (one : length v.hand ≡ 1) where
  nobody : LedgerShare
  nobody = share 0 [] []

  left : List LedgerShare
  left = set stands.views stands.pass (share 0 [] [])

  no_parts : sum_by parts_in left ≡ 0
  unfolding left
  no_parts = omega (arith, stands.holds.parts, all, sum_at parts_in stands.views stands.pass v (share 0 [] []) stands.there)

  no_hands : sum_by hands_in left ≡ 0
  unfolding left
  no_hands = omega (arith, stands.holds.one, one, sum_at hands_in stands.views stands.pass v (share 0 [] []) stands.there)

  is_idle : IsIdle left
  unfolding left
  is_idle = idle_set stands.views stands.pass (share 0 [] []) (λ e. refl) stands.holds.idle

  pub all_given : (fate : Fate) (job : Job) → times_in v.hand fate job ≡ times_in v.gave fate job
  unfolding left
  all_given fate job = omega (
    arith,
    stands.holds.counts fate job,
    no_ledger items (not_full v items one stands) fate job,
    sum_at (in_hand fate job) stands.views stands.pass v (share 0 [] []) stands.there,
    sum_at (in_gave fate job) stands.views stands.pass v (share 0 [] []) stands.there,
    none_all (in_hand fate job) left (λ j u e. no_ledger u.hand (none_each hands_in left no_hands j u e) fate job),
    none_all (in_gave fate job) left (λ j u e. ap (λ l. times_in l fate job) (is_idle j u e (none_each parts_in left no_parts j u e))),
  )
