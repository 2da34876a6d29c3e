-- Each step keeps the rule of the shared ledger with its witness: where it follows the step, what it saw still holds.
use Rattle.std.proofs.Common.{◌≡◌, ℕ, ◌-◌, ◌≤◌, List, [], ◌∷◌, ◌++◌, length, set, subst}
use Rattle.crossbeam_queue.specs.Fifo.{Pushes, Pops, Forks, Merges, Learns}
use Rattle.dispatch_core.specs.declared.event.Job.{Job}
use Rattle.group_jobs.specs.declared.fate.Fate.{Fate}
use Rattle.group_jobs.specs.declared.ledger.Ledger.{Ledger}
use Rattle.group_jobs.specs.Settled.{IsUnsettled}
use Rattle.shared_ledger.specs.declared.share.LedgerShare.{LedgerShare}
use Rattle.shared_ledger.specs.Giving.{share, no_jobs, joined, times_in, Gives, Stands, TakesUp, PutsBack, GivesMore, IsGivenMore}
use Rattle.shared_ledger.specs.Witnesses.{FollowsGiver, FollowsLedger, SawLedger}
use Rattle.shared_ledger.proofs.Steps.{takes_up, puts_back, puts_first, gives_more, cuts_part, cuts_none, joins_parts}

module _ (saw : List Ledger → List LedgerShare → Type 0) where
  abbrev pub Watched : List Ledger → List LedgerShare → Type 0
  Watched items views = Gives items views × saw items views

  pub learns_seen : (pass : ℕ) (v : LedgerShare) → Learns Watched pass v (SawLedger saw v)
  learns_seen pass v items views h at = record { views = views; pass = pass; there = at; holds = h.0; seen = h.1 }

  pub learns_how : (pass : ℕ) (v : LedgerShare) → Learns Watched pass v (Stands v)
  learns_how pass v items views h at = record { views = views; pass = pass; there = at; holds = h.0 }

  pub takes_seen : (pass : ℕ) (v : LedgerShare) → v.hand ≡ [] → FollowsGiver saw pass → Pops Watched pass v (TakesUp v)
  takes_seen pass v free follows x items views h at =
      let r = takes_up pass v free x items views h.0 at in
      let after = subst (λ u. Gives items (set views pass u)) r.2 r.1 in
      (share v.parts (x ∷ []) v.gave, (after, follows.takes items views v x at h.0 after h.1), subst (TakesUp v x) r.2 r.2)

  pub puts_seen : (n pass : ℕ) (v : LedgerShare) (x : Ledger) → length v.hand ≡ 1 → ((fate : Fate) (job : Job) → times_in (x ∷ []) fate job ≡ times_in v.hand fate job)
      → FollowsGiver saw pass → Pushes Watched n pass v x (PutsBack v x)
  puts_seen n pass v x held same follows items views room h at =
      let r = puts_back n pass v x held same items views room h.0 at in
      let after = subst (λ u. Gives (items ++ x ∷ []) (set views pass u)) r.2 r.1 in
      (share v.parts [] v.gave, (after, follows.puts items views v x at h.0 after h.1), subst (PutsBack v x) r.2 r.2)

  pub puts_first_seen : (n pass : ℕ) (v : LedgerShare) (x : Ledger) → v ≡ share 64 (no_jobs ∷ []) [] → IsUnsettled x → FollowsGiver saw pass → Pushes Watched n pass v x (PutsBack v x)
  puts_first_seen n pass v x first none follows items views room h at =
      let r = puts_first n pass v x first none items views room h.0 at in
      let after = subst (λ u. Gives (items ++ x ∷ []) (set views pass u)) r.2 r.1 in
      (share v.parts [] v.gave, (after, follows.puts items views v x at h.0 after h.1), subst (PutsBack v x) r.2 r.2)

  pub gives_seen : (n pass : ℕ) (v : LedgerShare) (x more : Ledger) → 1 ≤ v.parts → length v.hand ≡ 1 → IsGivenMore v x more → FollowsGiver saw pass → Pushes Watched n pass v x (GivesMore v x)
  gives_seen n pass v x more some_part held is follows items views room h at =
      let r = gives_more n pass v x more some_part held is items views room h.0 at in
      let after = subst (λ u. Gives (items ++ x ∷ []) (set views pass u)) r.2.is r.1 in
      (share v.parts [] (v.gave ++ r.2.more ∷ []), (after, follows.gives items views v x r.2.more at h.0 after h.1), subst (GivesMore v x) r.2.is r.2)

  pub cuts_seen : (pass : ℕ) (v : LedgerShare) → 2 ≤ v.parts → FollowsLedger saw → Forks Watched pass v (share (v.parts - 1) v.hand v.gave) (share 1 [] [])
  cuts_seen pass v two follows items views h at = let after = cuts_part pass v two items views h.0 at in (after, follows.cuts items views pass v at h.0 after h.1)

  pub cuts_none_seen : (pass : ℕ) (v : LedgerShare) → FollowsLedger saw → Forks Watched pass v v (share 0 [] [])
  cuts_none_seen pass v follows items views h at = let after = cuts_none pass v items views h.0 at in (after, follows.cuts_none items views pass v at h.0 after h.1)

  pub joins_seen : (pass : ℕ) (v : LedgerShare) (other : ℕ) (w : LedgerShare) → 1 ≤ w.parts → FollowsLedger saw → Merges Watched pass v other w (joined v w) (share 0 [] [])
  joins_seen pass v other w some_part follows items views h at apart at' =
      let after = joins_parts pass v other w some_part items views h.0 at apart at' in
      (after, follows.joins items views pass other v w at at' apart h.0 after h.1)
