-- A witness of the queue in which a shared ledger lies: what it saw, and at which steps it still holds. `saw items views` is what
-- it saw: of what the queue holds, and of what each pass knows.
use Rattle.std.specs.Prelude.{◌≡◌, ℕ, ◌-◌, List, [], ◌∷◌, ◌++◌, slice_set, ⊤}
use mathlib.Core.Option.{some}
use lib.ListN.{get_elem?}
use Rattle.group_jobs.specs.declared.ledger.Ledger.{Ledger}
use Rattle.shared_ledger.specs.declared.share.LedgerShare.{LedgerShare}
use Rattle.shared_ledger.specs.Giving.{share, no_jobs, joined, Gives}

module _ (saw : List Ledger → List LedgerShare → Type 0) where
  -- what it saw still holds after this step, where the queue's rule does
  abbrev pub SeesLedger : List Ledger → List LedgerShare → List Ledger → List LedgerShare → Type 0
  SeesLedger items views items' views' = Gives items views → Gives items' views' → saw items views → saw items' views'

  -- it follows it when this pass takes the ledger up, and puts it down as it was or with more in it
  pub record FollowsGiver (pass : ℕ) : Type 0 where
    pub takes : (items : List Ledger) (views : List LedgerShare) (v : LedgerShare) (ledger : Ledger) → get_elem? views pass ≡ some v
        → SeesLedger (ledger ∷ items) views items (slice_set views pass (share v.parts (ledger ∷ []) v.gave))
    pub puts : (items : List Ledger) (views : List LedgerShare) (v : LedgerShare) (ledger : Ledger) → get_elem? views pass ≡ some v
        → SeesLedger items views (items ++ ledger ∷ []) (slice_set views pass (share v.parts [] v.gave))
    pub gives : (items : List Ledger) (views : List LedgerShare) (v : LedgerShare) (ledger more : Ledger) → get_elem? views pass ≡ some v
        → SeesLedger items views (items ++ ledger ∷ []) (slice_set views pass (share v.parts [] (v.gave ++ more ∷ [])))

  -- it saw the queue when it was opened, and follows each step of each pass
  pub record FollowsLedger : Type 0 where
    pub opened : saw [] (share 64 (no_jobs ∷ []) [] ∷ [])
    pub givers : (pass : ℕ) → FollowsGiver pass
    pub cuts : (items : List Ledger) (views : List LedgerShare) (pass : ℕ) (v : LedgerShare) → get_elem? views pass ≡ some v
        → SeesLedger items views items (slice_set views pass (share (v.parts - 1) v.hand v.gave) ++ share 1 [] [] ∷ [])
    pub cuts_none : (items : List Ledger) (views : List LedgerShare) (pass : ℕ) (v : LedgerShare) → get_elem? views pass ≡ some v
        → SeesLedger items views items (slice_set views pass v ++ share 0 [] [] ∷ [])
    pub joins : (items : List Ledger) (views : List LedgerShare) (pass other : ℕ) (v w : LedgerShare) → get_elem? views pass ≡ some v → get_elem? (slice_set views pass (joined v w)) other ≡ some w
        → ¬ (other ≡ pass) → SeesLedger items views items (slice_set (slice_set views pass (joined v w)) other (share 0 [] []))

  -- the queue stood so, at a moment at which some pass had this view, and the witness saw it
  pub record SawLedger (v : LedgerShare) (items : List Ledger) : Type 0 where
    pub views : List LedgerShare
    pub pass : ℕ
    pub there : get_elem? views pass ≡ some v
    pub holds : Gives items views
    pub seen : saw items views

-- a witness that sees everything follows all
pub any_ledger : FollowsLedger (λ items views. ⊤)
any_ledger = record {
  opened = tt;
  givers = (λ pass. record {
    takes = (λ items views v ledger at before after seen. tt);
    puts = (λ items views v ledger at before after seen. tt);
    gives = (λ items views v ledger more at before after seen. tt);
  });
  cuts = (λ items views pass v at before after seen. tt);
  cuts_none = (λ items views pass v at before after seen. tt);
  joins = (λ items views pass other v w at at' apart before after seen. tt);
}
