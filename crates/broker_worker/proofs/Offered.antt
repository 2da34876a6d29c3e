-- What was so amid rounds is so amid more of them.
use Rattle.std.proofs.Common.{◌≡◌, ℕ, List, Option, Some, refl, sym, ap, subst, ◌∙◌, inl, inr, ⊎_elim, arith}
use Rattle.std.proofs.Math.Nat.{le_trans}
use Rattle.transport.specs.declared.counts.Counts.{Counts}
use Rattle.group_queue.specs.Ports.{GroupId}
use Rattle.broker_groups.specs.Answers.{Sights}
use Rattle.shared_supply.specs.declared.wakes.Wakes.{Wakes}
use Rattle.worker_connections.specs.Members.{HasTaker, TakesIn}
use Rattle.worker_connections.specs.Serving.{ConnectionsState, GoesBy, Rounds, round_of, with_wakes}
use Rattle.worker_connections.specs.Sweeping.{Begins}
use Rattle.worker_connections.specs.declared.sweeps.Sweeps.{Sweeps}
use Rattle.broker_worker.specs.Offering.{Amid, GoesOn, IsAsked, IsOffered, Offers, OffersEach}
use Rattle.conn_service.specs.declared.served.Direction.TheVariants.{Outbound}
use Rattle.conn_service.specs.declared.served.Round.{Round}
use Rattle.conn_service.specs.declared.served.Round.TheVariants as rounds
use Rattle.worker_connections.specs.declared.cell_outcome.CellOutcome.{CellOutcome}
use Rattle.worker_connections.specs.declared.cell_outcome.CellOutcome.TheVariants.{Vacant, Goes, Ended}

-- a sweep begins at the same moment
pub same_moment : (count : ℕ) (old new : Sweeps) → Begins count old new → new.latest ≡ old.latest
same_moment count old new (inl begins) = ap (λ (s : Sweeps). s.latest) begins.1
same_moment count old new (inr begins) = ap (λ (s : Sweeps). s.latest) begins.1

module _ {T : Type 0} where
  -- no round was made
  pub still : (c : ConnectionsState T) → Rounds c c
  still c = record { stays = refl; keeps = record { latest = refl; begun = refl; swept = omega arith }; count = refl }

  -- others were told
  pub telling : (old new : ConnectionsState T) (wakes : Wakes) → new ≡ with_wakes old wakes → Rounds old new
  telling old new wakes is = subst (λ (c : ConnectionsState T). Rounds old c) (sym is)
      (record { stays = refl; keeps = record { latest = refl; begun = refl; swept = omega arith }; count = refl })

  pub nothing : (old new : ConnectionsState T) → new ≡ old → Rounds old new
  nothing old new is = subst (λ (c : ConnectionsState T). Rounds old c) (sym is) (still old)

  -- rounds after rounds
  pub more : (old mid new : ConnectionsState T) → Rounds old mid → Rounds mid new → Rounds old new
  more old mid new one two = record {
    stays = two.stays ∙ one.stays;
    keeps = record {
      latest = two.keeps.latest ∙ one.keeps.latest;
      begun = two.keeps.begun ∙ one.keeps.begun;
      swept = le_trans one.keeps.swept two.keeps.swept;
    };
    count = two.count ∙ one.count;
  }

  -- it was so amid them
  pub here : (Does : ConnectionsState T → ConnectionsState T → Type 0) (old before after new : ConnectionsState T) → Rounds old before → Does before after → Rounds after new
      → Amid Does old new
  here Does old before after new one does two = (before, after, one, does, two)

  -- and amid more of them
  pub wider : (Does : ConnectionsState T → ConnectionsState T → Type 0) (older old new newer : ConnectionsState T) → Rounds older old → Amid Does old new → Rounds new newer
      → Amid Does older newer
  wider Does older old new newer one amid two = (amid.0, amid.1, more older old amid.0 one amid.2, amid.3, more amid.1 new newer amid.4 two)

  -- who is a member with room is one of them
  pub taker : (slot cell : ℕ) (c : ConnectionsState T) → TakesIn slot cell c.cells → HasTaker slot c.cells
  taker slot cell c takes = record { cell = cell; service = takes.service; place = takes.place; here = takes.here; takes = takes.takes; group = takes.group }

module _ {T : Type 0} (group : ℕ → GroupId) (seen : Sights) (counts : T → Counts) (given accepted : T → Option (List ℕ)) where
  -- a member that goes on and reads was offered one
  pub offered : (slot cell : ℕ) (old new : ConnectionsState T) (cell_outcome : CellOutcome T) (told : Round) → TakesIn slot cell old.cells
      → GoesBy group seen counts given accepted cell Outbound 1 cell_outcome old new → round_of cell_outcome ≡ Some told → GoesOn told → IsOffered group seen counts given accepted slot old new
  offered slot cell old new Vacant told takes goes is on = absurd (cc is)
  offered slot cell old new (Goes round) told takes goes is on =
      let same : told ≡ round = cc is in
      record { cell = cell; round = round; takes = takes; might = record { most = 1; some = omega arith; goes = goes }; reads = subst GoesOn same on }
  offered slot cell old new (Ended how transport) told takes goes is on =
      let same : told ≡ rounds.Ended how = cc is in absurd (subst GoesOn same on)

  -- something was offered after further rounds
  pub offers_later : (slot : ℕ) (old mid new : ConnectionsState T) → Rounds old mid → Offers group seen counts given accepted slot mid new → Offers group seen counts given accepted slot old new
  offers_later slot old mid new rounds offers =
      ⊎_elim
      (λ one. inl (wider (IsOffered group seen counts given accepted slot) old mid new new rounds one (still new)))
      (λ each. inr (λ cell within. wider (IsAsked group seen counts given accepted slot cell) old mid new new rounds (each cell (omega (arith, within, rounds.count))) (still new)))
      offers

  -- where no member has room, each client was asked
  pub nobody_takes : (slot : ℕ) (c : ConnectionsState T) → (HasTaker slot c.cells → ⊥) → Offers group seen counts given accepted slot c c
  nobody_takes slot c none = inr (λ cell within. here (IsAsked group seen counts given accepted slot cell) c c c c (still c) (inl ((λ takes. none (taker slot cell c takes)), refl)) (still c))

  -- each group was offered something amid further rounds
  pub offers_each : (older old new newer : ConnectionsState T) → Rounds older old → OffersEach group seen counts given accepted old new → Rounds new newer
      → OffersEach group seen counts given accepted older newer
  offers_each older old new newer one each two slot few = wider (Offers group seen counts given accepted slot) older old new newer one (each slot few) two
