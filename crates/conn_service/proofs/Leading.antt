-- Acts one after the other.
use Rattle.std.proofs.Common.{◌≡◌, ℕ, Bool, List, [], ◌∷◌, ◌++◌, Option, refl, subst, inl, inr}
use Rattle.transport.specs.declared.counts.Counts.{Counts}
use Rattle.conn_supply.specs.SupplyCalls.{SupplyCall}
use Rattle.conn_service.specs.Services.{ServiceState}
use Rattle.conn_service.specs.Acts.{Act, Enters, Leaves, Asks, Reads, Writes, Steps, Loses, Fails, Starves, IsFull, IsStopped, Stalls, GivesUp, Ends, Others}
use Rattle.conn_service.specs.Visits.{Stand, Outside, Inside, Behind, Parting, Parted, IsStillOut, TreadsOutside, TreadsBehind, Treads, Rests, Walks}
use Rattle.conn_service.specs.Edges.{DoesAtEdge, DoesAllAtEdge, LeadsAtEdge}
use Rattle.conn_service.specs.Lives.{Does, DoesAll, Leads, Rounds, RoundsAll}

pub rests : (stand : Stand) → Rests stand stand
rests Outside = inl refl
rests (Inside is_open) = refl
rests Behind = refl
rests Parting = refl
rests Parted = refl

-- what may be done without a visit, may be done in front of it
treads_outside : (now : ℕ) (act : Act) (to : Stand) → TreadsBehind now act to → TreadsOutside now act to
treads_outside now (Enters is_open reads) to treads = inr treads
treads_outside now Leaves to treads = absurd treads
treads_outside now (Asks is_kicked) to treads = absurd treads
treads_outside now (Reads size got bytes) to treads = absurd treads
treads_outside now (Starves got bytes) to treads = absurd treads
treads_outside now (Writes at put) to treads = (treads.0, inr treads.1)
treads_outside now (Steps at input packets next) to treads = absurd treads
treads_outside now (Loses at input packets next) to treads = absurd treads
treads_outside now (Fails at input) to treads = absurd treads
treads_outside now (IsFull at) to treads = absurd treads
treads_outside now IsStopped to treads = inr treads
treads_outside now (Stalls at) to treads = (treads.0, inr treads.1)
treads_outside now (GivesUp at) to treads = absurd treads
treads_outside now Ends to treads = inr treads
treads_outside now Others to treads = absurd treads

pub walks_outside : (now : ℕ) (acts : List Act) (to : Stand) → Walks now Behind acts to → Walks now Outside acts to
walks_outside now [] to walks = inr walks
walks_outside now (act ∷ acts) to walks = (walks.0, treads_outside now act walks.0 walks.1, walks.2)

rests_then : (now : ℕ) (a b c : Stand) (those : List Act) → Rests a b → Walks now b those c → Walks now a those c
rests_then now Outside b c those (inl same) then = subst (λ (stand : Stand). Walks now stand those c) same then
rests_then now Outside b c those (inr behind) then = walks_outside now those c (subst (λ (stand : Stand). Walks now stand those c) behind then)
rests_then now (Inside is_open) b c those same then = subst (λ (stand : Stand). Walks now stand those c) same then
rests_then now Behind b c those same then = subst (λ (stand : Stand). Walks now stand those c) same then
rests_then now Parting b c those same then = subst (λ (stand : Stand). Walks now stand those c) same then
rests_then now Parted b c those same then = subst (λ (stand : Stand). Walks now stand those c) same then

still_walks : (now : ℕ) (mid : Stand) (acts : List Act) → IsStillOut mid → Walks now mid acts Outside → Walks now Outside acts Outside
still_walks now mid acts (inl out) walks = subst (λ (stand : Stand). Walks now stand acts Outside) out walks
still_walks now mid acts (inr behind) walks = walks_outside now acts Outside (subst (λ (stand : Stand). Walks now stand acts Outside) behind walks)

-- one walk after another
pub walks_both : (now : ℕ) (a b c : Stand) (these those : List Act) → Walks now a these b → Walks now b those c → Walks now a (these ++ those) c
walks_both now a b c [] those first then = rests_then now a b c those first then
walks_both now a b c (act ∷ these) those first then = (first.0, first.1, walks_both now first.0 b c these those first.2 then)

module _ {P T : Type 0} (counts : T → Counts) (given accepted : T → Option (List ℕ)) where
  unfoldable pub edge_nothing : {now : ℕ} {stand : Stand} (old new : ServiceState P T) → new ≡ old → LeadsAtEdge counts given accepted now stand old new
  edge_nothing {stand = stand} old new same = record { acts = []; does = same; walks = rests stand }

  unfoldable pub edge_one : {now : ℕ} {stand : Stand} (act : Act) (old new : ServiceState P T) → DoesAtEdge counts given accepted act old new → Treads now stand act stand
      → LeadsAtEdge counts given accepted now stand old new
  edge_one {now = now} {stand = stand} act old new does treads = record { acts = act ∷ []; does = (new, does, refl); walks = (stand, treads, rests stand) }

  pub edge_both : (these those : List Act) (old mid new : ServiceState P T) → DoesAllAtEdge counts given accepted these old mid → DoesAllAtEdge counts given accepted those mid new
      → DoesAllAtEdge counts given accepted (these ++ those) old new
  edge_both [] those old mid new first then = subst (λ (service : ServiceState P T). DoesAllAtEdge counts given accepted those service new) first then
  edge_both (act ∷ these) those old mid new first then = (first.0, first.1, edge_both these those first.0 mid new first.2 then)

  unfoldable pub edge_on : {now : ℕ} {stand : Stand} (old mid new : ServiceState P T) → LeadsAtEdge counts given accepted now stand old mid → LeadsAtEdge counts given accepted now stand mid new
      → LeadsAtEdge counts given accepted now stand old new
  edge_on {now = now} {stand = stand} old mid new first then =
      record { acts = first.acts ++ then.acts; does = edge_both first.acts then.acts old mid new first.does then.does; walks = walks_both now stand stand stand first.acts then.acts first.walks then.walks }

  -- what is done towards the transport in front of the visit may be done after it
  tread_behind : (now : ℕ) (act : Act) (mid : Stand) (old between : ServiceState P T) → DoesAtEdge counts given accepted act old between → TreadsOutside now act mid
      → TreadsBehind now act Behind × IsStillOut mid
  tread_behind now (Enters is_open reads) mid old between does treads = absurd does
  tread_behind now Leaves mid old between does treads = absurd treads
  tread_behind now (Asks is_kicked) mid old between does treads = absurd treads
  tread_behind now (Reads size got bytes) mid old between does treads = absurd treads
  tread_behind now (Starves got bytes) mid old between does treads = absurd treads
  tread_behind now (Writes at put) mid old between does treads = ((treads.0, refl), treads.1)
  tread_behind now (Steps at input packets next) mid old between does treads = absurd treads
  tread_behind now (Loses at input packets next) mid old between does treads = absurd treads
  tread_behind now (Fails at input) mid old between does treads = absurd treads
  tread_behind now (IsFull at) mid old between does treads = absurd treads
  tread_behind now IsStopped mid old between does treads = (refl, treads)
  tread_behind now (Stalls at) mid old between does treads = ((treads.0, refl), treads.1)
  tread_behind now (GivesUp at) mid old between does treads = absurd treads
  tread_behind now Ends mid old between does treads = (refl, treads)
  tread_behind now Others mid old between does treads = absurd treads

  pub behind_all : (now : ℕ) (acts : List Act) (old new : ServiceState P T) → DoesAllAtEdge counts given accepted acts old new → Walks now Outside acts Outside → Walks now Behind acts Behind
  behind_all now [] old new same walks = refl
  behind_all now (act ∷ acts) old new does walks =
      let step = tread_behind now act walks.0 old does.0 does.1 walks.1 in
      (Behind, step.0, behind_all now acts does.0 new does.2 (still_walks now walks.0 acts step.1 walks.2))

  unfoldable pub edge_behind : {now : ℕ} (old new : ServiceState P T) → LeadsAtEdge counts given accepted now Outside old new → LeadsAtEdge counts given accepted now Behind old new
  edge_behind {now = now} old new led = record { acts = led.acts; does = led.does; walks = behind_all now led.acts old new led.does led.walks }

module _ {S P T : Type 0} (call : S → SupplyCall P → S → Type 0) (begins ends : S → S → Type 0) (visiting : S → Bool) (slot_of : P → ℕ)
    (counts : T → Counts) (given accepted : T → Option (List ℕ)) where
  unfoldable pub leads_nothing : {now : ℕ} {stand : Stand} (old new : ServiceState P T) (supply supply' : S) → new ≡ old → supply' ≡ supply
      → Leads call begins ends visiting slot_of counts given accepted now stand stand old supply new supply'
  leads_nothing {stand = stand} old new supply supply' same unasked = record { acts = []; does = (same, unasked); walks = rests stand }

  unfoldable pub leads_one : {now : ℕ} {from to : Stand} (act : Act) (old new : ServiceState P T) (supply supply' : S) → Does call begins ends visiting slot_of counts given accepted act old supply new supply'
      → Treads now from act to → Leads call begins ends visiting slot_of counts given accepted now from to old supply new supply'
  leads_one {now = now} {from = from} {to = to} act old new supply supply' does treads = record { acts = act ∷ []; does = (new, supply', does, (refl, refl)); walks = (to, treads, rests to) }

  pub both : (these those : List Act) (old mid new : ServiceState P T) (supply between supply' : S) → DoesAll call begins ends visiting slot_of counts given accepted these old supply mid between
      → DoesAll call begins ends visiting slot_of counts given accepted those mid between new supply' → DoesAll call begins ends visiting slot_of counts given accepted (these ++ those) old supply new supply'
  both [] those old mid new supply between supply' first then =
      subst (λ (s : S). DoesAll call begins ends visiting slot_of counts given accepted those old s new supply') first.1
      (subst (λ (service : ServiceState P T). DoesAll call begins ends visiting slot_of counts given accepted those service between new supply') first.0 then)
  both (act ∷ these) those old mid new supply between supply' first then =
      (first.0, first.1, first.2, both these those first.0 mid new first.1 between supply' first.3 then)

  unfoldable pub leads_on : {now : ℕ} {a b c : Stand} (old mid new : ServiceState P T) (supply between supply' : S) → Leads call begins ends visiting slot_of counts given accepted now a b old supply mid between
      → Leads call begins ends visiting slot_of counts given accepted now b c mid between new supply' → Leads call begins ends visiting slot_of counts given accepted now a c old supply new supply'
  leads_on {now = now} {a = a} {b = b} {c = c} old mid new supply between supply' first then =
      record {
        acts = first.acts ++ then.acts;
        does = both first.acts then.acts old mid new supply between supply' first.does then.does;
        walks = walks_both now a b c first.acts then.acts first.walks then.walks;
      }

  -- an act towards the transport is an act
  at_edge : (act : Act) (old new : ServiceState P T) (supply : S) → DoesAtEdge counts given accepted act old new → Does call begins ends visiting slot_of counts given accepted act old supply new supply
  at_edge (Enters is_open reads) old new supply does = absurd does
  at_edge Leaves old new supply does = absurd does
  at_edge (Asks is_kicked) old new supply does = absurd does
  at_edge (Reads size got bytes) old new supply does = record { does = does; same = refl }
  at_edge (Starves got bytes) old new supply does = record { does = does; same = refl }
  at_edge (Writes now put) old new supply does = record { does = does; same = refl }
  at_edge (Steps now input packets next) old new supply does = absurd does
  at_edge (Loses now input packets next) old new supply does = absurd does
  at_edge (Fails now input) old new supply does = absurd does
  at_edge (IsFull now) old new supply does = absurd does
  at_edge IsStopped old new supply does = record { does = does; same = refl }
  at_edge (Stalls now) old new supply does = record { does = does; same = refl }
  at_edge (GivesUp now) old new supply does = absurd does
  at_edge Ends old new supply does = record { does = does; same = refl }
  at_edge Others old new supply does = absurd does

  pub all_at_edge : (acts : List Act) (old new : ServiceState P T) (supply : S) → DoesAllAtEdge counts given accepted acts old new
      → DoesAll call begins ends visiting slot_of counts given accepted acts old supply new supply
  all_at_edge [] old new supply same = (same, refl)
  all_at_edge (act ∷ acts) old new supply does = (does.0, supply, at_edge act old does.0 supply does.1, all_at_edge acts does.0 new supply does.2)

  unfoldable pub leads_at_edge : {now : ℕ} {stand : Stand} (old new : ServiceState P T) (supply : S) → LeadsAtEdge counts given accepted now stand old new
      → Leads call begins ends visiting slot_of counts given accepted now stand stand old supply new supply
  leads_at_edge old new supply leads = record { acts = leads.acts; does = all_at_edge leads.acts old new supply leads.does; walks = leads.walks }

  -- a round may go by without a visit
  unfoldable pub leads_past : {now : ℕ} (old new : ServiceState P T) (supply supply' : S) → Leads call begins ends visiting slot_of counts given accepted now Outside Outside old supply new supply'
      → Leads call begins ends visiting slot_of counts given accepted now Outside Behind old supply new supply'
  leads_past {now = now} old new supply supply' led =
      leads_on {now = now} {a = Outside} {b = Outside} {c = Behind} old new new supply supply' supply' led (record { acts = []; does = (refl, refl); walks = inr refl })

  unfoldable pub leads_from_behind : {now : ℕ} {to : Stand} (old new : ServiceState P T) (supply supply' : S) → Leads call begins ends visiting slot_of counts given accepted now Behind to old supply new supply'
      → Leads call begins ends visiting slot_of counts given accepted now Outside to old supply new supply'
  leads_from_behind {now = now} {to = to} old new supply supply' led = record { acts = led.acts; does = led.does; walks = walks_outside now led.acts to led.walks }

  -- one round more
  pub rounds_on : (moments : List ℕ) (now : ℕ) (old mid new : ServiceState P T) (supply between supply' : S)
      → RoundsAll call begins ends visiting slot_of counts given accepted moments old supply mid between
      → Rounds call begins ends visiting slot_of counts given accepted now mid between new supply'
      → RoundsAll call begins ends visiting slot_of counts given accepted (moments ++ now ∷ []) old supply new supply'
  rounds_on [] now old mid new supply between supply' first then = (
    new,
    supply',
    subst (λ (s : S). Rounds call begins ends visiting slot_of counts given accepted now old s new supply') first.1
        (subst (λ (service : ServiceState P T). Rounds call begins ends visiting slot_of counts given accepted now service between new supply') first.0 then),
    (refl, refl),
  )
  rounds_on (moment ∷ moments) now old mid new supply between supply' first then =
      (first.0, first.1, first.2, rounds_on moments now first.0 mid new first.1 between supply' first.3 then)
