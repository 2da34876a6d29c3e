-- A connection lives on by its rounds, whatever others do to the supply between them; and so do the connections of a worker's run.
use Rattle.std.proofs.Common.{◌≡◌, ◌+◌, ℕ, Bool, List, [], ◌∷◌, ◌++◌, Option, Some, None, All, refl, sym, ap, subst, ◌∙◌, append-nil, append_assoc}
use Rattle.std.specs.List.{AllByRecursion}
use Rattle.std.proofs.lemmas.List.Elements.{All-set}
use Rattle.transport.specs.declared.counts.Counts.{Counts}
use Rattle.transport.specs.Counting.{no_counts}
use Rattle.conn_supply.specs.SupplyCalls.{SupplyCall}
use Rattle.conn_engine.specs.declared.phase.Opening.{Opening}
use Rattle.conn_service.specs.declared.served.Served.{Served}
use Rattle.conn_service.specs.Services.{ServiceState, opened}
use Rattle.conn_service.specs.Acts.{Act, Others}
use Rattle.conn_service.specs.Lives.{DoesAll, LivesBy, Rounds}
use Rattle.group_queue.specs.Ports.{GroupId}
use Rattle.broker_groups.specs.Answers.{Sights}
use Rattle.group_queue.specs.Places.{PlaceState}
use Rattle.worker_connections.specs.Cells.{Opens}
use Rattle.shared_supply.specs.Calls.{Calls}
use Rattle.shared_supply.specs.Workers.{Begins, Leaves, is_visiting}
use Rattle.worker_connections.specs.Arrivals.{ArrivedState, opening_at}
use Rattle.worker_connections.specs.Chains.{Deed, Opened, Closed, Allowed, MadeRound, Passed, RetiredDue, Called, Notified, NotifiedAll, Waited, LeavesCell, Makes, MakesAll, RunState, came_in, came_by}
use Rattle.worker_connections.specs.Lives.{HasLived, IfLived}
use Rattle.worker_connections.proofs.Parts.{at_cell, both_parts}

module _ {S P T : Type 0} (call : S → SupplyCall P → S → Type 0) (begins ends : S → S → Type 0) (visiting : S → Bool) (slot_of : P → ℕ)
    (counts : T → Counts) (given accepted : T → Option (List ℕ)) where
  -- acts, what others do, and further acts
  both : (these those : List Act) (old mid new : ServiceState P T) (supply between again supply' : S)
      → DoesAll call begins ends visiting slot_of counts given accepted these old supply mid between
      → DoesAll call begins ends visiting slot_of counts given accepted those mid again new supply'
      → DoesAll call begins ends visiting slot_of counts given accepted (these ++ (Others ∷ those)) old supply new supply'
  both [] those old mid new supply between again supply' first then = (mid, again, first.0, then)
  both (act ∷ these) those old mid new supply between again supply' first then =
      (first.0, first.1, first.2, both these those first.0 mid new first.1 between again supply' first.3 then)

  -- one round more, in front of which others use the supply
  lives_by : (moments : List ℕ) (acts : List Act) (now : ℕ) (old mid new : ServiceState P T) (supply between again supply' : S)
      → LivesBy call begins ends visiting slot_of counts given accepted moments acts old supply mid between
      → (round : Rounds call begins ends visiting slot_of counts given accepted now mid again new supply')
      → LivesBy call begins ends visiting slot_of counts given accepted (moments ++ now ∷ []) (acts ++ (Others ∷ round.led.acts)) old supply new supply'
  lives_by [] acts now old mid new supply between again supply' first round =
      subst (λ (s : ServiceState P T). LivesBy call begins ends visiting slot_of counts given accepted (now ∷ []) (acts ++ (Others ∷ round.led.acts)) s supply new supply') first.1 (
        again,
        new,
        supply',
        round,
        [],
        ap (λ (l : List Act). l ++ (Others ∷ round.led.acts)) first.0 ∙ ap (λ (l : List Act). Others ∷ l) (sym (append-nil round.led.acts)),
        (refl, refl, refl),
      )
  lives_by (moment ∷ moments) acts now old mid new supply between again supply' first round = (
    first.0,
    first.1,
    first.2,
    first.3,
    first.4 ++ (Others ∷ round.led.acts),
    ap (λ (l : List Act). l ++ (Others ∷ round.led.acts)) first.5 ∙ ap (λ (l : List Act). Others ∷ l) (append_assoc first.3.led.acts first.4 (Others ∷ round.led.acts)),
    lives_by moments first.4 now first.1 mid new first.2 between again supply' first.6 round,
  )

  pub lives_on : (now : ℕ) (service behind : ServiceState P T) (supply supply' : S) → HasLived call begins ends visiting slot_of counts given accepted service
      → Rounds call begins ends visiting slot_of counts given accepted now service supply behind supply' → HasLived call begins ends visiting slot_of counts given accepted behind
  lives_on now service behind supply supply' lived round = record {
    number = lived.number;
    opening = lived.opening;
    transport = lived.transport;
    fresh = lived.fresh;
    before = lived.before;
    behind = supply';
    led = record {
      acts = lived.led.acts ++ (Others ∷ round.led.acts);
      does = both lived.led.acts round.led.acts (opened lived.number lived.opening lived.transport) service behind lived.before lived.behind supply supply' lived.led.does round.led.does;
      moments = lived.led.moments ++ now ∷ [];
      lived = lives_by lived.led.moments lived.led.acts now (opened lived.number lived.opening lived.transport) service behind lived.before lived.behind supply supply' lived.led.lived round;
    };
  }

  -- one that is opened lives, over any supply
  pub opens : (number : ℕ) (opening : Opening) (transport : T) (before after : Option (ServiceState P T)) (supply : S) → counts transport ≡ no_counts → Opens number opening transport before after
      → IfLived call begins ends visiting slot_of counts given accepted after
  opens number opening transport before None supply fresh opened_so = tt
  opens number opening transport before (Some service) supply fresh opened_so = record {
    number = number;
    opening = opening;
    transport = transport;
    fresh = fresh;
    before = supply;
    behind = supply;
    led = record { acts = []; does = (opened_so.1, refl); moments = []; lived = (refl, opened_so.1, refl) };
  }

module _ {T : Type 0} (group : ℕ → GroupId) (seen : Sights) (counts : T → Counts) (given accepted : T → Option (List ℕ)) where
  abbrev Lived : Option (ServiceState PlaceState T) → Type 0
  Lived cell = IfLived (Calls group seen) Begins Leaves is_visiting (λ (p : PlaceState). p.group) counts given accepted cell

  abbrev AllLived : List (Option (ServiceState PlaceState T)) → Type 0
  AllLived cells = All Lived cells

  -- after a round it lives on in its cell, or has left that
  left : (how : Option Served) (behind : ServiceState PlaceState T) (after : Option (ServiceState PlaceState T)) → LeavesCell how behind after → Lived (Some behind) → Lived after
  left None behind after leaves lived = subst Lived (sym leaves) lived
  left (Some how) behind after leaves lived = subst Lived (sym leaves.2) tt

  lives : (deed : Deed T) (old new : RunState T) → AllByRecursion (λ (arrived : ArrivedState T). counts arrived.transport ≡ no_counts) (came_in deed)
      → Makes group seen counts given accepted deed old new → AllLived old.cells → AllLived new.cells
  lives (Opened arrived cell now) old new fresh does all =
      let made = does.2 in
      subst AllLived (sym made.is)
      (All-set Lived old.cells cell made.after
      (opens (Calls group seen) Begins Leaves is_visiting (λ (p : PlaceState). p.group) counts given accepted (old.first + cell) (opening_at now arrived) does.0 made.before made.after old.supply
      (does.1.counts_are ∙ fresh.0) made.becomes) all)
  lives (Closed arrived number) old new fresh does all = subst (λ (s : RunState T). AllLived s.cells) (sym does.2) all
  lives (Allowed most) old new fresh does all = subst (λ (s : RunState T). AllLived s.cells) (sym does) all
  lives (MadeRound cell now acts how) old new fresh does all =
      let made = does.0 in
      let goes = made.becomes in
      let first = subst Lived goes.here (at_cell Lived old.cells cell made.before all made.has) in
      subst AllLived (sym made.is)
      (All-set Lived old.cells cell made.after
      (left how goes.behind made.after goes.leaves
      (lives_on (Calls group seen) Begins Leaves is_visiting (λ (p : PlaceState). p.group) counts given accepted now goes.service goes.behind old.supply new.supply first goes.round)) all)
  lives (Passed cell) old new fresh does all =
      let made = does.0 in
      subst AllLived (sym made.is) (All-set Lived old.cells cell made.after (subst Lived (sym made.becomes.1) tt) all)
  lives (RetiredDue now) old new fresh does all = subst (λ (s : RunState T). AllLived s.cells) (sym does.1) all
  lives (Called slot) old new fresh does all = subst (λ (s : RunState T). AllLived s.cells) (sym does) all
  lives (Notified most others) old new fresh does all = subst (λ (s : RunState T). AllLived s.cells) (sym does.1) all
  lives NotifiedAll old new fresh does all = subst (λ (s : RunState T). AllLived s.cells) (sym does) all
  lives (Waited at_most now drains) old new fresh does all = subst (λ (s : RunState T). AllLived s.cells) (sym does.2) all

  -- **Each connection has its life in the run**: at each state of it, the connection in a cell was led there by rounds from its opening, with others between them
  pub lives_all : (deeds : List (Deed T)) (old new : RunState T) → AllByRecursion (λ (arrived : ArrivedState T). counts arrived.transport ≡ no_counts) (came_by deeds)
      → MakesAll group seen counts given accepted deeds old new → AllLived old.cells → AllLived new.cells
  lives_all [] old new fresh does all = subst (λ (s : RunState T). AllLived s.cells) (sym does) all
  lives_all (deed ∷ deeds) old new fresh does all =
      let parts = both_parts (λ (arrived : ArrivedState T). counts arrived.transport ≡ no_counts) (came_in deed) (came_by deeds) fresh in
      lives_all deeds does.0 new parts.1 does.2 (lives deed old does.0 parts.0 does.1 all)
