-- What acts tell, one after the other: that what waits is written first, that a read gave as much as there was room for, or that the transport took something.
use Rattle.std.proofs.Common.{◌≡◌, ◌≢◌, ◌⊎◌, ℕ, ◌+◌, ◌<◌, ◌≤◌, Bool, true, false, List, [], ◌∷◌, ◌++◌, Option, Some, None, Result, Ok, Err, IfOk, refl, sym, ap, subst, ◌∙◌, inl, inr, append-nil, arith}
use Rattle.std.proofs.lemmas.List.{nil_from_length}
use Rattle.std.proofs.lemmas.Bool.Decides.{nat_tests}
use Rattle.transport.specs.declared.counts.Counts.{Counts}
use Rattle.transport.specs.declared.answers.Got.{Got}
use Rattle.transport.specs.declared.answers.Got.TheVariants as got
use Rattle.transport.specs.declared.answers.Put.{Put}
use Rattle.transport.specs.declared.answers.Put.TheVariants as put
use Rattle.conn_engine.specs.declared.phase.ConnPhase.TheVariants.{Ended}
use Rattle.client_table.specs.Clients.{ClientState}
use Rattle.conn_service.specs.declared.served.Served.{Served}
use Rattle.conn_service.specs.Services.{ServiceState, HasNoMore, most_packets}
use Rattle.conn_service.specs.Acts.{Act, Reads, Writes, Enters, Leaves, BeginsByWriting, packets_in}
use Rattle.conn_service.specs.Visits.{Outside}
use Rattle.conn_service.specs.Edges.{ReadsOnce, WritesOnce, LeadsAtEdge}
use Rattle.conn_service.specs.Moments.{drained_by}
use Rattle.conn_service.specs.Advances.{IsFilled, IsTaken, HasAdvance, HasProgressed, HasForgotten, IsDoneOrAdvances, IsWrittenOn, WritesFirst, TellsOfVisit, LeadsAtEdgeBy}
use Rattle.conn_service.proofs.Counting.{packets_append}
use Rattle.conn_service.proofs.Leading.{edge_one, edge_on}
use Rattle.conn_service.proofs.Rounds.{writes_on}

has_first : (these those : List Act) → HasAdvance these → HasAdvance (these ++ those)
has_first [] those has = absurd has
has_first (act ∷ these) those (inl is) = inl is
has_first (act ∷ these) those (inr has) = inr (has_first these those has)

has_last : (these those : List Act) → HasAdvance those → HasAdvance (these ++ those)
has_last [] those has = has
has_last (act ∷ these) those has = inr (has_last these those has)

progressed_first : (these those : List Act) → HasProgressed these → HasProgressed (these ++ those)
progressed_first these those (inl has) = inl (has_first these those has)
progressed_first these those (inr many) = inr (omega (arith, packets_append these those, many))

progressed_last : (these those : List Act) → HasProgressed those → HasProgressed (these ++ those)
progressed_last these those (inl has) = inl (has_last these those has)
progressed_last these those (inr many) = inr (omega (arith, packets_append these those, many))

forgotten_first : (these those : List Act) → HasForgotten these → HasForgotten (these ++ those)
forgotten_first [] those has = absurd has
forgotten_first (act ∷ these) those (inl is) = inl is
forgotten_first (act ∷ these) those (inr has) = inr (forgotten_first these those has)

forgotten_last : (these those : List Act) → HasForgotten those → HasForgotten (these ++ those)
forgotten_last [] those has = has
forgotten_last (act ∷ these) those has = inr (forgotten_last these those has)

pub begins_first : (these those : List Act) → BeginsByWriting these → BeginsByWriting (these ++ those)
begins_first [] those begins = absurd begins
begins_first (act ∷ these) those begins = begins

filled : (size : ℕ) (got : Got) → 0 < size → drained_by got size ≡ false → IsFilled size got
filled size (got.Bytes count) some is = let more : size ≤ count = grind (arith, nat_tests) in (omega arith, more)
filled size got.Idle some is = cc is
filled size got.End some is = cc is
filled size got.Failed some is = cc is

either : (b : Bool) → (b ≡ true) ⊎ (b ≡ false)
either true = inl refl
either false = inr refl

-- nothing was done yet, or the first act was a write, and the transport took something
abbrev pub IsBegun : {P T : Type 0} → ServiceState P T → ServiceState P T → List Act → Type 0
IsBegun old new acts = ((new ≡ old) × (acts ≡ [])) ⊎ (BeginsByWriting acts × HasAdvance acts)

begins_on : {P T : Type 0} (now : ℕ) (its : Put) (old mid : ServiceState P T) (acts : List Act) → IsBegun old mid acts → BeginsByWriting (acts ++ Writes now its ∷ [])
begins_on now its old mid acts (inl nothing) = subst (λ (l : List Act). BeginsByWriting (l ++ Writes now its ∷ [])) (sym nothing.1) tt
begins_on now its old mid acts (inr begun) = begins_first acts (Writes now its ∷ []) begun.0

-- one write more, of which the transport took something
pub begun_on : {P T : Type 0} (now : ℕ) (its : Put) (old mid new : ServiceState P T) (acts : List Act) → IsTaken its → IsBegun old mid acts → IsBegun old new (acts ++ Writes now its ∷ [])
begun_on now its old mid new acts taken begun = inr (begins_on now its old mid acts begun, has_last acts (Writes now its ∷ []) (inl taken))

first_by : {P T : Type 0} (old new : ServiceState P T) (acts : List Act) → new.outgoing ≡ [] → IsBegun old new acts → WritesFirst old new acts
first_by old new acts none (inl nothing) = λ waits going. absurd (waits (sym (ap (λ s. s.outgoing) nothing.0) ∙ none))
first_by old new acts none (inr begun) = λ waits going. begun.0

written_by : {P T : Type 0} (old new : ServiceState P T) (acts : List Act) → IsBegun old new acts → IsWrittenOn old new acts
written_by old new acts (inl nothing) = λ going. inl nothing.0
written_by old new acts (inr begun) = λ going. inr (inl begun.1)

module _ {P T : Type 0} (counts : T → Counts) (given accepted : T → Option (List ℕ)) where
  abbrev pub Sends : ℕ → ServiceState P T → ServiceState P T → Type 0
  Sends now old new = LeadsAtEdgeBy counts given accepted (λ acts. WritesFirst old new acts × IsWrittenOn old new acts) now Outside old new

  -- all is written
  pub sends_all : (now : ℕ) (old new : ServiceState P T) (led : LeadsAtEdge counts given accepted now Outside old new) → IsBegun old new led.acts → new.outgoing ≡ [] → Sends now old new
  sends_all now old new led begun none = record { led = led; told = (first_by old new led.acts none begun, written_by old new led.acts begun) }

  -- a write of which it took nothing leaves what waits
  still_waits : (now : ℕ) (old new : ServiceState P T) → WritesOnce counts given accepted now put.Idle old new → new.outgoing ≢ []
  still_waits now old new writes = λ none.
      writes.waits (writes.front ∙ ap (λ (l : List ℕ). writes.taken ++ l) none ∙ append-nil writes.taken ∙ nil_from_length writes.taken writes.count)

  pub sends_some : (now : ℕ) (old mid new : ServiceState P T) (led : LeadsAtEdge counts given accepted now Outside old mid) → IsBegun old mid led.acts
      → WritesOnce counts given accepted now put.Idle mid new → Sends now old new
  unfolding writes_on edge_on edge_one
  sends_some now old mid new led begun writes = record {
    led = writes_on counts given accepted now put.Idle old mid new led writes;
    told = ((λ waits going. begins_on now put.Idle old mid led.acts begun), (λ going. inr (inr (still_waits now mid new writes))));
  }

  -- it has ended
  pub sends_ended : (now : ℕ) (old new : ServiceState P T) (how : Served) → LeadsAtEdge counts given accepted now Outside old new → new.ending ≡ Some how → Sends now old new
  sends_ended now old new how led ended = record { led = led; told = ((λ waits going. cc (ended, going)), (λ going. cc (ended, going))) }

  -- a read, and what is done after it
  pub read_told : (size : ℕ) (its : Got) (bytes : List ℕ) (old mid new : ServiceState P T) (rest : List Act) → ReadsOnce counts given accepted size its bytes old mid → 0 < size
      → new.drained ≡ mid.drained → IsDoneOrAdvances true new (Reads size its bytes ∷ rest)
  read_told size its bytes old mid new rest reads some same = λ none. read_by size its bytes old mid new rest reads some same (either mid.drained) where
    read_by : (size : ℕ) (its : Got) (bytes : List ℕ) (old mid new : ServiceState P T) (rest : List Act) → ReadsOnce counts given accepted size its bytes old mid → 0 < size
        → new.drained ≡ mid.drained → (mid.drained ≡ true) ⊎ (mid.drained ≡ false) → ((true ≡ true) × HasNoMore new) ⊎ HasProgressed (Reads size its bytes ∷ rest)
    read_by size its bytes old mid new rest reads some same (inl drained) = inl (refl, inl (same ∙ drained))
    read_by size its bytes old mid new rest reads some same (inr not_drained) =
        inr (inl (inl (filled size its some (sym (ap (λ (s : ServiceState P T). s.drained) reads.becomes) ∙ not_drained))))

module _ {P T : Type 0} where
  done_along : (all : Bool) (new last : ServiceState P T) (acts acts' : List Act) → new ≡ last → (HasProgressed acts → HasProgressed acts') → ((all ≡ true) × HasNoMore last) ⊎ HasProgressed acts
      → ((all ≡ true) × HasNoMore new) ⊎ HasProgressed acts'
  done_along all new last acts acts' is along (inl done) = inl (done.0, subst (λ (s : ServiceState P T). HasNoMore s) (sym is) done.1)
  done_along all new last acts acts' is along (inr has) = inr (along has)

  -- the end of the stream, after a read
  pub end_told : (read new : ServiceState P T) (before its behind : List Act) → (read.at_end ≡ false → IsDoneOrAdvances true read its)
      → (new.client.conn.phase ≡ Ended) ⊎ ((new ≡ read) × (read.at_end ≡ false)) → IsDoneOrAdvances true new ((before ++ its) ++ behind)
  end_told read new before its behind more (inl over) = λ none. inl (refl, inr (inl over))
  end_told read new before its behind more (inr same) = λ none.
      done_along true new read its ((before ++ its) ++ behind) same.0 (λ has. progressed_first (before ++ its) behind (progressed_last before its has))
      (more same.1 (sym (ap (λ (s : ServiceState P T). s.outgoing) same.0) ∙ none))

  -- what is done in a visit stands between its beginning and its end
  pub visit_told : (result : Result Bool Served) (is_open reads : Bool) (new : ServiceState P T) (acts : List Act) → reads ≡ true → IfOk result (λ all. IsDoneOrAdvances all new acts)
      → TellsOfVisit result new (Enters is_open reads ∷ (acts ++ Leaves ∷ []))
  visit_told (Ok all) is_open reads new acts is more =
      ((λ none. done_along all new new acts (Enters is_open reads ∷ (acts ++ Leaves ∷ [])) refl (λ has. progressed_last (Enters is_open reads ∷ []) (acts ++ Leaves ∷ []) (progressed_first acts (Leaves ∷ []) has)) (more none)), inr (inl is))
  visit_told (Err served) is_open reads new acts is more = tt

  -- a round: what waits is written before and after a visit
  round_done : (all : Bool) (visited written new : ServiceState P T) (a b c d : List Act) → IsDoneOrAdvances all visited b
      → (written ≡ visited) ⊎ (HasAdvance c ⊎ (written.outgoing ≢ [])) → new ≡ written → IsDoneOrAdvances all new (((a ++ b) ++ c) ++ d)
  round_done all visited written new a b c d more (inl same) is = λ none.
      done_along all new visited b (((a ++ b) ++ c) ++ d) (is ∙ same) (λ has. progressed_first ((a ++ b) ++ c) d (progressed_first (a ++ b) c (progressed_last a b has)))
      (more (sym (ap (λ (s : ServiceState P T). s.outgoing) (is ∙ same)) ∙ none))
  round_done all visited written new a b c d more (inr (inl advances)) is = λ none. inr (inl (has_first ((a ++ b) ++ c) d (has_last (a ++ b) c advances)))
  round_done all visited written new a b c d more (inr (inr waits)) is = λ none. absurd (waits (sym (ap (λ (s : ServiceState P T). s.outgoing) is) ∙ none))

  round_forgets : (visited written new : ServiceState P T) (a b c d : List Act) → (visited.client.conn.phase ≡ Ended) ⊎ HasForgotten b → new ≡ written → written.client ≡ visited.client
      → (new.outgoing ≡ [] → new.client.conn.phase ≢ Ended) → new.outgoing ≡ [] → HasForgotten (((a ++ b) ++ c) ++ d)
  round_forgets visited written new a b c d (inl over) is client_is not_over none =
      absurd (not_over none (ap (λ (s : ServiceState P T). s.client.conn.phase) is ∙ ap (λ (its : ClientState P). its.conn.phase) client_is ∙ over))
  round_forgets visited written new a b c d (inr forgotten) is client_is not_over none =
      forgotten_first ((a ++ b) ++ c) d (forgotten_first (a ++ b) c (forgotten_last a b forgotten))

  pub round_told : (all : Bool) (visited written new : ServiceState P T) (a b c d : List Act)
      → IsDoneOrAdvances all visited b × ((visited.client.conn.phase ≡ Ended) ⊎ HasForgotten b) → IsWrittenOn visited written c → written.ending ≡ None → new ≡ written
      → written.client ≡ visited.client → (new.outgoing ≡ [] → new.client.conn.phase ≢ Ended)
      → IsDoneOrAdvances all new (((a ++ b) ++ c) ++ d) × (new.outgoing ≡ [] → HasForgotten (((a ++ b) ++ c) ++ d))
  round_told all visited written new a b c d told on going is client_is not_over =
      (round_done all visited written new a b c d told.0 (on going) is, round_forgets visited written new a b c d told.1 is client_is not_over)

  told_by : (all : Bool) (new : ServiceState P T) (acts : List Act) → (all ≡ true → HasNoMore new → ⊥) → ((all ≡ true) × HasNoMore new) ⊎ HasProgressed acts → HasProgressed acts
  told_by all new acts more (inl done) = absurd (more done.0 done.1)
  told_by all new acts more (inr progressed) = progressed

  -- where no more may be stepped, something waits to be written, or as many were stepped as a round may step
  pub used_told : (new : ServiceState P T) (left : ℕ) (acts : List Act) → (new.outgoing ≢ []) ⊎ (left ≡ 0) → packets_in acts + left ≡ most_packets → IsDoneOrAdvances false new acts
  used_told new left acts (inl waits) counted = λ none. absurd (waits none)
  used_told new left acts (inr used) counted = λ none. inr (inr (omega (arith, used, counted)))

  -- it tells that more can be done only where it has got on
  pub told_more : (all : Bool) (new : ServiceState P T) (acts : List Act) → new.outgoing ≡ [] → (all ≡ true → HasNoMore new → ⊥) → IsDoneOrAdvances all new acts → HasProgressed acts
  told_more all new acts none more done = told_by all new acts more (done none)
