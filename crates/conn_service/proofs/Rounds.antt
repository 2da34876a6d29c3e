-- Parts of a round, one after the other.
use Rattle.std.proofs.Common.{◌≡◌, ◌≢◌, ◌⊎◌, ℕ, ◌<◌, Bool, true, List, [], ◌∷◌, length, length-append, Option, refl, sym, ap, ◌∙◌, inl, inr, arith}
use Rattle.transport.specs.declared.counts.Counts.{Counts}
use Rattle.transport.specs.declared.answers.Put.{Put}
use Rattle.transport.specs.declared.answers.Put.TheVariants as put
use Rattle.transport.specs.declared.answers.Got.{Got}
use Rattle.conn_supply.specs.SupplyCalls.{SupplyCall}
use Rattle.conn_engine.specs.declared.phase.ConnPhase.TheVariants.{Ended}
use Rattle.client_table.specs.Clients.{ClientState}
use Rattle.conn_service.specs.Services.{ServiceState, IdlesTick, KeepsIdles}
use Rattle.conn_service.specs.Acts.{Reads, Writes, Enters, Leaves}
use Rattle.conn_service.specs.Visits.{Stand, Outside, Behind, Inside}
use Rattle.conn_service.specs.Moments.{still_drained}
use Rattle.conn_service.specs.Edges.{ReadsOnce, WritesOnce, LeadsAtEdge}
use Rattle.conn_service.specs.Lives.{Leads}
use Rattle.conn_service.proofs.Leading.{edge_one, edge_on, leads_one, leads_on, leads_at_edge}

-- ticks before and after which no read gave nothing
pub idles_between : {P T : Type 0} (counts : T → Counts) (now : ℕ) (a b c d : ServiceState P T) → KeepsIdles counts a b → IdlesTick counts now b c → KeepsIdles counts c d → IdlesTick counts now a d
idles_between counts now a b c d first ticks last =
    λ changed. last.1 ∙ ticks (λ same. changed (last.0 ∙ same ∙ first.0))

pub idles_before : {P T : Type 0} (counts : T → Counts) (now : ℕ) (a b c : ServiceState P T) → KeepsIdles counts a b → IdlesTick counts now b c → IdlesTick counts now a c
idles_before counts now a b c first ticks = λ changed. ticks (λ same. changed (same ∙ first.0))

pub idles_behind : {P T : Type 0} (counts : T → Counts) (now : ℕ) (a b c : ServiceState P T) → IdlesTick counts now a b → KeepsIdles counts b c → IdlesTick counts now a c
idles_behind counts now a b c ticks last = λ changed. last.1 ∙ ticks (λ same. changed (last.0 ∙ same))

pub idles_kept : {P T : Type 0} (counts : T → Counts) (now : ℕ) (a b : ServiceState P T) → KeepsIdles counts a b → IdlesTick counts now a b
idles_kept counts now a b kept = λ changed. absurd (changed kept.0)

none_or_some : (waits : List ℕ) → (waits ≡ []) ⊎ (waits ≢ [])
none_or_some [] = inl refl
none_or_some (byte ∷ bytes) = inr (λ none. cc none)

-- a Tick in a visit is one of the round
pub ticks_on : {P T : Type 0} (now : ℕ) (sent visited written new : ServiceState P T) → (sent.outgoing ≢ [] → visited.outgoing ≢ []) → (sent.outgoing ≢ [] → written ≡ visited)
    → (sent.outgoing ≡ [] → (visited.client.conn.phase ≡ Ended) ⊎ (visited.ticked ≡ now)) → new ≡ written → written.client ≡ visited.client → written.ticked ≡ visited.ticked
    → (new.outgoing ≡ [] → new.client.conn.phase ≢ Ended) → new.outgoing ≡ [] → new.ticked ≡ now
ticks_on {P} {T} now sent visited written new waits unasked ticks is client_is ticked_is not_over none = by (none_or_some sent.outgoing) where
  behind : (visited.client.conn.phase ≡ Ended) ⊎ (visited.ticked ≡ now) → new.ticked ≡ now
  behind (inl over) = absurd (not_over none (ap (λ (s : ServiceState P T). s.client.conn.phase) is ∙ ap (λ (its : ClientState P). its.conn.phase) client_is ∙ over))
  behind (inr ticked) = ap (λ (s : ServiceState P T). s.ticked) is ∙ ticked_is ∙ ticked

  by : (sent.outgoing ≡ []) ⊎ (sent.outgoing ≢ []) → new.ticked ≡ now
  by (inl nothing) = behind (ticks nothing)
  by (inr some) = absurd (waits some (sym (ap (λ (s : ServiceState P T). s.outgoing) (is ∙ unasked some)) ∙ none))

module _ {P T : Type 0} (counts : T → Counts) (given accepted : T → Option (List ℕ)) where
  -- one write more
  unfoldable pub writes_on : (now : ℕ) (put : Put) (old mid new : ServiceState P T) → LeadsAtEdge counts given accepted now Outside old mid → WritesOnce counts given accepted now put mid new
      → LeadsAtEdge counts given accepted now Outside old new
  writes_on now put old mid new led writes = edge_on counts given accepted old mid new led (edge_one counts given accepted (Writes now put) mid new writes (refl, inl refl))

  -- a write that takes something leaves less
  pub less_waits : (now count : ℕ) (old new : ServiceState P T) → WritesOnce counts given accepted now (put.Wrote count) old new → length new.outgoing < length old.outgoing
  less_waits now count old new writes =
      let whole = ap length writes.front in let both = length-append writes.taken new.outgoing in let taken = writes.count in let some = writes.some in omega arith

module _ {S P T : Type 0} (call : S → SupplyCall P → S → Type 0) (begins ends : S → S → Type 0) (visiting : S → Bool) (slot_of : P → ℕ)
    (counts : T → Counts) (given accepted : T → Option (List ℕ)) where
  -- acts towards the transport, and then others
  unfoldable pub edge_then : {now : ℕ} {a b : Stand} (old mid new : ServiceState P T) (supply supply' : S) → LeadsAtEdge counts given accepted now a old mid
      → Leads call begins ends visiting slot_of counts given accepted now a b mid supply new supply' → Leads call begins ends visiting slot_of counts given accepted now a b old supply new supply'
  edge_then old mid new supply supply' edge led =
      leads_on call begins ends visiting slot_of counts given accepted old mid new supply supply supply' (leads_at_edge call begins ends visiting slot_of counts given accepted old mid supply edge) led

  unfoldable pub then_edge : {now : ℕ} {a b : Stand} (old mid new : ServiceState P T) (supply supply' : S) → Leads call begins ends visiting slot_of counts given accepted now a b old supply mid supply'
      → LeadsAtEdge counts given accepted now b mid new → Leads call begins ends visiting slot_of counts given accepted now a b old supply new supply'
  then_edge old mid new supply supply' led edge =
      leads_on call begins ends visiting slot_of counts given accepted old mid new supply supply' supply' led (leads_at_edge call begins ends visiting slot_of counts given accepted mid new supply' edge)

  -- a read, and then others
  unfoldable pub read_then : {now : ℕ} {to : Stand} (size : ℕ) (got : Got) (bytes : List ℕ) (old mid new : ServiceState P T) (supply supply' : S) → ReadsOnce counts given accepted size got bytes old mid
      → Leads call begins ends visiting slot_of counts given accepted now (Inside true) to mid supply new supply' → Leads call begins ends visiting slot_of counts given accepted now (Inside true) to old supply new supply'
  read_then size got bytes old mid new supply supply' reads led = edge_then old mid new supply supply' (edge_one counts given accepted (Reads size got bytes) old mid reads (refl, refl)) led

  -- a visit: what is done in it stands between its beginning and its end
  unfoldable pub visited : {now : ℕ} (is_open reads drained : Bool) (old inside new : ServiceState P T) (supply between mid supply' : S) → inside ≡ old → drained ≡ still_drained reads inside.drained
      → begins supply between → visiting between ≡ is_open
      → Leads call begins ends visiting slot_of counts given accepted now (Inside is_open) (Inside is_open) (record inside { drained = drained }) between new mid → ends mid supply'
      → Leads call begins ends visiting slot_of counts given accepted now Outside Behind old supply new supply'
  visited {now = now} is_open reads drained old inside new supply between mid supply' is fades entered told led left =
      let begun = record inside { drained = drained } in
      leads_on call begins ends visiting slot_of counts given accepted {now = now} {a = Outside} {b = Inside is_open} {c = Behind} old begun new supply between supply'
      (leads_one call begins ends visiting slot_of counts given accepted {now = now} {from = Outside} {to = Inside is_open} (Enters is_open reads) old begun supply between
      (record {
        begun = entered;
        told = told;
        becomes = λ i. record (is i) { drained = (fades ∙ ap (λ (s : ServiceState P T). still_drained reads s.drained) is) i };
      }) (inl refl))
      (leads_on call begins ends visiting slot_of counts given accepted {now = now} {a = Inside is_open} {b = Inside is_open} {c = Behind} begun new new between mid supply' led
      (leads_one call begins ends visiting slot_of counts given accepted {now = now} {from = Inside is_open} {to = Behind} Leaves new new mid supply' (record { ended = left; same = refl }) refl))
