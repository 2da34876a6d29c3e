-- The events of a run fix its state, and an event may happen exactly where no reason is against it.
use Rattle.std.proofs.Common.{◌≡◌, ◌≢◌, ℕ, zero, suc, ◌<◌, ◌≤◌, ◌⊎◌, Bool, true, false, List, [], ◌∷◌, ◌++◌, take, drop, slice_get, Option, Some, None, IsSome, refl, sym, ap, ◌∙◌, subst, inl, inr, ⊎_elim, arith, take-append-drop}
use Rattle.std.proofs.lemmas.Bool.{cases_eq, cases_lt, false≢true}
use Rattle.std.proofs.lemmas.Option.{same_Some}
use Rattle.dispatch_core.specs.declared.event.Job.{Job}
use Rattle.dispatch_core.specs.declared.event.Event.{Event}
use Rattle.dispatch_core.specs.declared.event.Event.TheVariants.{Accept, First, Ack, Refuse, Discard, Back, Again, Close}
use Rattle.dispatch_core.specs.declared.event.Spot.{Spot}
use Rattle.dispatch_core.specs.declared.event.Spot.TheVariants.{Queued, Held, Acked, Refused, Discarded, Returned}
use Rattle.dispatch_core.specs.declared.error.Why.{Why}
use Rattle.dispatch_core.specs.declared.error.Why.TheVariants.{Range, Closed, NotQueued, NotOldest, NotHeld, NotReturned}
use Rattle.dispatch_core.specs.GroupState.{GroupState, spot_of, firsts_of, accepted_of, row_of, IsEmpty}
use Rattle.dispatch_core.specs.Step.{Moves, HandsOut, Step, MayHappen, IsInRange, IsReady, next_job}
use Rattle.dispatch_core.specs.Reasons.{Hinders}
use Rattle.dispatch_core.specs.History.{Leads, IsRun, StopsAt}
use Rattle.dispatch_core.specs.Mentions.{AreSame}
use Rattle.dispatch_core.proofs.Spots.{same_job}
use Rattle.dispatch_core.proofs.RunLaws.{leads_append, not_longer}

-- one job moves alike in two states that are the same
same_moves : (one other one_new other_new : GroupState) (job other_job : Job) (spot : Spot) → job ≡ other_job → ((j : Job) → spot_of other j ≡ spot_of one j) → Moves one job spot one_new → Moves other other_job spot other_new → (j : Job) → spot_of other_new j ≡ spot_of one_new j
same_moves one other one_new other_new job other_job spot jobs same moves other_moves j =
    ⊎_elim
    (λ (here : j ≡ job). ap (spot_of other_new) (here ∙ jobs) ∙ other_moves.there ∙ sym (ap (spot_of one_new) here ∙ moves.there))
    (λ (elsewhere : j ≢ job). other_moves.others j (λ e. elsewhere (e ∙ sym jobs)) ∙ same j ∙ sym (moves.others j elsewhere))
    (same_job j job)

pub same_next : (one other : GroupState) (port : ℕ) → ((j : Job) → spot_of other j ≡ spot_of one j) → next_job one port ≡ next_job other port
same_next one other port same =
    let at : ℕ → Job = λ number. record { port = port; number = number } in
    let more : accepted_of one port ≤ accepted_of other port = not_longer (row_of one port) (row_of other port) (λ number there. subst IsSome (sym (same (at number))) there) in
    let fewer : accepted_of other port ≤ accepted_of one port = not_longer (row_of other port) (row_of one port) (λ number there. subst IsSome (same (at number)) there) in
    let e : accepted_of one port ≡ accepted_of other port = omega arith in
    ap at e

same_hand_outs : (one other one_new other_new : GroupState) (member : ℕ) (job : Job) → ((m : ℕ) → firsts_of other m ≡ firsts_of one m) → HandsOut one member job one_new → HandsOut other member job other_new → (m : ℕ) → firsts_of other_new m ≡ firsts_of one_new m
same_hand_outs one other one_new other_new member job same hands other_hands m =
    ⊎_elim
    (λ (here : m ≡ member). ap (firsts_of other_new) here ∙ other_hands.last ∙ ap (λ js. js ++ job ∷ []) (same member) ∙ sym (ap (firsts_of one_new) here ∙ hands.last))
    (λ (elsewhere : m ≢ member). other_hands.others m elsewhere ∙ same m ∙ sym (hands.others m elsewhere))
    (cases_eq m member)

pub same_step : (one other one_new other_new : GroupState) (event : Event) → AreSame one other → Step one event one_new → Step other event other_new → AreSame one_new other_new
same_step one other one_new other_new (Accept port) same step other_step =
    record {
      spots = same_moves one other one_new other_new (next_job one port) (next_job other port) Queued (same_next one other port same.spots) same.spots step.made.0 other_step.made.0;
      firsts = λ m. other_step.made.1 m ∙ same.firsts m ∙ sym (step.made.1 m);
      mark = other_step.made.2 ∙ same.mark ∙ sym step.made.2;
    }
same_step one other one_new other_new (First member job) same step other_step =
    record {
      spots = same_moves one other one_new other_new job job (Held member) refl same.spots step.made.0 other_step.made.0;
      firsts = same_hand_outs one other one_new other_new member job same.firsts step.made.1 other_step.made.1;
      mark = other_step.made.2 ∙ same.mark ∙ sym step.made.2;
    }
same_step one other one_new other_new (Ack member job) same step other_step =
    record {
      spots = same_moves one other one_new other_new job job (Acked member) refl same.spots step.made.0 other_step.made.0;
      firsts = λ m. other_step.made.1 m ∙ same.firsts m ∙ sym (step.made.1 m);
      mark = other_step.made.2 ∙ same.mark ∙ sym step.made.2;
    }
same_step one other one_new other_new (Refuse member job) same step other_step =
    record {
      spots = same_moves one other one_new other_new job job (Refused member) refl same.spots step.made.0 other_step.made.0;
      firsts = λ m. other_step.made.1 m ∙ same.firsts m ∙ sym (step.made.1 m);
      mark = other_step.made.2 ∙ same.mark ∙ sym step.made.2;
    }
same_step one other one_new other_new (Discard member job) same step other_step =
    record {
      spots = same_moves one other one_new other_new job job (Discarded member) refl same.spots step.made.0 other_step.made.0;
      firsts = λ m. other_step.made.1 m ∙ same.firsts m ∙ sym (step.made.1 m);
      mark = other_step.made.2 ∙ same.mark ∙ sym step.made.2;
    }
same_step one other one_new other_new (Back member job) same step other_step =
    record {
      spots = same_moves one other one_new other_new job job Returned refl same.spots step.made.0 other_step.made.0;
      firsts = λ m. other_step.made.1 m ∙ same.firsts m ∙ sym (step.made.1 m);
      mark = other_step.made.2 ∙ same.mark ∙ sym step.made.2;
    }
same_step one other one_new other_new (Again member job) same step other_step =
    record {
      spots = same_moves one other one_new other_new job job (Held member) refl same.spots step.made.0 other_step.made.0;
      firsts = λ m. other_step.made.1 m ∙ same.firsts m ∙ sym (step.made.1 m);
      mark = other_step.made.2 ∙ same.mark ∙ sym step.made.2;
    }
same_step one other one_new other_new Close same step other_step =
    record {
      spots = λ j. other_step.made.0 j ∙ same.spots j ∙ sym (step.made.0 j);
      firsts = λ m. other_step.made.1 m ∙ same.firsts m ∙ sym (step.made.1 m);
      mark = other_step.made.2 ∙ sym step.made.2;
    }

same_leads : (one other one_new other_new : GroupState) (events : List Event) → AreSame one other → Leads one events one_new → Leads other events other_new → AreSame one_new other_new
same_leads one other one_new other_new [] same led other_led = subst (AreSame one_new) (sym other_led) (subst (λ s. AreSame s other) (sym led) same)
same_leads one other one_new other_new (event ∷ events) same led other_led =
    same_leads led.0 other_led.0 one_new other_new events (same_step one other led.0 other_led.0 event same led.1 other_led.1) led.2 other_led.2

pub same_start : (one other : GroupState) → IsEmpty one → IsEmpty other → AreSame one other
same_start one other empty other_empty =
    record {
      spots = λ j. other_empty.no_job j ∙ sym (empty.no_job j);
      firsts = λ m. other_empty.no_hand_out m ∙ sym (empty.no_hand_out m);
      mark = other_empty.not_closed ∙ sym empty.not_closed;
    }

pub one_state : (events : List Event) (one other : GroupState) → IsRun events one → IsRun events other → AreSame one other
one_state events one other run other_run = same_leads run.start other_run.start one other events (same_start run.start other_run.start run.empty other_run.empty) run.steps other_run.steps

-- what may happen in one state may happen in one that is the same
same_ready : (one other : GroupState) (event : Event) → ((j : Job) → spot_of other j ≡ spot_of one j) → IsReady other event → IsReady one event
same_ready one other (Accept port) same ready = tt
same_ready one other (First member job) same ready =
    (sym (same job) ∙ ready.0, λ older. ready.1 (older.0, older.1, same (record { port = job.port; number = older.0 }) ∙ older.2))
same_ready one other (Ack member job) same ready = sym (same job) ∙ ready
same_ready one other (Refuse member job) same ready = sym (same job) ∙ ready
same_ready one other (Discard member job) same ready = sym (same job) ∙ ready
same_ready one other (Back member job) same ready = sym (same job) ∙ ready
same_ready one other (Again member job) same ready = sym (same job) ∙ ready
same_ready one other Close same ready = tt

event_there : (events : List Event) (at : ℕ) (event : Event) → slice_get events at ≡ Some event → drop at events ≡ event ∷ drop (suc at) events
event_there [] at event there = absurd (let e : ◌≡◌ {A = Option Event} None (Some event) = there in cc)
event_there (first ∷ events) zero event there = ap (λ e. e ∷ events) (same_Some first event there)
event_there (first ∷ events) (suc at) event there = event_there events at event there

pub no_run : (events : List Event) (at : ℕ) (why : Why) → StopsAt events at why → (state : GroupState) → ¬ IsRun events state
no_run events at why stops state run =
    let parts = leads_append run.start state (take at events) (drop at events) (subst (λ es. Leads run.start es state) (sym (take-append-drop at events)) run.steps) in
    let next = subst (λ es. Leads parts.0 es state) (event_there events at stops.event stops.there) parts.2 in
    let before : IsRun (take at events) parts.0 = record { start = run.start; empty = run.empty; steps = parts.1 } in
    let same = one_state (take at events) stops.state parts.0 stops.before before in
    let may = next.1.may in
    stops.stuck.hindered (record {
      in_range = may.in_range;
      not_closed = λ needs. sym same.mark ∙ may.not_closed needs;
      ready = same_ready stops.state parts.0 stops.event same.spots may.ready;
    })

-- each reason is against the event
against : (state : GroupState) (event : Event) (why : Why) → MayHappen state event → ¬ Hinders state event why
against state event Range may hinders = hinders may.in_range
against state event Closed may hinders = false≢true (sym (may.not_closed hinders.0) ∙ hinders.1)
against state (First member job) NotQueued may hinders = hinders may.ready.0
against state (First member job) NotOldest may hinders = may.ready.1 hinders
against state (Ack member job) NotHeld may hinders = hinders may.ready
against state (Refuse member job) NotHeld may hinders = hinders may.ready
against state (Discard member job) NotHeld may hinders = hinders may.ready
against state (Back member job) NotHeld may hinders = hinders may.ready
against state (Again member job) NotReturned may hinders = hinders may.ready
against state (Accept port) NotQueued may hinders = hinders
against state (Accept port) NotOldest may hinders = hinders
against state (Accept port) NotHeld may hinders = hinders
against state (Accept port) NotReturned may hinders = hinders
against state (First member job) NotHeld may hinders = hinders
against state (First member job) NotReturned may hinders = hinders
against state (Ack member job) NotQueued may hinders = hinders
against state (Ack member job) NotOldest may hinders = hinders
against state (Ack member job) NotReturned may hinders = hinders
against state (Refuse member job) NotQueued may hinders = hinders
against state (Discard member job) NotQueued may hinders = hinders
against state (Refuse member job) NotOldest may hinders = hinders
against state (Discard member job) NotOldest may hinders = hinders
against state (Refuse member job) NotReturned may hinders = hinders
against state (Discard member job) NotReturned may hinders = hinders
against state (Back member job) NotQueued may hinders = hinders
against state (Back member job) NotOldest may hinders = hinders
against state (Back member job) NotReturned may hinders = hinders
against state (Again member job) NotQueued may hinders = hinders
against state (Again member job) NotOldest may hinders = hinders
against state (Again member job) NotHeld may hinders = hinders
against state Close NotQueued may hinders = hinders
against state Close NotOldest may hinders = hinders
against state Close NotHeld may hinders = hinders
against state Close NotReturned may hinders = hinders

-- whether a spot is this one can be told
same_spot : (one other : Spot) → (one ≡ other) ⊎ (one ≢ other)
same_spot Queued Queued = inl refl
same_spot Queued (Held other) = inr (λ e. cc)
same_spot Queued (Acked other) = inr (λ e. cc)
same_spot Queued (Refused other) = inr (λ e. cc)
same_spot Queued (Discarded other) = inr (λ e. cc)
same_spot Queued Returned = inr (λ e. cc)
same_spot (Held one) Queued = inr (λ e. cc)
same_spot (Held one) (Held other) = ⊎_elim (λ (same : one ≡ other). inl (ap Held same)) (λ (differs : one ≢ other). inr (λ e. differs (let m : one ≡ other = cc in m))) (cases_eq one other)
same_spot (Held one) (Acked other) = inr (λ e. cc)
same_spot (Held one) (Refused other) = inr (λ e. cc)
same_spot (Held one) (Discarded other) = inr (λ e. cc)
same_spot (Held one) Returned = inr (λ e. cc)
same_spot (Acked one) Queued = inr (λ e. cc)
same_spot (Acked one) (Held other) = inr (λ e. cc)
same_spot (Acked one) (Acked other) = ⊎_elim (λ (same : one ≡ other). inl (ap Acked same)) (λ (differs : one ≢ other). inr (λ e. differs (let m : one ≡ other = cc in m))) (cases_eq one other)
same_spot (Acked one) (Refused other) = inr (λ e. cc)
same_spot (Acked one) (Discarded other) = inr (λ e. cc)
same_spot (Acked one) Returned = inr (λ e. cc)
same_spot (Refused one) Queued = inr (λ e. cc)
same_spot (Refused one) (Held other) = inr (λ e. cc)
same_spot (Refused one) (Acked other) = inr (λ e. cc)
same_spot (Refused one) (Refused other) = ⊎_elim (λ (same : one ≡ other). inl (ap Refused same)) (λ (differs : one ≢ other). inr (λ e. differs (let m : one ≡ other = cc in m))) (cases_eq one other)
same_spot (Refused one) (Discarded other) = inr (λ e. cc)
same_spot (Refused one) Returned = inr (λ e. cc)
same_spot (Discarded one) Queued = inr (λ e. cc)
same_spot (Discarded one) (Held other) = inr (λ e. cc)
same_spot (Discarded one) (Acked other) = inr (λ e. cc)
same_spot (Discarded one) (Refused other) = inr (λ e. cc)
same_spot (Discarded one) (Discarded other) = ⊎_elim (λ (same : one ≡ other). inl (ap Discarded same)) (λ (differs : one ≢ other). inr (λ e. differs (let m : one ≡ other = cc in m))) (cases_eq one other)
same_spot (Discarded one) Returned = inr (λ e. cc)
same_spot Returned Queued = inr (λ e. cc)
same_spot Returned (Held other) = inr (λ e. cc)
same_spot Returned (Acked other) = inr (λ e. cc)
same_spot Returned (Refused other) = inr (λ e. cc)
same_spot Returned (Discarded other) = inr (λ e. cc)
same_spot Returned Returned = inl refl

spot_told : (o : Option Spot) (spot : Spot) → ¬ (¬ (o ≡ Some spot)) → o ≡ Some spot
spot_told None spot there = absurd (there (λ e. cc))
spot_told (Some one) spot there =
    ⊎_elim (λ (same : one ≡ spot). ap Some same) (λ (differs : one ≢ spot). absurd (there (λ e. differs (same_Some one spot e)))) (same_spot one spot)

small_told : (n bound : ℕ) → ¬ (¬ (n < bound)) → n < bound
small_told n bound there =
    ⊎_elim (λ (less : n < bound). less) (λ (more : bound ≤ n). absurd (there (λ less. let both : n < bound = less in omega arith))) (cases_lt n bound)

range_told : (event : Event) → ¬ (¬ IsInRange event) → IsInRange event
range_told (Accept port) there = small_told port 64 there
range_told (First member job) there = (small_told member 32 (λ large. there (λ range. large range.0)), small_told job.port 64 (λ large. there (λ range. large range.1)))
range_told (Ack member job) there = (small_told member 32 (λ large. there (λ range. large range.0)), small_told job.port 64 (λ large. there (λ range. large range.1)))
range_told (Refuse member job) there = (small_told member 32 (λ large. there (λ range. large range.0)), small_told job.port 64 (λ large. there (λ range. large range.1)))
range_told (Discard member job) there = (small_told member 32 (λ large. there (λ range. large range.0)), small_told job.port 64 (λ large. there (λ range. large range.1)))
range_told (Back member job) there = (small_told member 32 (λ large. there (λ range. large range.0)), small_told job.port 64 (λ large. there (λ range. large range.1)))
range_told (Again member job) there = (small_told member 32 (λ large. there (λ range. large range.0)), small_told job.port 64 (λ large. there (λ range. large range.1)))
range_told Close there = tt

ready_told : (state : GroupState) (event : Event) → ((why : Why) → ¬ Hinders state event why) → IsReady state event
ready_told state (Accept port) none = tt
ready_told state (First member job) none = (spot_told (spot_of state job) Queued (none NotQueued), none NotOldest)
ready_told state (Ack member job) none = spot_told (spot_of state job) (Held member) (none NotHeld)
ready_told state (Refuse member job) none = spot_told (spot_of state job) (Held member) (none NotHeld)
ready_told state (Discard member job) none = spot_told (spot_of state job) (Held member) (none NotHeld)
ready_told state (Back member job) none = spot_told (spot_of state job) (Held member) (none NotHeld)
ready_told state (Again member job) none = spot_told (spot_of state job) Returned (none NotReturned)
ready_told state Close none = tt

not_true : (b : Bool) → ¬ (b ≡ true) → b ≡ false
not_true true is = absurd (is refl)
not_true false is = refl

pub may_exactly : (state : GroupState) (event : Event) → (MayHappen state event → (why : Why) → ¬ Hinders state event why) × (((why : Why) → ¬ Hinders state event why) → MayHappen state event)
may_exactly state event = (
  λ may why. against state event why may,
  λ none. record {
    in_range = range_told event (none Range);
    not_closed = λ needs. not_true state.closed (λ closed. none Closed (needs, closed));
    ready = ready_told state event none;
  },
)
