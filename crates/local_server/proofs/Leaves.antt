-- Between any two steps of a connection: who left its group is handed nothing.
use Rattle.std.proofs.Common.{◌≡◌, ◌≢◌, ◌⊎◌, ℕ, nat_eq, Bool, true, false, List, [], ◌∷◌, ◌++◌, Option, Some, None, refl, sym, ap, subst, ◌∙◌, inl, inr, ⊎_elim}
use Rattle.std.specs.List.{AllByRecursion}
use Rattle.std.proofs.lemmas.List.Elements.{filter-append}
use Rattle.conn_rules.specs.Connecting.{inflight_alone}
use Rattle.conn_supply.specs.declared.reply.Then.TheVariants.{Go}
use Rattle.conn_engine.specs.declared.phase.Opening.{Opening}
use Rattle.conn_engine.specs.declared.phase.ConnPhase.{ConnPhase}
use Rattle.conn_engine.specs.declared.phase.ConnPhase.TheVariants.{Ended}
use Rattle.conn_laws.proofs.Ended.{ends}
use Rattle.client_table.specs.Clients.{ClientState, StepOutput}
use Rattle.local_broker.specs.Places.{GroupPlace}
use Rattle.local_broker.specs.Broker.{is_open}
use Rattle.local_broker.specs.Calls.{Calls}
use Rattle.local_server.specs.declared.event.ServerEvent.{ServerEvent}
use Rattle.local_server.specs.declared.event.TimedEvent.{TimedEvent}
use Rattle.local_server.specs.Servers.{Clients, ServerState}
use Rattle.local_server.specs.Happening.{slot_of, HappensAll}
use Rattle.local_server.specs.Streams.{client_at}
use Rattle.local_server.specs.TakenSteps.{TakenStep, IsLawfulStep, steps_of, LeadPhase, phase_of, opens, first_phase, AreTakenIf, AllAreTaken}
use Rattle.local_server.specs.Unsubscribed.{HandsOutNothing, Joins, StaysOut, HandsNothingToWhoLeft}
use Rattle.local_server.proofs.TakenSteps.{all_lawful, lawful_of}
use Rattle.local_server.proofs.Unsubscribed.{IsOut, stays_out, goes_out}

-- the steps of a connection along a run: each begins where the one before it left the connection, unless that had ended and was opened again
abbrev LeadOn : ConnPhase GroupPlace → List TakenStep → ConnPhase GroupPlace → Type 0
LeadOn before [] after = (after ≡ before) ⊎ (before ≡ Ended)
LeadOn before (step ∷ steps) after = ((step.phase_before ≡ before) ⊎ (before ≡ Ended)) × LeadOn step.phase_after steps after

from_ended : (steps : List TakenStep) (before between after : ConnPhase GroupPlace) → before ≡ Ended → LeadOn between steps after → LeadOn before steps after
from_ended [] before between after over leads = inr over
from_ended (step ∷ steps) before between after over leads = (inr over, leads.1)

lead_on : (steps others : List TakenStep) (before mid after : ConnPhase GroupPlace) → LeadOn before steps mid → LeadOn mid others after → LeadOn before (steps ++ others) after
lead_on [] others before mid after these those =
    ⊎_elim (λ (same : mid ≡ before). subst (λ (s : ConnPhase GroupPlace). LeadOn s others after) same those) (λ (over : before ≡ Ended). from_ended others before mid after over those) these
lead_on (step ∷ steps) others before mid after these those = (these.0, lead_on steps others step.phase_after mid after these.1 those)

in_event : (steps : List TakenStep) (before after : ConnPhase GroupPlace) → LeadPhase before steps after → LeadOn before steps after
in_event [] before after leads = inl leads
in_event (step ∷ steps) before after leads = (inl leads.0, in_event steps step.phase_after after leads.1)

opened : (opened? : Bool) (opening : Opening) (before after : Option (ClientState GroupPlace)) (steps : List TakenStep) → LeadPhase (first_phase opened? opening before) steps (phase_of after)
    → LeadOn (phase_of before) steps (phase_of after)
opened true opening None after steps leads = from_ended steps Ended _ (phase_of after) refl (in_event steps _ (phase_of after) leads)
opened true opening (Some client) after steps leads = in_event steps client.conn.phase (phase_of after) leads
opened false opening before after steps leads = in_event steps (phase_of before) (phase_of after) leads

if_open : (open? : Bool) (event : ServerEvent) (old new : ServerState) (steps : List TakenStep) (number : ℕ) → AreTakenIf open? event old steps new
    → LeadOn (phase_of (client_at old.clients number)) (steps_of number steps) (phase_of (client_at new.clients number))
if_open true event old new steps number taken =
    opened (opens event number) (record { at = new.clock; limits = inflight_alone old.max_inflight }) (client_at old.clients number) (client_at new.clients number) (steps_of number steps) (taken.phases number)
if_open false event old new steps number taken =
    subst (λ (s : List TakenStep). LeadOn (phase_of (client_at old.clients number)) (steps_of number s) (phase_of (client_at new.clients number))) (sym taken.0)
    (inl (ap (λ (c : Clients). phase_of (client_at c number)) taken.2))

in_run : (events : List TimedEvent) (outputs : List StepOutput) (old new : ServerState) (number : ℕ) (run : HappensAll old events outputs new) (steps : List TakenStep)
    → AllAreTaken old events outputs new run steps → LeadOn (phase_of (client_at old.clients number)) (steps_of number steps) (phase_of (client_at new.clients number))
in_run [] outputs old new number run steps taken =
    subst (λ (s : List TakenStep). LeadOn (phase_of (client_at old.clients number)) (steps_of number s) (phase_of (client_at new.clients number))) (sym taken)
    (inl (ap (λ (s : ServerState). phase_of (client_at s.clients number)) run.1))
in_run (event ∷ others) outputs old new number run steps taken =
    let mid = run.0 in
    subst (λ (s : List TakenStep). LeadOn (phase_of (client_at old.clients number)) s (phase_of (client_at new.clients number)))
    (sym (ap (steps_of number) taken.4 ∙ filter-append (λ (step : TakenStep). nat_eq step.connection number) taken.0 taken.1))
    (lead_on (steps_of number taken.0) (steps_of number taken.1) (phase_of (client_at old.clients number)) (phase_of (client_at mid.clients number)) (phase_of (client_at new.clients number))
    (if_open (is_open old.broker) event.event old mid taken.0 number taken.2.lead) (in_run others run.2 mid new number run.4 taken.1 taken.3))

-- a step after which the connection goes on has not ended it
goes_on : (step : TakenStep) → IsLawfulStep step → step.next ≡ Go → step.phase_after ≢ Ended
goes_on step lawful on over =
    (ends Calls slot_of step.broker_before step.broker_after step.connection step.at step.phase_before step.phase_after step.input step.packets step.next lawful).0 over on

then_at : (before phase : ConnPhase GroupPlace) → before ≢ Ended → IsOut before → (phase ≡ before) ⊎ (before ≡ Ended) → IsOut phase
then_at before phase up out from = ⊎_elim (λ (same : phase ≡ before). subst IsOut (sym same) out) (λ (over : before ≡ Ended). absurd (up over)) from

-- from a step after which the client is no member, until the first by which it joins a group
along : (between later : List TakenStep) (step : TakenStep) (before after : ConnPhase GroupPlace) → before ≢ Ended → IsOut before → LeadOn before (between ++ step ∷ later) after
    → AllByRecursion IsLawfulStep (between ++ step ∷ later) → AllByRecursion StaysOut between → ¬ Joins step → HandsOutNothing step
along [] later step before after up out leads lawful stays no_join =
    (stays_out step lawful.0 (then_at before step.phase_before up out leads.0) no_join).1
along (first ∷ between) later step before after up out leads lawful stays no_join =
    let went = stays_out first lawful.0 (then_at before first.phase_before up out leads.0) stays.0.1 in
    along between later step first.phase_after after (goes_on first lawful.0 stays.0.0) went.0 leads.1 lawful.1 stays.1 no_join

-- what comes after the first of these
lawful_behind : (earlier later : List TakenStep) → AllByRecursion IsLawfulStep (earlier ++ later) → AllByRecursion IsLawfulStep later
lawful_behind [] later lawful = lawful
lawful_behind (step ∷ earlier) later lawful = lawful_behind earlier later lawful.1

leads_behind : (earlier later : List TakenStep) (left : TakenStep) (before after : ConnPhase GroupPlace) → LeadOn before (earlier ++ left ∷ later) after → LeadOn left.phase_after later after
leads_behind [] later left before after leads = leads.1
leads_behind (step ∷ earlier) later left before after leads = leads_behind earlier later left step.phase_after after leads.1

from_steps : (steps : List TakenStep) (before after : ConnPhase GroupPlace) → LeadOn before steps after → AllByRecursion IsLawfulStep steps → HandsNothingToWhoLeft steps
from_steps steps before after leads lawful =
    record {
      at_once = λ earlier later left are leaves.
          (goes_out left (lawful_behind earlier (left ∷ later) (subst (AllByRecursion IsLawfulStep) are lawful)).0 leaves).1;
      from_then = λ earlier between later left step are leaves stays no_join.
          let behind = lawful_behind earlier (left ∷ (between ++ step ∷ later)) (subst (AllByRecursion IsLawfulStep) are lawful) in
          along between later step left.phase_after after (goes_on left behind.0 leaves.goes_on) (goes_out left behind.0 leaves).0
          (leads_behind earlier (between ++ step ∷ later) left before after (subst (λ (s : List TakenStep). LeadOn before s after) are leads)) behind.1 stays no_join;
    }

pub in_whole_run : (events : List TimedEvent) (outputs : List StepOutput) (first last : ServerState) (run : HappensAll first events outputs last) (steps : List TakenStep)
    → AllAreTaken first events outputs last run steps → (number : ℕ) → HandsNothingToWhoLeft (steps_of number steps)
in_whole_run events outputs first last run steps taken number =
    from_steps (steps_of number steps) (phase_of (client_at first.clients number)) (phase_of (client_at last.clients number)) (in_run events outputs first last number run steps taken)
    (lawful_of number steps (all_lawful events outputs first last run steps taken))
