-- A step of a connection, as the transcripts tell it: what holds along a run holds on.
use Rattle.std.proofs.Common.{◌≡◌, ◌≢◌, ◌⊎◌, ℕ, List, [], ◌∷◌, ◌++◌, Option, Some, None, Result, refl, sym, ap, subst, ◌∙◌, ⊎_elim}
use Rattle.std.specs.Prelude.{⊤}
use Rattle.std.specs.List.{AllByRecursion}
use Rattle.std.proofs.lemmas.Option.{same_Some}
use Rattle.group_jobs.specs.Stamps.{Held}
use Rattle.member_window.specs.Contents.{Contents, after_down}
use Rattle.member_window.specs.Marks.{Mark, Up, Down}
use Rattle.member_window.specs.Runs.{transcript_of as made_by}
use Rattle.session_desk.specs.declared.attached.Attached.{Attached}
use Rattle.session_desk.specs.declared.error.DeskError.{DeskError}
use Rattle.session_desk.specs.declared.session.Session.{Session}
use Rattle.conn_supply.specs.declared.reply.Then.{Then}
use Rattle.conn_supply.specs.declared.reply.Then.TheVariants.{Go}
use Rattle.conn_supply.specs.SupplyCalls.SupplyCall.{Attach, ParkAsIs}
use Rattle.conn_engine.specs.declared.input.Input.{Input}
use Rattle.conn_engine.specs.declared.phase.ConnectedClient.{ConnectedClient}
use Rattle.conn_engine.specs.Ending.{down}
use Rattle.conn_laws.specs.Marks.{IsWithin}
use Rattle.conn_laws.specs.Calls.{Outcome}
use Rattle.conn_laws.specs.Transcripts.{session_given, LeadsAside, AsksForOne, SessionBegins, SessionGoesOn, SessionEnds, AsksInVain, SessionSteps}
use Rattle.local_broker.specs.Places.{GroupPlace}
use Rattle.local_broker.specs.Broker.{Broker}
use Rattle.local_broker.specs.Calls.{Calls}
use Rattle.local_server.specs.ConnSteps.{ConnStep}
use Rattle.local_server.specs.Transcripts.{transcript_of, Begins, IsStepOf, session_of, place_of}
use Rattle.local_server.proofs.Windows.{Leads, IsUp, leads_on, leads_up, leads_down, leads_down_again, stays_up}
use Rattle.local_server.proofs.ConnSteps.{own_marks}
use Rattle.local_server.proofs.Lent.{IsLentTo}
use Rattle.local_server.proofs.Sessions.{with_connected, connected_here, with_same, IsLinked, StandsDown, KeepsSessions, IsInHand, aside, still_in_hand, given, handed_in, turned, quiet}
use Rattle.local_server.proofs.Asked.{lawful, led_aside, gives, gives_none, parked_as_is, handed_back}

-- what each connection has, by its number
abbrev pub Links : Type 0
Links = ℕ → Option (ConnectedClient GroupPlace)

-- whether a connection goes on, by what it has before a step and after it
abbrev pub GoesAs : Option (ConnectedClient GroupPlace) → Option (ConnectedClient GroupPlace) → Then → Type 0
GoesAs None None next = ⊤
GoesAs None (Some connected) next = next ≡ Go
GoesAs (Some connected) (Some connected') next = next ≡ Go
GoesAs (Some connected) None next = next ≢ Go

-- a step of this connection at this moment added these marks
pub record AddsStep (conn_steps : List ConnStep) (all_connected : Links) (number now : ℕ) (input : Input) (next : Then) (marks : List (Mark Held)) (outcomes : List (Outcome GroupPlace)) (after : Option (ConnectedClient GroupPlace)) (new : Broker)
    : Type 0 where
  pub conn_step : ConnStep
  pub whose : conn_step.connection ≡ number
  pub at_is : conn_step.at ≡ now
  pub input_is : conn_step.input ≡ input
  pub next_is : conn_step.next ≡ next
  pub place_is : conn_step.place ≡ place_of after
  pub marks_are : conn_step.marks ≡ marks
  pub outcomes_are : conn_step.outcomes ≡ outcomes
  pub session : (connected : ConnectedClient GroupPlace) → all_connected number ≡ Some connected → conn_step.session ≡ connected.session.identity.number
  pub session_then : (connected : ConnectedClient GroupPlace) → after ≡ Some connected → conn_step.session ≡ connected.session.identity.number
  pub keeps : KeepsSessions (conn_steps ++ conn_step ∷ []) new.desk (with_connected all_connected number after)

-- the marks of the step lead on from where the session was
leads_there : (conn_steps : List ConnStep) (conn_step : ConnStep) (marks : List (Mark Held)) (window : Contents Held) → conn_step.marks ≡ marks
    → Leads (transcript_of conn_step.session conn_steps ++ marks) window
    → Leads (transcript_of conn_step.session (conn_steps ++ conn_step ∷ [])) window
leads_there conn_steps conn_step marks window are leads =
    subst (λ (m : List (Mark Held)). Leads m window)
    (sym (own_marks conn_step.session conn_steps conn_step refl ∙ ap (λ (m : List (Mark Held)). transcript_of conn_step.session conn_steps ++ m) are)) leads

step_aside : (conn_steps : List ConnStep) (old new : Broker) (all_connected : Links) → LeadsAside Calls old new → KeepsSessions conn_steps old.desk all_connected → KeepsSessions conn_steps new.desk all_connected
step_aside conn_steps old new all_connected leads was = let rows = led_aside old new leads was.law in aside conn_steps old.desk new.desk all_connected rows.0 rows.1 was

-- a session is asked for, and given
record Got (conn_steps : List ConnStep) (all_connected : Links) (number : ℕ) (session : Session Held GroupPlace) (new : Broker) : Type 0 where
  keeps : KeepsSessions conn_steps new.desk all_connected
  in_hand : IsInHand conn_steps new.desk number session

gets : (conn_steps : List ConnStep) (old mid : Broker) (all_connected : Links) (number : ℕ) (answer : Result (Attached Held GroupPlace) DeskError) (session : Session Held GroupPlace)
    → session_given answer ≡ Some session → AsksForOne Calls old number answer mid → KeepsSessions conn_steps old.desk all_connected → Got conn_steps all_connected number session mid
gets conn_steps old mid all_connected number answer session is asks was =
    let before = step_aside conn_steps old asks.before all_connected asks.aside was in
    let gave = gives asks.before mid asks.request number answer session asks.whose is before.law asks.asked in
    let both = given conn_steps asks.before.desk mid.desk all_connected number session gave (lawful (Attach asks.request answer) asks.before mid asks.asked before.law) before in
    record { keeps = both.0; in_hand = both.1 }

got_aside : (conn_steps : List ConnStep) (mid new : Broker) (all_connected : Links) (number : ℕ) (session : Session Held GroupPlace) → LeadsAside Calls mid new
    → Got conn_steps all_connected number session mid
    → Got conn_steps all_connected number session new
got_aside conn_steps mid new all_connected number session leads got =
    let rows = led_aside mid new leads got.keeps.law in
    record { keeps = aside conn_steps mid.desk new.desk all_connected rows.0 rows.1 got.keeps; in_hand = still_in_hand conn_steps mid.desk new.desk number session rows.0 got.in_hand }

-- what the connection has then stands where its transcript leads
has_connected : (conn_steps : List ConnStep) (conn_step : ConnStep) (new : Broker) (connected : ConnectedClient GroupPlace) → conn_step.session ≡ connected.session.identity.number
    → IsLentTo new.desk.rows conn_step.session conn_step.connection
    → Leads (transcript_of conn_step.session (conn_steps ++ conn_step ∷ [])) connected.session.window → IsUp connected.session.window
    → (other : ConnectedClient GroupPlace) → Some connected ≡ Some other → IsLinked (conn_steps ++ conn_step ∷ []) new.desk.rows conn_step.connection other
has_connected conn_steps conn_step new connected its holds leads up other is =
    subst (λ (l : ConnectedClient GroupPlace). IsLinked (conn_steps ++ conn_step ∷ []) new.desk.rows conn_step.connection l) (same_Some connected other is)
    (record {
      holds = subst (λ (n : ℕ). IsLentTo new.desk.rows n conn_step.connection) its holds;
      leads = subst (λ (n : ℕ). Leads (transcript_of n (conn_steps ++ conn_step ∷ [])) connected.session.window) its leads;
      up = up;
    })

begins : (conn_steps : List ConnStep) (old new : Broker) (all_connected : Links) (number now : ℕ) (input : Input) (next : Then) (connected : ConnectedClient GroupPlace) (marks : List (Mark Held)) (outcomes : List (Outcome GroupPlace))
    → SessionBegins Calls old number connected marks new → next ≡ Go
    → all_connected number ≡ None → KeepsSessions conn_steps old.desk all_connected → AddsStep conn_steps all_connected number now input next marks outcomes (Some connected) new
begins conn_steps old new all_connected number now input next connected marks outcomes begin on free was =
    let session = begin.session in
    let got = got_aside conn_steps begin.mid new all_connected number session begin.aside (gets conn_steps old begin.mid all_connected number begin.answer session begin.given begin.asks was) in
    let conn_step : ConnStep = record { connection = number; at = now; input = input; next = next; session = session.identity.number; place = place_of (Some connected); marks = marks; outcomes = outcomes } in
    let its : session.identity.number ≡ connected.session.identity.number = ap (λ w. w.number) (sym begin.same) in
    let up =
    leads_up (transcript_of session.identity.number conn_steps) connected.terms.receive_maximum session.window connected.session.window begin.calls got.in_hand.stands.leads begin.within begin.made in
    let leads = leads_there conn_steps conn_step (Up connected.terms.receive_maximum ∷ made_by begin.calls) connected.session.window begin.marks_are up.0 in
    let is_conn_step : IsStepOf (session_of (all_connected number)) conn_step (Some connected.session.identity.number) =
    subst (λ (l : Option (ConnectedClient GroupPlace)). IsStepOf (session_of l) conn_step (Some connected.session.identity.number)) (sym free)
    (its, subst Begins (sym begin.marks_are) begin.within, on) in
    record {
      conn_step = conn_step;
      whose = refl;
      at_is = refl;
      input_is = refl;
      next_is = refl;
      place_is = refl;
      marks_are = refl;
      outcomes_are = refl;
      session = λ other has. absurd (cc);
      session_then = λ other is. its ∙ ap (λ (l : ConnectedClient GroupPlace). l.session.identity.number) (same_Some connected other is);
      keeps = turned conn_steps conn_step new.desk all_connected (Some connected) got.keeps got.in_hand.holds is_conn_step leads.legal (has_connected conn_steps conn_step new connected its got.in_hand.holds leads up.1);
    }

goes_on : (conn_steps : List ConnStep) (old new : Broker) (all_connected : Links) (number now : ℕ) (input : Input) (next : Then) (connected connected' : ConnectedClient GroupPlace) (marks : List (Mark Held)) (outcomes : List (Outcome GroupPlace))
    → SessionGoesOn Calls old connected connected' marks new → next ≡ Go
    → all_connected number ≡ Some connected → KeepsSessions conn_steps old.desk all_connected → AddsStep conn_steps all_connected number now input next marks outcomes (Some connected') new
goes_on conn_steps old new all_connected number now input next connected connected' marks outcomes goes on has was =
    let keeps = step_aside conn_steps old new all_connected goes.aside was in
    let had = keeps.has_connected number connected has in
    let conn_step : ConnStep = record { connection = number; at = now; input = input; next = next; session = connected.session.identity.number; place = place_of (Some connected'); marks = marks; outcomes = outcomes } in
    let its : connected.session.identity.number ≡ connected'.session.identity.number = ap (λ w. w.number) (sym goes.same) in
    let up = stays_up goes.calls connected.session.window connected'.session.window had.up (subst (AllByRecursion IsWithin) goes.marks_are goes.within) goes.made in
    let leads = leads_there conn_steps conn_step (made_by goes.calls) connected'.session.window goes.marks_are
    (leads_on (transcript_of connected.session.identity.number conn_steps) connected.session.window connected'.session.window goes.calls had.leads goes.made up.1) in
    let is_conn_step : IsStepOf (session_of (all_connected number)) conn_step (Some connected'.session.identity.number) =
    subst (λ (l : Option (ConnectedClient GroupPlace)). IsStepOf (session_of l) conn_step (Some connected'.session.identity.number)) (sym has) (refl, sym its, goes.within, on) in
    record {
      conn_step = conn_step;
      whose = refl;
      at_is = refl;
      input_is = refl;
      next_is = refl;
      place_is = refl;
      marks_are = refl;
      outcomes_are = refl;
      session = λ other is. ap (λ (l : ConnectedClient GroupPlace). l.session.identity.number) (same_Some connected other (sym has ∙ is));
      session_then = λ other is. its ∙ ap (λ (l : ConnectedClient GroupPlace). l.session.identity.number) (same_Some connected' other is);
      keeps = turned conn_steps conn_step new.desk all_connected (Some connected') keeps had.holds is_conn_step leads.legal (has_connected conn_steps conn_step new connected' its had.holds leads up);
    }

-- the session is handed in
ends : (conn_steps : List ConnStep) (old new : Broker) (all_connected : Links) (number now : ℕ) (input : Input) (next : Then) (connected : ConnectedClient GroupPlace) (marks : List (Mark Held)) (outcomes : List (Outcome GroupPlace))
    → SessionEnds Calls old connected marks new → next ≢ Go
    → all_connected number ≡ Some connected → KeepsSessions conn_steps old.desk all_connected → AddsStep conn_steps all_connected number now input next marks outcomes None new
ends conn_steps old new all_connected number now input next connected marks outcomes end stops has was =
    let had = was.has_connected number connected has in
    let n = connected.session.identity.number in
    let conn_step : ConnStep = record { connection = number; at = now; input = input; next = next; session = n; place = None; marks = marks; outcomes = outcomes } in
    let more : List ConnStep = conn_steps ++ conn_step ∷ [] in
    let leads = leads_there conn_steps conn_step (Down ∷ []) (after_down connected.session.window) end.marks_are (leads_down (transcript_of n conn_steps) connected.session.window had.leads) in
    let is_conn_step : IsStepOf (session_of (all_connected number)) conn_step None =
    subst (λ (l : Option (ConnectedClient GroupPlace)). IsStepOf (session_of l) conn_step None) (sym has) (refl, end.marks_are, stops) in
    let left = turned conn_steps conn_step old.desk all_connected None was had.holds is_conn_step leads.legal (λ (l : ConnectedClient GroupPlace) (is : None ≡ Some l). absurd (cc)) in
    let rows = led_aside old end.before end.aside was.law in
    let before = aside more old.desk end.before.desk (with_connected all_connected number None) rows.0 rows.1 left in
    let its : n ≡ end.session.identity.number = ap (λ w. w.number) (sym end.same) in
    let in_hand : IsInHand more end.before.desk number end.session = record {
      holds = subst (λ (k : ℕ). IsLentTo end.before.desk.rows k number) its (rows.0.lent n number had.holds);
      stands =
          subst (λ (w : Contents Held). StandsDown more end.session.identity.number w) (sym end.is_down)
          (record { leads = subst (λ (k : ℕ). Leads (transcript_of k more) (after_down connected.session.window)) its leads; down = refl });
    } in
    let hands = handed_back end.before end.behind end.session end.handed_in rows.1 in
    let behind = handed_in more end.before.desk end.behind.desk (with_connected all_connected number None) number end.session hands.0 hands.1 in_hand (connected_here all_connected number None) before in
    record {
      conn_step = conn_step;
      whose = refl;
      at_is = refl;
      input_is = refl;
      next_is = refl;
      place_is = refl;
      marks_are = refl;
      outcomes_are = refl;
      session = λ other is. ap (λ (l : ConnectedClient GroupPlace). l.session.identity.number) (same_Some connected other (sym has ∙ is));
      session_then = λ other is. absurd (cc);
      keeps = step_aside more end.behind new (with_connected all_connected number None) end.later behind;
    }

-- a connection has no session, and gets none
returned : (conn_steps : List ConnStep) (mid behind : Broker) (all_connected : Links) (number : ℕ) (session : Session Held GroupPlace) → Calls mid (ParkAsIs (down session)) behind
    → all_connected number ≡ None
    → Got conn_steps all_connected number session mid → KeepsSessions conn_steps behind.desk all_connected
returned conn_steps mid behind all_connected number session parks free got =
    let stood = got.in_hand.stands in
    let in_hand : IsInHand conn_steps mid.desk number (down session) = record {
      holds = got.in_hand.holds;
      stands = record { leads = leads_down_again (transcript_of session.identity.number conn_steps) session.window stood.leads stood.down; down = refl };
    } in
    let hands = parked_as_is mid behind (down session) parks got.keeps.law in
    handed_in conn_steps mid.desk behind.desk all_connected number (down session) hands.0 hands.1 in_hand free got.keeps

vain : (conn_steps : List ConnStep) (old new : Broker) (all_connected : Links) (number : ℕ) → AsksInVain Calls old number new → all_connected number ≡ None → KeepsSessions conn_steps old.desk all_connected
    → KeepsSessions conn_steps new.desk all_connected
vain conn_steps old new all_connected number asked free was =
    ⊎_elim
    (λ (none : (session_given asked.answer ≡ None) × LeadsAside Calls asked.mid new).
    let asks = asked.asks in
    let before = step_aside conn_steps old asks.before all_connected asks.aside was in
    let law = lawful (Attach asks.request asked.answer) asks.before asked.mid asks.asked before.law in
    step_aside conn_steps asked.mid new all_connected none.1
    (aside conn_steps asks.before.desk asked.mid.desk all_connected (gives_none asks.before asked.mid asks.request asked.answer none.0 asks.asked) law before))
    (λ back.
    let got = gets conn_steps old asked.mid all_connected number asked.answer back.0 (ap session_given back.2) asked.asks was in
    step_aside conn_steps back.1 new all_connected back.4 (returned conn_steps asked.mid back.1 all_connected number back.0 back.3 free got))
    asked.vain

nothing : (conn_steps : List ConnStep) (old new : Broker) (all_connected : Links) (number now : ℕ) (input : Input) (next : Then) (marks : List (Mark Held)) (outcomes : List (Outcome GroupPlace))
    → (marks ≡ []) × (LeadsAside Calls old new ⊎ AsksInVain Calls old number new)
    → all_connected number ≡ None → KeepsSessions conn_steps old.desk all_connected → AddsStep conn_steps all_connected number now input next marks outcomes None new
nothing conn_steps old new all_connected number now input next marks outcomes none free was =
    let keeps : KeepsSessions conn_steps new.desk all_connected =
    ⊎_elim
    (λ (leads : LeadsAside Calls old new). step_aside conn_steps old new all_connected leads was)
    (λ (asked : AsksInVain Calls old number new). vain conn_steps old new all_connected number asked free was)
    none.1 in
    let conn_step : ConnStep = record { connection = number; at = now; input = input; next = next; session = 0; place = None; marks = marks; outcomes = outcomes } in
    record {
      conn_step = conn_step;
      whose = refl;
      at_is = refl;
      input_is = refl;
      next_is = refl;
      place_is = refl;
      marks_are = refl;
      outcomes_are = refl;
      session = λ other has. absurd (cc);
      session_then = λ other is. absurd (cc);
      keeps = subst (λ (l : Links). KeepsSessions (conn_steps ++ conn_step ∷ []) new.desk l) (sym (with_same all_connected number None free)) (quiet conn_steps conn_step new.desk all_connected none.0 free keeps);
    }

pub adds_step : (before after : Option (ConnectedClient GroupPlace)) (conn_steps : List ConnStep) (old new : Broker) (all_connected : Links) (number now : ℕ) (input : Input) (next : Then)
    (marks : List (Mark Held)) (outcomes : List (Outcome GroupPlace)) → SessionSteps Calls old number before after marks new → GoesAs before after next → all_connected number ≡ before → KeepsSessions conn_steps old.desk all_connected
    → AddsStep conn_steps all_connected number now input next marks outcomes after new
adds_step None None conn_steps old new all_connected number now input next marks outcomes conn_steps_it goes has was = nothing conn_steps old new all_connected number now input next marks outcomes conn_steps_it has was
adds_step None (Some connected) conn_steps old new all_connected number now input next marks outcomes conn_steps_it goes has was = begins conn_steps old new all_connected number now input next connected marks outcomes conn_steps_it goes has was
adds_step (Some connected) (Some connected') conn_steps old new all_connected number now input next marks outcomes conn_steps_it goes has was = goes_on conn_steps old new all_connected number now input next connected connected' marks outcomes conn_steps_it goes has was
adds_step (Some connected) None conn_steps old new all_connected number now input next marks outcomes conn_steps_it goes has was = ends conn_steps old new all_connected number now input next connected marks outcomes conn_steps_it goes has was
