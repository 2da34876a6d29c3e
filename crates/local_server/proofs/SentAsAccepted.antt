-- What a step sends is what was accepted, under its stamp.
use Rattle.std.proofs.Common.{◌≡◌, ℕ, List, [], ◌∷◌, ◌++◌, filter_map, Option, Some, None, Contains, refl, sym, ap, subst, ◌∙◌, ⊎_elim}
use Rattle.mqtt_packet.specs.declared.packet.Packet.{Packet}
use Rattle.group_jobs.specs.Stamps.{Held}
use Rattle.member_window.specs.Contents.{held_of}
use Rattle.member_window.specs.Marks.{Mark, WindowState, window_down, window_after_all}
use Rattle.member_window.specs.Runs.{window_state}
use Rattle.member_window.specs.Transcript.{IsLegal}
use Rattle.member_window.proofs.Lists.{contains_nil}
use Rattle.conn_supply.specs.declared.reply.Then.{Then}
use Rattle.conn_engine.specs.declared.input.Input.{Input}
use Rattle.conn_engine.specs.declared.phase.ConnectedClient.{ConnectedClient}
use Rattle.conn_engine.specs.declared.phase.ConnPhase.{ConnPhase}
use Rattle.conn_laws.specs.Marks.{acknowledged_of}
use Rattle.conn_laws.specs.Transcripts.{connected_of, SessionSteps, Transcribes}
use Rattle.local_broker.specs.Places.{GroupPlace}
use Rattle.local_broker.specs.Broker.{Broker}
use Rattle.local_broker.specs.Calls.{Calls}
use Rattle.local_server.specs.ConnSteps.{ConnStep}
use Rattle.local_server.specs.Transcripts.{transcript_of}
use Rattle.local_server.specs.Messages.{sent_in}
use Rattle.local_server.proofs.Windows.{Leads, window_after_append}
use Rattle.local_server.proofs.ConnSteps.{own_marks}
use Rattle.local_server.proofs.Known.{Log, IsKnown, AllKnown, StaysKnown}
use Rattle.local_server.proofs.Sent.{IsHeldIn, AcksOne, none_acked, one_acked, legal_behind, none_first, acks}

-- a connection has the session of a step: its window stands where its transcript leads, and what it holds was accepted
pub record IsIts (conn_step : ConnStep) (conn_steps : List ConnStep) (log : Log) (connected : ConnectedClient GroupPlace) : Type 0 where
  pub its : conn_step.session ≡ connected.session.identity.number
  pub leads : Leads (transcript_of connected.session.identity.number conn_steps) connected.session.window
  pub known : AllKnown log (held_of connected.session.window)

module _ (conn_steps : List ConnStep) (conn_step : ConnStep) where
  abbrev stood : WindowState Held
  stood = window_after_all (window_down []) (transcript_of conn_step.session conn_steps)

  abbrev behind : List ConnStep
  behind = conn_steps ++ conn_step ∷ []

  -- where the step leads
  module _ (log : Log) (connected : ConnectedClient GroupPlace) (is : IsIts conn_step behind log connected) where
    told : transcript_of connected.session.identity.number behind ≡ transcript_of conn_step.session conn_steps ++ conn_step.marks
    told = ap (λ (n : ℕ). transcript_of n behind) (sym is.its) ∙ own_marks conn_step.session conn_steps conn_step refl

    legal : IsLegal [] (transcript_of conn_step.session conn_steps ++ conn_step.marks)
    legal = subst (IsLegal []) told is.leads.legal

    stands : window_after_all stood conn_step.marks ≡ window_state connected.session.window
    stands =
        sym (window_after_append (window_down []) (transcript_of conn_step.session conn_steps) conn_step.marks)
        ∙ ap (window_after_all (window_down [])) (sym told) ∙ is.leads.stands

    held_known : (e : Held) → IsHeldIn (window_after_all stood conn_step.marks).held e → IsKnown log e
    held_known e held = is.known held.identifier e (subst (λ (s : WindowState Held). Contains s.held (held.identifier, e)) stands held.has)

  was_known : (log : Log) (connected : ConnectedClient GroupPlace) → IsIts conn_step conn_steps log connected → (e : Held) → IsHeldIn stood.held e → IsKnown log e
  was_known log connected is e held =
      is.known held.identifier e
      (subst (λ (s : WindowState Held). Contains s.held (held.identifier, e)) (ap (λ (n : ℕ). window_after_all (window_down []) (transcript_of n conn_steps)) is.its ∙ is.leads.stands)
      held.has)

  sends_nothing : (marks : List (Mark Held)) → conn_step.marks ≡ marks → filter_map sent_in marks ≡ [] → (e : Held) → Contains (filter_map sent_in conn_step.marks) e → ⊥
  sends_nothing marks are none e sent = contains_nil e (subst (λ (l : List Held). Contains l e) (ap (filter_map sent_in) are ∙ none) sent)

  sends_by : (before after : Option (ConnectedClient GroupPlace)) (phase phase' : ConnPhase GroupPlace) (old new : Broker) (number now : ℕ) (input : Input) (sent : List Packet) (next : Then)
      (log log' : Log) → StaysKnown log log' → connected_of phase ≡ before → connected_of phase' ≡ after
      → (step : Transcribes Calls old number phase now input sent next phase' new) → conn_step.marks ≡ step.marks
      → SessionSteps Calls old number before after step.marks new
      → ((connected : ConnectedClient GroupPlace) → before ≡ Some connected → IsIts conn_step conn_steps log connected) → ((connected : ConnectedClient GroupPlace) → after ≡ Some connected → IsIts conn_step behind log' connected)
      → (e : Held) → Contains (filter_map sent_in conn_step.marks) e → IsKnown log' e
  sends_by None None phase phase' old new number now input sent next log log' stays from to step are session was is e has =
      absurd (sends_nothing [] (are ∙ session.0) refl e has)
  sends_by None (Some connected') phase phase' old new number now input sent next log log' stays from to step are session was is e has =
      let here = is connected' refl in
      let none : acknowledged_of conn_step.marks ≡ [] = ap acknowledged_of are ∙ none_first phase phase' old new number now input sent next from step in
      held_known log' connected' here e
      (none_acked conn_step.marks stood none (legal_behind (transcript_of conn_step.session conn_steps) conn_step.marks (window_down []) (legal log' connected' here)) e has)
  sends_by (Some connected) (Some connected') phase phase' old new number now input sent next log log' stays from to step are session was is e has =
      let here = is connected' refl in
      let its = was connected refl in
      let may = legal_behind (transcript_of conn_step.session conn_steps) conn_step.marks (window_down []) (legal log' connected' here) in
      let same : stood ≡ window_state connected.session.window = ap (λ (n : ℕ). window_after_all (window_down []) (transcript_of n conn_steps)) its.its ∙ its.leads.stands in
      ⊎_elim
      (λ (one : AcksOne connected step.marks).
      ⊎_elim
      (λ (now : IsHeldIn (window_after_all stood conn_step.marks).held e). held_known log' connected' here e now)
      (λ (before : IsHeldIn stood.held e). stays e.stamp e.message (was_known log connected its e before))
      (one_acked conn_step.marks stood one.acked one.its (ap acknowledged_of are ∙ one.one) may
      (subst (λ (s : WindowState Held). Contains s.held (one.acked.0, one.its)) (sym same) one.has) e has))
      (λ (none : acknowledged_of step.marks ≡ []). held_known log' connected' here e (none_acked conn_step.marks stood (ap acknowledged_of are ∙ none) may e has))
      (acks phase phase' connected old new number now input sent next from step)
  sends_by (Some connected) None phase phase' old new number now input sent next log log' stays from to step are session was is e has =
      absurd (sends_nothing _ (are ∙ session.marks_are) refl e has)

pub sends : (conn_steps : List ConnStep) (conn_step : ConnStep) (phase phase' : ConnPhase GroupPlace) (old new : Broker) (number now : ℕ) (input : Input) (sent : List Packet) (next : Then)
    (log log' : Log) → StaysKnown log log' → (step : Transcribes Calls old number phase now input sent next phase' new) → conn_step.marks ≡ step.marks
    → ((connected : ConnectedClient GroupPlace) → connected_of phase ≡ Some connected → IsIts conn_step conn_steps log connected)
    → ((connected : ConnectedClient GroupPlace) → connected_of phase' ≡ Some connected → IsIts conn_step (conn_steps ++ conn_step ∷ []) log' connected)
    → (e : Held) → Contains (filter_map sent_in conn_step.marks) e → IsKnown log' e
sends conn_steps conn_step phase phase' old new number now input sent next log log' stays step are was is e has =
    sends_by conn_steps conn_step (connected_of phase) (connected_of phase') phase phase' old new number now input sent next log log' stays refl refl step are step.session was is e has
