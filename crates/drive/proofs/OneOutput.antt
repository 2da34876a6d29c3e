-- An input has one output.
use Rattle.std.proofs.Common.{◌≡◌, ℕ, zero, suc, List, ◌++◌, length, Result, Ok, sym, ap, ◌∙◌, subst}
use Rattle.std.specs.List.{flat_map}
use Rattle.client_table.specs.Clients.{StepOutput}
use Rattle.local_broker.specs.Broker.{Broker}
use Rattle.local_broker.specs.Alike as brokers
use Rattle.local_broker.proofs.OneBeginning.{one_told}
use Rattle.local_server.specs.declared.event.TimedEvent.{TimedEvent}
use Rattle.conn_rules.specs.declared.setup.Setup.{Setup}
use Rattle.local_server.proofs.OneRun.{one_run}
use Rattle.drive.specs.Transcripts.{ReportsFirst, IsTranscript, IsOutput}

events_are : (these those : List TimedEvent) → ◌≡◌ {A = Result (List TimedEvent) ℕ} (Ok these) (Ok those) → these ≡ those
events_are these those e = cc

reported : (many : ℕ) (one other : Broker) (text text' : List ℕ) → brokers.AreAlike one other → ReportsFirst many one text → ReportsFirst many other text' → text ≡ text'
reported zero one other text text' alike h k = h ∙ sym k
reported (suc slot) one other text text' alike h k =
    let earlier = reported slot one other h.0 k.0 alike h.2 k.2 in
    let line = one_told one other slot h.1 k.1 alike h.3 k.3 in
    h.4 ∙ (λ i. earlier i ++ line i) ∙ sym k.4

module _ (lines : StepOutput → List ℕ) (setup : Setup) where
  pub one_transcript : (events : List TimedEvent) (text text' : List ℕ) → IsTranscript lines setup events text → IsTranscript lines setup events text' → text ≡ text'
  one_transcript events text text' h k =
      let run = one_run setup events h.outputs k.outputs h.first k.first h.last k.last h.new k.new h.happens k.happens in
      let many : length k.last.broker.routes ≡ length h.last.broker.routes = ap length (sym run.1.broker.routes) in
      let reports = reported (length h.last.broker.routes) h.last.broker k.last.broker h.reports k.reports run.1.broker h.reported (subst (λ n. ReportsFirst n k.last.broker k.reports) many k.reported) in
      h.whole ∙ (λ i. flat_map lines (run.0 i) ++ reports i) ∙ sym k.whole

  pub one_output : (script : Result (List TimedEvent) ℕ) (output output' : List ℕ) → IsOutput script lines setup output → IsOutput script lines setup output' → output ≡ output'
  one_output script output output' h k =
      let events = events_are k.events h.events (sym k.spelled ∙ h.spelled) in
      one_transcript h.events output output' h.transcript (subst (λ es. IsTranscript lines setup es output') events k.transcript)
