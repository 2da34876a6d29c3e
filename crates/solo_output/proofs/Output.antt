-- What `solo` writes is what the model comes to.
use Rattle.std.proofs.Common.{◌≡◌, ℕ, zero, suc, ◌+◌, ◌<◌, ◌≤◌, List, [], ◌∷◌, ◌++◌, length, take, get_or, Option, ◌⊎◌, Result, Ok, Err, inl, inr, refl, sym, ap, ◌∙◌, subst, arith, add-zero, zero-add}
use Rattle.std.specs.List.{flat_map}
use Rattle.std.proofs.lemmas.List.{append_assoc, append-nil, take_more, take_all, length-take-le}
use Rattle.std.proofs.lemmas.List.Concat.{flat_map-append}
use Rattle.std.proofs.lemmas.Option.{slice_get-get_or}
use Rattle.mqtt_fields.specs.declared.fault.StreamFault.{StreamFault}
use Rattle.mqtt_packet.specs.declared.packet.Packet.{Packet}
use Rattle.mqtt_wire.specs.Stream.{Reads}
use Rattle.mqtt_wire.proofs.StreamLaws.{one_reading, exists_reading}
use Rattle.client_table.specs.Clients.{StepOutput}
use Rattle.local_broker.specs.Broker.{Broker}
use Rattle.local_server.specs.declared.event.TimedEvent.{TimedEvent}
use Rattle.conn_rules.specs.declared.setup.Setup.{Setup}
use Rattle.local_server.specs.Happening.{HappensAll}
use Rattle.drive.specs.Streams.{client_script_of}
use Rattle.drive.specs.Transcripts.{ReportsFirst, client_lines, IsClientOutput, Writes, BeginsTo}
use Rattle.solo_output.specs.Groups.{SoloState, Bound, bound, opening}
use Rattle.solo_output.specs.Replies.{solo_steps}
use Rattle.solo_output.specs.Report.{report_of, reports_from, reports}
use Rattle.solo_output.specs.Streams.{stream_of}
use Rattle.solo_output.specs.Output.{lines_for, solo_output, IsOutputFor}
use Rattle.solo_output.proofs.Brokers.{FitsBroker, length-shares}
use Rattle.solo_output.proofs.Ends.{ShowsEnd, line_told}
use Rattle.solo_output.proofs.Streams.{whole, cut, bad_lines}
use Rattle.solo_output.proofs.Walk.{sent_in, Concluded, run}

-- ---- the reports

reports_push : (slot : ℕ) (groups : List Bound) (last : Bound) (solo : SoloState) → reports_from slot (groups ++ last ∷ []) solo ≡ reports_from slot groups solo ++ report_of (slot + length groups) last solo
reports_push slot [] last solo = append-nil (report_of slot last solo) ∙ ap (λ (n : ℕ). report_of n last solo) (sym (add-zero slot))
reports_push slot (group ∷ groups) last solo =
    let at : slot + 1 + length groups ≡ slot + suc (length groups) = omega arith in
    ap (λ (l : List ℕ). report_of slot group solo ++ l) (reports_push (slot + 1) groups last solo)
    ∙ sym (append_assoc (report_of slot group solo) (reports_from (slot + 1) groups solo) (report_of (slot + 1 + length groups) last solo))
    ∙ ap (λ (n : ℕ). reports_from slot (group ∷ groups) solo ++ report_of n last solo) at

first_reports : (solo : SoloState) (b : Broker) → ShowsEnd solo b → (many : ℕ) (text : List ℕ) → many ≤ length solo.groups → ReportsFirst many b text → text ≡ reports_from 0 (take many solo.groups) solo
first_reports solo b shows zero text within told = told
first_reports solo b shows (suc slot) text within (earlier, line, before, tells, all) =
    let less : slot < length solo.groups = omega arith in
    let own = get_or solo.groups slot (bound tells.share) in
    let there = slice_get-get_or solo.groups slot (bound tells.share) less in
    let at : 0 + length (take slot solo.groups) ≡ slot = zero-add (length (take slot solo.groups)) ∙ length-take-le slot solo.groups (omega arith) in
    let up : suc slot ≡ slot + 1 = omega arith in
    let taken : take (suc slot) solo.groups ≡ take slot solo.groups ++ own ∷ [] = ap (λ (n : ℕ). take n solo.groups) up ∙ take_more solo.groups slot (bound tells.share) less in
    all
    ∙ (λ i. first_reports solo b shows slot earlier (omega arith) before i ++ line_told solo b shows slot line tells own there i)
    ∙ ap (λ (n : ℕ). reports_from 0 (take slot solo.groups) solo ++ report_of n own solo) (sym at)
    ∙ sym (reports_push 0 (take slot solo.groups) own solo)
    ∙ ap (λ (l : List Bound). reports_from 0 l solo) (sym taken)

all_reports : (solo : SoloState) (b : Broker) (text : List ℕ) → ShowsEnd solo b → ReportsFirst (length b.routes) b text → text ≡ reports solo
all_reports solo b text shows told =
    let many : length b.routes ≡ length solo.groups = ap length shows.routes ∙ length-shares solo.groups in
    first_reports solo b shows (length solo.groups) text (omega arith) (subst (λ (n : ℕ). ReportsFirst n b text) many told)
    ∙ ap (λ (l : List Bound). reports_from 0 l solo) (take_all (length solo.groups) solo.groups (omega arith))

-- ---- the lines of what is sent

lines_are : (outputs : List StepOutput) → flat_map client_lines outputs ≡ lines_for (sent_in outputs)
lines_are [] = refl
lines_are (one ∷ outputs) = ap (λ (l : List ℕ). client_lines one ++ l) (lines_are outputs) ∙ sym (flat_map-append _ one.packets (sent_in outputs))

pub closed : (setup : Setup) (input output : List ℕ) → FitsBroker setup.capacity setup.groups → IsClientOutput setup input output → IsOutputFor setup input output
closed setup input output fits is =
    let cut_up = cut input is.events is.spelled in
    let t = is.transcript in
    let happens = subst (λ (es : List TimedEvent). HappensAll t.first es t.outputs t.last) cut_up.events_are t.happens in
    let got =
    subst (λ (limit : ℕ). Concluded (opening setup.capacity limit setup.groups) (whole cut_up.pieces) (sent_in t.outputs) t.last.broker) t.new.max_inflight
    (run setup.capacity setup.groups fits cut_up.pieces t.first t.last t.outputs t.new.broker t.new.clients t.new.clock cut_up.bytes happens) in
    let behind = solo_steps got.packets (opening setup.capacity setup.max_inflight setup.groups) in
    record {
      stream = whole cut_up.pieces;
      spelled = cut_up.stream_is;
      packets = got.packets;
      rest = got.rest;
      fault = got.fault;
      reads = got.reads;
      text =
          t.whole
          ∙ (λ i. lines_are t.outputs i ++ all_reports behind.solo t.last.broker t.reports got.shows t.reported i)
          ∙ ap (λ (l : List Packet). lines_for l ++ reports behind.solo) got.sent_are;
    }

is_ok : {A E : Type 0} (x y : A) → ◌≡◌ {A = Result A E} (Ok x) (Ok y) → x ≡ y
is_ok x y e = cc

-- whatever the stream is read as
pub of_each : (setup : Setup) (input output stream : List ℕ) (packets : List Packet) (rest : List ℕ) (fault : Option StreamFault) → FitsBroker setup.capacity setup.groups → IsClientOutput setup input output → stream_of input ≡ Ok stream → Reads stream packets rest fault
    → output ≡ solo_output setup packets fault
of_each setup input output stream packets rest fault fits is spelled reads =
    let got = closed setup input output fits is in
    let same : got.stream ≡ stream = is_ok got.stream stream (sym got.spelled ∙ spelled) in
    let one = one_reading stream got.packets got.rest got.fault packets rest fault (subst (λ (s : List ℕ). Reads s got.packets got.rest got.fault) same got.reads) reads in
    got.text ∙ (λ i. solo_output setup (one.0 i) (one.2 i))

-- ---- what is written

pub written : (setup : Setup) (input : List ℕ) (old new : Option (List ℕ)) → FitsBroker setup.capacity setup.groups → Writes (IsClientOutput setup input) old new → Writes (IsOutputFor setup input) old new
written setup input old new fits does = record { output = does.output; defined_by = closed setup input does.output fits does.defined_by; written = does.written }

pub begun : (setup : Setup) (input : List ℕ) (old new : Option (List ℕ)) → FitsBroker setup.capacity setup.groups → BeginsTo (IsClientOutput setup input) old new → BeginsTo (IsOutputFor setup input) old new
begun setup input old new fits does = record { output = does.output; defined_by = closed setup input does.output fits does.defined_by; begun = does.begun }

-- ---- there is one output

output_of : (setup : Setup) (input : List ℕ) (script : Result (List TimedEvent) ℕ) → client_script_of input ≡ script → ((line : ℕ) × (stream_of input ≡ Err line)) ⊎ ((output : List ℕ) × IsOutputFor setup input output)
output_of setup input (Err line) is = inl (line, (bad_lines input line).0 is)
output_of setup input (Ok events) is =
    let cut_up = cut input events is in
    let reading = exists_reading (whole cut_up.pieces) cut_up.bytes in
    inr (
      solo_output setup reading.0 reading.2,
      record { stream = whole cut_up.pieces; spelled = cut_up.stream_is; packets = reading.0; rest = reading.1; fault = reading.2; reads = reading.3; text = refl },
    )

pub exists_output : (setup : Setup) (input : List ℕ) → ((line : ℕ) × (stream_of input ≡ Err line)) ⊎ ((output : List ℕ) × IsOutputFor setup input output)
exists_output setup input = output_of setup input (client_script_of input) refl

pub one_output : (setup : Setup) (input one other : List ℕ) → IsOutputFor setup input one → IsOutputFor setup input other → one ≡ other
one_output setup input one other first second =
    let same : first.stream ≡ second.stream = is_ok first.stream second.stream (sym first.spelled ∙ second.spelled) in
    let read = one_reading second.stream first.packets first.rest first.fault second.packets second.rest second.fault
    (subst (λ (s : List ℕ). Reads s first.packets first.rest first.fault) same first.reads) second.reads in
    first.text ∙ (λ i. solo_output setup (read.0 i) (read.2 i)) ∙ sym second.text
