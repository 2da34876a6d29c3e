-- What was written, one part after another.
use Rattle.std.proofs.Common.{◌≡◌, ◌⊎◌, ℕ, List, ◌++◌, get_or, map, Option, Result, Ok, Err, sym, ap, subst, ◌∙◌, append_assoc, inl, inr, arith}
use Rattle.std.proofs.lemmas.Option.{slice_get-get_or}
use Rattle.std.specs.Io.KnownBytes.{Appends}
use Rattle.text_io.proofs.PassingLaws.{Appends-then, Keeps-refl}
use Rattle.text_io.proofs.Failures.{write_failed}
use Rattle.text_io.specs.Passing.{Begins}
use Rattle.text_io.specs.Status.{IsOfWriting}
use Rattle.text_io.specs.declared.error.RunError.{RunError}
use Rattle.text_io.specs.declared.error.RunError.TheVariants.{ReadFailed, TooManyReads, WriteFailed, Network, UsersUnread, NoRandomBytes, Memory, TooFewDescriptors, Unfinished, Line, UsersLine}
use Rattle.mqtt_topic.specs.Names.{Share}
use Rattle.gate_word.specs.Seats.{GateId}
use Rattle.group_queue.specs.declared.witness.Nobody.{Nobody}
use Rattle.group_queue.specs.Ports.{GroupId}
use Rattle.broker_groups.specs.declared.opening.Opened.{Opened}
use Rattle.broker_groups.specs.Brokers.{no_group}
use Rattle.broker_groups.specs.Openings.{IsBrokerOpened, named_by, or_none}
use Rattle.group_jobs.specs.declared.report.Report.{Report}
use Rattle.group_queue.specs.declared.error.FinishError.{FinishError}
use Rattle.conn_rules.specs.declared.client_limits.ClientLimits.{ClientLimits}
use Rattle.tcp_server.specs.Lines.{report_of, EndsBy}
use Rattle.tcp_server.specs.Reporting.{AreReports, AreReportsAt, HaveCapacity}
use Rattle.tcp_server.specs.Serving.{WritesAll, BeginsToWrite, EndsUnreported, IsServed}

-- where the reports were written, that is what is written by how the broker ends
pub whole : (line : List ℕ) (capacity workers : ℕ) (limits : ClientLimits) (given : List Share) (result : Result (Unit {0}) RunError) (old new : Option (List ℕ)) → WritesAll line capacity workers limits given result old new
    → IsServed line capacity workers limits given result old new
whole line capacity workers limits given (Ok done) old new written = written
whole line capacity workers limits given (Err ReadFailed) old new written = written
whole line capacity workers limits given (Err TooManyReads) old new written = absurd written.reports.ends
whole line capacity workers limits given (Err (WriteFailed fault)) old new written = absurd written.reports.ends
whole line capacity workers limits given (Err (Network fault)) old new written = inr written
whole line capacity workers limits given (Err Memory) old new written = inr written
whole line capacity workers limits given (Err TooFewDescriptors) old new written = absurd written.reports.ends
whole line capacity workers limits given (Err Unfinished) old new written = written
whole line capacity workers limits given (Err (Line number)) old new written = absurd written.reports.ends
whole line capacity workers limits given (Err UsersUnread) old new written = absurd written.reports.ends
whole line capacity workers limits given (Err NoRandomBytes) old new written = absurd written.reports.ends
whole line capacity workers limits given (Err (UsersLine number)) old new written = absurd written.reports.ends

pub all : {X : Type 0} (line : List ℕ) (capacity workers : ℕ) (limits : ClientLimits) (given : List Share) (end : Result X RunError) (result : Result (Unit {0}) RunError) (old mid new : Option (List ℕ)) (text : List ℕ)
    → ((reports : List (Result Report FinishError)) → EndsBy end reports → EndsBy result reports) → AreReportsAt end capacity workers limits given text → Appends old mid line → Appends mid new text
    → IsServed line capacity workers limits given result old new
all line capacity workers limits given end result old mid new text how told first second =
    whole line capacity workers limits given result old new (record {
      text = text;
      reports = record { reports = told.reports; ends = how (map report_of told.reports.answers) told.ends };
      written = Appends-then old mid new line text first second;
    })

pub begun : (line : List ℕ) (capacity workers : ℕ) (limits : ClientLimits) (given : List Share) (old mid new : Option (List ℕ)) (text : List ℕ) → AreReports capacity workers limits given text → Appends old mid line → Begins mid new text
    → BeginsToWrite line capacity workers limits given old new
begun line capacity workers limits given old mid new text reports first second = record {
  text = text;
  reports = reports;
  begun = record {
    part = line ++ second.part;
    rest = second.rest;
    written = Appends-then old mid new line second.part first second.written;
    whole = append_assoc line second.part second.rest ∙ ap (λ s. line ++ s) second.whole;
  };
}

pub unreported : (line : List ℕ) (capacity workers : ℕ) (limits : ClientLimits) (given : List Share) (error : RunError) (old new : Option (List ℕ)) → EndsUnreported line error old new → IsServed line capacity workers limits given (Err error) old new
unreported line capacity workers limits given ReadFailed old new ends = absurd ends
unreported line capacity workers limits given TooManyReads old new ends = absurd ends
unreported line capacity workers limits given (WriteFailed fault) old new ends = inl ends
unreported line capacity workers limits given (Network fault) old new ends = absurd ends
unreported line capacity workers limits given Memory old new ends = inl ends
unreported line capacity workers limits given TooFewDescriptors old new ends = ends
unreported line capacity workers limits given Unfinished old new ends = absurd ends
unreported line capacity workers limits given (Line number) old new ends = absurd ends
unreported line capacity workers limits given UsersUnread old new ends = absurd ends
unreported line capacity workers limits given NoRandomBytes old new ends = absurd ends
unreported line capacity workers limits given (UsersLine number) old new ends = absurd ends

pub no_memory : (line : List ℕ) (error : RunError) (known : Option (List ℕ)) → error ≡ Memory → EndsUnreported line error known known
no_memory line error known is = subst (λ e. EndsUnreported line e known known) (sym is) (inl (Keeps-refl known))

pub not_set_up : (line : List ℕ) (error : RunError) (known : Option (List ℕ)) → (error ≡ Memory) ⊎ (error ≡ TooFewDescriptors) → EndsUnreported line error known known
not_set_up line error known (inl is) = no_memory line error known is
not_set_up line error known (inr is) = subst (λ e. EndsUnreported line e known known) (sym is) (Keeps-refl known)

pub not_written : (line : List ℕ) (error : RunError) (old new : Option (List ℕ)) → IsOfWriting error → Begins old new line → EndsUnreported line error old new
not_written line error old new of begins = subst (λ e. EndsUnreported line e old new) (sym (write_failed error of).1) begins

pub not_told : (line : List ℕ) (error : RunError) (old new : Option (List ℕ)) → error ≡ Memory → Appends old new line → EndsUnreported line error old new
not_told line error old new is written = subst (λ e. EndsUnreported line e old new) (sym is) (inr written)

-- the groups of a broker that was opened have the capacity that they were opened with
pub opened_with : (gate : GateId) (capacity workers : ℕ) (opened : Opened Nobody) → IsBrokerOpened gate capacity workers opened → HaveCapacity (named_by opened.groups.items) capacity
opened_with gate capacity workers opened is slot few =
    let there = slice_get-get_or opened.groups.items slot no_group (omega (arith, few, is.groups_many)) in
    ap (λ (found : Option GroupId). (or_none found).capacity) there ∙ (is.each slot (get_or opened.groups.items slot no_group) there).capacity_is

pub same_capacity : (group : ℕ → GroupId) (capacity : ℕ) → HaveCapacity group capacity → HaveCapacity group (group 0).capacity
same_capacity group capacity have slot few = have slot few ∙ sym (have 0 (omega arith))

-- and so have those of its reports
pub of_capacity : {X : Type 0} (end : Result X RunError) (group : ℕ → GroupId) (capacity workers : ℕ) (limits : ClientLimits) (given : List Share) (text : List ℕ) → HaveCapacity group capacity
    → AreReportsAt end (group 0).capacity workers limits given text → AreReportsAt end capacity workers limits given text
of_capacity end group capacity workers limits given text have reports = subst (λ n. AreReportsAt end n workers limits given text) (have 0 (omega arith)) reports
