-- What is written of the groups of a broker by their answers, and how these decide its end.
use Rattle.std.specs.Prelude.{◌≡◌, ◌⊎◌, Bool, true, false, List, [], All, Any, Contains, IsOk, Result, Ok, Err, ⊤, zip, flat_map, ℕ}
use Rattle.mqtt_topic.specs.Names.{Share}
use Rattle.text_io.specs.declared.error.RunError.{RunError}
use Rattle.text_io.specs.declared.error.RunError.TheVariants.{ReadFailed, TooManyReads, WriteFailed, Network, UsersUnread, NoRandomBytes, Memory, TooFewDescriptors, Unfinished as NotKnown, Line, UsersLine}
use Rattle.worker_pool.specs.declared.accepting.SourceEnd.{SourceEnd}
use Rattle.worker_pool.specs.declared.accepting.SourceEnd.TheVariants as sources
use Rattle.tcp_server.specs.declared.serving.ServingEnd.{ServingEnd}
use Rattle.tcp_server.specs.declared.serving.ServingEnd.TheVariants as endings
use Rattle.group_jobs.specs.Reports.{report_line}
use Rattle.group_jobs.specs.declared.report.Report.{Report}
use Rattle.group_queue.specs.declared.error.FinishError.{FinishError}
use Rattle.group_queue.specs.declared.error.FinishError.TheVariants as refusals
use Rattle.group_queue.specs.declared.finish.Unfinished.{Unfinished}
use Rattle.group_queue.specs.declared.witness.Nobody.{Nobody}

-- the report of a group; or why it has none
abbrev pub report_of : Result Report (Unfinished Nobody) → Result Report FinishError
report_of (Ok report) = Ok report
report_of (Err left) = Err left.error

-- the line of a group to whose slot this share is bound; none where it has no report
abbrev pub line_of : Share → Result Report FinishError → List ℕ
line_of share (Ok report) = report_line share report
line_of share (Err error) = []

-- the lines of reports, in the order of slots: of each slot to which a share is bound, and whose group has a report
abbrev pub lines_of : List Share → List (Result Report FinishError) → List ℕ
lines_of shares reports = flat_map (λ (pair : Share × Result Report FinishError). line_of pair.0 pair.1) (zip shares reports)

-- the end of a group was refused: a port, a place or an envelope is not there, or an envelope too often (505, 507)
abbrev pub IsRefused : Result Report FinishError → Type 0
IsRefused (Ok report) = ⊥
IsRefused (Err (refusals.Missing lack)) = ⊤
IsRefused (Err (refusals.Stranger stamp)) = ⊤
IsRefused (Err refusals.Memory) = ⊥

-- How a broker ends by the reports of its groups: as unfinished where the end of one was refused; else as out of memory where there was none for the report of one (506); and in any other way only
-- with all reports
abbrev pub EndsBy : {X : Type 0} → Result X RunError → List (Result Report FinishError) → Type 0
EndsBy (Ok done) reports = All IsOk reports
EndsBy (Err ReadFailed) reports = All IsOk reports
EndsBy (Err TooManyReads) reports = ⊥
EndsBy (Err (WriteFailed fault)) reports = ⊥
EndsBy (Err (Network fault)) reports = All IsOk reports
EndsBy (Err Memory) reports = Contains reports (Err refusals.Memory) × All (λ report. ¬ IsRefused report) reports
EndsBy (Err TooFewDescriptors) reports = ⊥
EndsBy (Err NotKnown) reports = Any IsRefused reports
EndsBy (Err (Line number)) reports = ⊥
EndsBy (Err UsersUnread) reports = ⊥
EndsBy (Err NoRandomBytes) reports = ⊥
EndsBy (Err (UsersLine number)) reports = ⊥

-- how a broker ends whose groups gave all reports, by how its source ended and whether its input was read to its end; or why they did not
abbrev pub EndsFor : SourceEnd → Bool → Result ServingEnd RunError → Type 0
EndsFor source is_read (Ok endings.Ended) = (source ≡ sources.Ended) × (is_read ≡ true)
EndsFor source is_read (Ok endings.InputFailed) = (source ≡ sources.Ended) × (is_read ≡ false)
EndsFor source is_read (Ok endings.NotAccepted) = source ≡ sources.Failed
EndsFor source is_read (Err error) = (error ≡ Memory) ⊎ (error ≡ NotKnown)
