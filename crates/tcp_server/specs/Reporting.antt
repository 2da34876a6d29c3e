-- What is written of the groups of a broker that has ended.
use Rattle.std.specs.Prelude.{ℕ, ◌≡◌, ◌<◌, List, map, All, Option, None, Result}
use Rattle.limits.specs.Limits.{most_groups}
use Rattle.mqtt_topic.specs.Names.{Share}
use Rattle.text_io.specs.declared.error.RunError.{RunError}
use Rattle.group_jobs.specs.Stamps.{Held}
use Rattle.group_jobs.specs.declared.report.Report.{Report}
use Rattle.group_queue.specs.Ports.{GroupId}
use Rattle.group_queue.specs.declared.finish.Unfinished.{Unfinished}
use Rattle.group_queue.specs.declared.witness.Nobody.{Nobody}
use Rattle.conn_rules.specs.declared.client_limits.ClientLimits.{ClientLimits}
use Rattle.tcp_edge.specs.Sockets.{SocketState}
use Rattle.tcp_server.specs.declared.client_stream.ClientStream.{ClientStream}
use Rattle.worker_connections.specs.declared.served.ServedCounts.{ServedCounts}
use Rattle.worker_connections.specs.PollerCalls.{PollerCall}
use Rattle.broker_groups.specs.Answers.{all_seen}
use Rattle.threaded_broker.specs.Callers.{DeskCallerState}
use Rattle.threaded_broker.specs.Headline.{KeepsTheHeadline}
use Rattle.threaded_broker.specs.Shares.{IsBoundIn}
use Rattle.tcp_server.specs.Lines.{lines_of, report_of, EndsBy}

-- a connection on TCP as contracts see it; what came on it and went is not known
abbrev pub Connection : Type 0
Connection = SocketState ClientStream

abbrev pub unknown : Connection → Option (List ℕ)
unknown connection = None

-- in each group of a broker at most so many messages wait for their first hand-out
abbrev pub HaveCapacity : (ℕ → GroupId) → ℕ → Type 0
HaveCapacity group capacity = (slot : ℕ) → slot < most_groups → (group slot).capacity ≡ capacity

-- A broker with groups of this capacity, so many workers and these limits for each connection kept the headline to its end, and these are the lines of the reports that its groups gave: of each slot to which a share is bound, as each
-- that was there from the start is, unless all eight slots are bound, and of whose group there is a report.
pub record AreReports (capacity workers : ℕ) (limits : ClientLimits) (given : List Share) (text : List ℕ) : Type 0 where
  pub group : ℕ → GroupId
  pub room : HaveCapacity group capacity
  pub shares : List Share
  pub answers : List (Result Report (Unfinished Nobody))
  pub strangers : List Held
  pub before : DeskCallerState
  pub after : DeskCallerState
  pub came : List Connection
  pub served : List ServedCounts
  pub poller_calls : List (Option (List (PollerCall Connection)))
  pub headline : KeepsTheHeadline group all_seen (λ (connection : Connection). connection.counts) unknown unknown workers limits came before after shares answers strangers served poller_calls
  pub bound : All (IsBoundIn shares) given
  pub lines : text ≡ lines_of shares (map report_of answers)

-- the same of a broker that ends so, as the reports of its groups decide
pub record AreReportsAt {X : Type 0} (end : Result X RunError) (capacity workers : ℕ) (limits : ClientLimits) (given : List Share) (text : List ℕ) : Type 0 where
  pub reports : AreReports capacity workers limits given text
  pub ends : EndsBy end (map report_of reports.answers)
