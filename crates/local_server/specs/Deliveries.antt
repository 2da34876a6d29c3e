-- What is handed out in a run, as the clients are told and as the groups tell.
use Rattle.std.specs.Prelude.{◌≡◌, ℕ, List, Some, slice_get}
use Rattle.local_group.specs.Groups.{Group}
use Rattle.conn_laws.specs.Calls.{Outcome, hand_outs_of, sent_of, contents_of}
use Rattle.client_table.specs.Clients.{StepOutput}
use Rattle.client_table.specs.Deliveries.{fresh_sent}
use Rattle.local_broker.specs.HandOuts.{handed_in_all, seen_by_group}
use Rattle.local_broker.specs.Places.{GroupPlace}
use Rattle.local_server.specs.Servers.{ServerState}

-- one list of hand-outs, each a place and the message that it was handed, with what became of it, tells both what clients were sent and what happened in the groups
pub record HandsOutWhatIsSent (server : ServerState) (outputs : List StepOutput) : Type 0 where
  pub outcomes : List (Outcome GroupPlace)
  -- the messages that went out with DUP 0 are those that were handed out, in that order, but for those that were discarded: each as often as it was handed out (3.3.1.1),
  -- with its topic, its properties and its payload
  pub sent : fresh_sent outputs ≡ contents_of (sent_of outcomes)
  -- the hand-outs among a group's events, first and later ones, are those to its places, in that order
  pub handed : (slot : ℕ) (group : Group) → slice_get server.broker.groups slot ≡ Some group → handed_in_all group.events ≡ seen_by_group slot (hand_outs_of outcomes)
