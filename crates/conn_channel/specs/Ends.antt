-- The ends of a channel as contracts see them.
use Rattle.std.specs.Prelude.{◌≡◌, ℕ, ◌+◌, ◌<◌, List, [], ◌∷◌, ◌++◌, map, length, sum_by, All}
use Rattle.atomic_table.specs.Seated.{TableId}
use Rattle.atomic_table.specs.declared.badge.Badge.{Badge}
use Rattle.atomic_table.specs.declared.shared.Seat.{Seat}
use Rattle.crossbeam_channel.specs.declared.flavors.array.Key.{Key}
use Rattle.crossbeam_channel.specs.declared.flavors.array.Doing.{Doing}
use Rattle.conn_channel.specs.declared.sent.Sent.{Sent}
use Rattle.conn_channel.specs.declared.sent.Received.{Received}
use Rattle.conn_channel.specs.declared.sent.Received.TheVariants.{Connection, EndMark, Nothing}
use Rattle.conn_channel.specs.declared.view.PassView.{PassView}
use Rattle.conn_channel.specs.Interleavings.{IsInterleaving}
use Rattle.conn_channel.specs.Rule.{receiving_pass_view}
use Rattle.conn_channel.specs.Witnesses.{Saw}

-- which channel it is
pub record ChannelId (T : Type 0) : Type 0 where
  pub table : TableId
  pub keys : Badge (Key (Sent T))

-- the end that sends: how many ends receive, the connections that were sent, in order, and how many end marks
pub record SenderState (T : Type 0) : Type 0 where
  pub channel : ChannelId T
  pub receivers : ℕ
  pub sent : List T
  pub end_marks_sent : ℕ

-- an end that receives: the connections that were received by it, in order, and how many end marks
pub record ReceiverState (T : Type 0) : Type 0 where
  pub channel : ChannelId T
  pub received : List T
  pub end_marks_received : ℕ

abbrev pub channel_of : {T : Type 0} → Seat (Badge (Key (Sent T))) (Doing (Sent T) (PassView T)) → ChannelId T
channel_of pass = record { table = pass.table_id; keys = pass.me.0.of }

-- the one list of these
abbrev pub one_list : {T : Type 0} → List (List T) → List T
one_list [] = []
one_list (list ∷ rest) = list

-- an end that receives from a channel, and received nothing
abbrev pub new_receiver : {T : Type 0} → ChannelId T → ReceiverState T
new_receiver channel = record { channel = channel; received = []; end_marks_received = 0 }

-- the ends that receive from a channel that was just opened
pub record AreReceivers {T : Type 0} (channel : ChannelId T) (count : ℕ) (receivers : List (ReceiverState T)) : Type 0 where
  pub all : length receivers ≡ count
  pub each : All (λ receiver. receiver ≡ new_receiver channel) receivers

-- ends that receive from this channel
abbrev pub AreOf : {T : Type 0} → ChannelId T → List (ReceiverState T) → Type 0
AreOf channel receivers = All (λ receiver. receiver.channel ≡ channel) receivers

-- what each of them received
abbrev pub lists_of : {T : Type 0} → List (ReceiverState T) → List (List T)
lists_of receivers = map (λ receiver. receiver.received) receivers

-- how many connections, and how many end marks, they received
abbrev pub received_by : {T : Type 0} → List (ReceiverState T) → ℕ
received_by receivers = sum_by (λ receiver. length receiver.received) receivers

abbrev pub end_marks_received_by : {T : Type 0} → List (ReceiverState T) → ℕ
end_marks_received_by receivers = sum_by (λ receiver. receiver.end_marks_received) receivers

-- the sender with all ends that received. What was sent, in order, is what was received, and after it what is left; what was received is an interleaving of
-- what each end received; and nothing is left where an end mark was received
pub record IsSettled {T : Type 0} (sender : SenderState T) (receivers : List (ReceiverState T)) : Type 0 where
  pub past : List T
  pub left : List T
  pub sent : sender.sent ≡ past ++ left
  pub received : IsInterleaving past (lists_of receivers)
  pub last : 0 < end_marks_received_by receivers → left ≡ []
  pub end_marks_left : ℕ
  pub end_marks : sender.end_marks_sent ≡ end_marks_received_by receivers + end_marks_left

-- the same in numbers
pub record IsBalanced {T : Type 0} (sent : ℕ) (receivers : List (ReceiverState T)) : Type 0 where
  pub left : ℕ
  pub balance : sent ≡ received_by receivers + left
  pub last : 0 < end_marks_received_by receivers → left ≡ 0

-- what was received is known; and where it was nothing, the witness saw the channel empty, when an end knew what this one knows
abbrev pub Receives : {T : Type 0} → (List (Sent T) → List (PassView T) → Type 0) → ReceiverState T → Received T → ReceiverState T → Type 0
Receives saw old (Connection connection) new = new ≡ record old { received = old.received ++ connection ∷ [] }
Receives saw old EndMark new = new ≡ record old { end_marks_received = old.end_marks_received + 1 }
Receives saw old Nothing new = (new ≡ old) × Saw saw (receiving_pass_view old.received old.end_marks_received) []
