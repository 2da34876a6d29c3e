-- The rule of the channel. What was sent, in order, is what was received and after it what is in the channel; what was received is an interleaving of
-- what each end received; and no connection is after an end mark.
use Rattle.std.specs.Prelude.{◌≡◌, ℕ, ◌+◌, ◌<◌, List, [], ◌∷◌, ◌++◌, sum_by, ⊤}
use mathlib.Core.Option.{some}
use lib.ListN.{get_elem?}
use Rattle.conn_channel.specs.declared.sent.Sent.{Sent}
use Rattle.conn_channel.specs.declared.sent.Sent.TheVariants.{Connection, EndMark}
use Rattle.conn_channel.specs.declared.view.PassView.{PassView}
use Rattle.conn_channel.specs.Interleavings.{IsInterleaving}

-- how many parts there are in all: more than workers
abbrev pub all_parts : ℕ
all_parts = 128

abbrev pub pass_view : {T : Type 0} → ℕ → ℕ → List T → ℕ → List (List T) → ℕ → PassView T
pass_view parts sends sent end_marks_sent received end_marks_received =
    record { parts = parts; sends = sends; sent = sent; end_marks_sent = end_marks_sent; received = received; end_marks_received = end_marks_received }

-- who opened the channel has all parts, and is the one who sends
abbrev pub first_pass_view : {T : Type 0} → PassView T
first_pass_view = pass_view all_parts 1 [] 0 [] 0

-- one part, with what one end received and how many end marks it did
abbrev pub receiving_pass_view : {T : Type 0} → List T → ℕ → PassView T
receiving_pass_view received end_marks_received = pass_view 1 0 [] 0 (received ∷ []) end_marks_received

-- no part
abbrev pub no_pass_view : {T : Type 0} → PassView T
no_pass_view = pass_view 0 0 [] 0 [] 0

-- what the one has, and the parts of the other and what it received
abbrev pub joined : {T : Type 0} → PassView T → PassView T → PassView T
joined v w = pass_view (v.parts + w.parts) v.sends v.sent v.end_marks_sent (w.received ++ v.received) (v.end_marks_received + w.end_marks_received)

-- the connections in the channel, in order
abbrev pub connections_in : {T : Type 0} → List (Sent T) → List T
connections_in [] = []
connections_in (Connection connection ∷ rest) = connection ∷ connections_in rest
connections_in (EndMark ∷ rest) = connections_in rest

-- how many end marks are in the channel
abbrev pub end_marks_in_one : {T : Type 0} → Sent T → ℕ
end_marks_in_one (Connection connection) = 0
end_marks_in_one EndMark = 1

abbrev pub end_marks_in : {T : Type 0} → List (Sent T) → ℕ
end_marks_in items = sum_by end_marks_in_one items

-- no connection is after an end mark
abbrev pub AreOrdered : {T : Type 0} → List (Sent T) → Type 0
AreOrdered [] = ⊤
AreOrdered (Connection connection ∷ rest) = AreOrdered rest
AreOrdered (EndMark ∷ rest) = connections_in rest ≡ []

-- what each end received, of all passes
abbrev pub received_lists : {T : Type 0} → List (PassView T) → List (List T)
received_lists [] = []
received_lists (v ∷ rest) = v.received ++ received_lists rest

-- who has no part received nothing, and who may not send sent nothing
pub record IsWithinRights {T : Type 0} (v : PassView T) : Type 0 where
  pub no_part : v.parts ≡ 0 → (v.received ≡ []) × (v.end_marks_received ≡ 0)
  pub no_right : v.sends ≡ 0 → v.end_marks_sent ≡ 0

pub record Conserves {T : Type 0} (items : List (Sent T)) (views : List (PassView T)) : Type 0 where
  pub parts : sum_by (λ v. v.parts) views ≡ all_parts
  pub sends : sum_by (λ v. v.sends) views ≡ 1
  pub rights : (pass : ℕ) (v : PassView T) → get_elem? views pass ≡ some v → IsWithinRights v
  -- the connections that came out of the channel, in order: each was received by one end, once
  pub past : List T
  pub received : IsInterleaving past (received_lists views)
  -- who sends knows what was sent: what came out, and after it what is in the channel
  pub sent : (pass : ℕ) (v : PassView T) → get_elem? views pass ≡ some v → v.sends ≡ 1 → v.sent ≡ past ++ connections_in items
  pub end_marks : sum_by (λ v. v.end_marks_sent) views ≡ sum_by (λ v. v.end_marks_received) views + end_marks_in items
  pub ordered : AreOrdered items
  -- after an end mark that was received, no connection is left
  pub last : 0 < sum_by (λ v. v.end_marks_received) views → connections_in items ≡ []

-- who sent this too
abbrev pub sending : {T : Type 0} → PassView T → Sent T → PassView T
sending v (Connection connection) = record v { sent = v.sent ++ connection ∷ [] }
sending v EndMark = record v { end_marks_sent = v.end_marks_sent + 1 }

-- the end that received this list received one more
abbrev pub longer : {T : Type 0} → List (List T) → T → List (List T)
longer [] connection = []
longer (list ∷ rest) connection = (list ++ connection ∷ []) ∷ rest

-- who received this too
abbrev pub receiving : {T : Type 0} → PassView T → Sent T → PassView T
receiving v (Connection connection) = record v { received = longer v.received connection }
receiving v EndMark = record v { end_marks_received = v.end_marks_received + 1 }

-- a connection may be sent as long as no end mark was
abbrev pub MaySend : {T : Type 0} → PassView T → Sent T → Type 0
MaySend v (Connection connection) = v.end_marks_sent ≡ 0
MaySend v EndMark = ⊤

-- a connection may be received by who has the list of an end
abbrev pub MayReceive : {T : Type 0} → PassView T → Type 0
MayReceive {T} v = (list : List T) × (v.received ≡ list ∷ [])

-- who has every part and sends knows what became of what it sent
pub record KnowsAll {T : Type 0} (v : PassView T) (items : List (Sent T)) : Type 0 where
  pub past : List T
  pub received : IsInterleaving past v.received
  pub sent : v.sent ≡ past ++ connections_in items
  pub end_marks : v.end_marks_sent ≡ v.end_marks_received + end_marks_in items
  pub last : 0 < v.end_marks_received → connections_in items ≡ []
