-- After a step: what ends a connection, and where nothing is left to hand out to its client.
use Rattle.std.specs.Prelude.{◌≡◌, ◌⊎◌, ℕ, false, List, length, None, Ok, ⊤}
use Rattle.group_jobs.specs.Stamps.{Held}
use Rattle.member_window.specs.Contents.{Contents, HasRoom, IsNextResend}
use Rattle.session_desk.specs.declared.session.Membership.{Membership}
use Rattle.session_desk.specs.declared.session.Membership.TheVariants.{NotMember, Member, Leaving}
use Rattle.conn_supply.specs.SupplyCalls.{SupplyCall}
use Rattle.conn_supply.specs.SupplyCalls.SupplyCall.{MayTake, Take, TakeBack}
use Rattle.conn_supply.specs.HandOuts.{Discards, most_discards}
use Rattle.conn_rules.specs.declared.hand_outs.HandOutTerms.{HandOutTerms}
use Rattle.conn_engine.specs.declared.input.Input.{Input}
use Rattle.conn_engine.specs.declared.input.Input.TheVariants as inputs
use Rattle.conn_engine.specs.declared.phase.ConnectedClient.{ConnectedClient}
use Rattle.conn_engine.specs.declared.phase.ConnPhase.{ConnPhase}
use Rattle.conn_engine.specs.declared.phase.ConnPhase.TheVariants.{Unconnected, Waiting, Connected, Ended}
use Rattle.conn_engine.specs.Step.{hand_out_terms}

-- a fault, the end of the input, or the broker's closing: none comes after it
abbrev pub IsLast : Input → Type 0
IsLast (inputs.Packet packet) = ⊥
IsLast (inputs.Fault fault) = ⊤
IsLast inputs.Tick = ⊥
IsLast inputs.EndOfInput = ⊤
IsLast inputs.Closing = ⊤

-- a client has its session, or its connection has ended
abbrev pub KeepsOrEnds : {P : Type 0} → ConnPhase P → Type 0
KeepsOrEnds (Unconnected opened) = ⊥
KeepsOrEnds (Waiting request ticks) = ⊥
KeepsOrEnds (Connected connected) = ⊤
KeepsOrEnds Ended = ⊤

module _ {S P : Type 0} (call : S → SupplyCall P → S → Type 0) (terms : HandOutTerms) where
  -- as many messages were discarded last, one after the other, as may be where one is looked for
  pub record DiscardsMost (place : P) (new : S) : Type 0 where
    pub earlier : S
    pub before : P
    pub discarded : List Held
    pub many : length discarded ≡ most_discards
    pub discards : Discards call terms earlier before discarded place new

  -- the place has no room for a message; or it was asked last whether one was given back, and then whether one is queued, and there was none; or the
  -- supply answered last that it is to be handed no more now; or as much was discarded last as may be where a message is looked for
  abbrev pub IsServed : S → Membership P → Contents Held → Type 0
  IsServed new NotMember window = ⊤
  IsServed new (Member place) window =
      ¬ HasRoom window
      ⊎ ((earlier mid : S) × (before between : P) × call earlier (TakeBack before between (Ok None)) mid × call mid (Take between place (Ok None)) new)
      ⊎ call new (MayTake place false) new
      ⊎ DiscardsMost place new
  IsServed new (Leaving place) window = ⊤

module _ {S P : Type 0} (call : S → SupplyCall P → S → Type 0) where
  -- nothing is left to hand out to a connection at this moment: what waits to be sent again waits for the quota
  pub record IsAllHandedOut (connected : ConnectedClient P) (now : ℕ) (new : S) : Type 0 where
    pub again : IsNextResend connected.session.window None
    pub fresh : IsServed call (hand_out_terms connected now) new connected.session.membership connected.session.window
