-- What is handed out after the reply (sections 4.4, 4.6, 4.8.2 and 4.9).
use Rattle.std.specs.Prelude.{◌≡◌, ◌≢◌, ◌⊎◌, ℕ, ◌+◌, ◌<◌, length, true, false, List, [], ◌∷◌, ◌++◌, Option, Some, None, Ok, Err}
use Rattle.limits.specs.Limits.{most_unacknowledged}
use Rattle.mqtt_packet.specs.declared.packet.Packet.{Packet}
use Rattle.group_jobs.specs.declared.fate.Fate.TheVariants.{Discarded}
use Rattle.group_jobs.specs.Stamps.{Held, under}
use Rattle.member_window.specs.Identifiers.{identifiers, IsLeastFree}
use Rattle.member_window.specs.Contents.{Contents, held_of, HasRoom, IsNextResend, after_put, after_resend}
use Rattle.session_desk.specs.declared.session.Membership.{Membership}
use Rattle.session_desk.specs.declared.session.Membership.TheVariants.{NotMember, Member, Leaving}
use Rattle.conn_rules.specs.declared.hand_outs.HandOutTerms.{HandOutTerms}
use Rattle.conn_rules.specs.HandOuts.{is_discarded}
use Rattle.conn_rules.specs.Packets.{job}
use Rattle.conn_supply.specs.declared.supply.NoMemory.{NoMemory}
use Rattle.conn_supply.specs.SupplyCalls.{SupplyCall}
use Rattle.conn_supply.specs.SupplyCalls.SupplyCall.{MayTake, Take, TakeBack, TakePlace, Settle}

-- what waits is sent again at this moment, the oldest first, with DUP 1 and under its own identifier, until the quota is used up or nothing waits (4.4)
abbrev pub SendsAgain : ℕ → Contents Held → List Packet → Contents Held → Type 0
SendsAgain now old [] new = IsNextResend old None × (new ≡ old)
SendsAgain now old (packet ∷ packets) new =
    (entry : ℕ × Held) × IsNextResend old (Some entry) × (packet ≡ job now true entry.1.message entry.1.subscription entry.0)
    × SendsAgain now (after_resend old (Some entry)) packets new

-- these are sent again, the oldest first, while the quota lets it: a beginning of all that would be
abbrev pub SendsSomeAgain : Contents Held → List (ℕ × Held) → Contents Held → Type 0
SendsSomeAgain old [] new = new ≡ old
SendsSomeAgain old (entry ∷ entries) new = IsNextResend old (Some entry) × SendsSomeAgain (after_resend old (Some entry)) entries new

-- all that is held stays, in its order, with the same quota
pub record KeepsHeld (old new : Contents Held) : Type 0 where
  pub held : held_of new ≡ held_of old
  pub quota : new.quota ≡ old.quota
  pub retired : new.retired ≡ old.retired

-- one more is owed, and at most 256 are
pub record HoldsMore (old new : Contents Held) : Type 0 where
  pub one : length new.owed ≡ length old.owed + 1
  pub few : length old.owed < most_unacknowledged

-- how many messages are discarded at most where one is looked for (profile)
abbrev pub most_discards : ℕ
most_discards = 131072

module _ {S P : Type 0} (call : S → SupplyCall P → S → Type 0) where
  -- a place is handed a message: one that was given back, or else the oldest that is queued, or else none
  abbrev pub AsksFor : S → P → Option Held → P → S → Type 0
  AsksFor old place found place' new =
      ((envelope : Held) × (found ≡ Some envelope) × call old (TakeBack place place' (Ok (Some envelope))) new)
      ⊎ ((between : P) × (mid : S) × call old (TakeBack place between (Ok None)) mid × call mid (Take between place' (Ok found)) new)

  -- an allocation failed for a hand-out, and nothing was handed out
  abbrev pub IsRefused : S → P → P → S → Type 0
  IsRefused old place place' new =
      ((refusal : NoMemory) × call old (TakeBack place place' (Err refusal)) new)
      ⊎ ((refusal : NoMemory) × (between : P) × (mid : S) × call old (TakeBack place between (Ok None)) mid × call mid (Take between place' (Err refusal)) new)

  -- who leaves is handed nothing fresh, and is no member once nothing is left
  abbrev pub LeavesWith : S → P → Contents Held → Membership P → S → Type 0
  LeavesWith old place window membership new =
      ((held_of window ≡ []) × (membership ≡ NotMember) × call old (TakePlace place) new)
      ⊎ ((held_of window ≢ []) × (membership ≡ Leaving place) × (new ≡ old))

-- for a session whose client is sent its messages under these terms
module _ {S P : Type 0} (call : S → SupplyCall P → S → Type 0) (terms : HandOutTerms) where
  -- a place is handed a message, where the supply allows it one more; the client is not to be sent that, and it is discarded at once
  pub record DiscardsOne (old : S) (place : P) (envelope : Held) (place' : P) (new : S) : Type 0 where
    pub taken : P
    pub mid : S
    pub allowed : call old (MayTake place true) old
    pub asked : AsksFor call old place (Some envelope) taken mid
    pub reason : is_discarded terms envelope.message ≡ true
    pub settled : call mid (Settle taken place' envelope Discarded) new

  -- these are discarded, one after the other
  abbrev pub Discards : S → P → List Held → P → S → Type 0
  Discards old place [] place' new = (place' ≡ place) × (new ≡ old)
  Discards old place (envelope ∷ envelopes) place' new =
      (between : P) × (mid : S) × DiscardsOne old place envelope between mid × Discards mid between envelopes place' new

  -- the supply allows the place one more message, and it is handed one that the client may be sent; or there is none; or the supply allows no more now,
  -- and nothing has changed
  abbrev pub Finds : S → P → Option Held → P → S → Type 0
  Finds old place (Some envelope) place' new =
      call old (MayTake place true) old × AsksFor call old place (Some envelope) place' new × (is_discarded terms envelope.message ≡ false)
  Finds old place None place' new =
      (call old (MayTake place true) old × AsksFor call old place None place' new)
      ⊎ ((place' ≡ place) × (new ≡ old) × call old (MayTake place false) old)

  -- a message is looked for: what the client is not to be sent is discarded on the way, until that is as much as may be
  pub record LooksFor (old : S) (place : P) (found : Option Held) (place' : P) (new : S) : Type 0 where
    pub discarded : List Held
    pub between : P
    pub mid : S
    pub passed : Discards old place discarded between mid
    pub ended :
        ((length discarded < most_discards) × Finds mid between found place' new)
        ⊎ ((length discarded ≡ most_discards) × (found ≡ None) × (place' ≡ between) × (new ≡ mid))

  -- there is no room, and nothing changes; or no message is found
  abbrev pub SendsNone : S → P → Contents Held → P → Contents Held → S → Type 0
  SendsNone old place window place' window' new =
      (window' ≡ window)
      × ((¬ HasRoom window × (place' ≡ place) × (new ≡ old))
      ⊎ (HasRoom window × LooksFor old place None place' new))

  -- a message that is found, where there is room, goes out with DUP 0, under the least free identifier, and under the Subscription Identifier
  -- that the session has then (3.3.2.3.8)
  pub record SendsOne (old : S) (place : P) (window : Contents Held) (packet : Packet) (place' : P) (window' : Contents Held) (new : S) : Type 0 where
    pub envelope : Held
    pub identifier : ℕ
    pub room : HasRoom window
    pub found : LooksFor old place (Some envelope) place' new
    pub free : IsLeastFree (identifiers (held_of window)) identifier
    pub put : window' ≡ after_put window identifier (under terms.subscription envelope)
    pub sent : packet ≡ job terms.at false envelope.message terms.subscription identifier

  -- messages go out while there is room, until none is found
  abbrev pub SendsFresh : S → P → Contents Held → List Packet → P → Contents Held → S → Type 0
  SendsFresh old place window [] place' window' new = SendsNone old place window place' window' new
  SendsFresh old place window (packet ∷ packets) place' window' new =
      (between : P) × (window_between : Contents Held) × (mid : S)
      × SendsOne old place window packet between window_between mid
      × SendsFresh mid between window_between packets place' window' new

  -- what is fresh, for a session with this membership
  abbrev pub HandsFresh : S → Membership P → Contents Held → List Packet → Membership P → Contents Held → S → Type 0
  HandsFresh old NotMember window packets membership' window' new = (packets ≡ []) × (membership' ≡ NotMember) × (window' ≡ window) × (new ≡ old)
  HandsFresh old (Member place) window packets membership' window' new =
      (place' : P) × (membership' ≡ Member place') × SendsFresh old place window packets place' window' new
  HandsFresh old (Leaving place) window packets membership' window' new = (packets ≡ []) × (window' ≡ window) × LeavesWith call old place window membership' new

  -- first what waits is sent again, then what is fresh
  pub record HandsOut (old : S) (membership : Membership P) (window : Contents Held) (packets : List Packet) (membership' : Membership P) (window' : Contents Held) (new : S) : Type 0 where
    pub again : List Packet
    pub fresh : List Packet
    pub both : packets ≡ again ++ fresh
    pub between : Contents Held
    pub sent_again : SendsAgain terms.at window again between
    pub sent_fresh : HandsFresh old membership between fresh membership' window' new

  -- an allocation failed where a message was looked for, and none was found
  pub record IsCutShort (old : S) (place place' : P) (new : S) : Type 0 where
    pub discarded : List Held
    pub between : P
    pub mid : S
    pub passed : Discards old place discarded between mid
    pub allowed : call mid (MayTake between true) mid
    pub refused : IsRefused call mid between place' new

  -- a place is handed a message, where the supply allows it one more, and keeps it; what it was handed before that is discarded
  pub record TakesOne (old : S) (place : P) (envelope : Held) (place' : P) (new : S) : Type 0 where
    pub discarded : List Held
    pub between : P
    pub mid : S
    pub passed : Discards old place discarded between mid
    pub allowed : call mid (MayTake between true) mid
    pub asked : AsksFor call mid between (Some envelope) place' new

  -- where an allocation failed, what is held stays, and these messages were put after it, each where there was room
  abbrev pub TakesSome : S → P → Contents Held → List Held → P → Contents Held → S → Type 0
  TakesSome old place window [] place' window' new =
      (window' ≡ window) × (((place' ≡ place) × (new ≡ old)) ⊎ (HasRoom window × IsCutShort old place place' new))
  TakesSome old place window (envelope ∷ envelopes) place' window' new =
      (identifier : ℕ) × (between : P) × (mid : S) × TakesOne old place envelope between mid
      × IsLeastFree (identifiers (held_of window)) identifier × HasRoom window
      × TakesSome mid between (after_put window identifier (under terms.subscription envelope)) envelopes place' window' new

  -- where an allocation failed, what was done is a beginning of what is due: of what waits these were sent again; or all that could be, and then a
  -- member was handed these messages
  abbrev pub HandsSome : S → Membership P → Contents Held → Membership P → Contents Held → S → Type 0
  HandsSome old membership window membership' window' new =
      ((again : List (ℕ × Held)) × SendsSomeAgain window again window' × (membership' ≡ membership) × (new ≡ old))
      ⊎ ((place : P) × (place' : P) × (between : Contents Held) × (taken : List Held)
      × (membership ≡ Member place) × (membership' ≡ Member place') × ((again : List Packet) × SendsAgain terms.at window again between)
      × TakesSome old place between taken place' window' new)
