-- What the workers of a broker have for themselves, each by its number.
use Rattle.std.specs.Prelude.{◌≡◌, ℕ, ◌+◌, List, [], ◌∷◌, ⊤}
use Rattle.conn_channel.specs.Ends.{ChannelId, ReceiverState, new_receiver}
use Rattle.worker_connections.specs.Arrivals.{ArrivedState}

-- what a worker has for itself: its number, how many connections it has at most, and its end of the channel
pub record PartsState (T : Type 0) : Type 0 where
  pub number : ℕ
  pub share : ℕ
  pub receiver : ReceiverState (ArrivedState T)

-- something holds of each of these and of its place in the list, which is counted from here on
abbrev pub AllAt : {A : Type 0} → (ℕ → A → Type 0) → ℕ → List A → Type 0
AllAt Holds place [] = ⊤
AllAt Holds place (x ∷ xs) = Holds place x × AllAt Holds (place + 1) xs

-- of so many workers the last one is first; each has as many connections at most as the others, and an end of this channel
abbrev pub IsPartsAt : {T : Type 0} → (count share : ℕ) → ChannelId (ArrivedState T) → ℕ → PartsState T → Type 0
IsPartsAt count share channel place parts = (parts.number + place + 1 ≡ count) × (parts.share ≡ share) × (parts.receiver ≡ new_receiver channel)

-- these are the parts of so many workers
abbrev pub ArePartsOf : {T : Type 0} → (count share : ℕ) → ChannelId (ArrivedState T) → List (PartsState T) → Type 0
ArePartsOf count share channel all_parts = AllAt (IsPartsAt count share channel) 0 all_parts
