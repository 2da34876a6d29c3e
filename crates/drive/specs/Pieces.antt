-- The pieces of a client's stream, one after the other in one list of bytes, and the events of its life.
use Rattle.std.specs.Prelude.{◌≡◌, ℕ, ◌≤◌, List, [], ◌∷◌, ◌++◌, length, take, drop, map}
use Rattle.local_server.specs.declared.event.ServerEvent.TheVariants.{Open, Bytes, End}
use Rattle.local_server.specs.declared.event.TimedEvent.{TimedEvent}
use Rattle.drive.specs.Streams.{at_once}

-- the pieces of these sizes, one after the other
abbrev pub cut_by : List ℕ → List ℕ → List (List ℕ)
cut_by [] bytes = []
cut_by (size ∷ sizes) bytes = take size bytes ∷ cut_by sizes (drop size bytes)

-- pieces of these sizes are all of the bytes
abbrev pub AddUpTo : List ℕ → List ℕ → Type 0
AddUpTo [] bytes = bytes ≡ []
AddUpTo (size ∷ sizes) bytes = (size ≤ length bytes) × AddUpTo sizes (drop size bytes)

-- a piece of the client's stream comes
abbrev pub comes : List ℕ → TimedEvent
comes piece = at_once (Bytes 0 piece)

-- the connection is opened, and then these pieces come
abbrev pub opened : List (List ℕ) → List TimedEvent
opened pieces = at_once (Open 0) ∷ map comes pieces

-- and then the stream ends
abbrev pub life_of : List (List ℕ) → List TimedEvent
life_of pieces = opened pieces ++ at_once (End 0) ∷ []
