-- The acts of one round: all at its moment, each where it may stand, and in one visit of the supply. What others do to the supply is none of them.
use Rattle.std.specs.Prelude.{◌≡◌, ◌⊎◌, ℕ, Bool, true, false, List, [], ◌∷◌}
use Rattle.conn_engine.specs.declared.input.Input.{Input}
use Rattle.conn_engine.specs.declared.input.Input.TheVariants as inputs
use Rattle.conn_service.specs.Acts.{Act, Enters, Leaves, Asks, Reads, Writes, Steps, Loses, Fails, Starves, IsFull, IsStopped, Stalls, GivesUp, Ends}

-- where a round stands towards the supply
pub data Stand : Type 0 where
  -- in front of its visit
  Outside : Stand
  -- in it, which is one of an open supply, or was refused
  Inside : (is_open : Bool) → Stand
  -- after it, or the round has none
  Behind : Stand
  -- in a further visit, which only gives the connection up; and after that step
  Parting : Stand
  Parted : Stand

-- what is stepped in a visit of an open supply; and the close, in one that was refused
abbrev pub IsSteppedIn : Input → Bool → Type 0
IsSteppedIn (inputs.Packet packet) is_open = is_open ≡ true
IsSteppedIn (inputs.Fault fault) is_open = is_open ≡ true
IsSteppedIn inputs.Tick is_open = is_open ≡ true
IsSteppedIn inputs.EndOfInput is_open = is_open ≡ true
IsSteppedIn inputs.Closing is_open = is_open ≡ false

-- it stands in front of its visit, or makes none any more
abbrev pub IsStillOut : Stand → Type 0
IsStillOut to = (to ≡ Outside) ⊎ (to ≡ Behind)

-- an act at this moment, from one stand to the next
abbrev pub TreadsOutside : ℕ → Act → Stand → Type 0
TreadsOutside now (Enters is_open reads) to = (to ≡ Inside is_open) ⊎ (to ≡ Parting)
TreadsOutside now (Writes at put) to = (at ≡ now) × IsStillOut to
TreadsOutside now IsStopped to = IsStillOut to
TreadsOutside now (Stalls at) to = (at ≡ now) × IsStillOut to
TreadsOutside now Ends to = IsStillOut to
TreadsOutside now _ to = ⊥

abbrev pub TreadsInside : ℕ → Bool → Act → Stand → Type 0
TreadsInside now is_open Leaves to = to ≡ Behind
TreadsInside now is_open (Asks is_kicked) to = (is_open ≡ true) × (to ≡ Inside is_open)
TreadsInside now is_open (Reads size got bytes) to = (is_open ≡ true) × (to ≡ Inside is_open)
TreadsInside now is_open (Starves got bytes) to = (is_open ≡ true) × (to ≡ Inside is_open)
TreadsInside now is_open (Steps at input packets next) to = (at ≡ now) × IsSteppedIn input is_open × (to ≡ Inside is_open)
TreadsInside now is_open (Loses at input packets next) to = (at ≡ now) × IsSteppedIn input is_open × (to ≡ Inside is_open)
TreadsInside now is_open (Fails at input) to = (at ≡ now) × IsSteppedIn input is_open × (to ≡ Inside is_open)
TreadsInside now is_open (IsFull at) to = (at ≡ now) × (is_open ≡ true) × (to ≡ Inside is_open)
TreadsInside now is_open _ to = ⊥

abbrev pub TreadsBehind : ℕ → Act → Stand → Type 0
TreadsBehind now (Enters is_open reads) to = to ≡ Parting
TreadsBehind now (Writes at put) to = (at ≡ now) × (to ≡ Behind)
TreadsBehind now IsStopped to = to ≡ Behind
TreadsBehind now (Stalls at) to = (at ≡ now) × (to ≡ Behind)
TreadsBehind now Ends to = to ≡ Behind
TreadsBehind now _ to = ⊥

abbrev pub TreadsParting : ℕ → Act → Stand → Type 0
TreadsParting now (GivesUp at) to = (at ≡ now) × (to ≡ Parted)
TreadsParting now _ to = ⊥

abbrev pub TreadsParted : Act → Stand → Type 0
TreadsParted Leaves to = to ≡ Behind
TreadsParted _ to = ⊥

abbrev pub Treads : ℕ → Stand → Act → Stand → Type 0
Treads now Outside act to = TreadsOutside now act to
Treads now (Inside is_open) act to = TreadsInside now is_open act to
Treads now Behind act to = TreadsBehind now act to
Treads now Parting act to = TreadsParting now act to
Treads now Parted act to = TreadsParted act to

-- without any act it stands where it stood, or makes no visit
abbrev pub Rests : Stand → Stand → Type 0
Rests Outside to = IsStillOut to
Rests (Inside is_open) to = to ≡ Inside is_open
Rests Behind to = to ≡ Behind
Rests Parting to = to ≡ Parting
Rests Parted to = to ≡ Parted

-- acts at this moment, from one stand to another
abbrev pub Walks : ℕ → Stand → List Act → Stand → Type 0
Walks now from [] to = Rests from to
Walks now from (act ∷ acts) to = (mid : Stand) × Treads now from act mid × Walks now mid acts to
