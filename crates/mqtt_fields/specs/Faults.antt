-- The faults of a stream and their numbers (section 4.13), and what a function that may want memory gives.
use Rattle.std.specs.Prelude.{◌≡◌, ◌<◌, ℕ, List, Option, Some, None, Result, Ok, Err}
use Rattle.std.specs.Borrow.{Bor}
use Rattle.mqtt_fields.specs.declared.fault.StreamFault.{StreamFault}
use Rattle.mqtt_fields.specs.declared.fault.StreamFault.TheVariants.{Malformed, Protocol, TooLarge}
use Rattle.mqtt_fields.specs.declared.fault.Fault.{Fault}
use Rattle.mqtt_fields.specs.declared.fault.Fault.TheVariants.{Stream, Memory}

-- the number of a refusal (profile)
abbrev pub number_of : Fault → ℕ
number_of (Stream Malformed) = 101
number_of (Stream Protocol) = 102
number_of (Stream TooLarge) = 103
number_of Memory = 104

-- the second step, where the first gave a value, and else the first fault
infixl 10 ◌>>=◌
abbrev pub ◌>>=◌ : {A B : Type 0} → Result A StreamFault → (A → Result B StreamFault) → Result B StreamFault
(Ok x) >>= f = f x
(Err e) >>= f = Err e

-- a failed call says what the definition gives, unless memory was refused
abbrev pub Fails : {Y : Type 0} → Fault → Result Y StreamFault → Type 0
Fails Memory read = Unit {0}
Fails (Stream fault) read = read ≡ Err fault

-- a call gives, seen by view, what the definition gives, unless memory was refused
abbrev pub Gives : {X Y : Type 0} → (X → Y) → Result X Fault → Result Y StreamFault → Type 0
Gives view (Ok x) read = read ≡ Ok (view x)
Gives view (Err e) read = Fails e read

-- a reader gives the value in front and leaves the bytes after it, or gives the fault
abbrev pub ReadsField : {A : Type 0} → Result A StreamFault → List ℕ → Result (A × List ℕ) StreamFault → Type 0
ReadsField (Ok value) rest field = field ≡ Ok (value, rest)
ReadsField (Err fault) rest field = field ≡ Err fault

-- the same of a reader that may want memory
abbrev pub GivesField : {A : Type 0} → Result A Fault → List ℕ → Result (A × List ℕ) StreamFault → Type 0
GivesField (Ok value) rest field = field ≡ Ok (value, rest)
GivesField (Err e) rest field = Fails e field

-- the same of a reader of a slice, which may find that more bytes are needed
abbrev pub GivesVariable : Result (Option (ℕ × Bor (List ℕ))) StreamFault → Result (Option (ℕ × List ℕ)) StreamFault → Type 0
GivesVariable (Ok None) read = read ≡ Ok None
GivesVariable (Ok (Some found)) read = read ≡ Ok (Some (found.0, found.1.now))
GivesVariable (Err fault) read = read ≡ Err fault

-- a number that was found is below the limit
abbrev pub FindsBelow : ℕ → Result (Option (ℕ × Bor (List ℕ))) StreamFault → Type 0
FindsBelow limit (Ok None) = Unit {0}
FindsBelow limit (Ok (Some found)) = found.0 < limit
FindsBelow limit (Err fault) = Unit {0}
