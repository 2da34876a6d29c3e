-- To whom a server says what is said in an event.
use Rattle.std.specs.Prelude.{◌≡◌, ℕ, List, [], ◌∷◌, Some, ⊤, slice_get}
use Rattle.client_table.specs.Clients.{ClientState, StepOutput}
use Rattle.local_broker.specs.Places.{GroupPlace}
use Rattle.local_server.specs.declared.event.ServerEvent.{ServerEvent}
use Rattle.local_server.specs.declared.event.ServerEvent.TheVariants as events
use Rattle.local_server.specs.Servers.{Clients}

-- each connection that is open has the number under which its client stands
abbrev pub AreNumbered : Clients → Type 0
AreNumbered clients = (number : ℕ) (client : ClientState GroupPlace) → slice_get clients number ≡ Some (Some client) → client.conn.number ≡ number

-- all that is said is said to this connection
abbrev pub AreSentTo : ℕ → List StepOutput → Type 0
AreSentTo number [] = ⊤
AreSentTo number (first ∷ others) = (first.connection ≡ number) × AreSentTo number others

-- what is said in an event of a connection is said to that one; a close is told to each
abbrev pub Answers : ServerEvent → List StepOutput → Type 0
Answers (events.Open number) outputs = AreSentTo number outputs
Answers (events.Bytes number piece) outputs = AreSentTo number outputs
Answers (events.Tick number) outputs = AreSentTo number outputs
Answers (events.End number) outputs = AreSentTo number outputs
Answers events.Close outputs = ⊤
