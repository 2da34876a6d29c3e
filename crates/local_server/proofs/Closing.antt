-- One connection after another ends.
use Rattle.std.proofs.Common.{◌≡◌, ℕ, ◌+◌, List, [], ◌++◌, refl, ap, sym, ◌∙◌, append_assoc, append-nil, add-one, Result, Ok}
use Rattle.std.specs.Result.{result_and}
use Rattle.conn_supply.specs.declared.supply.NoMemory.{NoMemory}
use Rattle.client_table.specs.Clients.{StepOutput}
use Rattle.local_broker.specs.Broker.{Broker}
use Rattle.local_broker.specs.Calls.{Closes}
use Rattle.local_server.specs.Servers.{Clients}
use Rattle.local_server.specs.Happening.{EndsAt, EndsFirst, ClosesAll}

-- so many connections have ended, after what was said before
abbrev pub HaveEnded : ℕ → Broker → Clients → ℕ → List StepOutput → List StepOutput → Result (Unit {0}) NoMemory → Clients → Broker → Type 0
HaveEnded number old clients now before outputs result clients' new = (earlier : List StepOutput) × (outputs ≡ before ++ earlier) × EndsFirst number old clients now earlier result clients' new

pub none_ended : (old : Broker) (clients : Clients) (now : ℕ) (before : List StepOutput) → HaveEnded 0 old clients now before before (Ok tt) clients old
none_ended old clients now before = ([], sym (append-nil before), (refl, refl, refl, refl))

longer : (before outputs outputs' earlier last : List StepOutput) → outputs ≡ before ++ earlier → outputs' ≡ outputs ++ last → outputs' ≡ before ++ (earlier ++ last)
longer before outputs outputs' earlier last one more = more ∙ ap (λ xs. xs ++ last) one ∙ append_assoc before earlier last

pub more_ended : (number : ℕ) (old mid new : Broker) (clients between clients' : Clients) (now : ℕ) (before outputs outputs' last : List StepOutput) (first then result : Result (Unit {0}) NoMemory)
    → HaveEnded number old clients now before outputs first between mid → outputs' ≡ outputs ++ last → EndsAt number mid between now last then clients' new → result ≡ result_and first then
    → HaveEnded (number + 1) old clients now before outputs' result clients' new
more_ended number old mid new clients between clients' now before outputs outputs' last first then result ends more cell is =
    (ends.0 ++ last, longer before outputs outputs' ends.0 last ends.1 more, rw add-one (mid, between, ends.0, last, first, then, ends.2, cell, refl, is))

pub all_ended : (number : ℕ) (old closed new : Broker) (clients clients' : Clients) (now : ℕ) (before outputs : List StepOutput) (result : Result (Unit {0}) NoMemory)
    → Closes old closed → number ≡ 64 → HaveEnded number closed clients now before outputs result clients' new
    → (more : List StepOutput) × (outputs ≡ before ++ more) × ClosesAll old clients now more result clients' new
all_ended number old closed new clients clients' now before outputs result closes all ends =
    (ends.0, ends.1, (closed, closes, number, all, ends.2))
