-- What came to a connection, by the cells of the clients; and the steps of a close, one for each connection that is open.
use Rattle.std.proofs.Common.{◌≡◌, ◌≢◌, ℕ, ◌<◌, ◌≤◌, zero, suc, nat_eq, Bool, if◌then◌else◌, List, [], ◌∷◌, ◌++◌, Option, Some, None, Result, slice_get, refl, sym, ap, subst, ◌∙◌, ⊎_elim, append-nil, arith}
use Rattle.std.proofs.lemmas.Bool.{cases_eq, eq-eqb, ne_eqb}
use Rattle.std.proofs.lemmas.List.Elements.{filter-append}
use Rattle.std.proofs.lemmas.Option.{slice_get_within}
use Rattle.dispatch_core.proofs.Spots.{slice_get-set_same, slice_get-set_other}
use Rattle.conn_supply.specs.declared.supply.NoMemory.{NoMemory}
use Rattle.conn_engine.specs.declared.input.Input.TheVariants as inputs
use Rattle.client_table.specs.Cells.{InCell}
use Rattle.client_table.specs.Clients.{ClientState, StepOutput}
use Rattle.local_broker.specs.Places.{GroupPlace}
use Rattle.local_broker.specs.Broker.{Broker}
use Rattle.local_server.specs.Happening.{EndsFirst}
use Rattle.local_server.specs.Servers.{Clients}
use Rattle.local_server.specs.ConnSteps.{ConnStep, conn_steps_of}
use Rattle.local_server.specs.Streams.{open_in, client_at}
use Rattle.local_server.proofs.Reading.{EndsSteps}

-- who is in a cell
pub client_in : (clients : Clients) (number : ℕ) (cell : Option (ClientState GroupPlace)) → slice_get clients number ≡ Some cell → client_at clients number ≡ cell
client_in clients number cell has = ap open_in has

-- what happened in a cell happened to its connection
pub cell_heard : (clients clients' : Clients) (number : ℕ) (Becomes : Option (ClientState GroupPlace) → Option (ClientState GroupPlace) → Type 0)
    (cell : InCell clients number Becomes clients') (IsSo : Option (ClientState GroupPlace) → Option (ClientState GroupPlace) → Type 0) → IsSo cell.before cell.after
    → IsSo (client_at clients number) (client_at clients' number)
cell_heard clients clients' number Becomes cell IsSo so =
    let before : client_at clients number ≡ cell.before = client_in clients number cell.before cell.has in
    let after : client_at clients' number ≡ cell.after =
    client_in clients' number cell.after
    (ap (λ (l : Clients). slice_get l number) cell.is ∙ slice_get-set_same clients number cell.after (slice_get_within clients number cell.before cell.has)) in
    subst (λ (c : Option (ClientState GroupPlace)). IsSo c (client_at clients' number)) (sym before)
    (subst (λ (c : Option (ClientState GroupPlace)). IsSo cell.before c) (sym after) so)

-- the connections below this number ended, each by one step, and no other has one
abbrev pub EndsBelow : ℕ → Clients → List ConnStep → Type 0
EndsBelow count clients conn_steps =
    (number : ℕ) → (number < count → EndsSteps number inputs.Closing (client_at clients number) (conn_steps_of number conn_steps)) × (count ≤ number → conn_steps_of number conn_steps ≡ [])

pub none_below : (clients : Clients) → EndsBelow 0 clients []
none_below clients number = (λ less. absurd (omega (arith, less)), λ more. refl)

-- the steps of a connection among those of one
its_own : (count : ℕ) (client : Option (ClientState GroupPlace)) (conn_steps : List ConnStep) → EndsSteps count inputs.Closing client conn_steps → conn_steps_of count conn_steps ≡ conn_steps
its_own count None conn_steps ends = ap (conn_steps_of count) ends ∙ sym ends
its_own count (Some client) conn_steps ends =
    ap (conn_steps_of count) ends.1 ∙ ap (λ (b : Bool). if b then ends.0 ∷ [] else []) (eq-eqb ends.0.connection count ends.2) ∙ sym ends.1

no_other : (count number : ℕ) (client : Option (ClientState GroupPlace)) (conn_steps : List ConnStep) → EndsSteps count inputs.Closing client conn_steps → number ≢ count → conn_steps_of number conn_steps ≡ []
no_other count number None conn_steps ends other = ap (conn_steps_of number) ends
no_other count number (Some client) conn_steps ends other =
    ap (conn_steps_of number) ends.1 ∙ ap (λ (b : Bool). if b then ends.0 ∷ [] else []) (ne_eqb ends.0.connection number (λ same. other (sym same ∙ ends.2)))

pub one_more_below : (count : ℕ) (clients : Clients) (these those : List ConnStep) → EndsBelow count clients these
    → EndsSteps count inputs.Closing (client_at clients count) those
    → EndsBelow (suc count) clients (these ++ those)
one_more_below count clients these those below last number =
    let both : conn_steps_of number (these ++ those) ≡ conn_steps_of number these ++ conn_steps_of number those =
    filter-append (λ (conn_step : ConnStep). nat_eq conn_step.connection number) these those in
    ⊎_elim
    (λ (same : number ≡ count).
    let own : conn_steps_of number (these ++ those) ≡ those =
    both ∙ ap (λ (ts : List ConnStep). ts ++ conn_steps_of number those) ((below number).1 (omega (arith, same)))
    ∙ ap (λ (n : ℕ). conn_steps_of n those) same ∙ its_own count (client_at clients count) those last in (
      λ less.
          subst (EndsSteps number inputs.Closing (client_at clients number)) (sym own)
          (subst (λ (n : ℕ). EndsSteps n inputs.Closing (client_at clients n) those) (sym same) last),
      λ more. absurd (omega (arith, same, more)),
    ))
    (λ (other : number ≢ count).
    let same : conn_steps_of number (these ++ those) ≡ conn_steps_of number these =
    both ∙ ap (λ (ts : List ConnStep). conn_steps_of number these ++ ts) (no_other count number (client_at clients count) those last other) ∙ append-nil (conn_steps_of number these) in (
      λ less. subst (EndsSteps number inputs.Closing (client_at clients number)) (sym same) ((below number).0 (omega (arith, less, other))),
      λ more. same ∙ (below number).1 (omega (arith, more)),
    ))
    (cases_eq number count)

-- those from this number on are as they were
pub untouched : (count number : ℕ) (old new : Broker) (clients clients' : Clients) (now : ℕ) (outputs : List StepOutput) (result : Result (Unit {0}) NoMemory) → count ≤ number
    → EndsFirst count old clients now outputs result clients' new → client_at clients' number ≡ client_at clients number
untouched zero number old new clients clients' now outputs result from ends = ap (λ (c : Clients). client_at c number) ends.2
untouched (suc count) number old new clients clients' now outputs result from ends =
    let cell = ends.7 in
    ap (λ (c : Clients). client_at c number) cell.is ∙ ap open_in (slice_get-set_other ends.1 count number cell.after (λ same. absurd (omega (arith, from, same))))
    ∙ untouched count number old ends.0 clients ends.1 now ends.2 ends.4 (omega (arith, from)) ends.6
