-- What is done to a client is a list of calls, and what they hand out is what is said.
use Rattle.std.proofs.Common.{◌≡◌, ℕ, List, [], ◌∷◌, ◌++◌, reverse, Option, Some, None, Result, Ok, Err, ⊎_elim, inl, inr, refl, sym, ap, subst, ◌∙◌, append_assoc, append-nil}
use Rattle.std.proofs.lemmas.List.{map-append}
use Rattle.std.proofs.lemmas.List.Elements.{filter_map-append}
use Rattle.group_jobs.specs.Stamps.{Held}
use Rattle.conn_supply.specs.declared.supply.NoMemory.{NoMemory}
use Rattle.conn_supply.specs.SupplyCalls.{SupplyCall}
use Rattle.conn_engine.specs.declared.input.Input.{Input}
use Rattle.conn_engine.specs.declared.input.Input.TheVariants as inputs
use Rattle.conn_laws.specs.Calls.{hand_out_of, Outcome, if_sent, sent_of, Content, content_of, contents_of, fresh_contents, CallsLead}
use Rattle.conn_laws.proofs.Calling.{joins}
use Rattle.conn_laws.proofs.HandingOut.{hands_of_both}
use Rattle.conn_laws.proofs.Stepping.{stepped}
use Rattle.conn_laws.proofs.Failing.{failed}
use Rattle.client_table.specs.Cells.{Receives, TicksFor, EndsFor, Abandons, AbandonsAll, AbandonsEach}
use Rattle.client_table.specs.Clients.{ClientState, moment_of, StepOutput, ClientSteps, ClientFailsToStep, IsGivenUp}
use Rattle.client_table.specs.Deliveries.{fresh_sent, Delivers}
use Rattle.client_table.specs.Streams.{fed, Reads, FailsToReadOne, FailsToRead, Ticks, FailsToTick}

pub fresh_sent-append : (outputs more : List StepOutput) → fresh_sent (outputs ++ more) ≡ fresh_sent outputs ++ fresh_sent more
fresh_sent-append [] more = refl
fresh_sent-append (first ∷ others) more =
    ap (λ (later : List Content). fresh_contents first.packets ++ later) (fresh_sent-append others more) ∙ sym (append_assoc (fresh_contents first.packets) (fresh_sent others) (fresh_sent more))

-- what is sent of these outcomes, and then of those
pub contents_of_both : {P : Type 0} (these those : List (Outcome P)) → contents_of (sent_of (these ++ those)) ≡ contents_of (sent_of these) ++ contents_of (sent_of those)
contents_of_both {P} these those =
    ap contents_of (filter_map-append (λ (o : Outcome P). if_sent o.sent o.hand_out) these those) ∙ map-append (λ (h : P × Held). content_of h.1.message) (sent_of these) (sent_of those)

module _ {S P : Type 0} (call : S → SupplyCall P → S → Type 0) (slot_of : P → ℕ) where
  none : (old new : S) → new ≡ old → CallsLead call old new
  none old new same = ([], same)

  behind : (old mid new : S) → CallsLead call old mid → CallsLead call mid new → CallsLead call old new
  behind old mid new these those = (these.0 ++ those.0, joins call these.0 those.0 old mid new these.1 those.1)

  -- nothing was done, and nothing said
  none_told : (old new : S) → new ≡ old → Delivers call old [] new
  none_told old new same = record { supply_calls = []; made = same; outcomes = []; handed_out = refl; told = refl }

  behind_told : (old mid new : S) (outputs more : List StepOutput) → Delivers call old outputs mid → Delivers call mid more new → Delivers call old (outputs ++ more) new
  behind_told old mid new outputs more these those =
      record {
        supply_calls = these.supply_calls ++ those.supply_calls;
        made = joins call these.supply_calls those.supply_calls old mid new these.made those.made;
        outcomes = these.outcomes ++ those.outcomes;
        handed_out =
            filter_map-append hand_out_of these.supply_calls those.supply_calls ∙ (λ i. these.handed_out i ++ those.handed_out i)
            ∙ sym (hands_of_both these.outcomes those.outcomes);
        told = fresh_sent-append outputs more ∙ (λ i. these.told i ++ those.told i) ∙ sym (contents_of_both these.outcomes those.outcomes);
      }

  leads : (old new : S) (outputs : List StepOutput) → Delivers call old outputs new → CallsLead call old new
  leads old new outputs calls = (calls.supply_calls, calls.made)

  pub moves : (old new : S) (client after : ClientState P) (now : ℕ) (input : Input) (output : StepOutput) → ClientSteps call slot_of old client now input output after new
      → Delivers call old (output ∷ []) new
  moves old new client after now input output moved =
      let calls = stepped call slot_of old new client.conn.number (moment_of client now) client.conn.phase after.conn.phase input output.packets output.next moved.stepped in
      record { supply_calls = calls.supply_calls; made = calls.made; outcomes = calls.outcomes; handed_out = calls.handed_out; told = append-nil (fresh_contents output.packets) ∙ calls.hands }

  fails_to_move : (old new : S) (client after : ClientState P) (now : ℕ) (input : Input) → ClientFailsToStep call slot_of old client now input after new → CallsLead call old new
  fails_to_move old new client after now input fails =
      let calls = failed call slot_of old new client.conn.number (moment_of client now) client.conn.phase input fails.failed in
      (calls.supply_calls, calls.made)

  pub given_up : (old new : S) (client after : ClientState P) (now : ℕ) (input : Input) → IsGivenUp call slot_of old client now input after new → CallsLead call old new
  given_up old new client after now input (inl moved) = leads old new _ (moves old new client after now input moved.0 moved.1)
  given_up old new client after now input (inr fails) = fails_to_move old new client after now input fails

  pub reads : (outputs : List StepOutput) (old new : S) (client after : ClientState P) (now : ℕ) → Reads call slot_of old client now outputs after new → Delivers call old outputs new
  reads [] old new client after now read = none_told old new read.2
  reads (outputs ∷ rest) old new client after now (inl last) =
      subst (λ more. Delivers call old (outputs ∷ more) new) (sym last.1) (moves old new client after now last.0.input outputs last.0.moved)
  reads (outputs ∷ rest) old new client after now (inr more) =
      behind_told old more.1 new (outputs ∷ []) rest (moves old more.1 client more.0 now _ outputs more.2.moved) (reads rest more.1 new more.0 after now more.3)

  fails_to_read_one : (old new : S) (client after : ClientState P) (now : ℕ) → FailsToReadOne call slot_of old client now after new → CallsLead call old new
  fails_to_read_one old new client after now (inl given) = given_up old new client after now inputs.EndOfInput given
  fails_to_read_one old new client after now (inr fails) = fails_to_move old new client after now fails.0 fails.2

  pub fails_to_read : (outputs : List StepOutput) (old new : S) (client after : ClientState P) (now : ℕ) → FailsToRead call slot_of old client now outputs after new → CallsLead call old new
  fails_to_read [] old new client after now fails = fails_to_read_one old new client after now fails
  fails_to_read (outputs ∷ rest) old new client after now fails =
      behind old fails.1 new (leads old fails.1 _ (moves old fails.1 client fails.0 now _ outputs fails.2.moved)) (fails_to_read rest fails.1 new fails.0 after now fails.3)

  pub ticks : (outputs : List StepOutput) (old new : S) (client after : ClientState P) (now : ℕ) → Ticks call slot_of old client now outputs after new → Delivers call old outputs new
  ticks [] old new client after now ticked = absurd ticked
  ticks (outputs ∷ rest) old new client after now (inl last) =
      subst (λ more. Delivers call old (outputs ∷ more) new) (sym last.2) (moves old new client after now inputs.Tick outputs last.0)
  ticks (outputs ∷ rest) old new client after now (inr more) =
      behind_told old more.1 new (outputs ∷ []) rest (moves old more.1 client more.0 now inputs.Tick outputs more.2) (reads rest more.1 new more.0 after now more.4)

  fails_at_tick : (old new : S) (client after : ClientState P) (now : ℕ) → FailsToTick call slot_of old client now [] after new → CallsLead call old new
  fails_at_tick old new client after now (inl given) = given_up old new client after now inputs.EndOfInput given
  fails_at_tick old new client after now (inr fails) = fails_to_move old new client after now inputs.Tick fails

  pub fails_to_tick : (outputs : List StepOutput) (old new : S) (client after : ClientState P) (now : ℕ) → FailsToTick call slot_of old client now outputs after new → CallsLead call old new
  fails_to_tick [] old new client after now fails = fails_at_tick old new client after now fails
  fails_to_tick (outputs ∷ rest) old new client after now fails =
      behind old fails.1 new (leads old fails.1 _ (moves old fails.1 client fails.0 now inputs.Tick outputs fails.2)) (fails_to_read rest fails.1 new fails.0 after now fails.4)

  -- what happens to the client in a cell
  pub receives_told : (before : Option (ClientState P)) (old new : S) (now : ℕ) (piece : List ℕ) (more : List StepOutput) (after : Option (ClientState P))
      → Receives call slot_of old before now piece more (Ok tt) after new → Delivers call old more new
  receives_told None old new now piece more after does = subst (λ outputs. Delivers call old outputs new) (sym does.0) (none_told old new does.2)
  receives_told (Some client) old new now piece more after does = reads more old new (fed client piece) does.0 now does.1

  pub ticks_told : (before : Option (ClientState P)) (old new : S) (now : ℕ) (more : List StepOutput) (after : Option (ClientState P))
      → TicksFor call slot_of old before now more (Ok tt) after new → Delivers call old more new
  ticks_told None old new now more after does = subst (λ outputs. Delivers call old outputs new) (sym does.0) (none_told old new does.2)
  ticks_told (Some client) old new now more after does = ticks more old new client does.0 now does.1

  pub ends_told : (before : Option (ClientState P)) (old new : S) (now : ℕ) (input : Input) (more : List StepOutput) (after : Option (ClientState P))
      → EndsFor call slot_of old before now input more (Ok tt) after new → Delivers call old more new
  ends_told None old new now input more after does = subst (λ outputs. Delivers call old outputs new) (sym does.0) (none_told old new does.2)
  ends_told (Some client) old new now input more after does =
      subst (λ outputs. Delivers call old outputs new) (sym does.1.1) (moves old new client does.0 now input does.1.0 does.1.2)

  pub receives : (result : Result (Unit {0}) NoMemory) (before : Option (ClientState P)) (old new : S) (now : ℕ) (piece : List ℕ) (more : List StepOutput) (after : Option (ClientState P))
      → Receives call slot_of old before now piece more result after new → CallsLead call old new
  receives (Ok done) before old new now piece more after does = leads old new more (receives_told before old new now piece more after does)
  receives (Err error) None old new now piece more after does = absurd does
  receives (Err error) (Some client) old new now piece more after does =
      ⊎_elim
      (λ (given : IsGivenUp call slot_of old client now inputs.EndOfInput does.0 new × (more ≡ [])). given_up old new client does.0 now inputs.EndOfInput given.0)
      (λ (fails : FailsToRead call slot_of old (fed client piece) now more does.0 new). fails_to_read more old new (fed client piece) does.0 now fails)
      does.1

  pub ticks_for : (result : Result (Unit {0}) NoMemory) (before : Option (ClientState P)) (old new : S) (now : ℕ) (more : List StepOutput) (after : Option (ClientState P))
      → TicksFor call slot_of old before now more result after new → CallsLead call old new
  ticks_for (Ok done) before old new now more after does = leads old new more (ticks_told before old new now more after does)
  ticks_for (Err error) None old new now more after does = absurd does
  ticks_for (Err error) (Some client) old new now more after does = fails_to_tick more old new client does.0 now does.1

  pub ends_for : (result : Result (Unit {0}) NoMemory) (before : Option (ClientState P)) (old new : S) (now : ℕ) (input : Input) (more : List StepOutput) (after : Option (ClientState P))
      → EndsFor call slot_of old before now input more result after new → CallsLead call old new
  ends_for (Ok done) before old new now input more after does = leads old new more (ends_told before old new now input more after does)
  ends_for (Err error) None old new now input more after does = absurd does
  ends_for (Err error) (Some client) old new now input more after does = given_up old new client does.0 now input does.1.1

  abandons : (cell : Option (ClientState P)) (old new : S) (now : ℕ) → Abandons call slot_of old cell now new → CallsLead call old new
  abandons None old new now does = none old new does
  abandons (Some client) old new now does = given_up old new client does.0 now inputs.Closing does.1

  abandons_all : (cells : List (Option (ClientState P))) (old new : S) (now : ℕ) → AbandonsAll call slot_of old cells now new → CallsLead call old new
  abandons_all [] old new now does = none old new does
  abandons_all (cell ∷ cells) old new now does = behind old does.0 new (abandons cell old does.0 now does.1) (abandons_all cells does.0 new now does.2)

  pub abandons_each : (cells : List (Option (ClientState P))) (old new : S) (now : ℕ) → AbandonsEach call slot_of old cells now new → CallsLead call old new
  abandons_each cells old new now does = abandons_all (reverse cells) old new now does
