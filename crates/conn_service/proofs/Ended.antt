-- How a connection ends, and what comes after that.
use Rattle.std.proofs.Common.{◌≡◌, ◌≢◌, ◌⊎◌, ℕ, Bool, List, [], ◌∷◌, ◌++◌, filter_map, Option, Some, None, refl, sym, ap, ◌∙◌, append-nil, inl, inr, ⊎_elim}
use Rattle.std.specs.List.{AllByRecursion}
use Rattle.std.specs.Option.{option_to_list}
use Rattle.std.proofs.lemmas.List.Elements.{filter_map-append}
use Rattle.transport.specs.declared.counts.Counts.{Counts}
use Rattle.conn_supply.specs.SupplyCalls.{SupplyCall}
use Rattle.conn_service.specs.declared.served.Served.{Served}
use Rattle.conn_service.specs.Services.{ServiceState}
use Rattle.conn_service.specs.Acts.{Act, Enters, Leaves, Asks, Reads, Writes, Steps, Loses, Fails, Starves, IsFull, IsStopped, Stalls, GivesUp, Ends, Others, ending_in, endings_of}
use Rattle.conn_service.specs.Lives.{Does, DoesAll}
use Rattle.conn_service.specs.Transcripts.{IsQuiet}

endings_on : (done : List Act) (act : Act) → endings_of (done ++ act ∷ []) ≡ endings_of done ++ filter_map ending_in (act ∷ [])
endings_on done act = filter_map-append ending_in done (act ∷ [])

module _ {S P T : Type 0} (call : S → SupplyCall P → S → Type 0) (begins ends : S → S → Type 0) (visiting : S → Bool) (slot_of : P → ℕ)
    (counts : T → Counts) (given accepted : T → Option (List ℕ)) where
  -- an act either leaves the ending, or ends a connection that had not ended
  abbrev Turns : Option Served → Option Served → Option Served → Type 0
  Turns its old new = ((its ≡ None) × (new ≡ old)) ⊎ ((old ≡ None) × (new ≡ its))

  turns : (act : Act) (old new : ServiceState P T) (supply supply' : S) → Does call begins ends visiting slot_of counts given accepted act old supply new supply'
      → Turns (ending_in act) old.ending new.ending
  turns (Enters is_open reads) old new supply supply' does = inl (refl, ap (λ (s : ServiceState P T). s.ending) does.becomes)
  turns Leaves old new supply supply' does = inl (refl, ap (λ (s : ServiceState P T). s.ending) does.same)
  turns (Asks is_kicked) old new supply supply' does = inl (refl, ap (λ (s : ServiceState P T). s.ending) does.same)
  turns Others old new supply supply' does = inl (refl, ap (λ (s : ServiceState P T). s.ending) does)
  turns (Reads size its bytes) old new supply supply' does = inr (does.does.may.going, ap (λ (s : ServiceState P T). s.ending) does.does.becomes)
  turns (Starves its bytes) old new supply supply' does = inr (does.does.may.going, ap (λ (s : ServiceState P T). s.ending) does.does.becomes)
  turns (Writes now put) old new supply supply' does = inr (does.does.going, ap (λ (s : ServiceState P T). s.ending) does.does.becomes)
  turns (Steps now input packets next) old new supply supply' does = inl (refl, ap (λ (s : ServiceState P T). s.ending) does.becomes)
  turns (Loses now input packets next) old new supply supply' does = inr (does.due.going, ap (λ (s : ServiceState P T). s.ending) does.becomes)
  turns (Fails now input) old new supply supply' does = inr (does.due.going, ap (λ (s : ServiceState P T). s.ending) does.becomes)
  turns (IsFull now) old new supply supply' does = inr (does.going, ap (λ (s : ServiceState P T). s.ending) does.becomes)
  turns (GivesUp now) old new supply supply' does = inl (refl, ap (λ (s : ServiceState P T). s.ending) does.becomes)
  turns IsStopped old new supply supply' does = inr (does.does.going, ap (λ (s : ServiceState P T). s.ending) does.does.becomes)
  turns (Stalls now) old new supply supply' does = inr (does.does.going, ap (λ (s : ServiceState P T). s.ending) does.does.becomes)
  turns Ends old new supply supply' does = inr (does.does.going, ap (λ (s : ServiceState P T). s.ending) does.does.becomes)

  one_ending : (its : Option Served) (act : Act) → ending_in act ≡ its → filter_map ending_in (act ∷ []) ≡ option_to_list its
  one_ending None act is = rw is
  one_ending (Some how) act is = rw is

  pub ending_on : (done : List Act) (act : Act) (old new : ServiceState P T) (supply supply' : S) → endings_of done ≡ option_to_list old.ending
      → Does call begins ends visiting slot_of counts given accepted act old supply new supply' → endings_of (done ++ act ∷ []) ≡ option_to_list new.ending
  ending_on done act old new supply supply' so does =
      ⊎_elim
      (λ (stays : (ending_in act ≡ None) × (new.ending ≡ old.ending)).
      endings_on done act ∙ ap (λ (l : List Served). endings_of done ++ l) (one_ending None act stays.0) ∙ append-nil (endings_of done) ∙ so ∙ ap option_to_list (sym stays.1))
      (λ (ends : (old.ending ≡ None) × (new.ending ≡ ending_in act)).
      endings_on done act ∙ ap (λ (l : List Served). l ++ filter_map ending_in (act ∷ [])) (so ∙ ap option_to_list ends.0) ∙ one_ending (ending_in act) act refl ∙ ap option_to_list (sym ends.1))
      (turns act old new supply supply' does)

  quiet_one : (act : Act) (old new : ServiceState P T) (supply supply' : S) → old.ending ≢ None → Does call begins ends visiting slot_of counts given accepted act old supply new supply' → IsQuiet act
  quiet_one (Enters is_open reads) old new supply supply' ended does = tt
  quiet_one Leaves old new supply supply' ended does = tt
  quiet_one (Asks is_kicked) old new supply supply' ended does = tt
  quiet_one Others old new supply supply' ended does = tt
  quiet_one (GivesUp now) old new supply supply' ended does = tt
  quiet_one (Reads size its bytes) old new supply supply' ended does = ended does.does.may.going
  quiet_one (Starves its bytes) old new supply supply' ended does = ended does.does.may.going
  quiet_one (Writes now put) old new supply supply' ended does = ended does.does.going
  quiet_one (Steps now input packets next) old new supply supply' ended does = ended does.due.going
  quiet_one (Loses now input packets next) old new supply supply' ended does = ended does.due.going
  quiet_one (Fails now input) old new supply supply' ended does = ended does.due.going
  quiet_one (IsFull now) old new supply supply' ended does = ended does.going
  quiet_one IsStopped old new supply supply' ended does = ended does.does.going
  quiet_one (Stalls now) old new supply supply' ended does = ended does.does.going
  quiet_one Ends old new supply supply' ended does = ended does.does.going

  stays_ended : (act : Act) (old new : ServiceState P T) (supply supply' : S) → old.ending ≢ None → Does call begins ends visiting slot_of counts given accepted act old supply new supply' → new.ending ≢ None
  stays_ended act old new supply supply' ended does =
      ⊎_elim (λ (stays : (ending_in act ≡ None) × (new.ending ≡ old.ending)) (none : new.ending ≡ None). ended (sym stays.1 ∙ none))
      (λ (ends : (old.ending ≡ None) × (new.ending ≡ ending_in act)) (none : new.ending ≡ None). ended ends.0) (turns act old new supply supply' does)

  -- after its end it is quiet
  pub quiet : (acts : List Act) (old new : ServiceState P T) (supply supply' : S) → old.ending ≢ None → DoesAll call begins ends visiting slot_of counts given accepted acts old supply new supply'
      → AllByRecursion IsQuiet acts
  quiet [] old new supply supply' ended does = tt
  quiet (act ∷ acts) old new supply supply' ended does =
      (quiet_one act old does.0 supply does.1 ended does.2, quiet acts does.0 new does.1 supply' (stays_ended act old does.0 supply does.1 ended does.2) does.3)
