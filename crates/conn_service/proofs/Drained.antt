-- That a read gave less than there was room for is known after acts only where it was known before them, or such a read is among them.
use Rattle.std.proofs.Common.{◌≡◌, ◌⊎◌, ℕ, Bool, true, false, List, [], ◌∷◌, Option, refl, sym, ap, ◌∙◌, inl, inr}
use Rattle.transport.specs.declared.counts.Counts.{Counts}
use Rattle.conn_supply.specs.SupplyCalls.{SupplyCall}
use Rattle.conn_service.specs.Services.{ServiceState}
use Rattle.conn_service.specs.Acts.{Act, Enters, Leaves, Asks, Reads, Writes, Steps, Loses, Fails, Starves, IsFull, IsStopped, Stalls, GivesUp, Ends, Others}
use Rattle.conn_service.specs.Moments.{still_drained}
use Rattle.conn_service.specs.Lives.{Does, DoesAll}
use Rattle.conn_service.specs.Advances.{IsShortRead, HasShortRead, Forgets, HasForgotten}

still_along : (reads drained : Bool) → still_drained reads drained ≡ true → drained ≡ true
still_along true drained is = cc is
still_along false drained is = is

forgets_at : (reads drained : Bool) → reads ≡ true → still_drained reads drained ≡ false
forgets_at true drained is = refl
forgets_at false drained is = cc is

module _ {S P T : Type 0} (call : S → SupplyCall P → S → Type 0) (begins ends : S → S → Type 0) (visiting : S → Bool) (slot_of : P → ℕ)
    (counts : T → Counts) (given accepted : T → Option (List ℕ)) where
  same_drained : (old new same : ServiceState P T) → new ≡ same → same.drained ≡ old.drained → new.drained ≡ true → old.drained ≡ true
  same_drained old new same is keeps drained = sym keeps ∙ sym (ap (λ (s : ServiceState P T). s.drained) is) ∙ drained

  along_one : (act : Act) (old new : ServiceState P T) (supply supply' : S) → Does call begins ends visiting slot_of counts given accepted act old supply new supply' → new.drained ≡ true
      → (old.drained ≡ true) ⊎ IsShortRead act
  along_one (Enters is_open reads) old new supply supply' does is = inl (still_along reads old.drained (sym (ap (λ (s : ServiceState P T). s.drained) does.becomes) ∙ is))
  along_one Leaves old new supply supply' does is = inl (same_drained old new _ does.same refl is)
  along_one (Asks is_kicked) old new supply supply' does is = inl (same_drained old new _ does.same refl is)
  along_one (Reads size its bytes) old new supply supply' does is = inr (sym (ap (λ (s : ServiceState P T). s.drained) does.does.becomes) ∙ is)
  along_one (Starves its bytes) old new supply supply' does is = inl (same_drained old new _ does.does.becomes refl is)
  along_one (Writes now put) old new supply supply' does is = inl (same_drained old new _ does.does.becomes refl is)
  along_one (Steps now input packets next) old new supply supply' does is = inl (same_drained old new _ does.becomes refl is)
  along_one (Loses now input packets next) old new supply supply' does is = inl (same_drained old new _ does.becomes refl is)
  along_one (Fails now input) old new supply supply' does is = inl (same_drained old new _ does.becomes refl is)
  along_one (IsFull now) old new supply supply' does is = inl (same_drained old new _ does.becomes refl is)
  along_one IsStopped old new supply supply' does is = inl (same_drained old new _ does.does.becomes refl is)
  along_one (Stalls now) old new supply supply' does is = inl (same_drained old new _ does.does.becomes refl is)
  along_one (GivesUp now) old new supply supply' does is = inl (same_drained old new _ does.becomes refl is)
  along_one Ends old new supply supply' does is = inl (same_drained old new _ does.does.becomes refl is)
  along_one Others old new supply supply' does is = inl (same_drained old new _ does refl is)

  -- an act that forgets it
  forgets_one : (act : Act) (old new : ServiceState P T) (supply supply' : S) → Does call begins ends visiting slot_of counts given accepted act old supply new supply' → Forgets act → new.drained ≡ false
  forgets_one (Enters is_open reads) old new supply supply' does forgets = ap (λ (s : ServiceState P T). s.drained) does.becomes ∙ forgets_at reads old.drained forgets
  forgets_one Leaves old new supply supply' does forgets = absurd forgets
  forgets_one (Asks is_kicked) old new supply supply' does forgets = absurd forgets
  forgets_one (Reads size its bytes) old new supply supply' does forgets = absurd forgets
  forgets_one (Starves its bytes) old new supply supply' does forgets = absurd forgets
  forgets_one (Writes now put) old new supply supply' does forgets = absurd forgets
  forgets_one (Steps now input packets next) old new supply supply' does forgets = absurd forgets
  forgets_one (Loses now input packets next) old new supply supply' does forgets = absurd forgets
  forgets_one (Fails now input) old new supply supply' does forgets = absurd forgets
  forgets_one (IsFull now) old new supply supply' does forgets = absurd forgets
  forgets_one IsStopped old new supply supply' does forgets = absurd forgets
  forgets_one (Stalls now) old new supply supply' does forgets = absurd forgets
  forgets_one (GivesUp now) old new supply supply' does forgets = absurd forgets
  forgets_one Ends old new supply supply' does forgets = absurd forgets
  forgets_one Others old new supply supply' does forgets = absurd forgets

  then_one : (act : Act) (acts : List Act) (old mid : ServiceState P T) (supply between : S) → Does call begins ends visiting slot_of counts given accepted act old supply mid between
      → (mid.drained ≡ true) ⊎ HasShortRead acts → (old.drained ≡ true) ⊎ HasShortRead (act ∷ acts)
  then_one act acts old mid supply between does (inl is) = first (along_one act old mid supply between does is) where
    first : (old.drained ≡ true) ⊎ IsShortRead act → (old.drained ≡ true) ⊎ HasShortRead (act ∷ acts)
    first (inl before) = inl before
    first (inr short) = inr (inl short)
  then_one act acts old mid supply between does (inr short) = inr (inr short)

  along_all : (acts : List Act) (old new : ServiceState P T) (supply supply' : S) → DoesAll call begins ends visiting slot_of counts given accepted acts old supply new supply' → new.drained ≡ true
      → (old.drained ≡ true) ⊎ HasShortRead acts
  along_all [] old new supply supply' does is = inl (same_drained old new _ does.0 refl is)
  along_all (act ∷ acts) old new supply supply' does is =
      then_one act acts old does.0 supply does.1 does.2 (along_all acts does.0 new does.1 supply' does.3 is)

  not_before : (acts : List Act) (service : ServiceState P T) → service.drained ≡ false → (service.drained ≡ true) ⊎ HasShortRead acts → HasShortRead acts
  not_before acts service not (inl is) = cc (is, not)
  not_before acts service not (inr short) = short

  -- after acts that have forgotten it, such a read is among them
  pub short_since : (acts : List Act) (old new : ServiceState P T) (supply supply' : S) → DoesAll call begins ends visiting slot_of counts given accepted acts old supply new supply'
      → HasForgotten acts → new.drained ≡ true → HasShortRead acts
  short_since [] old new supply supply' does forgotten is = absurd forgotten
  short_since (act ∷ acts) old new supply supply' does (inl forgets) is =
      inr (not_before acts does.0 (forgets_one act old does.0 supply does.1 does.2 forgets) (along_all acts does.0 new does.1 supply' does.3 is))
  short_since (act ∷ acts) old new supply supply' does (inr forgotten) is = inr (short_since acts does.0 new does.1 supply' does.3 forgotten is)
