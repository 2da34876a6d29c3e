-- What holds of no act, and goes on to hold with each further one, holds of all.
use Rattle.std.proofs.Common.{◌≡◌, ℕ, Bool, List, [], ◌∷◌, ◌++◌, Option, sym, subst, append-nil, append_assoc, ◌∙◌, ap}
use Rattle.std.specs.List.{flat_map}
use Rattle.std.proofs.lemmas.Grind.{flat_map-append}
use Rattle.transport.specs.declared.counts.Counts.{Counts}
use Rattle.conn_supply.specs.SupplyCalls.{SupplyCall}
use Rattle.conn_service.specs.Services.{ServiceState}
use Rattle.conn_service.specs.Acts.{Act}
use Rattle.conn_service.specs.Lives.{Does, DoesAll}

-- one more in a list of what each gives
pub one_more : {A B : Type 0} (f : A → List B) (these : List A) (last : A) → flat_map f (these ++ last ∷ []) ≡ flat_map f these ++ f last
one_more f these last = flat_map-append f these (last ∷ []) ∙ ap (λ (l : List _). flat_map f these ++ l) (append-nil (f last))

module _ {S P T : Type 0} (call : S → SupplyCall P → S → Type 0) (begins ends : S → S → Type 0) (visiting : S → Bool) (slot_of : P → ℕ)
    (counts : T → Counts) (given accepted : T → Option (List ℕ)) where
  pub folded : (Q : List Act → ServiceState P T → S → Type 0)
      → ((done : List Act) (act : Act) (old new : ServiceState P T) (supply supply' : S) → Q done old supply → Does call begins ends visiting slot_of counts given accepted act old supply new supply'
      → Q (done ++ act ∷ []) new supply')
      → (acts done : List Act) (old new : ServiceState P T) (supply supply' : S) → Q done old supply → DoesAll call begins ends visiting slot_of counts given accepted acts old supply new supply'
      → Q (done ++ acts) new supply'
  folded Q on [] done old new supply supply' holds does =
      subst (λ (d : List Act). Q d new supply') (sym (append-nil done))
      (subst (λ (s : S). Q done new s) (sym does.1) (subst (λ (service : ServiceState P T). Q done service supply) (sym does.0) holds))
  folded Q on (act ∷ acts) done old new supply supply' holds does =
      subst (λ (d : List Act). Q d new supply') (append_assoc done (act ∷ []) acts)
      (folded Q on acts (done ++ act ∷ []) does.0 new does.1 supply' (on done act old does.0 supply does.1 holds does.2) does.3)
