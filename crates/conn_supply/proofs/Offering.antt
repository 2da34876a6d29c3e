-- A message is offered to one group, and then to the others.
use Rattle.std.proofs.Common.{◌≡◌, ℕ, ◌+◌, List, [], ◌∷◌, Result, sym, subst, refl, arith, inr}
use Rattle.group_jobs.specs.declared.message.Message.{Message}
use Rattle.group_jobs.specs.declared.stamp.Stamp.{Stamp}
use Rattle.conn_supply.specs.declared.supply.OfferRefusal.{OfferRefusal}
use Rattle.conn_supply.specs.SupplyCalls.{SupplyCall}
use Rattle.conn_supply.specs.SupplyCalls.SupplyCall.{Offer}
use Rattle.conn_supply.specs.Publishing.{Took, Offers, OffersFirst}

module _ {S P : Type 0} (call : S → SupplyCall P → S → Type 0) where
  -- to the last of them
  pub last_offered : (old new : S) (connection slot : ℕ) (message : Message) (slots rest : List ℕ) (taken : ℕ) (answer : Result Stamp OfferRefusal)
      → slots ≡ slot ∷ rest → rest ≡ [] → call old (Offer slot connection message answer) new → Took answer taken → Offers call old connection message slots taken new
  last_offered old new connection slot message slots rest taken answer is none offers took =
      let all : Offers call old connection message (slot ∷ []) taken new = (answer, new, taken, 0, offers, took, (refl, refl), omega arith) in
      let only : slots ≡ slot ∷ [] = subst (λ (l : List ℕ). slots ≡ slot ∷ l) none is in
      subst (λ (l : List ℕ). Offers call old connection message l taken new) (sym only) all

  -- to one of them and to the others
  pub more_offered : (old mid new : S) (connection slot : ℕ) (message copy : Message) (slots rest : List ℕ) (first more : ℕ) (answer : Result Stamp OfferRefusal)
      → slots ≡ slot ∷ rest → copy ≡ message → call old (Offer slot connection copy answer) mid → Took answer first → Offers call mid connection message rest more new
      → Offers call old connection message slots (first + more) new
  more_offered old mid new connection slot message copy slots rest first more answer is same offers took others =
      let its = subst (λ (m : Message). call old (Offer slot connection m answer) mid) same offers in
      let all : Offers call old connection message (slot ∷ rest) (first + more) new = (answer, mid, first, more, its, took, others, refl) in
      subst (λ (l : List ℕ). Offers call old connection message l (first + more) new) (sym is) all

  -- to one of them, and to the others until one has no memory for it
  pub cut_short_later : (old mid new : S) (connection slot : ℕ) (message copy : Message) (slots rest : List ℕ) (first : ℕ) (answer : Result Stamp OfferRefusal)
      → slots ≡ slot ∷ rest → copy ≡ message → call old (Offer slot connection copy answer) mid → Took answer first → OffersFirst call mid connection message rest new
      → OffersFirst call old connection message slots new
  cut_short_later old mid new connection slot message copy slots rest first answer is same offers took others =
      let its = subst (λ (m : Message). call old (Offer slot connection m answer) mid) same offers in
      let all : OffersFirst call old connection message (slot ∷ rest) new = inr (answer, mid, first, its, took, others) in
      subst (λ (l : List ℕ). OffersFirst call old connection message l new) (sym is) all
