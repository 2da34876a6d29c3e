-- Each call leads on.
use Rattle.std.proofs.Common.{◌≡◌, ℕ, List, [], ◌∷◌, ◌++◌, refl, sym, ap, ◌∙◌, subst}
use Rattle.std.proofs.lemmas.List.{append-nil}
use mathlib.Core.List.{IsPrefix}
use Rattle.group_jobs.specs.Stamps.{Held}
use Rattle.session_desk.specs.Books.{Books, new_books}
use Rattle.session_desk.specs.Calls.{Call, IsAllowed, Makes, MakesAll}
use Rattle.session_desk.specs.Everywhere.{GoesIn, AllGoIn}
use Rattle.session_desk.specs.Places.{cell_at}
use Rattle.conn_supply.specs.Holding.{IsOutAtPlace}
use Rattle.call_history.specs.Callers.{CallerState, calling}
use Rattle.shared_desk.specs.Books.{IsLawful}
use Rattle.shared_desk.specs.Histories.{Leads, IsHistory, AddsCall}
use Rattle.shared_desk.proofs.Desks.{new_is_lawful, kept}

module _ {P : Type 0} (HasOut : P → List Held → Type 0) (slot_of number_of : P → ℕ) where
  abbrev cell : P → ℕ
  cell place = cell_at (slot_of place) (number_of place)

  abbrev Fits : P → Type 0
  Fits place = HasOut place []

  makes_next : (calls : List (Call Held P)) (old mid new : Books Held P) (call : Call Held P) → MakesAll cell old calls mid → IsAllowed call → Makes cell mid call new
      → MakesAll cell old (calls ++ call ∷ []) new
  makes_next [] old mid new call all allowed makes = (allowed, (new, subst (λ b. Makes cell b call new) all makes, refl))
  makes_next (first ∷ calls) old mid new call all allowed makes = (all.0, (all.1.0, all.1.1, makes_next calls all.1.0 mid new call all.1.2 allowed makes))

  go_next : (calls : List (Call Held P)) (call : Call Held P) → AllGoIn (IsOutAtPlace HasOut) Fits calls → GoesIn (IsOutAtPlace HasOut) Fits call
      → AllGoIn (IsOutAtPlace HasOut) Fits (calls ++ call ∷ [])
  go_next [] call all goes = (goes, tt)
  go_next (first ∷ calls) call all goes = (all.0, go_next calls call all.1 goes)

  lawful_from : (calls : List (Call Held P)) (old new : Books Held P) → IsLawful HasOut old → MakesAll cell old calls new → AllGoIn (IsOutAtPlace HasOut) Fits calls → IsLawful HasOut new
  lawful_from [] old new law all going = subst (IsLawful HasOut) (sym all) law
  lawful_from (call ∷ calls) old new law all going =
      lawful_from calls all.1.0 new (kept HasOut cell old all.1.0 call law all.0 going.0 all.1.1) all.1.2 going.1

  pub lawful : (calls : List (Call Held P)) (books : Books Held P) → Leads HasOut slot_of number_of calls books → IsLawful HasOut books
  lawful calls books leads = lawful_from calls new_books books (new_is_lawful HasOut new_books refl) leads.made leads.going

  pub starts : (calls : List (Call Held P)) (books : Books Held P) → calls ≡ [] → books ≡ new_books → Leads HasOut slot_of number_of calls books
  starts calls books none is = rw (none, is) (record { made = refl; going = tt })

  pub leads_on : (calls after : List (Call Held P)) (old new : Books Held P) (call : Call Held P) → Leads HasOut slot_of number_of calls old
      → IsAllowed call → GoesIn (IsOutAtPlace HasOut) Fits call → Makes cell old call new → after ≡ calls ++ call ∷ [] → Leads HasOut slot_of number_of after new
  leads_on calls after old new call leads allowed goes makes is =
      subst (λ l. Leads HasOut slot_of number_of l new) (sym is)
      (record { made = makes_next calls new_books old new call leads.made allowed makes; going = go_next calls call leads.going goes })

  pub is_told : (calls : List (Call Held P)) (old new : CallerState (Call Held P)) (books : Books Held P) (call : Call Held P) → Leads HasOut slot_of number_of (calls ++ call ∷ []) books
      → new ≡ calling old calls (call ∷ []) → IsPrefix old.calls calls → AddsCall HasOut slot_of number_of old call new
  is_told calls old new books call leads told before = record {
    since = before.0;
    is = told ∙ ap (λ l. calling old l (call ∷ [])) (sym before.1);
    legal = (books, subst (λ (c : CallerState (Call Held P)). Leads HasOut slot_of number_of c.calls books) (sym told) leads);
  }

  -- a call that is noted leads on, and the caller is told it
  pub noted : (calls after : List (Call Held P)) (caller caller' : CallerState (Call Held P)) (old new : Books Held P) (call : Call Held P) → Leads HasOut slot_of number_of calls old
      → IsAllowed call → GoesIn (IsOutAtPlace HasOut) Fits call → Makes cell old call new
      → after ≡ calls ++ call ∷ [] → caller' ≡ calling caller calls (call ∷ []) → IsPrefix caller.calls calls
      → Leads HasOut slot_of number_of after new × AddsCall HasOut slot_of number_of caller call caller'
  noted calls after caller caller' old new call leads allowed goes makes is told before =
      let next = leads_on calls after old new call leads allowed goes makes is in
      (next, is_told calls caller caller' new call (subst (λ l. Leads HasOut slot_of number_of l new) is next) told before)

  pub not_yet : (calls : List (Call Held P)) → calls ≡ [] → IsHistory HasOut slot_of number_of calls
  not_yet calls none = (new_books, starts calls new_books none refl)

  -- what all calls led to, they lead to where they are known in full
  pub in_full : (calls : List (Call Held P)) (old new : CallerState (Call Held P)) (books : Books Held P) → Leads HasOut slot_of number_of calls books → new ≡ calling old calls []
      → Leads HasOut slot_of number_of new.calls books
  in_full calls old new books leads told =
      subst (λ l. Leads HasOut slot_of number_of l books) (sym (ap (λ (c : CallerState (Call Held P)). c.calls) told ∙ append-nil calls)) leads

  -- who made no call has the calls that it had
  pub no_more : (calls : List (Call Held P)) (old new : CallerState (Call Held P)) → new ≡ calling old calls [] → new ≡ record old { calls = new.calls }
  no_more calls old new told =
      told ∙ (λ i. record old { calls = calls ++ []; own = append-nil old.own i }) ∙ ap (λ (c : CallerState (Call Held P)). record old { calls = c.calls }) (sym told)
