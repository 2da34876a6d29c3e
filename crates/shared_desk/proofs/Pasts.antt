-- What a history says of its beginnings.
use Rattle.std.proofs.Common.{◌≡◌, ℕ, ◌<◌, List, [], ◌∷◌, ◌++◌, Some, Result, IfOk, true, false, refl, sym, ap, ◌∙◌, subst, arith, ⊎_elim, append_assoc}
use Rattle.std.proofs.lemmas.List.{length-replicate}
use mathlib.Core.List.{IsPrefix}
use Rattle.group_jobs.specs.Stamps.{Held}
use Rattle.session_desk.specs.declared.attached.Attached.{Attached}
use Rattle.session_desk.specs.declared.error.DeskError.{DeskError}
use Rattle.session_desk.specs.declared.session.Session.{Session}
use Rattle.session_desk.specs.AskedBack.{IsAskedBack}
use Rattle.session_desk.specs.declared.newcomers.Newcomers.{Newcomers}
use Rattle.session_desk.specs.Attaching.{Request}
use Rattle.session_desk.specs.Books.{new_books}
use Rattle.session_desk.specs.Calls.{Call, Attach, Kicked}
use Rattle.session_desk.specs.Everywhere.{AllGoIn}
use Rattle.session_desk.specs.Places.{cell_at}
use Rattle.session_desk.specs.Stored.{TakesOut, last_in}
use Rattle.session_desk.proofs.LastIn.{very_session}
use Rattle.session_desk.proofs.Marked.{marked_all, none_marked}
use Rattle.session_desk.proofs.OneHand.{law_all, law_new}
use Rattle.conn_supply.specs.Holding.{IsOutAtPlace}
use Rattle.conn_supply.specs.Ready.{IsReady}
use Rattle.call_history.specs.Callers.{CallerState}
use Rattle.shared_desk.specs.Books.{IsMade}
use Rattle.shared_desk.specs.Histories.{IsHistory, AddsCall}
use Rattle.shared_desk.proofs.Desks.{comes_out, made, ready}
use Rattle.shared_desk.proofs.Histories.{lawful}
use Rattle.shared_desk.proofs.Parts.{parts}

module _ {P : Type 0} (HasOut : P → List Held → Type 0) (slot_of number_of : P → ℕ) where
  abbrev cell : P → ℕ
  cell place = cell_at (slot_of place) (number_of place)

  abbrev Fits : P → Type 0
  Fits place = HasOut place []

  going_parts : (calls more : List (Call Held P)) → AllGoIn (IsOutAtPlace HasOut) Fits (calls ++ more)
      → AllGoIn (IsOutAtPlace HasOut) Fits calls × AllGoIn (IsOutAtPlace HasOut) Fits more
  going_parts [] more all = (tt, all)
  going_parts (call ∷ calls) more all = (let rest = going_parts calls more all.1 in ((all.0, rest.0), rest.1))

  pub begins : (calls more : List (Call Held P)) → IsHistory HasOut slot_of number_of (calls ++ more) → IsHistory HasOut slot_of number_of calls
  begins calls more history =
      let made = parts cell calls more new_books history.0 history.1.made in
      (made.0, record { made = made.1; going = (going_parts calls more history.1.going).0 })

  pub was_made : (before after : List (Call Held P)) (call : Call Held P) → IsHistory HasOut slot_of number_of (before ++ call ∷ after) → IsMade HasOut slot_of number_of call
  was_made before after call history =
      let all = parts cell before (call ∷ after) new_books history.0 history.1.made in
      let going = going_parts before (call ∷ after) history.1.going in
      made HasOut slot_of number_of all.0 all.2.1.0 call (lawful HasOut slot_of number_of before all.0 (record { made = all.1; going = going.0 })) all.2.0 going.1.0 all.2.1.1

  pub was_told : (old new : CallerState (Call Held P)) (call : Call Held P) → AddsCall HasOut slot_of number_of old call new → IsMade HasOut slot_of number_of call × IsPrefix old.calls new.calls
  was_told old new call told =
      let calls_are : new.calls ≡ (old.calls ++ told.since) ++ call ∷ [] = ap (λ (c : CallerState (Call Held P)). c.calls) told.is in (
        was_made (old.calls ++ told.since) [] call (subst (IsHistory HasOut slot_of number_of) calls_are told.legal),
        (told.since ++ call ∷ [], sym (append_assoc old.calls told.since (call ∷ [])) ∙ sym calls_are),
      )

  -- a session that is handed to whoever attaches is not ending, and has out at its place what it holds
  pub was_ready : (newcomers : Newcomers) (old new : CallerState (Call Held P)) (request : Request) (answer : Result (Attached Held P) DeskError)
      → AddsCall HasOut slot_of number_of old (Attach newcomers request answer) new → IfOk answer (IsReady HasOut)
  was_ready newcomers old new request answer told =
      let was = (was_told old new (Attach newcomers request answer) told).0 in
      ready HasOut newcomers request.client was.old was.new request answer was.before.law was.makes
      (comes_out HasOut cell was.old was.new (Attach newcomers request answer) was.before tt was.makes)

  pub very : (before after : List (Call Held P)) (next : Call Held P) (session : Session Held P) → IsHistory HasOut slot_of number_of (before ++ next ∷ after)
      → TakesOut next session → last_in session.identity.number before ≡ Some session
  very before after next session history out =
      let all = parts cell before (next ∷ after) new_books history.0 history.1.made in
      very_session cell all.0 all.2.1.0 before next session (law_all cell new_books all.0 before law_new all.1) all.1 all.2.1.1 out

  pub was_asked : (before after : List (Call Held P)) (connection : ℕ) → connection < 1024 → IsHistory HasOut slot_of number_of (before ++ Kicked connection true ∷ after)
      → IsAskedBack connection before
  was_asked before after connection within history =
      let all = parts cell before (Kicked connection true ∷ after) new_books history.0 history.1.made in
      let marked = marked_all cell new_books all.0 before connection (let blank = length-replicate 1024 false in omega arith) all.1 in
      ⊎_elim (λ asked. asked) (λ was. absurd (none_marked connection within was.0)) (marked.0 (all.2.1.1.0.0 refl))
