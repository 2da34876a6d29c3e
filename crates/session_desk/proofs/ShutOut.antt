-- Nobody is shut out by its own session, and none that is in use goes for a newcomer's.
use Rattle.std.proofs.Common.{◌≡◌, ◌≢◌, ◌⊎◌, ℕ, List, [], ◌∷◌, Some, None, Result, Ok, Err, refl, ap, ◌∙◌, inl, inr}
use Rattle.session_desk.specs.declared.attached.Attached.{Attached}
use Rattle.session_desk.specs.declared.attached.Attached.TheVariants.{New, Resumed, Replace, Busy}
use Rattle.session_desk.specs.declared.error.DeskError.{DeskError}
use Rattle.session_desk.specs.declared.error.DeskError.TheVariants.{Full, NoPlace, Memory, NoName}
use Rattle.session_desk.specs.declared.newcomers.Newcomers.{Newcomers}
use Rattle.session_desk.specs.declared.session.Session.{Session}
use Rattle.session_desk.specs.declared.row.Row.{Row}
use Rattle.session_desk.specs.Rows.{HasRow, LivesAs, session_in}
use Rattle.session_desk.specs.Idle.{IsIdle}
use Rattle.session_desk.specs.Books.{Books}
use Rattle.session_desk.specs.Attaching.{Request, AttachesClient, attaches_by}
use Rattle.session_desk.specs.Hands.{DeskLaw}

module _ {E P : Type 0} (newcomers : Newcomers) where
  own_client : (old new : Books E P) (client : List ℕ) (request : Request) (answer : Result (Attached E P) DeskError) (number : ℕ) (row : Row E P) → HasRow old.rows number row → LivesAs client row
      → AttachesClient newcomers old client request answer new → answer ≢ Err Full
  own_client old new client request (Ok (New session ended)) number row has lives attaches full = absurd (let e = full in cc)
  own_client old new client request (Ok (Resumed session)) number row has lives attaches full = absurd (let e = full in cc)
  own_client old new client request (Ok (Replace holder)) number row has lives attaches full = absurd (let e = full in cc)
  own_client old new client request (Ok Busy) number row has lives attaches full = absurd (let e = full in cc)
  own_client old new client request (Err Full) number row has lives attaches full = attaches.0 number row has lives
  own_client old new client request (Err Memory) number row has lives attaches full = absurd (let e = full in cc)
  own_client old new client request (Err NoPlace) number row has lives attaches full = absurd attaches
  own_client old new client request (Err NoName) number row has lives attaches full = absurd attaches

  pub own_by : (client : List ℕ) (old new : Books E P) (request : Request) (answer : Result (Attached E P) DeskError) (number : ℕ) (row : Row E P) → client ≢ [] → HasRow old.rows number row
      → LivesAs client row → attaches_by newcomers client old request answer new → answer ≢ Err Full
  own_by [] old new request answer number row named has lives attaches full = absurd (named refl)
  own_by (byte ∷ bytes) old new request answer number row named has lives attaches full = own_client old new (byte ∷ bytes) request answer number row has lives attaches full

  pub idle_by : (client : List ℕ) (old new : Books E P) (request : Request) (session ended : Session E P) → DeskLaw old.rows old.made → attaches_by newcomers client old request (Ok (New session (Some ended))) new
      → (ended.identity.client ≡ client) ⊎ IsIdle ended
  idle_by [] old new request session ended law attaches = inr attaches.begins.goes.longest.idle
  idle_by (byte ∷ bytes) old new request session ended law (inl over) =
      inl (ap (λ who. who.client) (law.own over.number over.row ended over.its.has (ap session_in over.its.stands)) ∙ over.its.its)
  idle_by (byte ∷ bytes) old new request session ended law (inr displaces) = inr displaces.goes.longest.idle
