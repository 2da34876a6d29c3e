-- Every call of the desk keeps what holds of it.
use Rattle.std.proofs.Common.{◌≡◌, ℕ, List, [], ◌∷◌, None, Some, Result, Ok, Err, refl, ap, inl, inr}
use Rattle.std.specs.Prelude.{IfOk}
use Rattle.group_jobs.specs.Stamps.{Held}
use Rattle.member_window.specs.Contents.{held_of}
use Rattle.session_desk.specs.declared.session.Session.{Session}
use Rattle.session_desk.specs.declared.session.Membership.{Membership}
use Rattle.session_desk.specs.declared.session.Membership.TheVariants.{NotMember, Member, Leaving}
use Rattle.session_desk.specs.declared.attached.Attached.{Attached}
use Rattle.session_desk.specs.declared.attached.Attached.TheVariants.{New, Resumed, Replace, Busy}
use Rattle.session_desk.specs.declared.error.DeskError.{DeskError}
use Rattle.session_desk.specs.Sessions.{Who}
use Rattle.session_desk.specs.declared.newcomers.Newcomers.{Newcomers}
use Rattle.session_desk.specs.Attaching.{Request, AttachesClient, AttachesUnnamed, attaches_by}
use Rattle.session_desk.specs.Books.{Books, new_session, new_books}
use Rattle.session_desk.specs.Hands.{DeskLaw}
use Rattle.session_desk.specs.Calls.{Call, IsAllowed, Makes}
use Rattle.session_desk.specs.Everywhere.{IfMember, GoesIn, ComesOut, IsAttachedSo}
use Rattle.session_desk.specs.Places.{cell_at}
use Rattle.session_desk.proofs.OneHand.{law_all, law_new}
use Rattle.session_desk.proofs.Everywhere.{nothing, onward, out}
use Rattle.conn_supply.specs.Holding.{AreOut, IsOutAtPlace}
use Rattle.conn_supply.specs.Ready.{IsSoundSession, IsReady}
use Rattle.shared_desk.specs.Books.{IsLawful, IsMade}

module _ {P : Type 0} (HasOut : P → List Held → Type 0) where
  free_if : (membership : Membership P) → AreOut HasOut membership [] → IfMember (λ place. HasOut place []) membership
  free_if NotMember out = tt
  free_if (Member place) out = out
  free_if (Leaving place) out = out

  may_be_free : (session : Session Held P) → IsOutAtPlace HasOut session → held_of session.window ≡ [] → IfMember (λ place. HasOut place []) session.membership
  may_be_free session out none = free_if session.membership (rw none at out)

  -- a new desk has nothing
  pub new_is_lawful : (books : Books Held P) → books ≡ new_books → IsLawful HasOut books
  new_is_lawful books is = rw is (record { law = law_new; out = nothing (IsOutAtPlace HasOut) (λ place. HasOut place []) })

  -- each desk call keeps what holds of the desk; of what goes in, too
  pub kept : (cell : P → ℕ) (old new : Books Held P) (call : Call Held P)
      → IsLawful HasOut old → IsAllowed call → GoesIn (IsOutAtPlace HasOut) (λ place. HasOut place []) call → Makes cell old call new → IsLawful HasOut new
  kept cell old new call sound allowed going makes =
      record {
        law = law_all cell old new (call ∷ []) sound.law (allowed, (new, makes, refl));
        out = onward (IsOutAtPlace HasOut) (λ place. HasOut place []) (λ who. refl) (λ session now out. out) may_be_free cell old new call makes sound.out going;
      }

  -- what comes out of it has out at its place what it holds
  pub comes_out : (cell : P → ℕ) (old new : Books Held P) (call : Call Held P)
      → IsLawful HasOut old → GoesIn (IsOutAtPlace HasOut) (λ place. HasOut place []) call → Makes cell old call new
      → ComesOut (IsOutAtPlace HasOut) (λ place. HasOut place []) call
  comes_out cell old new call sound going makes =
      out (IsOutAtPlace HasOut) (λ place. HasOut place []) (λ who. refl) (λ session now out. out) may_be_free cell old new call makes sound.out going

  -- a session that is handed to a connection is not ending, and has out at its place what it holds
  new_is_sound : (who : Who) (session : Session Held P) → session ≡ new_session who → IsOutAtPlace HasOut session → IsSoundSession HasOut session
  new_is_sound who session is out = record { going = ap (λ (s : Session Held P). s.window.retired) is; out = out }

  ready_client : (newcomers : Newcomers) (old new : Books Held P) (client : List ℕ) (request : Request) (answer : Result (Attached Held P) DeskError) → DeskLaw old.rows old.made
      → AttachesClient newcomers old client request answer new → IsAttachedSo (IsOutAtPlace HasOut) (λ place. HasOut place []) answer → IfOk answer (IsReady HasOut)
  ready_client newcomers old new client request (Ok (New session None)) law h out = (new_is_sound (record { number = old.made; client = client }) session h.is out.0, tt)
  ready_client newcomers old new client request (Ok (New session (Some ended))) law (inl h) out = (new_is_sound (record { number = old.made; client = client }) session h.is out.0, out.1)
  ready_client newcomers old new client request (Ok (New session (Some ended))) law (inr h) out = (new_is_sound (record { number = old.made; client = client }) session h.is out.0, out.1)
  ready_client newcomers old new client request (Ok (Resumed session)) law h out = record { going = law.not_ending h.number h.row session h.its.has h.its.stands; out = out }
  ready_client newcomers old new client request (Ok (Replace holder)) law h out = tt
  ready_client newcomers old new client request (Ok Busy) law h out = tt
  ready_client newcomers old new client request (Err error) law h out = tt

  ready_unnamed : (newcomers : Newcomers) (old new : Books Held P) (connection : ℕ) (answer : Result (Attached Held P) DeskError)
      → AttachesUnnamed newcomers old connection answer new → IsAttachedSo (IsOutAtPlace HasOut) (λ place. HasOut place []) answer → IfOk answer (IsReady HasOut)
  ready_unnamed newcomers old new connection (Ok (New session None)) h out = (new_is_sound _ session h.begins.is out.0, tt)
  ready_unnamed newcomers old new connection (Ok (New session (Some ended))) h out = (new_is_sound _ session h.begins.is out.0, out.1)
  ready_unnamed newcomers old new connection (Ok (Resumed session)) h out = absurd h
  ready_unnamed newcomers old new connection (Ok (Replace holder)) h out = absurd h
  ready_unnamed newcomers old new connection (Ok Busy) h out = absurd h
  ready_unnamed newcomers old new connection (Err error) h out = tt

  pub ready : (newcomers : Newcomers) (client : List ℕ) (old new : Books Held P) (request : Request) (answer : Result (Attached Held P) DeskError) → DeskLaw old.rows old.made
      → attaches_by newcomers client old request answer new → IsAttachedSo (IsOutAtPlace HasOut) (λ place. HasOut place []) answer → IfOk answer (IsReady HasOut)
  ready newcomers [] old new request answer law h out = ready_unnamed newcomers old new request.connection answer h out
  ready newcomers (byte ∷ bytes) old new request answer law h out = ready_client newcomers old new (byte ∷ bytes) request answer law h out

  -- what such a call tells of the desk
  pub made : (slot_of number_of : P → ℕ) (old new : Books Held P) (call : Call Held P) → IsLawful HasOut old → IsAllowed call
      → GoesIn (IsOutAtPlace HasOut) (λ place. HasOut place []) call → Makes (λ place. cell_at (slot_of place) (number_of place)) old call new → IsMade HasOut slot_of number_of call
  made slot_of number_of old new call sound allowed going makes = record {
    old = old;
    new = new;
    before = sound;
    after = kept (λ place. cell_at (slot_of place) (number_of place)) old new call sound allowed going makes;
    allowed = allowed;
    makes = makes;
  }
