-- Every call of the desk keeps what holds of a broker.
use Rattle.std.proofs.Common.{◌≡◌, ℕ, List, [], ◌∷◌, None, Some, Result, Ok, Err, refl, ap, inl, inr}
use Rattle.std.specs.Prelude.{IfOk}
use Rattle.mqtt_topic.specs.Names.{Share}
use Rattle.group_jobs.specs.Stamps.{Held}
use Rattle.member_window.specs.Contents.{held_of}
use Rattle.session_desk.specs.declared.session.Session.{Session}
use Rattle.session_desk.specs.declared.session.Membership.{Membership}
use Rattle.session_desk.specs.declared.session.Membership.TheVariants.{NotMember, Member, Leaving}
use Rattle.session_desk.specs.declared.attached.Attached.{Attached}
use Rattle.session_desk.specs.declared.attached.Attached.TheVariants.{New, Resumed, Replace, Busy}
use Rattle.session_desk.specs.declared.error.DeskError.{DeskError}
use Rattle.session_desk.specs.Sessions.{Who}
use Rattle.session_desk.specs.declared.newcomers.Newcomers.{Newcomers}
use Rattle.session_desk.specs.Attaching.{Request, AttachesClient, AttachesUnnamed, attaches_by}
use Rattle.session_desk.specs.Books.{Books, new_session}
use Rattle.session_desk.specs.Hands.{DeskLaw}
use Rattle.session_desk.specs.Calls.{Call, IsAllowed, Makes}
use Rattle.session_desk.specs.Everywhere.{IfMember, GoesIn, ComesOut, IsAttachedSo}
use Rattle.session_desk.proofs.OneHand.{law_all}
use Rattle.session_desk.proofs.Everywhere.{onward, out}
use Rattle.conn_supply.specs.Holding.{IsOutAtPlace}
use Rattle.conn_supply.specs.Ready.{IsSoundSession, IsReady}
use Rattle.local_group.specs.Groups.{Group}
use Rattle.local_broker.specs.Places.{GroupPlace, cell_of, has_out}
use Rattle.local_broker.specs.Broker.{IsSound}

may_be_free : (session : Session Held GroupPlace) → IsOutAtPlace has_out session → held_of session.window ≡ [] → IfMember (λ place. has_out place []) session.membership
may_be_free session out none = any session.membership where
  any : (membership : Membership GroupPlace) → IfMember (λ place. has_out place []) membership
  any NotMember = tt
  any (Member place) = tt
  any (Leaving place) = tt

-- each desk call keeps what holds of a broker; of what goes in, too
pub kept : (old new : Books Held GroupPlace) (routes : List Share) (groups : List Group) (call : Call Held GroupPlace)
    → IsSound (record { desk = old; routes = routes; groups = groups }) → IsAllowed call → GoesIn (IsOutAtPlace has_out) (λ place. has_out place []) call → Makes cell_of old call new
    → IsSound (record { desk = new; routes = routes; groups = groups })
kept old new routes groups call sound allowed going makes =
    record {
      desk = law_all cell_of old new (call ∷ []) sound.desk (allowed, (new, makes, refl));
      groups = sound.groups;
      out = onward (IsOutAtPlace has_out) (λ place. has_out place []) (λ who. refl) (λ session now out. out) may_be_free cell_of old new call makes sound.out going;
    }

-- what comes out of it has out at its place what it holds
pub comes_out : (old new : Books Held GroupPlace) (routes : List Share) (groups : List Group) (call : Call Held GroupPlace)
    → IsSound (record { desk = old; routes = routes; groups = groups }) → GoesIn (IsOutAtPlace has_out) (λ place. has_out place []) call → Makes cell_of old call new
    → ComesOut (IsOutAtPlace has_out) (λ place. has_out place []) call
comes_out old new routes groups call sound going makes =
    out (IsOutAtPlace has_out) (λ place. has_out place []) (λ who. refl) (λ session now out. out) may_be_free cell_of old new call makes sound.out going

-- a session that is handed to a connection is not ending, and has out at its place what it holds
new_is_sound : (who : Who) (session : Session Held GroupPlace) → session ≡ new_session who → IsOutAtPlace has_out session → IsSoundSession has_out session
new_is_sound who session is out = record { going = ap (λ (s : Session Held GroupPlace). s.window.retired) is; out = out }

ready_client : (newcomers : Newcomers) (old new : Books Held GroupPlace) (client : List ℕ) (request : Request) (answer : Result (Attached Held GroupPlace) DeskError) → DeskLaw old.rows old.made
    → AttachesClient newcomers old client request answer new → IsAttachedSo (IsOutAtPlace has_out) (λ place. has_out place []) answer → IfOk answer (IsReady has_out)
ready_client newcomers old new client request (Ok (New session None)) law h out = (new_is_sound (record { number = old.made; client = client }) session h.is out.0, tt)
ready_client newcomers old new client request (Ok (New session (Some ended))) law (inl h) out = (new_is_sound (record { number = old.made; client = client }) session h.is out.0, out.1)
ready_client newcomers old new client request (Ok (New session (Some ended))) law (inr h) out = (new_is_sound (record { number = old.made; client = client }) session h.is out.0, out.1)
ready_client newcomers old new client request (Ok (Resumed session)) law h out = record { going = law.not_ending h.number h.row session h.its.has h.its.stands; out = out }
ready_client newcomers old new client request (Ok (Replace holder)) law h out = tt
ready_client newcomers old new client request (Ok Busy) law h out = tt
ready_client newcomers old new client request (Err error) law h out = tt

ready_unnamed : (newcomers : Newcomers) (old new : Books Held GroupPlace) (connection : ℕ) (answer : Result (Attached Held GroupPlace) DeskError)
    → AttachesUnnamed newcomers old connection answer new → IsAttachedSo (IsOutAtPlace has_out) (λ place. has_out place []) answer → IfOk answer (IsReady has_out)
ready_unnamed newcomers old new connection (Ok (New session None)) h out = (new_is_sound _ session h.begins.is out.0, tt)
ready_unnamed newcomers old new connection (Ok (New session (Some ended))) h out = (new_is_sound _ session h.begins.is out.0, out.1)
ready_unnamed newcomers old new connection (Ok (Resumed session)) h out = absurd h
ready_unnamed newcomers old new connection (Ok (Replace holder)) h out = absurd h
ready_unnamed newcomers old new connection (Ok Busy) h out = absurd h
ready_unnamed newcomers old new connection (Err error) h out = tt

pub ready : (newcomers : Newcomers) (client : List ℕ) (old new : Books Held GroupPlace) (request : Request) (answer : Result (Attached Held GroupPlace) DeskError) → DeskLaw old.rows old.made
    → attaches_by newcomers client old request answer new → IsAttachedSo (IsOutAtPlace has_out) (λ place. has_out place []) answer → IfOk answer (IsReady has_out)
ready newcomers [] old new request answer law h out = ready_unnamed newcomers old new request.connection answer h out
ready newcomers (byte ∷ bytes) old new request answer law h out = ready_client newcomers old new (byte ∷ bytes) request answer law h out
