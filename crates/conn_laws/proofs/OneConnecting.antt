-- A CONNECT has one answer, where each call has one.
use Rattle.std.proofs.Common.{◌≡◌, ◌≢◌, ℕ, ◌+◌, nat_lt, Bool, true, false, Option, Some, None, Result, Ok, Err, sym, ◌∙◌, subst}
use Rattle.mqtt_packet.specs.declared.packet.ConnectRefusal.{ConnectRefusal}
use Rattle.mqtt_packet.specs.declared.packet.ConnectRefusal.TheVariants as refusals
use Rattle.group_jobs.specs.Stamps.{Held}
use Rattle.session_desk.specs.Attaching.{asked}
use Rattle.session_desk.specs.declared.attached.Attached.{Attached}
use Rattle.session_desk.specs.declared.attached.Attached.TheVariants.{New, Resumed, Replace, Busy}
use Rattle.session_desk.specs.declared.error.DeskError.{DeskError}
use Rattle.session_desk.specs.declared.error.DeskError.TheVariants as errors
use Rattle.session_desk.specs.declared.session.Session.{Session}
use Rattle.conn_supply.specs.declared.reply.Reply.{Reply}
use Rattle.conn_supply.specs.SupplyCalls.{SupplyCall}
use Rattle.conn_engine.specs.declared.phase.ConnectRequest.{ConnectRequest}
use Rattle.conn_engine.specs.declared.phase.ConnPhase.{ConnPhase}
use Rattle.conn_engine.specs.declared.phase.ConnPhase.TheVariants.{Unconnected, Waiting, Connected, Ended}
use Rattle.conn_laws.specs.Asking.{OneAnswer}
use Rattle.conn_engine.specs.Ending.{down}
use Rattle.conn_engine.specs.Connecting.{most_ticks, holds_message_too_long, IsRefused, Accepts, WaitsAs, RetiresEarlier, ResumesAs, AttachedAs, Attaches, Withdraws, TriesAgain}
use Rattle.conn_laws.proofs.OneCall as calls
use Rattle.conn_laws.proofs.OneEnding as endings

-- the same phase, and the same reply
abbrev pub IsOne : {P : Type 0} → ConnPhase P → ConnPhase P → Reply → Reply → Type 0
IsOne phase phase' reply reply' = (phase ≡ phase') × (reply ≡ reply')

pub refused : {P : Type 0} (refusal : ConnectRefusal) (s t : ConnPhase P) (r u : Reply) → IsRefused refusal s r → IsRefused refusal t u → IsOne s t r u
refused refusal s t r u h k = (h.over ∙ sym k.over, h.told ∙ sym k.told)

accepted : {P : Type 0} (request : ConnectRequest) (present : Bool) (session : Session Held P) (s t : ConnPhase P) (r u : Reply) → Accepts request present session s r → Accepts request present session t u → IsOne s t r u
accepted request present session s t r u h k = (h.begun ∙ sym k.begun, h.told ∙ sym k.told)

waits : {P : Type 0} (fewer : Bool) (request : ConnectRequest) (ticks : ℕ) (s t : ConnPhase P) (r u : Reply) → WaitsAs fewer request ticks s r → WaitsAs fewer request ticks t u → IsOne s t r u
waits true request ticks s t r u h k = (h.0 ∙ sym k.0, h.1 ∙ sym k.1)
waits false request ticks s t r u h k = refused refusals.ServerBusy s t r u h k

module _ {S P : Type 0} (call : S → SupplyCall P → S → Type 0) (AreAlike : S → S → Type 0) (answers : OneAnswer call AreAlike) where
  -- the same phase and reply, of supplies that are alike
  abbrev pub Agree : ConnPhase P → ConnPhase P → Reply → Reply → S → S → Type 0
  Agree s t r u a b = IsOne s t r u × AreAlike a b

  retired_earlier : (ended : Option (Session Held P)) (a a' b b' : S) → AreAlike a b → RetiresEarlier call a ended a' → RetiresEarlier call b ended b' → AreAlike a' b'
  retired_earlier None a a' b b' alike h k = calls.still call AreAlike answers a a' b b' alike h k
  retired_earlier (Some ended) a a' b b' alike h k = (endings.retired call AreAlike answers a a' b b' ended h.0 k.0 alike h.1 k.1).1

  resumed : (no : Bool) (a a' b b' : S) (request : ConnectRequest) (session : Session Held P) (s t : ConnPhase P) (r u : Reply) → AreAlike a b
      → ResumesAs call no a request session s r a' → ResumesAs call no b request session t u b' → Agree s t r u a' b'
  resumed true a a' b b' request session s t r u alike h k =
      (refused refusals.ImplementationSpecificError s t r u h.1 k.1, calls.parked_as_is call AreAlike answers a a' b b' (down session) alike h.0 k.0)
  resumed false a a' b b' request session s t r u alike h k =
      (accepted request true session s t r u h.1 k.1, calls.still call AreAlike answers a a' b b' alike h.0 k.0)

  attached_as : (answer : Result (Attached Held P) DeskError) (a a' b b' : S) (request : ConnectRequest) (ticks : ℕ) (s t : ConnPhase P) (r u : Reply) → AreAlike a b
      → AttachedAs call a request ticks answer s r a' → AttachedAs call b request ticks answer t u b' → Agree s t r u a' b'
  attached_as (Ok (New session ended)) a a' b b' request ticks s t r u alike h k =
      (accepted request false session s t r u h.1 k.1, retired_earlier ended a a' b b' alike h.0 k.0)
  attached_as (Ok (Resumed session)) a a' b b' request ticks s t r u alike h k =
      resumed (holds_message_too_long request.terms.maximum_packet_size session.window) a a' b b' request session s t r u alike h k
  attached_as (Ok (Replace holder)) a a' b b' request ticks s t r u alike h k =
      (waits (nat_lt ticks most_ticks) request ticks s t r u h.0 k.0, calls.still call AreAlike answers a a' b b' alike h.1 k.1)
  attached_as (Ok Busy) a a' b b' request ticks s t r u alike h k = (refused refusals.ServerBusy s t r u h.0 k.0, calls.still call AreAlike answers a a' b b' alike h.1 k.1)
  attached_as (Err errors.Full) a a' b b' request ticks s t r u alike h k = (refused refusals.ServerBusy s t r u h.0 k.0, calls.still call AreAlike answers a a' b b' alike h.1 k.1)
  attached_as (Err errors.NoPlace) a a' b b' request ticks s t r u alike h k = (refused refusals.ServerBusy s t r u h.0 k.0, calls.still call AreAlike answers a a' b b' alike h.1 k.1)
  attached_as (Err errors.NoName) a a' b b' request ticks s t r u alike h k = (refused refusals.ClientIdentifierNotValid s t r u h.0 k.0, calls.still call AreAlike answers a a' b b' alike h.1 k.1)
  attached_as (Err errors.Memory) a a' b b' request ticks s t r u alike h k = absurd h

  had_memory : (answer : Result (Attached Held P) DeskError) (a a' : S) (request : ConnectRequest) (ticks : ℕ) (s : ConnPhase P) (r : Reply) → AttachedAs call a request ticks answer s r a' → answer ≢ Err errors.Memory
  had_memory answer a a' request ticks s r h is = subst (λ x. AttachedAs call a request ticks x s r a') is h

  pub attached : (a a' b b' : S) (number now : ℕ) (request : ConnectRequest) (ticks : ℕ) (s t : ConnPhase P) (r u : Reply) → AreAlike a b
      → Attaches call a number now request ticks s r a' → Attaches call b number now request ticks t u b' → Agree s t r u a' b'
  attached a a' b b' number now request ticks s t r u alike h k =
      let one = calls.attached call AreAlike answers a h.mid b k.mid (asked number request.client request.clean_start now) h.answer k.answer alike
      (had_memory h.answer h.mid a' request ticks s r h.answered) (had_memory k.answer k.mid b' request ticks t u k.answered) h.asked_for k.asked_for in
      attached_as h.answer h.mid a' k.mid b' request ticks s t r u one.1 h.answered (subst (λ x. AttachedAs call k.mid request ticks x t u b') (sym one.0) k.answered)

  withdrawn : (phase : ConnPhase P) (a a' b b' : S) (number : ℕ) → AreAlike a b → Withdraws call a number phase a' → Withdraws call b number phase b' → AreAlike a' b'
  withdrawn (Unconnected opened) a a' b b' number alike h k = calls.withdrawn call AreAlike answers a a' b b' number alike h k
  withdrawn (Waiting request ticks) a a' b b' number alike h k = calls.still call AreAlike answers a a' b b' alike h k
  withdrawn (Connected connected) a a' b b' number alike h k = calls.withdrawn call AreAlike answers a a' b b' number alike h k
  withdrawn Ended a a' b b' number alike h k = calls.withdrawn call AreAlike answers a a' b b' number alike h k

  pub tried_again : (a a' b b' : S) (number now : ℕ) (request : ConnectRequest) (ticks : ℕ) (s t : ConnPhase P) (r u : Reply) → AreAlike a b
      → TriesAgain call a number now request ticks s r a' → TriesAgain call b number now request ticks t u b' → Agree s t r u a' b'
  tried_again a a' b b' number now request ticks s t r u alike h k =
      let one = attached a h.mid b k.mid number now request (ticks + 1) s t r u alike h.attaches k.attaches in
      (one.0, withdrawn s h.mid a' k.mid b' number one.1 h.withdraws (subst (λ x. Withdraws call k.mid number x b') (sym one.0.0) k.withdraws))
