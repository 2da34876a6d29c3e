-- What becomes of a session that was resumed is what becomes of the connection that asked for it.
use Rattle.std.proofs.Common.{◌≡◌, ℕ, Result, Ok, Err, MatchResult}
use Rattle.group_jobs.specs.Stamps.{Held}
use Rattle.session_desk.specs.Attaching.{asked}
use Rattle.session_desk.specs.declared.attached.Attached.TheVariants.{Resumed}
use Rattle.session_desk.specs.declared.session.Session.{Session}
use Rattle.conn_supply.specs.declared.reply.Reply.{Reply}
use Rattle.conn_supply.specs.declared.supply.NoMemory.{NoMemory}
use Rattle.conn_supply.specs.SupplyCalls.{SupplyCall}
use Rattle.conn_supply.specs.SupplyCalls.SupplyCall.{Attach}
use Rattle.conn_engine.specs.declared.phase.ConnectRequest.{ConnectRequest}
use Rattle.conn_engine.specs.declared.phase.ConnPhase.{ConnPhase}
use Rattle.conn_engine.specs.declared.phase.ConnPhase.TheVariants.{Ended}
use Rattle.conn_engine.specs.Connecting.{opened, holds_message_too_long, ResumesAs, Attaches, FailsToAttach}
use Rattle.conn_engine.specs.Ending.{Parts}

module _ {S P : Type 0} (call : S → SupplyCall P → S → Type 0) where
  pub resumed : (old mid new : S) (number now : ℕ) (request : ConnectRequest) (ticks : ℕ) (session : Session Held P) (phase : ConnPhase P) (result : Result Reply NoMemory)
      → call old (Attach (asked number request.client request.clean_start now) (Ok (Resumed session))) mid
      → MatchResult result
      (λ reply. ResumesAs call (holds_message_too_long request.terms.maximum_packet_size session.window) mid request session phase reply new)
      (λ _. (phase ≡ Ended) × Parts call mid (opened session request.terms) now new)
      → MatchResult result (λ reply. Attaches call old number now request ticks phase reply new) (λ _. (phase ≡ Ended) × FailsToAttach call old number now request new)
  resumed old mid new number now request ticks session phase (Ok reply) called resumes =
      record { answer = Ok (Resumed session); mid = mid; asked_for = called; answered = resumes }
  resumed old mid new number now request ticks session phase (Err refusal) called failed =
      (failed.0, record { answer = Ok (Resumed session); mid = mid; asked_for = called; failed = failed.1 })
