-- Who takes connections from a source, and sends them to workers.
use Rattle.std.specs.Prelude.{◌≡◌, ◌⊎◌, ◌+◌, List, ◌++◌, length, map, Option, option_map}
use Rattle.transport.specs.declared.counts.Tally.{Tally}
use Rattle.transport.specs.Counting.{MayCome}
use Rattle.conn_channel.specs.Ends.{SenderState}
use Rattle.conn_rules.specs.declared.client_limits.ClientLimits.{ClientLimits}
use Rattle.worker_connections.specs.Arrivals.{ArrivedState}
use Rattle.worker_pool.specs.declared.accepting.SourceEnd.{SourceEnd}
use Rattle.worker_pool.specs.declared.accepting.SourceEnd.TheVariants as ends

-- who takes connections: their source, the end by which each of them is sent, what the client of each is granted at most, and how the source ended
pub record AcceptorState (T S : Type 0) : Type 0 where
  pub source : S
  pub sender : SenderState (ArrivedState T)
  pub limits : ClientLimits
  pub end : SourceEnd

-- connections on their way to workers, over these transports, with these limits
abbrev pub arrivals : {T : Type 0} → ClientLimits → List T → List (ArrivedState T)
arrivals limits transports = map (λ transport. record { transport = transport; limits = limits }) transports

-- a source gave these, in this order, after what it had given
abbrev pub Gave : {T S : Type 0} → (S → Option (List T)) → S → List T → S → Type 0
Gave arrived old came new = arrived new ≡ option_map (λ those. those ++ came) (arrived old)

-- each that the source gave was sent, in its order, through the same channel as before
pub record HasAccepted {T S : Type 0} (tally : S → Tally) (arrived : S → Option (List T)) (old new : AcceptorState T S) : Type 0 where
  pub channel : new.sender.channel ≡ old.sender.channel
  pub receivers : new.sender.receivers ≡ old.sender.receivers
  pub limits : new.limits ≡ old.limits
  pub came : List T
  pub sent : new.sender.sent ≡ old.sender.sent ++ arrivals old.limits came
  pub gave : Gave arrived old.source came new.source
  pub each : (tally new.source).arrivals ≡ (tally old.source).arrivals + length came

-- how a source ended, as its failures tell: there is one more where it failed, unless it may not be asked again; none more where it had ended; and it is as it was where nothing was taken from it
abbrev pub EndedAs : {S : Type 0} → (S → Tally) → SourceEnd → S → S → Type 0
EndedAs tally ends.Ended old new = (tally new).failures ≡ (tally old).failures
EndedAs tally ends.Failed old new = ((tally new).failures ≡ (tally old).failures + 1) ⊎ (((tally new).failures ≡ (tally old).failures) × ¬ MayCome (tally new))
EndedAs tally ends.Untouched old new = new ≡ old

-- who had not begun to take from it tells how the source ended
abbrev pub TellsEnd : {T S : Type 0} → (S → Tally) → AcceptorState T S → AcceptorState T S → Type 0
TellsEnd tally old new = old.end ≡ ends.Untouched → EndedAs tally new.end old.source new.source

-- nothing but end marks was sent
abbrev pub OnlyMarks : {T : Type 0} → SenderState T → SenderState T → Type 0
OnlyMarks old new = new ≡ record old { end_marks_sent = new.end_marks_sent }
