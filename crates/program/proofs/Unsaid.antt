-- A broker whose log has nothing, or that did not begin.
use Rattle.std.proofs.Common.{◌≡◌, ◌≢◌, ◌<◌, ℕ, zero, suc, List, Option, Err, arith, inl, refl}
use Rattle.std.proofs.KnownBytes.{Keeps-refl}
use Rattle.broker_log.specs.Lines.{BeginsToLog}
use Rattle.broker_log.specs.declared.level.Level.{Level}
use Rattle.broker_log.specs.declared.level.Level.TheVariants as levels
use Rattle.broker_log.proofs.Logging.{begun_nothing}
use Rattle.arguments.specs.declared.service.ServeOptions.{ServeOptions}
use Rattle.arguments.specs.declared.service.ServeUntil.{ServeUntil}
use Rattle.arguments.specs.declared.service.ServeUntil.TheVariants.{Stdin, Killed}
use Rattle.conn_rules.specs.declared.client_limits.ClientLimits.{ClientLimits}
use Rattle.text_io.specs.declared.error.RunError.{RunError}
use Rattle.text_io.specs.declared.error.RunError.TheVariants.{Memory}
use Rattle.program.specs.Ending.{HasRead, IsLoggedFor, IsLoggedUnread, IsServedWith}

-- nothing was said
pub unsaid : (until : ServeUntil) (level : Level) (known : Option (List ℕ)) → IsLoggedFor until level known known
unsaid Stdin level known = begun_nothing level known
unsaid Killed levels.Off known = refl
unsaid Killed levels.Error known = begun_nothing levels.Error known
unsaid Killed levels.Info known = begun_nothing levels.Info known
unsaid Killed levels.Debug known = begun_nothing levels.Debug known

-- what a log that is not off has, also of a broker that is to serve until it is killed
pub said : (level : Level) (old new : Option (List ℕ)) → level ≢ levels.Off → BeginsToLog level old new → IsLoggedUnread level old new
said levels.Off old new on begun = absurd (on refl)
said levels.Error old new on begun = begun
said levels.Info old new on begun = begun
said levels.Debug old new on begun = begun

some_port : (asked : ℕ) → (port : ℕ) × ((0 < port) × (asked ≢ 0 → port ≡ asked))
some_port zero = (1, (omega arith, λ differs. absurd (differs refl)))
some_port (suc n) = (suc n, (omega arith, λ differs. refl))

-- memory was refused before it listened, and nothing was written
pub unserved : (service : ServeOptions) (limits : ClientLimits) (known : Option (List ℕ)) → IsServedWith service limits (Err Memory) known known
unserved service limits known =
    let (port, is) = some_port service.port in
    record { served = inl (port, is, inl (inl (Keeps-refl known))) }

-- there was an error before it read, and nothing was read
pub unread : (until : ServeUntil) (error : RunError) (known : Option (List ℕ)) → HasRead until (Err error) known known
unread Stdin error known = tt
unread Killed error known = (Keeps-refl known, refl)
