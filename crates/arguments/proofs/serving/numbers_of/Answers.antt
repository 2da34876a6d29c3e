-- A service would have the number that is lacking.
use Rattle.std.proofs.Common.{codes, subst, sym}
use Rattle.clap.specs.Words.{found_of, rows_of}
use Rattle.arguments.specs.Options.{HasNumberIf, HaveCapacity, HaveMaxInflight}
use Rattle.arguments.proofs.serving.numbers_of.Goals as goal

pub returns : goal.returns
returns c =
    let rows = rows_of (found_of c.args.options.now) in (
      c.in_ok-port.ensures,
      c.in_ok-workers.ensures,
      c.in_ok-drain.ensures,
      c.in_ok-metrics.ensures,
      c.in_ok-sessions.ensures,
      c.in_ok-per_address.ensures,
      subst (HasNumberIf (codes "max-expiry") 1 4294967295 rows) (sym c.expiry_of.ensures) c.in_ok-max_expiry.ensures,
      subst (HasNumberIf (codes "max-keep-alive") 1 65535 rows) (sym c.keep_alive_of.ensures) c.in_ok-max_keep_alive.ensures,
      subst (HaveCapacity rows) (sym c.capacity_of.ensures) c.in_ok-messages.ensures,
      subst (HaveMaxInflight rows) (sym c.limit_of.ensures) c.in_ok-packets.ensures,
    )

pub returns-in_err-port : goal.returns-in_err-port
returns-in_err-port c = rw c.from_residual.ensures (λ service by. c.in_err-port.ensures service.port by.port)

pub returns-in_err-workers : goal.returns-in_err-workers
returns-in_err-workers c = rw c.from_residual-in_err-workers.ensures (λ service by. c.in_err-workers.ensures service.workers by.workers)

pub returns-in_err-drain : goal.returns-in_err-drain
returns-in_err-drain c = rw c.from_residual-in_err-drain.ensures (λ service by. c.in_err-drain.ensures service.drain by.drain)

pub returns-in_err-metrics : goal.returns-in_err-metrics
returns-in_err-metrics c = rw c.from_residual-in_err-metrics.ensures (λ service by. c.in_err-metrics.ensures service.metrics by.metrics)

pub returns-in_err-sessions : goal.returns-in_err-sessions
returns-in_err-sessions c = rw c.from_residual-in_err-sessions.ensures (λ service by. c.in_err-sessions.ensures service.sessions by.sessions)

pub returns-in_err-per_address : goal.returns-in_err-per_address
returns-in_err-per_address c = rw c.from_residual-in_err-per_address.ensures (λ service by. c.in_err-per_address.ensures service.per_address by.per_address)

pub returns-in_err-max_expiry : goal.returns-in_err-max_expiry
returns-in_err-max_expiry c = rw c.from_residual-in_err-max_expiry.ensures (λ service by. c.in_err-max_expiry.ensures service.max_expiry by.max_expiry)

pub returns-in_err-max_keep_alive : goal.returns-in_err-max_keep_alive
returns-in_err-max_keep_alive c =
    rw c.from_residual-in_err-max_keep_alive.ensures (λ service by. c.in_err-max_keep_alive.ensures service.max_keep_alive by.max_keep_alive)

pub returns-in_err-messages : goal.returns-in_err-messages
returns-in_err-messages c = rw c.from_residual-in_err-messages.ensures (λ service by. c.in_err-messages.ensures service.capacity by.capacity)

pub returns-in_err-packets : goal.returns-in_err-packets
returns-in_err-packets c = rw c.from_residual-in_err-packets.ensures (λ service by. c.in_err-packets.ensures service.max_inflight by.max_inflight)
