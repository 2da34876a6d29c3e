-- The desk that comes back is the one that the calls led to.
use Rattle.std.proofs.Common.{sym, subst}
use Rattle.group_jobs.specs.Stamps.{Held}
use Rattle.group_queue.specs.Places.{PlaceState}
use Rattle.session_desk.specs.Books.{Books}
use Rattle.shared_supply.specs.Endings.{IsLedTo}
use Rattle.shared_supply.proofs.shared_broker.SharedBroker.empty.Goals as goal

pub returns-in-Err-clause-desk : goal.returns-in-Err-clause-desk
returns-in-Err-clause-desk g c =
    subst (λ (books : Books Held PlaceState). IsLedTo c.finish.new.me.calls books) (sym c.in-Err.ensures) (record { led = c.finish.ensures.all; lawful = c.finish.ensures.lawful })
