-- Where one message is out at a place and is settled or given back, none is out after that.
use Rattle.std.proofs.Common.{List, [], ◌∷◌, refl}
use Rattle.group_jobs.specs.Stamps.{Held}
use Rattle.conn_supply.specs.Holding.{SpendsOut}

pub spends : {P : Type 0} (HasOut : P → List Held → Type 0) (old new : P) (envelope : Held) → SpendsOut HasOut old envelope new → HasOut old (envelope ∷ []) → HasOut new []
spends HasOut old new envelope out has = out (envelope ∷ []) [] (record { before = []; behind = []; together = refl; apart = refl }) has
