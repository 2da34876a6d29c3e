-- What is said to clients, and what was handed out for it.
use Rattle.std.specs.Prelude.{◌≡◌, List, [], ◌∷◌, ◌++◌}
use Rattle.conn_supply.specs.SupplyCalls.{SupplyCall}
use Rattle.conn_laws.specs.Calls.{handed, Outcome, hand_outs_of, sent_of, Content, contents_of, fresh_contents, MakesAll}
use Rattle.client_table.specs.Clients.{StepOutput}

-- what comes to clients for the first time, in the order in which they are said
abbrev pub fresh_sent : List StepOutput → List Content
fresh_sent [] = []
fresh_sent (output ∷ others) = fresh_contents output.packets ++ fresh_sent others

-- calls led from the one to the other, and what they handed out is what was said for the first time, but for what was discarded
pub record Delivers {S P : Type 0} (call : S → SupplyCall P → S → Type 0) (old : S) (outputs : List StepOutput) (new : S) : Type 0 where
  pub supply_calls : List (SupplyCall P)
  pub made : MakesAll call old supply_calls new
  pub outcomes : List (Outcome P)
  pub handed_out : handed supply_calls ≡ hand_outs_of outcomes
  pub told : fresh_sent outputs ≡ contents_of (sent_of outcomes)
