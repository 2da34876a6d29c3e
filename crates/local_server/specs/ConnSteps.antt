-- The steps of a run, as the transcripts tell them: one for each step of a connection.
use Rattle.std.specs.Prelude.{◌≡◌, ℕ, nat_eq, List, [], ◌∷◌, Option, ⊤}
use Rattle.std.specs.List.{AllByRecursion, filter}
use Rattle.group_jobs.specs.Stamps.{Held}
use Rattle.member_window.specs.Marks.{Mark}
use Rattle.conn_supply.specs.declared.reply.Then.{Then}
use Rattle.conn_engine.specs.declared.input.Input.{Input}
use Rattle.conn_laws.specs.Calls.{Outcome}
use Rattle.conn_laws.specs.Marks.{publishes_in, publishes_of}
use Rattle.client_table.specs.Clients.{StepOutput}
use Rattle.local_broker.specs.Places.{GroupPlace}

-- one step of a connection: when it was made, what came, whether the connection went on, what was handed out, and what was added to the transcript of its session
pub record ConnStep : Type 0 where
  pub connection : ℕ
  -- the moment of the step
  pub at : ℕ
  pub input : Input
  pub next : Then
  -- the number of the session, by the order in which sessions were new
  pub session : ℕ
  -- the place at which its session is handed messages after the step, if it is a member
  pub place : Option GroupPlace
  pub marks : List (Mark Held)
  -- what was handed out in it, and whether that was sent, or discarded
  pub outcomes : List (Outcome GroupPlace)

-- a step wrote these PUBLISH packets and no others, each with what was left of its interval at its moment (3.3.2.3.3), and so the connection went on or not
pub record Tells (output : StepOutput) (conn_step : ConnStep) : Type 0 where
  pub whose : conn_step.connection ≡ output.connection
  pub next : conn_step.next ≡ output.next
  pub publishes : publishes_in output.packets ≡ publishes_of conn_step.at conn_step.marks

-- each step is told
abbrev pub AllTell : List StepOutput → List ConnStep → Type 0
AllTell [] [] = ⊤
AllTell [] (conn_step ∷ conn_steps) = ⊥
AllTell (output ∷ others) [] = ⊥
AllTell (output ∷ others) (conn_step ∷ conn_steps) = Tells output conn_step × AllTell others conn_steps

-- each of these steps was made at this moment
abbrev pub AreMadeAt : ℕ → List ConnStep → Type 0
AreMadeAt now conn_steps = AllByRecursion (λ conn_step. conn_step.at ≡ now) conn_steps

-- the steps of the connection with this number
abbrev pub conn_steps_of : ℕ → List ConnStep → List ConnStep
conn_steps_of connection conn_steps = filter (λ conn_step. nat_eq conn_step.connection connection) conn_steps
