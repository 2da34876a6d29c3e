-- Stamps, the jobs that they name, and envelopes as contracts see them.
use Rattle.std.specs.Prelude.{ℕ, nat_lt, if◌then◌else◌, Option, None, Some}
use Rattle.dispatch_core.specs.declared.event.Job.{Job}
use Rattle.group_jobs.specs.declared.stamp.Stamp.{Stamp}
use Rattle.group_jobs.specs.declared.message.Message.{Message}

-- a stamp without its group
abbrev pub job_of : Stamp → Job
job_of stamp = record { port = stamp.port; number = stamp.number }

-- a job of a group
abbrev pub stamp_of : ℕ → Job → Stamp
stamp_of group job = record { group = group; port = job.port; number = job.number }

-- the Subscription Identifier of that number: 0 is the number of none
abbrev pub identifier_of : ℕ → Option ℕ
identifier_of number = if nat_lt 0 number then Some number else None

-- an envelope: a message that was handed out, the place that holds it, and the Subscription Identifier under which it is sent (3.3.2.3.8)
pub record Held : Type 0 where
  pub stamp : Stamp
  pub place : ℕ
  pub message : Message
  pub subscription : Option ℕ

-- an envelope as a group makes it, under no identifier yet
abbrev pub envelope_of : Stamp → ℕ → Message → Held
envelope_of stamp place message = record { stamp = stamp; place = place; message = message; subscription = None }

-- an envelope under that identifier, or under none
abbrev pub under : Option ℕ → Held → Held
under subscription envelope = record envelope { subscription = subscription }
