-- What a PUBACK makes of a job (section 3.4).
use Rattle.std.specs.Prelude.{ℕ, nat_lt, if◌then◌else◌}
use Rattle.group_jobs.specs.declared.fate.Fate.{Fate}
use Rattle.group_jobs.specs.declared.fate.Fate.TheVariants.{Acknowledged, Refused}

-- 2.4: a Reason Code below 80 hex says success, another failure
abbrev pub fate_of : ℕ → Fate
fate_of code = if nat_lt code 128 then Acknowledged else Refused
