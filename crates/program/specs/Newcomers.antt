-- What a broker on TCP does for a client that has no session there, by the options of `serve` (profile).
use Rattle.std.specs.Prelude.{ℕ, Bool, true, false}
use Rattle.session_desk.specs.declared.newcomers.Newcomers.{Newcomers}
use Rattle.session_desk.specs.declared.newcomers.Newcomers.TheVariants.{IfRoom, Displace}
use Rattle.arguments.specs.declared.service.ServeOptions.{ServeOptions}

abbrev pub newcomers_by : Bool → ℕ → Newcomers
newcomers_by true sessions = IfRoom sessions
newcomers_by false sessions = Displace sessions

-- as many sessions are kept as `--sessions` says, and an idle one goes for a newcomer where there are as many, but with `--keep-parked`
abbrev pub newcomers_of : ServeOptions → Newcomers
newcomers_of service = newcomers_by service.keep_parked service.sessions
