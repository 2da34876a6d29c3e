-- Why a file is refused.
use Rattle.std.specs.Prelude.{◌≡◌, ℕ, Result, Err}
use Rattle.users.specs.Table.{UserTable}
use Rattle.users.specs.declared.error.UsersError.{UsersError}
use Rattle.users.specs.declared.error.UsersError.TheVariants.{Memory, Line}

-- an allocation failed, or the error names the first line that is at fault
abbrev pub IsRefusal : Result UserTable ℕ → UsersError → Type 0
IsRefusal users Memory = Unit {0}
IsRefusal users (Line number) = users ≡ Err number
