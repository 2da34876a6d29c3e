-- The refusals and their numbers (profile).
use Rattle.std.specs.Prelude.{ℕ}
use Rattle.shared_routes.specs.declared.error.BindError.{BindError}
use Rattle.shared_routes.specs.declared.error.BindError.TheVariants.{NoSlot, Memory, NotDeclared}

abbrev pub number_of : BindError → ℕ
number_of NoSlot = 205
number_of Memory = 206
number_of NotDeclared = 207
