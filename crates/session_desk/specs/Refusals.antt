-- The numbers of a desk's refusals.
use Rattle.std.specs.Prelude.{ℕ}
use Rattle.session_desk.specs.declared.error.DeskError.{DeskError}
use Rattle.session_desk.specs.declared.error.DeskError.TheVariants.{Full, NoPlace, Memory, NoName}

abbrev pub number_of : DeskError → ℕ
number_of Full = 701
number_of NoPlace = 702
number_of Memory = 703
number_of NoName = 704
