-- The numbers of the refusals.
use Rattle.std.specs.Prelude.{ℕ}
use Rattle.group_queue.specs.declared.error.OfferError.{OfferError}
use Rattle.group_queue.specs.declared.error.OfferError.TheVariants.{Full, LifeSpent}
use Rattle.group_queue.specs.declared.error.FinishError.{FinishError}
use Rattle.group_queue.specs.declared.error.FinishError.TheVariants.{Missing, Stranger, Memory}

abbrev pub number_of : OfferError → ℕ
number_of Full = 501
number_of LifeSpent = 502

abbrev pub finish_number : FinishError → ℕ
finish_number (Missing lack) = 505
finish_number (Stranger stamp) = 507
finish_number Memory = 506
