-- The numbers of the refusals (profile).
use Rattle.std.specs.Prelude.{ℕ}
use Rattle.local_group.specs.declared.error.OfferError.{OfferError}
use Rattle.local_group.specs.declared.error.OfferError.TheVariants as offer
use Rattle.local_group.specs.declared.error.TakeError.{TakeError}
use Rattle.local_group.specs.declared.error.TakeError.TheVariants as taking

abbrev pub offer_number : OfferError → ℕ
offer_number offer.Shut = 401
offer_number offer.Full = 501
offer_number offer.LifeSpent = 502
offer_number offer.Memory = 503

abbrev pub take_number : TakeError → ℕ
take_number taking.Shut = 401
take_number taking.Memory = 503
