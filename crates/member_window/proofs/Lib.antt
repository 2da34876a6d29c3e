pub mod Lists
pub mod Legality
pub mod Sound
pub mod Law
pub mod View
pub mod Kept
pub mod Bits
pub mod Order
