pub mod Stamps
pub mod Settled
pub mod Dockets
pub mod Reports
pub mod Balance
pub mod Spots
pub mod Endings
