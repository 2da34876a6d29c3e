pub mod Groups
pub mod Alike
pub mod Spots
pub mod Reporting
pub mod Refusals
pub mod Keeping
pub mod Tallies
