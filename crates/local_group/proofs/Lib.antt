pub mod Counts
pub mod Spots
pub mod Steps
pub mod Tallied
pub mod Fates
pub mod Holding
pub mod Alike
