pub mod Joining
pub mod Ringing
pub mod Wishing
