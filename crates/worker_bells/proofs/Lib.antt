pub mod Joining
pub mod Places
pub mod Ringing
pub mod Wishing
