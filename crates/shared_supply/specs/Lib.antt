pub mod Waking
pub mod Workers
pub mod Settling
pub mod Calls
pub mod Endings
