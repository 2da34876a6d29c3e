pub mod Refusals
pub mod Levels
pub mod Names
pub mod Routes
