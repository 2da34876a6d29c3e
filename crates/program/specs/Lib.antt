pub mod Asking
pub mod Ending
pub mod Hashing
pub mod Newcomers
pub mod Users
