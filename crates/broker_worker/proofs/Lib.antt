pub mod Hearing
pub mod Offered
pub mod Places
