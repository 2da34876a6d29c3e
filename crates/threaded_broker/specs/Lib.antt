pub mod Callers
pub mod Places
pub mod Headline
pub mod Shares
