pub mod Callers
pub mod Runs
pub mod Bound
pub mod Balance
pub mod RunBalance
pub mod Measures
pub mod Places
pub mod Reversed
