pub mod Sums
pub mod Taking
pub mod Members
pub mod Agreeing
pub mod Tables
pub mod Ended
