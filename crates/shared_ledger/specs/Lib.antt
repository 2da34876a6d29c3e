pub mod Giving
pub mod Witnesses
pub mod Givers
pub mod Behind
