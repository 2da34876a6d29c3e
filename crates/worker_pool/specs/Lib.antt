pub mod Accepting
pub mod Pools
pub mod Workers
