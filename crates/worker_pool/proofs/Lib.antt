pub mod Accepted
pub mod Counted
pub mod Ended
pub mod Gathered
