pub mod Brokers
pub mod Outs
pub mod Answers
pub mod Offering
pub mod Openings
pub mod Naming
pub mod Sorting
pub mod Endings
