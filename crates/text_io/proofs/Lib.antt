pub mod Cutting
pub mod PassingLaws
pub mod Joining
pub mod Failures
