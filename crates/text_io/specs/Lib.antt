pub mod Faults
pub mod Status
pub mod Lines
pub mod Passing
