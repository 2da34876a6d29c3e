pub mod Served
pub mod Lines
pub mod Ends
