pub mod Lines
pub mod Refusals
pub mod Reporting
pub mod Serving
