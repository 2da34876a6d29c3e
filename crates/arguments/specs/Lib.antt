pub mod CommandLine
pub mod Groups
pub mod Options
