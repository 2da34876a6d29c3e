pub mod Outcomes
pub mod Reactors
pub mod Sockets
pub mod Sources
