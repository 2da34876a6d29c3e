pub mod Interleavings
pub mod Rule
pub mod Witnesses
pub mod Ends
