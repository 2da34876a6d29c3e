pub mod History
pub mod Handles
pub mod Calls
pub mod Rule
