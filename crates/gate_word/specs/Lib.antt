pub mod Steps
pub mod Seats
pub mod Kinds
pub mod Schedules
pub mod GateLaw
pub mod Calls
pub mod Visits
pub mod Rule
