pub mod Scripts
pub mod Arrivals
