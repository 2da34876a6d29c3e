pub mod Messages
pub mod Promises
pub mod Brokers
pub mod DeskPlaces
