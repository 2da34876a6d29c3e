pub mod Lists
pub mod Sums
pub mod Fates
pub mod Orders
pub mod Held
pub mod Brokers
pub mod DeskPlaces
pub mod EachOnce
