pub mod Rows
pub mod OpenedGroups
pub mod NewPlaces
pub mod Outs
pub mod Dealing
pub mod Sorted
pub mod Finishing
pub mod Unsent
