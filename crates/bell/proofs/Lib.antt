pub mod Words
pub mod Moves
pub mod Counts
pub mod Calling
pub mod SleptThrough
