pub mod Books
pub mod Histories
pub mod Holders
pub mod FreePlaces
