pub mod Desks
pub mod Parts
pub mod Holders
pub mod Histories
pub mod Pasts
pub mod FreePlaces
