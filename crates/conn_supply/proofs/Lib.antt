pub mod Again
pub mod Offering
pub mod Copies
pub mod Topics
pub mod Offered
pub mod Windows
pub mod Holding
pub mod Fresh
