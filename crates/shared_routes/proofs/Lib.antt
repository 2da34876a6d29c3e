pub mod Shares
pub mod Told
pub mod Learning
