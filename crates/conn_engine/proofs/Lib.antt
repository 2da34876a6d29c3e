pub mod Silence
pub mod Sweeping
pub mod Resuming
pub mod First
pub mod Sizes
