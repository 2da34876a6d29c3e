pub mod Offering
pub mod Parts
pub mod Resting
pub mod Retiring
pub use Rattle.worker_bells.specs.Ringing
pub use Rattle.worker_bells.specs.Wishing
