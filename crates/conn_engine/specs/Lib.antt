pub mod Ending
pub mod Phases
pub mod Connecting
pub mod Answering
pub mod Step
pub mod Looking
