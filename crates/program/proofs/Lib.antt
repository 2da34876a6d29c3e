pub mod Answering
pub mod Commands
pub mod Unended
pub mod Unsaid
