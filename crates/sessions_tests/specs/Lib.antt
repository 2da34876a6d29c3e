pub mod Spots
pub mod Rules
pub mod SessionHolders
