pub mod SessionHolders
