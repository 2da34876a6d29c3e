pub mod Exposition
