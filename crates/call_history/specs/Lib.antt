pub mod Numbers
pub mod Callers
pub mod Rule
pub mod Tables
