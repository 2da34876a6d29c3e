pub mod Texts
pub mod Cut
pub mod Lines
pub mod Playing
pub mod Streams
pub mod OneOutput
