pub mod Words
pub mod Scripts
pub mod Streams
pub mod Pieces
pub mod Transcripts
pub mod Forms
