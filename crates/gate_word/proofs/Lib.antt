pub mod Places
pub mod Numbers
pub mod AllOut
pub mod Keeps
pub mod Grows
pub mod EachKind
pub mod Moves
pub mod Marks
