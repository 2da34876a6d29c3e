pub mod Cells
pub mod Known
pub mod Refusals
