pub mod Draws
pub mod Whole
