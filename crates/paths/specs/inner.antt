pub mod Phases
pub mod Fields
