pub mod Endings
pub mod Faults
pub mod Fronts
pub mod Phrases
pub mod Reasons
pub mod Texts
pub mod Wrong
