pub mod Drawing
pub mod Draws
pub mod Deciding
pub mod Room
pub mod Lines
pub mod Reports
pub mod OutcomeParts
