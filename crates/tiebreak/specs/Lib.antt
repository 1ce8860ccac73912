pub mod Draws
pub mod Outcomes
pub mod Reports
pub mod inner
