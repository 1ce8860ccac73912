pub mod Layout
pub mod Reading
pub mod Judge
pub mod Truth
pub mod Refused
pub mod Certified
pub mod Laws
pub mod inner
