pub mod Paths
pub mod Rows
pub mod Middles
pub mod Cuts
pub mod Strengths
pub mod Laws
pub mod inner
