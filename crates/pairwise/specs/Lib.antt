pub mod Counts
pub mod Grids
pub mod Pairs
pub mod Pairwise
pub mod inner
pub mod Laws
