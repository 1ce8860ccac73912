-- What only the contracts of private functions cite.
pub mod Progress
pub mod Parts
