pub mod Digits
pub mod Pieces
pub mod Spelling
pub mod Taking
pub mod Calls
