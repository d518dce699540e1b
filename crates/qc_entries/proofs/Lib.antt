pub mod Attempts
pub mod Sequence
pub mod Whole
mod Left
