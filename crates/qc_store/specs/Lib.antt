pub mod Due
pub mod Live
pub mod Own
pub mod Stored
pub mod Tallies
