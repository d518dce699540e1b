pub mod Logged
pub mod Writing
