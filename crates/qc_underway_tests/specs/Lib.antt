pub mod Bench
pub mod Closing
