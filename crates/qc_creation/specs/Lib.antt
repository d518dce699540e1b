pub mod Rows
pub mod Sites
pub mod Calls
pub mod Parts
