pub mod Log
pub mod Lines
pub mod Calls
pub mod Parts
