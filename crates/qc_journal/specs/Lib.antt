pub mod History
pub mod Journal
pub mod Parts
pub mod Calls
