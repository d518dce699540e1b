pub mod Parts
pub mod Outcome
pub mod Attempt
pub mod Ends
pub mod Played
