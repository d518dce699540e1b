pub mod Standing
pub mod Calls
pub mod Compensators
pub mod Votes
pub mod Phase
